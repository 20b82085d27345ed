-- Laws of the limits. Assumes nothing.
pub mod Filled
pub mod Passed
