-- What the contracts of the search for J cite beside document 01's definitions.
pub mod Periods
pub mod InRange
pub mod Jump
