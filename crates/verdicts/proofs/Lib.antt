-- Laws that the proofs of the verdicts share, one subject a file, in the order in which they build on each other.
pub mod InRange
pub mod Periods
pub mod Above
