-- What the contracts of the verdicts cite beside document 01's definitions.
pub mod Periods
pub mod Body
