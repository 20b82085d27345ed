-- Laws about interference by periods and jitters, and about splitting it, one subject a file.
pub mod Periods
pub mod Split
