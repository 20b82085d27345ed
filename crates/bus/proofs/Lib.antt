-- Laws that the proofs of the bus cite, one subject a file, in the order in which they build on each other.
pub mod AcceptedLog
pub mod StepOutcome
pub mod ReplayOutcome
