-- Laws that the proofs of the run cite.
pub mod RunSteps
