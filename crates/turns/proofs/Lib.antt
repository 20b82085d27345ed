-- Laws that the proofs of the turns cite.
pub mod TurnSteps
