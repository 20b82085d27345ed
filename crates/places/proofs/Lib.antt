-- Laws that the proofs of the waiting places cite.
pub mod Writing
