-- Laws that the proofs of a run with its trace cite.
pub mod Tracing
