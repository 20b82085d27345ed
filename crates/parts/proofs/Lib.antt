-- Laws that the proofs of the parts cite.
pub mod Counting
