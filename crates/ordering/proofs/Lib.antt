-- Laws that the proofs of a look's order cite.
pub mod Placing
