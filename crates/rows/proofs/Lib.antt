-- Laws that the proofs of a round cite, in the order in which they build on each other.
pub mod Ranges
pub mod Judging
