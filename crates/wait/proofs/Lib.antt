-- Laws that the proofs of the search for J share, one subject a file, in the order in which they build on each other.
pub mod Tries
pub mod WaitBounds
pub mod FirstTries
