-- Laws that the proofs of the queue cite, one subject a file.
pub mod Arrivals
pub mod Search
