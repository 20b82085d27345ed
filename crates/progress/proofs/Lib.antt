-- Laws that the proofs of one turn with its trace cite, one subject a file.
pub mod Listing
pub mod TurnFits
