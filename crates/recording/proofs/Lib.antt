-- Laws that the proofs of the replay with stream records cite. Assumes nothing.
pub mod RecordsOutcome
