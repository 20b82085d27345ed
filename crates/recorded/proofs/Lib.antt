-- Laws that the proofs of the run with stream records cite, one subject a file. Assumes nothing.
pub mod TurnRecords
pub mod RecordsRun
