-- Laws of the stream records: a turn's messages noted one by one. Assumes nothing.
pub mod NotingSteps
