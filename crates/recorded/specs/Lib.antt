-- What the contracts of the run with stream records cite beside the definitions of the model.
pub mod Recorded
