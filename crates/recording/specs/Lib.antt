-- What the contracts of the replay with stream records cite beside the definitions of the model.
pub mod Recording
