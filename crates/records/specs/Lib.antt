-- What the contracts of the stream records cite beside the definitions of the model.
pub mod Noting
