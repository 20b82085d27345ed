-- What the contracts of a run with its trace cite beside the definitions of the model.
pub mod Progress
