-- What the contracts of the bus cite beside the definitions of the model.
pub mod Numbers
