-- What the contracts of the limits cite beside document 01's definitions.
pub mod Limits
