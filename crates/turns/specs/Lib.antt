-- What the contracts of the turns cite beside document 01's definitions.
pub mod Turns
