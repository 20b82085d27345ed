-- What the contracts of a look's order cite beside document 01's definitions.
pub mod Ordering
