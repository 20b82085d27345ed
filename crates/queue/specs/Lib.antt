-- What the contracts of the queue cite beside document 01's definitions.
pub mod Queue
