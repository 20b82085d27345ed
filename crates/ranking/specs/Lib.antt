-- What the contracts of a node's streams in rank order cite beside document 01's definitions.
pub mod Ranking
