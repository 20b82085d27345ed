-- What the contracts of the log cite beside document 01's definitions.
pub mod Replay
