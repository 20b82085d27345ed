-- Demands 2 and 3, and the laws on the way to them.
pub mod OneStream
pub mod Admission
pub mod Demand2
pub mod Accepted
pub mod NodeLine
pub mod Distance
pub mod ClassStreams
pub mod TurnMessages
pub mod WithinWait
pub mod Delivery
pub mod Demand3
pub mod ReplayDemand
pub mod Applied
pub mod Urgent
pub mod Paired
pub mod Jittered
