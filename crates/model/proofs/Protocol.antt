-- Laws about the bus: the events of a stream, a node's queue, one turn, the clock, and the run to a horizon.
pub mod Events
pub mod Queue
pub mod Waiting
pub mod Turn
pub mod TurnCount
pub mod LongerBuffer
pub mod Clock
pub mod Run
pub mod Idle
pub mod RunWords
