-- Laws about the trace of a run and about logs put together: logs without faults, one log after another, the words that list the messages
-- begun, a log that stands within a whole one, a run that goes on to a later horizon, and a log cut at a horizon.
pub mod Faultless
pub mod JoinedLog
pub mod TurnWords
pub mod Listed
pub mod Embedding
pub mod Composed
pub mod Cut
