-- Laws about the records of the streams: what one message that begins changes in them, the list of them in sheet order, the list after every
-- turn of the protocol, and demand 3 read off it.
pub mod OneBegin
pub mod Listed
pub mod EveryTurn
pub mod NoneOver
pub mod Applied
