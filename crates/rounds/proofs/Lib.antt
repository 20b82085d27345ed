-- Laws about the rounds, in the order in which they build on each other.
pub mod Rows
pub mod Under
pub mod Settling
pub mod Least
pub mod Promise
pub mod Applied
