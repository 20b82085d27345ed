-- Laws about the texts that the programs write, one subject a file, in the order in which they build on each other.
pub mod Lines
pub mod Answered
pub mod Lengths
pub mod Front
mod Examples
