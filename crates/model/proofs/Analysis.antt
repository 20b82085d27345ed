-- Laws about the listed wait: rank, interference, and the search for J.
pub mod Rank
pub mod NodeStreams
pub mod Interference
pub mod Wait
pub mod Search
pub mod LongerCycle
pub mod Jump
pub mod JumpApplied
pub mod Searching
pub mod StreamVerdict
