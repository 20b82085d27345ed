-- What a reader must believe: document 01, with what document 02 has changed so far, as definitions that compute, by subject. (Limits names its
-- numbers, Refusal puts refusals in order, Idle is derived, and Bench has its bench sheets.)
pub mod Limits
pub mod Refusal
pub mod Sheet
pub mod Analysis
pub mod Protocol
pub mod Trace
pub mod Idle
pub mod Records
pub mod Answers
pub mod Demand
pub mod Bench
