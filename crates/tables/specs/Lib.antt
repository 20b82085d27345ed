-- What a reader must believe of the writer: request Two of document 02, as definitions that compute.
pub mod Tables
pub mod Lent
pub mod Writing
