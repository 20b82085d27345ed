-- Laws about the lines of a table that are put one after the other.
pub mod Lines
