-- The record of a replay by pieces (document 02, "Seven") as a table of words.
pub mod Words
