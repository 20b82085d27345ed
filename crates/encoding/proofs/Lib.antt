-- Laws about a record's words, and what a piece promises with the record lent as a table, refused and not.
pub mod RecordWords
pub mod WordsOutcome
