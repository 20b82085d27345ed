-- Laws about tables: where the words of the sheet that they make stand, when they are refused, and that reading and writing undo
-- each other.
pub mod WrittenWords
pub mod Passing
pub mod Reading
pub mod ReadBack
pub mod WriteAgain
pub mod Promises
pub mod Applied
pub mod Bounds
