-- What a reader must believe of the programs' output: their texts, byte by byte, and the longest of each.
pub mod Text
pub mod Longest
