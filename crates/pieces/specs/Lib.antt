-- What document 02, "Seven", says of a replay by pieces.
pub mod Pieces
