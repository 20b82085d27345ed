-- What a contract of the layout cites beside document 01's definitions.
pub mod Rows
