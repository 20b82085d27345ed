-- Laws about numbers in decimal and about texts put into a buffer.
pub mod Decimal
pub mod Putting
