-- What bytes and numbers put into a lent buffer are made of.
pub mod Decimal
pub mod Put
