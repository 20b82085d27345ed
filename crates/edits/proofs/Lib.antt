-- Laws about the edit and alike sheets, in the order in which they build on each other.
pub mod InOrder
pub mod Independence
pub mod Applied
pub mod AppliedAnswers
pub mod EditedSheet
pub mod Promise
