-- What the definitions of the planner are built from, with no sheet in it.
pub mod Sum
pub mod Count
pub mod Queue
pub mod Listing
pub mod Ordering
