-- Laws about a sheet: the order of refusals, what a valid sheet gives, sums over its nodes, and values in sheet order.
pub mod Range
pub mod Refusals
pub mod ValidSheet
pub mod NodeSums
pub mod SheetOrder
