-- What the contracts of a round cite beside the definitions of the search for budgets.
pub mod Row
