-- Laws that the proofs of the search for budgets cite.
pub mod Running
