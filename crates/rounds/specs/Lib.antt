-- Request Five, "Find the budgets": the rounds, what is answered, and what holds of the row that is found.
pub mod Rounds
pub mod Answer
pub mod Least
