-- Laws about the definitions, in folders by subject, in the order in which they build on each other. Demand has demands 2 and 3.
pub mod Sheet
pub mod Analysis
pub mod Protocol
pub mod Answers
pub mod Records
pub mod Demand
pub mod Trace
