pub mod Cases
pub mod AfterTurns
