-- Laws about what is answered: a log as one piece, what an answer that refuses nothing was handed, lent buffers, the listed waits word by word,
-- and stepping.
pub mod Buffer
pub mod OnePiece
pub mod Asked
pub mod NotRefused
pub mod ListedWaits
pub mod LongerLate
pub mod WaitWords
pub mod Stepping
