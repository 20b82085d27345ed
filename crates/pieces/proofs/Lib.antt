-- Laws about a replay that is fed piece by piece. What the code writes: Opening and Opened, the log that a piece is run over with its release
-- numbers; Keeping, the places of those that still wait. Then what a piece that is not refused was handed, the log of all pieces, and one
-- piece after another. Theorem says that the pieces joined give what the whole log gives, and Applied uses it with numbers. Outcome: what a
-- piece promises, refused and not.
pub mod Opening
pub mod Taken
pub mod Accepted
pub mod OpenLog
pub mod PieceRun
pub mod Step
pub mod Theorem
pub mod Applied
pub mod Keeping
pub mod Opened
pub mod Outcome
