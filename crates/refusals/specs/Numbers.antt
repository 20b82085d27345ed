-- The three numbers of a refusal, and what a check or an entry answers in numbers. Assumes nothing.
use Rattle.std.specs.Prelude.{◌≡◌, ℕ, ◌≤◌, ⊤, Result, Ok, Err}
use Rattle.model.specs.declared.Answer.{Answer}
use Rattle.model.specs.Refusal.{refuse, accepted}
use Rattle.refusals.specs.declared.Refusal.{Refusal}
use Rattle.refusals.specs.declared.Refused.{Refused}
use Rattle.refusals.specs.declared.Refusal.TheVariants.{Header, Nodes, Ticks, Length, Row, Times, Room, Late, Unknown, Log, Release, Horizon, Stuck, Places, Foreign, Record}

-- The number of a refusal, and its place.
abbrev pub numbers : Refusal → Answer
numbers Header = refuse 1 0 0
numbers Nodes = refuse 2 0 0
numbers Ticks = refuse 3 0 0
numbers Length = refuse 4 0 0
numbers (Row node) = refuse 4 node 0
numbers (Times node stream) = refuse 5 node stream
numbers Room = refuse 6 0 0
numbers (Late node stream) = refuse 7 node stream
numbers (Unknown node stream) = refuse 8 node stream
numbers Log = refuse 9 0 0
numbers (Release number) = refuse 9 0 number
numbers Horizon = refuse 10 0 0
numbers (Stuck node) = refuse 11 node 0
numbers Places = refuse 12 0 0
numbers (Foreign node stream) = refuse 13 node stream
numbers Record = refuse 16 0 0

-- What an entry answers in numbers: those of what it did, or those of the refusal.
abbrev pub answered : {T : Type 0} → (T → Answer) → Result T Refusal → Answer
answered done (Ok x) = done x
answered done (Err refusal) = numbers refusal

-- The same of an entry whose refusal hands a record back.
abbrev pub answered_with : {T R : Type 0} → (T → Answer) → Result T (Refused R) → Answer
answered_with done (Ok x) = done x
answered_with done (Err refused) = numbers refused.refusal

-- What a check answers in numbers: no reason to refuse, or the refusal.
abbrev pub checked : Result ⊤ Refusal → Answer
checked r = answered (λ _. accepted) r

-- Whatever the checks of 1 to count can give, in numbers it is what f has for them.
abbrev pub AnswersAs : (ℕ → Result ⊤ Refusal → Type 0) → (ℕ → Answer) → ℕ → Type 0
AnswersAs gives f count = (k : ℕ) (r : Result ⊤ Refusal) → 1 ≤ k → k ≤ count → gives k r → checked r ≡ f k
