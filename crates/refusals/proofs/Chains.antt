-- A chain of checks by `?`: the first refusal is the chain's, and where a check finds nothing, the chain goes on with the next.
-- Assumes nothing.
use Prim.Native.Nat.{ℕ, ◌+◌, ◌<◌}
use mathlib.Core.Path.{◌≡◌, refl, sym, ◌∙◌, ap}
use native.Mathlib.Omega.{arith}
use Rattle.std.specs.Prelude.{Result, Ok, Err, MatchResult, IfOk}
use Rattle.model.specs.declared.Answer.{Answer}
use Rattle.model.specs.Refusal.{accepted, ◌or_else◌}
use Rattle.model.proofs.Sheet.Refusals.{or_else_on, or_else_stop, rest, rest_on, rest_stop}
use Rattle.refusals.specs.declared.Refusal.{Refusal}
use Rattle.refusals.specs.declared.Refusal.TheVariants.{Header, Nodes, Ticks, Length, Row, Times, Room, Late, Unknown, Log, Release, Horizon, Stuck, Places, Foreign, Record}
use Rattle.refusals.specs.Numbers.{numbers, answered}

-- The number of a refusal is not that of success.
pub refuses : (r : Refusal) → (numbers r).number ≡ 0 → ⊥
refuses Header e = omega arith
refuses Nodes e = omega arith
refuses Ticks e = omega arith
refuses Length e = omega arith
refuses (Row n) e = omega arith
refuses (Times n s) e = omega arith
refuses Room e = omega arith
refuses (Late n s) e = omega arith
refuses (Unknown n s) e = omega arith
refuses Log e = omega arith
refuses (Release i) e = omega arith
refuses Horizon e = omega arith
refuses (Stuck n) e = omega arith
refuses Places e = omega arith
refuses (Foreign n s) e = omega arith
refuses Record e = omega arith

-- The first check refuses: the chain answers as it does.
pub stops : (r : Refusal) {x : Answer} (y : Answer) → numbers r ≡ x → numbers r ≡ x or_else y
stops r {x} y e = e ∙ sym (or_else_stop x y (λ z. refuses r (ap (λ a. a.number) e ∙ z)))

-- The first check finds nothing: the chain answers as what comes after it.
pub goes_on : {x a y : Answer} → accepted ≡ x → a ≡ y → a ≡ x or_else y
goes_on {x} {a} {y} e s = s ∙ sym (or_else_on x y (sym (ap (λ b. b.number) e)))

-- In a row of checks, of which `rest` is left, the next one refuses: the row answers as it does;
pub rest_stops : (f : ℕ → Answer) (i n : ℕ) (r : Refusal) {whole : Answer} → i < n → numbers r ≡ f (i + 1) → rest f i n ≡ whole → numbers r ≡ whole
rest_stops f i n r h e same = rest_stop f i n h e (refuses r) same

-- or it finds nothing, and the row answers as what is left of it then.
pub rest_goes_on : (f : ℕ → Answer) (i n : ℕ) {whole : Answer} → i < n → accepted ≡ f (i + 1) → rest f i n ≡ whole → rest f (i + 1) n ≡ whole
rest_goes_on f i n h e same = rest_on f i n h e refl same

-- An outcome's numbers are what its two cases say of them.
pub matched : {T : Type 0} (f : T → Answer) (outcome : Result T Refusal) {a : Answer}
    → MatchResult outcome (λ done. a ≡ f done) (λ refusal. a ≡ numbers refusal)
    → a ≡ answered f outcome
matched f (Ok done) e = e
matched f (Err refusal) e = e

-- What holds of the numbers of what was done holds of an answer with the number of success.
pub told : {T : Type 0} (Q : Answer → Type 0) (f : T → Answer) (outcome : Result T Refusal) {a : Answer}
    → MatchResult outcome (λ done. a ≡ f done) (λ refusal. a ≡ numbers refusal)
    → IfOk outcome (λ done. Q (f done))
    → a.number ≡ 0
    → Q a
told Q f (Ok done) e holds z = rw e holds
told Q f (Err refusal) e holds z = absurd (refuses refusal (ap (λ b. b.number) (sym e) ∙ z))
