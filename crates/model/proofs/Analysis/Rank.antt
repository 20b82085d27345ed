-- Priority, "rank", is a strict total order on the streams of a node: it is lexicographic, by deadline, then by period, then by number.
-- Assumes nothing.
use Prim.Native.Nat.{ℕ}
use mathlib.Core.Path.{◌≡◌, ◌∙◌}
use mathlib.Core.Bool.{Bool}
use mathlib.Core.List.{List}
use lib.Dec.{ltb}
use Rattle.model.specs.declared.Stream.{Stream}
use Rattle.model.specs.Sheet.{period, deadline}
use Rattle.model.specs.Analysis.{stream_of, outranks}
use Rattle.theory.proofs.Order.{TotalOn}
use Rattle.theory.proofs.Lexicographic.{lexicographic, lexicographic_decided, lexicographic_tied, ltb_irreflexive, ltb_total, lexicographic_total}

-- The parts of the order: the two keys, the order of the numbers, and what equal deadlines leave it to.
abbrev deadline_of : Stream → ℕ
deadline_of x = x.deadline

abbrev period_of : Stream → ℕ
period_of x = x.period

abbrev lower_number : Stream → Stream → Bool
lower_number x y = ltb x.number y.number

abbrev by_period : Stream → Stream → Bool
by_period = lexicographic ltb period_of lower_number

-- Different deadlines decide;
pub by_deadline : (x y : Stream) → (x.deadline ≡ y.deadline → ⊥) → outranks x y ≡ ltb x.deadline y.deadline
unfolding outranks
by_deadline = lexicographic_decided ltb deadline_of by_period

-- where they are equal, different periods;
pub by_period_lem : (x y : Stream)
    → x.deadline ≡ y.deadline
    → (x.period ≡ y.period → ⊥)
    → outranks x y ≡ ltb x.period y.period
unfolding outranks
by_period_lem x y same differ =
    lexicographic_tied ltb deadline_of by_period x y ltb_irreflexive same ∙ lexicographic_decided ltb period_of lower_number x y differ

-- and where both are equal, the numbers.
pub by_number : (x y : Stream)
    → x.deadline ≡ y.deadline
    → x.period ≡ y.period
    → outranks x y ≡ ltb x.number y.number
unfolding outranks
by_number x y same equal =
    lexicographic_tied ltb deadline_of by_period x y ltb_irreflexive same ∙ lexicographic_tied ltb period_of lower_number x y ltb_irreflexive equal

-- Priority is a strict total order on the streams of a node, by their numbers.
pub rank_total : (s : List ℕ) (k : ℕ) → TotalOn (λ j. Unit) (λ i j. outranks (stream_of s k i) (stream_of s k j))
unfolding outranks
rank_total s k =
    let numbers = ltb_total (λ j. Unit) in
    lexicographic_total numbers (deadline s k)
    (lexicographic_total numbers (period s k) numbers (λ j _. tt))
    (λ j _. tt)
