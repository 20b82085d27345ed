-- A table that is filled from its front with a value for each stream: a node's streams in any order, and node by node. What stands after
-- the values is as it was. Assumes nothing.
use Prim.Native.Nat.{ℕ, ◌+◌, ◌-◌, ◌≤◌, ◌<◌}
use native.Mathlib.Decide.{ℕ_discrete, dec_lt}
use native.Mathlib.Omega.{arith}
use mathlib.Core.Path.{◌≡◌, refl, sym, ◌∙◌, ap}
use mathlib.Core.List.{List, ◌++◌}
use lib.ListN.{length, get_or, set, take, drop, length-append, length-drop, length-set, get_or-append}
use lib.Seq.{take_at, get_or-set_same, get_or-set_other, get_or-append-add, get_or-drop, ext_get_or}
use Rattle.theory.specs.Listing.{values_from, joined_from, replaced_at}
use Rattle.theory.proofs.Listing.{values_length, values_at, joined_nil, joined_next}
use Rattle.theory.proofs.Overwriting.{over_front, over_next}
use Rattle.theory.proofs.Sums.{sum_to_none}
use Rattle.model.specs.Sheet.{stream_count, streams_up_to, total_streams, in_sheet_order}
use Rattle.model.specs.Analysis.{verdict_of}
use Rattle.model.proofs.Sheet.SheetOrder.{upto_length, ordered_length, ordered_map}
use Rattle.limits.specs.Limits.{limit_word, LimitsOf}
use Rattle.ranking.specs.Ranking.{Numbers}

-- The limit of stream j of node k.
abbrev pub limit_at : List ℕ → ℕ → ℕ → ℕ
limit_at s k j = limit_word (verdict_of s k j)

-- Values of f that are stored in the first n words of a table, each at the place of its number, in the order of a line of the numbers 1 to n: those
-- of the first i of the line are there, and the words after the n are as they were.
pub record Stored (f : ℕ → ℕ) (old line : List ℕ) (n : ℕ) (table : List ℕ) (i : ℕ) : Type 0 where
  pub long : length table ≡ length old
  pub stored : (p : ℕ) → p < i → get_or table (get_or line p 0 - 1) 0 ≡ f (get_or line p 0)
  pub kept : (q : ℕ) → n ≤ q → get_or table q 0 ≡ get_or old q 0

module _ (f : ℕ → ℕ) (old line : List ℕ) (n : ℕ) where
  -- Nothing is stored at first,
  pub stored_none : Stored f old line n old 0
  stored_none = record { long = refl; stored = λ p low. absurd (omega arith); kept = λ q high. refl }

  -- then the value of the next of the line,
  pub stored_more : (table : List ℕ) (i v : ℕ)
      → Numbers line n
      → n ≤ length old
      → i < length line
      → v ≡ f (get_or line i 0)
      → Stored f old line n table i
      → Stored f old line n (set table (get_or line i 0 - 1) v) (i + 1)
  stored_more table i v numbers fits inside value so_far =
      record {
        long = length-set table (j - 1) v ∙ so_far.long;
        stored = λ p low. at p low (ℕ_discrete (get_or line p 0 - 1) (j - 1)) (ℕ_discrete p i);
        kept = λ q high. get_or-set_other table (j - 1) q v 0 (λ same. omega (arith, same, own.0, own.1)) ∙ so_far.kept q high;
      }
    where
      j : ℕ
      j = get_or line i 0

      own : (1 ≤ j) × (j ≤ n)
      own = numbers i inside

      at : (p : ℕ) → p < i + 1 → Dec (get_or line p 0 - 1 ≡ j - 1) → Dec (p ≡ i) → get_or (set table (j - 1) v) (get_or line p 0 - 1) 0 ≡ f (get_or line p 0)
      at p low (yes same) last =
          let number : j ≡ get_or line p 0 = omega (arith, same, own.0, (numbers p (omega (arith, low, inside))).0) in
          ap (λ q. get_or (set table (j - 1) v) q 0) same
          ∙ get_or-set_same table (j - 1) v 0 (omega (arith, own.0, own.1, so_far.long, fits))
          ∙ value
          ∙ ap f number
      at p low (no other) (yes last) = absurd (other (ap (λ q. get_or line q 0 - 1) last))
      at p low (no other) (no before) = get_or-set_other table (j - 1) (get_or line p 0 - 1) v 0 other ∙ so_far.stored p (omega (arith, low, before))

  -- and at the end of the line, which has each of the numbers, all of them.
  pub stored_all : (table : List ℕ)
      → ((j : ℕ) → 1 ≤ j → j ≤ n → (p : ℕ) × (p < n) × (get_or line p 0 ≡ j))
      → n ≤ length old
      → Stored f old line n table n
      → table ≡ values_from f 1 n ++ drop n old
  stored_all table has fits done =
      ext_get_or 0 table (values_from f 1 n ++ drop n old)
      (omega (arith, done.long, length-append (values_from f 1 n) (drop n old), values_length f 1 n, length-drop n old))
      (λ q inside. at q (dec_lt q n))
    where
      at : (q : ℕ) → Dec (q < n) → get_or table q 0 ≡ get_or (values_from f 1 n ++ drop n old) q 0
      at q (yes low) =
          let w = has (1 + q) (omega arith) (omega (arith, low)) in
          let here : q ≡ get_or line w.0 0 - 1 = omega (arith, w.2) in
          ap (λ r. get_or table r 0) here
          ∙ done.stored w.0 w.1
          ∙ ap f w.2
          ∙ sym (get_or-append (values_from f 1 n) (drop n old) 0 q (omega (arith, low, values_length f 1 n)) ∙ values_at f 1 n q low)
      at q (no high) =
          let past : ℕ = q - n in
          let there : q ≡ length (values_from f 1 n) + past = omega (arith, high, values_length f 1 n) in
          let again : n + past ≡ q = omega (arith, high) in
          done.kept q (omega (arith, high))
          ∙ sym (ap (λ r. get_or (values_from f 1 n ++ drop n old) r 0) there
          ∙ get_or-append-add (values_from f 1 n) (drop n old) past 0
          ∙ get_or-drop n old past 0
          ∙ ap (λ r. get_or old r 0) again)

module _ (s : List ℕ) (value : ℕ → ℕ → ℕ) (old : List ℕ) where
  -- The values of node k's streams.
  abbrev own : ℕ → List ℕ
  own k = values_from (value k) 1 (stream_count s k)

  -- The table with the values of the first i nodes' streams.
  abbrev pub nodes_filled : ℕ → List ℕ
  nodes_filled i = joined_from own 1 i ++ drop (streams_up_to s i) old

  written : (i : ℕ) → replaced_at old 0 (joined_from own 1 i) ≡ nodes_filled i
  written i = over_front old (joined_from own 1 i) ∙ ap (λ n. joined_from own 1 i ++ drop n old) (upto_length s value i)

  -- Nothing is filled in at first,
  pub nodes_none : old ≡ nodes_filled 0
  nodes_none = rw (joined_nil own 1, sum_to_none (stream_count s)) refl

  -- and then those of the next node, in the part that is lent from there on.
  pub nodes_next : (table part : List ℕ) (i at : ℕ)
      → streams_up_to s i ≤ length old
      → at ≡ streams_up_to s i
      → part ≡ own (i + 1) ++ drop (stream_count s (i + 1)) (take (length table - at) (drop at table))
      → table ≡ nodes_filled i
      → take at table ++ (part ++ drop (length table - at) (drop at table)) ≡ nodes_filled (i + 1)
  nodes_next table part i at fits here back so_far =
      let there : i + 1 ≡ 1 + i = omega arith in
      let long = upto_length s value i in
      over_next old table part (joined_from own 1 i) (own (i + 1)) 0 at
      (omega (arith, fits, long))
      (omega (arith, here, long))
      (so_far ∙ sym (written i))
      (rw (values_length (value (i + 1)) 1 (stream_count s (i + 1))) back)
      ∙ ap (λ more. replaced_at old 0 (joined_from own 1 i ++ own more)) there
      ∙ ap (replaced_at old 0) (joined_next own 1 i)
      ∙ written (i + 1)

-- A table with the limits of all streams in its front.
pub limits_listed : (s table rest : List ℕ) → table ≡ in_sheet_order s (limit_at s) ++ rest → LimitsOf s table
limits_listed s table rest all =
    record {
      long = omega (arith, ap length all, length-append (in_sheet_order s (limit_at s)) rest, ordered_length s (limit_at s));
      front =
          ap (take (total_streams s)) all
          ∙ take_at (in_sheet_order s (limit_at s)) rest (total_streams s) (ordered_length s (limit_at s))
          ∙ sym (ordered_map limit_word s (verdict_of s));
    }
