-- The record of a stream, worked out from the begin words: only those of its own messages matter, and one message that begins changes it
-- as `noted` says. Assumes nothing.
use Prim.Native.Nat.{ℕ, ◌+◌, ◌-◌, ◌<◌}
use native.Mathlib.Decide.{ℕ_discrete}
use mathlib.Core.Path.{◌≡◌, refl, sym, ◌∙◌, ap}
use mathlib.Core.Bool.{Bool, true, false, cond, not, ◌&&◌, true≢false, and-false}
use mathlib.Core.List.{List}
use lib.ListN.{length, set}
use lib.Seq.{get_or-set_same, get_or-set_other}
use lib.Dec.{eqb}
use borrow.Author.Tests.{eq-eqb, ne_eqb}
use Rattle.theory.specs.Count.{count_below, larger, largest_below}
use Rattle.theory.proofs.Counting.{count_below_same}
use Rattle.theory.proofs.Largest.{OneMore, count_below_none, count_below_more, largest_none, largest_same, largest_more}
use Rattle.model.specs.declared.Verdict.{Verdict}
use Rattle.model.specs.Limits.{not_begun}
use Rattle.model.specs.Sheet.{word}
use Rattle.model.specs.Protocol.{releases, release_tick, release_stream}
use Rattle.model.specs.Records.{wait_of, begun_of, longer_than, record_of, none_yet, noted}

-- True where release i is a message of running stream r that has begun, after a wait longer than the listed one.
abbrev pub over_of : List ℕ → List ℕ → ℕ → Verdict → ℕ → Bool
over_of log begins r v i = begun_of log begins r i && longer_than v (wait_of log begins i)

module _ (log begins : List ℕ) (r : ℕ) where
  -- A release that has not begun is no begun message,
  pub unbegun_not : (i : ℕ) → word begins i ≡ not_begun → begun_of log begins r i ≡ false
  unfolding begun_of
  unbegun_not i none = rw (eq-eqb (word begins i) not_begun none, and-false)

  -- nor is one of another stream a message of this one;
  pub stranger_not : (i : ℕ) → (release_stream log i ≡ r → ⊥) → begun_of log begins r i ≡ false
  unfolding begun_of
  stranger_not i other = rw (ne_eqb (release_stream log i) r other)

  -- one of it that has begun is.
  pub begun_is : (i : ℕ) → release_stream log i ≡ r → (word begins i ≡ not_begun → ⊥) → begun_of log begins r i ≡ true
  unfolding begun_of
  begun_is i own begun = rw (eq-eqb (release_stream log i) r own, ne_eqb (word begins i) not_begun begun)

  -- Where no release has begun, there is nothing to record.
  pub record_none : (v : Verdict) → ((i : ℕ) → i < releases log → word begins i ≡ not_begun) → record_of log begins r v ≡ none_yet
  unfolding record_of
  record_none v none =
      let out : (i : ℕ) → i < releases log → begun_of log begins r i ≡ false = λ i h. unbegun_not i (none i h) in
      let counted = count_below_none (begun_of log begins r) (releases log) out in
      let most = largest_none (begun_of log begins r) (wait_of log begins) (releases log) out in
      let over = count_below_none (over_of log begins r v) (releases log) (λ i h. ap (λ b. b && longer_than v (wait_of log begins i)) (out i h)) in
      λ i. record { begun = counted i; longest = most i; over = over i }

-- Begin words that are the same for the messages of the stream have the same record.
pub record_same : (log begins other : List ℕ) (r : ℕ) (v : Verdict)
    → ((i : ℕ) → i < releases log → release_stream log i ≡ r → word begins i ≡ word other i)
    → record_of log begins r v ≡ record_of log other r v
unfolding record_of begun_of
record_same log begins other r v same =
    let counted = count_below_same (begun_of log begins r) (begun_of log other r) (releases log) agree in
    let most =
    largest_same (begun_of log begins r) (begun_of log other r) (wait_of log begins) (wait_of log other) (releases log) agree
    (λ i h began. ap (λ w. w - release_tick log i) (same i h (own i (ℕ_discrete (release_stream log i) r) began)))
    in
    let over =
    count_below_same (over_of log begins r v) (over_of log other r v) (releases log) (λ i h. longer i h (ℕ_discrete (release_stream log i) r))
    in
    λ i. record { begun = counted i; longest = most i; over = over i }
  where
    own : (i : ℕ) → Dec (release_stream log i ≡ r) → begun_of log begins r i ≡ true → release_stream log i ≡ r
    own i (yes same) began = same
    own i (no other) began = absurd (true≢false (sym began ∙ stranger_not log begins r i other))

    by : (i : ℕ) → i < releases log → Dec (release_stream log i ≡ r) → begun_of log begins r i ≡ begun_of log other r i
    by i h (yes own) = ap (λ w. eqb (release_stream log i) r && not (eqb w not_begun)) (same i h own)
    by i h (no apart) = stranger_not log begins r i apart ∙ sym (stranger_not log other r i apart)

    agree : (i : ℕ) → i < releases log → begun_of log begins r i ≡ begun_of log other r i
    agree i h = by i h (ℕ_discrete (release_stream log i) r)

    longer : (i : ℕ) → i < releases log → Dec (release_stream log i ≡ r) → over_of log begins r v i ≡ over_of log other r v i
    longer i h (yes own) = rw (agree i h, same i h own) refl
    longer i h (no apart) = rw (stranger_not log begins r i apart, stranger_not log other r i apart) refl

module _ (log begins : List ℕ) (i t : ℕ) where
  -- A message of another stream changes nothing.
  pub record_other : (r : ℕ) (v : Verdict) → (release_stream log i ≡ r → ⊥) → record_of log (set begins i t) r v ≡ record_of log begins r v
  record_other r v apart =
      record_same log (set begins i t) begins r v
      (λ j h own. get_or-set_other begins i j t 0 (λ e. apart (ap (release_stream log) (sym e) ∙ own)))

  module _ (in_log : i < releases log) (room : i < length begins) (none : word begins i ≡ not_begun) (begins-now : t ≡ not_begun → ⊥) where
    written : word (set begins i t) i ≡ t
    written = get_or-set_same begins i t 0 room

    kept : (j : ℕ) → (j ≡ i → ⊥) → word (set begins i t) j ≡ word begins j
    kept j apart = get_or-set_other begins i j t 0 apart

    module _ (r : ℕ) (own : release_stream log i ≡ r) where
      one_more : OneMore (begun_of log begins r) (begun_of log (set begins i t) r) (releases log) i
      unfolding begun_of
      one_more =
          record {
            inside = in_log;
            before = unbegun_not log begins r i none;
            after = begun_is log (set begins i t) r i own (λ e. begins-now (sym written ∙ e));
            others = λ j h apart. ap (λ w. eqb (release_stream log j) r && not (eqb w not_begun)) (sym (kept j apart));
          }

      -- The longer waits: one more, if this is one,
      over_more : (v : Verdict)
          → longer_than v (t - release_tick log i) ≡ true
          → OneMore (over_of log begins r v) (over_of log (set begins i t) r v) (releases log) i
      over_more v long =
          record {
            inside = in_log;
            before = rw one_more.before refl;
            after = rw (one_more.after, written) long;
            others = λ j h apart. rw (one_more.others j h apart, kept j apart) refl;
          }

      -- and as many as before, if not.
      over_same : (v : Verdict)
          → longer_than v (t - release_tick log i) ≡ false
          → (j : ℕ)
          → j < releases log
          → Dec (j ≡ i)
          → over_of log (set begins i t) r v j ≡ over_of log begins r v j
      over_same v short j h (yes here) =
          rw (here, one_more.before, one_more.after, written) short
      over_same v short j h (no apart) = rw (one_more.others j h apart, kept j apart) refl

      begun_more : count_below (begun_of log (set begins i t) r) (releases log) ≡ count_below (begun_of log begins r) (releases log) + 1
      begun_more = count_below_more one_more

      longest_more : largest_below (begun_of log (set begins i t) r) (wait_of log (set begins i t)) (releases log)
          ≡ larger (largest_below (begun_of log begins r) (wait_of log begins) (releases log)) (t - release_tick log i)
      longest_more =
          largest_more (begun_of log begins r) (begun_of log (set begins i t) r) (wait_of log begins) (wait_of log (set begins i t)) (releases log) i
          one_more
          (λ j h began. ap (λ w. w - release_tick log j) (sym (kept j (λ e. true≢false (sym began ∙ rw e one_more.before)))))
          ∙ rw written refl

      over_by : (v : Verdict) (b : Bool)
          → longer_than v (t - release_tick log i) ≡ b
          → count_below (over_of log (set begins i t) r v) (releases log)
          ≡ cond b (count_below (over_of log begins r v) (releases log) + 1) (count_below (over_of log begins r v) (releases log))
      over_by v true long = count_below_more (over_more v long)
      over_by v false short =
          count_below_same (over_of log (set begins i t) r v) (over_of log begins r v) (releases log)
          (λ j h. over_same v short j h (ℕ_discrete j i))

      -- A message of the stream that begins is noted in its record.
      pub record-noted : (v : Verdict) → record_of log (set begins i t) r v
          ≡ noted (longer_than v (t - release_tick log i)) (t - release_tick log i) (record_of log begins r v)
      unfolding record_of noted
      record-noted v =
          λ k. record {
            begun = begun_more k;
            longest = longest_more k;
            over = over_by v (longer_than v (t - release_tick log i)) refl k;
          }
