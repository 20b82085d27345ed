-- What the edit promises of the sheet after it: it is valid, and the one-stream answers on every node but ours are as they were.
-- Assumes nothing.
use Prim.Native.Nat.{ℕ, ◌+◌, ◌≤◌}
use native.Mathlib.Nat.{suc-ne-zero}
use native.Mathlib.Decide.{ℕ_discrete}
use mathlib.Core.Path.{◌≡◌, refl, sym, ◌∙◌, ap}
use mathlib.Core.Bool.{Bool, true, false, not}
use mathlib.Core.List.{List}
use lib.ListN.{length}
use borrow.Author.Tests.{eq-eqb, ne_eqb, eqb-true, not-false}
use lib.Dec.{eqb}
use Rattle.theory.proofs.Tests.{or_first}
use Rattle.model.specs.declared.Answer.{Answer}
use Rattle.model.specs.Refusal.{refuse, outside}
use Rattle.model.specs.Limits.{stream_words}
use Rattle.model.specs.Sheet.{nodes, stream_at, times_outside, sheet_refusal, OnSheet, Valid}
use Rattle.model.specs.Answers.{unknown_refusal, one_stream_answer}
use Rattle.model.proofs.Answers.Asked.{known_on}
use Rattle.model.proofs.Sheet.Range.{within}
use Rattle.model.proofs.Sheet.Refusals.{or_else_both, or_else_stop, refuse_if_none, refuse_if_so}
use Rattle.model.proofs.Sheet.ValidSheet.{SheetFits, valid_fits}
use Rattle.edits.specs.Edit.{Edit, edited, other_node_refusal, new_words_refusal, edit_answer, edit_sheet, OthersKept}
use Rattle.edits.proofs.Independence.{answered, independence}
use Rattle.edits.proofs.EditedSheet.{there, same_nodes, others_alike, edited_valid}

-- A refusal changes no word,
pub edit_refused : (s : List ℕ) (e : Edit) → ((edit_answer s e).number ≡ 0 → ⊥) → s ≡ edit_sheet s e
unfolding edit_sheet
edit_refused s e refuses = rw (ne_eqb (edit_answer s e).number 0 refuses) refl

-- and a success sets the three.
pub edit_done : (s : List ℕ) (e : Edit) → (edit_answer s e).number ≡ 0 → edited s e ≡ edit_sheet s e
unfolding edit_sheet
edit_done s e passes = rw (eq-eqb (edit_answer s e).number 0 passes) refl

-- What a success says of the edit.
pub record Passes (s : List ℕ) (e : Edit) : Type 0 where
  pub valid : Valid s
  pub on : OnSheet s e.node e.stream
  pub ours : e.node ≡ e.own
  pub ranged : times_outside e.period e.deadline e.jitter ≡ false

pub edit_passes : (s : List ℕ) (e : Edit) → (edit_answer s e).number ≡ 0 → Passes s e
unfolding edit_answer other_node_refusal new_words_refusal
edit_passes s e none =
    let one = or_else_both (sheet_refusal s) _ none in
    let two = or_else_both (unknown_refusal s e.node e.stream) _ one.1 in
    let three = or_else_both (other_node_refusal e) _ two.1 in
    let four = or_else_both (new_words_refusal e) _ three.1 in
    let another = not (eqb e.node e.own) in
    let ours = refuse_if_none another (refuse 13 e.node e.stream) (suc-ne-zero 12) three.0 in
    let times = times_outside e.period e.deadline e.jitter in
    record {
      valid = one.0;
      on = known_on s e.node e.stream two.0;
      ours = eqb-true e.node e.own (not-false _ ours);
      ranged = refuse_if_none times (refuse 5 e.node e.stream) (suc-ne-zero 4) four.0;
    }

-- The three words are there.
pub edit_there : (s : List ℕ) (e : Edit) → Passes s e → stream_at s e.node e.stream + stream_words ≤ length s
edit_there s e p = there s e (valid_fits s p.valid) p.on

-- A number that is no node's gets refusal 8, whatever the rest of the sheet.
no_node : (s : List ℕ) (k j : ℕ) → Valid s → outside 1 (nodes s) k ≡ true → one_stream_answer s k j ≡ refuse 8 k j
unfolding unknown_refusal
no_node s k j valid out =
    let unknown : unknown_refusal s k j ≡ refuse 8 k j = refuse_if_so (refuse 8 k j) (or_first _ out) in
    answered s k j valid
    ∙ or_else_stop (unknown_refusal s k j) _ (λ z. suc-ne-zero 7 (ap (λ (a : Answer). a.number) (sym unknown) ∙ z))
    ∙ unknown

module _ (s : List ℕ) (e : Edit) where
  after_valid : Passes s e → Valid (edited s e)
  after_valid p = edited_valid s e (valid_fits s p.valid) p.on p.ranged

  -- Every node of the sheet but ours is alike before and after.
  others_same : Passes s e → OthersKept s (edited s e) e.own
  others_same p k other j = go (outside 1 (nodes s) k) refl
    where
      fits : SheetFits s
      fits = valid_fits s p.valid

      go : (b : Bool) → outside 1 (nodes s) k ≡ b → one_stream_answer s k j ≡ one_stream_answer (edited s e) k j
      go true out =
          no_node s k j p.valid out
          ∙ sym (no_node (edited s e) k j (after_valid p) (ap (λ n. outside 1 n k) (same_nodes s e fits p.on) ∙ out))
      go false is_in =
          let both = within 1 (nodes s) k is_in in
          independence s (edited s e) k p.valid (after_valid p)
          (others_alike s e fits p.on k both.0 both.1 (λ same. other (same ∙ p.ours)))
          j

-- The clauses of the contract.
module _ (s : List ℕ) (e : Edit) {a : Answer} {after : List ℕ} (answer : a ≡ edit_answer s e) (sheet : after ≡ edit_sheet s e) where
  pub stays_valid : a.number ≡ 0 → Valid after
  stays_valid passes =
      let none : (edit_answer s e).number ≡ 0 = rw answer at passes in
      rw (sheet, ← edit_done s e none) (after_valid s e (edit_passes s e none))

  pub others_kept : OthersKept s after e.own
  others_kept = go (ℕ_discrete (edit_answer s e).number 0)
    where
      go : Dec ((edit_answer s e).number ≡ 0) → OthersKept s after e.own
      go (yes none) = rw (sheet, ← edit_done s e none) (others_same s e (edit_passes s e none))
      go (no some) = rw (sheet, ← edit_refused s e some) (λ k other j. refl)
