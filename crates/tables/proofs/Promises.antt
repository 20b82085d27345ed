-- The clauses of the writer's contract: what it wrote reads back as the tables, and the tables of a valid sheet give its words.
-- Assumes nothing.
use Prim.Native.Nat.{ℕ}
use native.Mathlib.Omega.{arith}
use mathlib.Core.Path.{◌≡◌, refl, sym, ◌∙◌, ap, ap₂}
use mathlib.Core.List.{List}
use lib.ListN.{length, take, drop}
use lib.Seq.{take-append_seam}
use borrow.Author.Tests.{le-ltb}
use Rattle.model.specs.declared.Answer.{Answer}
use Rattle.model.specs.Refusal.{success}
use Rattle.model.specs.Sheet.{cycle}
use Rattle.model.specs.Answers.{room_refusal}
use Rattle.model.proofs.Answers.Buffer.{buffer_written}
use Rattle.model.proofs.Sheet.Refusals.{or_else_on, or_else_both, refuse_if_passes}
use Rattle.model.proofs.Sheet.ValidSheet.{valid_fits}
use Rattle.tables.specs.Tables.{Tables}
use Rattle.tables.specs.Writing.{written, cycle_of, tables_refusal, write_answer, write_buffer, ReadsBack, WrittenAgain}
use Rattle.tables.proofs.Passing.{tables_fit}
use Rattle.tables.proofs.ReadBack.{written_valid, written_tables, written-cycle}
use Rattle.tables.proofs.WriteAgain.{tables_pass, written_again, cycle_again}

-- Where neither the tables nor the room are refused, the answer is the words written and C,
answered : (t : Tables) (room : ℕ)
    → (tables_refusal t).number ≡ 0
    → (room_refusal (length (written t)) room).number ≡ 0
    → write_answer t room ≡ success (length (written t)) (cycle_of t.message t.slot t.counts t.budgets)
unfolding write_answer
answered t room tables enough = or_else_on _ _ tables ∙ or_else_on _ _ enough

-- and the sheet stands in the buffer's first words.
in_front_lem : (t : Tables) (room : List ℕ) → (write_answer t (length room)).number ≡ 0 → take (length (written t)) (write_buffer t room) ≡ written t
unfolding write_buffer
in_front_lem t room passes =
    ap (take (length (written t))) (sym (buffer_written (write_answer t (length room)) (written t) room passes))
    ∙ take-append_seam (written t) (drop (length (written t)) room)

module _ (t : Tables) (room : List ℕ) {a : Answer} {after : List ℕ} (answer : a ≡ write_answer t (length room)) (buffer : after ≡ write_buffer t room) where
  pub reads_back : a.number ≡ 0 → ReadsBack t a.second a.third after
  unfolding write_answer
  reads_back passes =
      let none : (write_answer t (length room)).number ≡ 0 = rw answer at passes in
      let one = or_else_both (tables_refusal t) _ none in
      let two = or_else_both (room_refusal (length (written t)) (length room)) _ one.1 in
      let fit = tables_fit t one.0 in
      let success = answer ∙ answered t (length room) one.0 two.0 in
      let sheet : take a.second after ≡ written t = ap₂ take (ap (λ x. x.second) success) buffer ∙ in_front_lem t room none in
      record {
        valid = rw sheet (written_valid t fit);
        same = rw sheet (written_tables t fit);
        same_cycle = omega (arith, ap cycle sheet, written-cycle t fit, ap (λ x. x.third) success);
      }

  pub again : WrittenAgain t room a after
  unfolding room_refusal
  again s valid read enough =
      let fits = valid_fits s valid in
      let same : written t ≡ s = ap written read ∙ written_again s fits in
      let tables : (tables_refusal t).number ≡ 0 = rw read (tables_pass s fits) in
      let long = refuse_if_passes _ (le-ltb (length room) (length (written t)) (omega (arith, ap length same, enough))) in
      let all = answered t (length room) tables long in
      let words : take (length s) after ≡ s =
      ap₂ take (ap length (sym same)) buffer ∙ in_front_lem t room (rw all refl) ∙ same in
      (answer ∙ all ∙ ap₂ success (ap length same) (ap (λ u. cycle_of u.message u.slot u.counts u.budgets) read ∙ cycle_again s fits), words)
