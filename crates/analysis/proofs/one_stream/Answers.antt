-- `analysis::one_stream` meets its contract: what is refused of the stream asked for is the chain's answer, and hands on to the verdict where
-- it is not.
-- Assumes nothing.
use Prim.Native.Nat.{ℕ}
use mathlib.Core.Path.{◌≡◌, ap, sym, ◌∙◌}
use mathlib.Core.List.{List}
use Rattle.std.proofs.Common.{rules}
use Rattle.std.specs.Prelude.{Err}
use Rattle.model.specs.declared.Answer.{Answer}
use Rattle.model.specs.Refusal.{accepted, ◌or_else◌}
use Rattle.model.specs.Sheet.{sheet_refusal, OnSheet, Valid}
use Rattle.model.specs.Demand.{Judged}
use Rattle.model.proofs.Demand.Demand2.{demand2}
use Rattle.model.specs.Answers.{unknown_refusal, verdict_answer, one_stream_answer}
use Rattle.model.proofs.Sheet.Refusals.{or_else_assoc, or_else_both}
use Rattle.model.proofs.Answers.Asked.{known_on}
use Rattle.model.specs.Analysis.{verdict_of}
use Rattle.refusals.proofs.Chains.{stops, goes_on}
use Rattle.analysis.proofs.one_stream.Goals as goal

-- The answer is that of two checks, and then the verdict's; demand 2 goes by it.
with-demand : (s : List ℕ) (k j : ℕ) {a : Answer}
    → a ≡ ((sheet_refusal s or_else unknown_refusal s k j) or_else verdict_answer k j (verdict_of s k j))
    → (a ≡ one_stream_answer s k j) × (Valid s → OnSheet s k j → Judged s k j a)
unfolding one_stream_answer
with-demand s k j {a} same =
    let all : a ≡ one_stream_answer s k j = same ∙ or_else_assoc (sheet_refusal s) (unknown_refusal s k j) (verdict_answer k j (verdict_of s k j)) in
    (all, λ valid on. rw all (demand2.one_stream s valid k j on))

-- Neither check refuses: the sheet is valid, and the stream is on it.
known : (s : List ℕ) (k j : ℕ) → accepted ≡ (sheet_refusal s or_else unknown_refusal s k j) → Valid s × OnSheet s k j
known s k j none =
    let both = or_else_both (sheet_refusal s) (unknown_refusal s k j) (sym (ap (λ a. a.number) none)) in
    (both.0, known_on s k j both.1)

pub returns-in_err-check_asked : goal.returns-in_err-check_asked
returns-in_err-check_asked c =
    let a = c.args in
    let same : c.from_residual.result ≡ Err c.in_err-check_asked.field-0.0 = search rules in
    let all = with-demand a.sheet.now a.node a.stream (stops _ _ c.in_err-check_asked.ensures) in
    record { answer = rw same all.0; demand = rw same all.1 }

pub cycle_of-requires : goal.cycle_of-requires
cycle_of-requires c =
    let a = c.args in
    (known a.sheet.now a.node a.stream c.in_ok-check_asked.ensures).0

pub verdict_on-verdict-requires : goal.verdict_on-verdict-requires
verdict_on-verdict-requires c =
    let a = c.args in
    let both = known a.sheet.now a.node a.stream c.in_ok-check_asked.ensures in
    (both.0, both.1, c.cycle_of.ensures)

pub returns : goal.returns
returns c =
    let a = c.args in
    let all = with-demand a.sheet.now a.node a.stream
    (goes_on c.in_ok-check_asked.ensures
    (c.wait_of.ensures ∙ ap (verdict_answer a.node a.stream) c.verdict_on-verdict.ensures)) in
    record { answer = all.0; demand = all.1 }
