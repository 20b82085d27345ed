-- `editor::check_edit` meets its contract: each check's answer is the chain's where it refuses, and hands on to the next where it does not.
-- Assumes nothing.
use Prim.Native.Nat.{ℕ}
use mathlib.Core.Path.{◌≡◌, refl, ◌∙◌}
use mathlib.Core.Bool.{Bool, true, false}
use mathlib.Core.List.{List}
use Rattle.std.proofs.Common.{rules}
use Rattle.model.specs.declared.Answer.{Answer}
use Rattle.model.specs.Refusal.{success, refuse, refuse_if, ◌or_else◌}
use Rattle.model.specs.Sheet.{sheet_refusal}
use Rattle.model.specs.Answers.{unknown_refusal}
use Rattle.model.proofs.Sheet.Refusals.{or_else_assoc}
use Rattle.refusals.proofs.Chains.{stops, goes_on}
use Rattle.edits.specs.Edit.{Edit, edit_of, other_node_refusal, new_words_refusal, edit_answer}
use Rattle.editor.proofs.check_edit.Goals as goal

-- The first two checks are one function's.
in_order : (s : List ℕ) (e : Edit) {a : Answer}
    → a ≡ ((sheet_refusal s or_else unknown_refusal s e.node e.stream) or_else other_node_refusal e or_else new_words_refusal e or_else success 0 0)
    → a ≡ edit_answer s e
unfolding edit_answer
in_order s e same = same ∙ or_else_assoc (sheet_refusal s) (unknown_refusal s e.node e.stream) _

-- The last check's answer is success where it finds nothing.
last : (test : Bool) (k j : ℕ) → refuse_if test (refuse 5 k j) ≡ (refuse_if test (refuse 5 k j) or_else success 0 0)
unfolding refuse_if ◌or_else◌
last true k j = refl
last false k j = refl

pub returns-in_err-check_asked : goal.returns-in_err-check_asked
returns-in_err-check_asked c =
    let a = c.args in
    let stop = in_order a.sheet.now (edit_of a.own_node a.node a.stream a.period a.deadline a.jitter) (stops _ _ c.in_err-check_asked.ensures) in
    grind (rules, stop)

pub returns-in_err-refuse_if : goal.returns-in_err-refuse_if
unfolding other_node_refusal
returns-in_err-refuse_if c =
    let a = c.args in
    let stop = in_order a.sheet.now (edit_of a.own_node a.node a.stream a.period a.deadline a.jitter)
    (goes_on c.in_ok-check_asked.ensures (stops _ _ c.in_err-refuse_if.ensures)) in
    grind (rules, stop)

pub returns : goal.returns
unfolding other_node_refusal new_words_refusal
returns c =
    let a = c.args in
    in_order a.sheet.now (edit_of a.own_node a.node a.stream a.period a.deadline a.jitter)
    (goes_on c.in_ok-check_asked.ensures
    (goes_on c.in_ok-refuse_if.ensures
    ((rw c.times_outside-wrong.ensures at c.refuse_if-2.ensures) ∙ last _ a.node a.stream)))
