-- `editor::edit_stream` meets its contract: the words are put in their place where no check refuses, and nothing is written otherwise.
-- Assumes nothing.
use Prim.Native.Nat.{ℕ, ◌+◌, ◌-◌, ◌≤◌}
use native.Mathlib.Omega.{arith}
use mathlib.Core.Path.{◌≡◌, refl, sym, ◌∙◌, ap}
use mathlib.Core.List.{List, [], ◌∷◌, ◌++◌}
use lib.ListN.{length, take, drop}
use Rattle.std.proofs.Common.{rules}
use Rattle.theory.specs.Listing.{replaced_at, put_front}
use Rattle.theory.proofs.Overwriting.{over_lent, lent_length, put_fits}
use Rattle.model.specs.Limits.{stream_words}
use Rattle.model.specs.Sheet.{stream_at}
use Rattle.edits.specs.Edit.{Edit, edit_of, edit_answer, edit_sheet}
use Rattle.edits.proofs.Promise.{edit_refused, edit_done, edit_passes, edit_there, stays_valid, others_kept}
use Rattle.refusals.proofs.Chains.{refuses}
use Rattle.editor.proofs.edit_stream.Goals as goal
use Rattle.editor.proofs.edit_stream.Lts as lts
use Rattle.editor.proofs.edit_stream.Tie as tie
use Rattle.editor.proofs.edit_stream.Reads as reads

-- The words put into the part that is lent from the stream's place on.
words-set : (s : List ℕ) (e : Edit) (part : List ℕ) (at : ℕ)
    → (edit_answer s e).number ≡ 0
    → at ≡ stream_at s e.node e.stream
    → part ≡ put_front (e.period ∷ e.deadline ∷ e.jitter ∷ []) (take (length s - at) (drop at s))
    → take at s ++ (part ++ drop (length s - at) (drop at s)) ≡ edit_sheet s e
words-set s e part at none here put =
    let values : List ℕ = e.period ∷ e.deadline ∷ e.jitter ∷ [] in
    let lent = take (length s - at) (drop at s) in
    let back = put_fits values lent (omega (arith, here, lent_length s at, edit_there s e (edit_passes s e none))) in
    over_lent s part at values (put ∙ back) ∙ ap (λ i. replaced_at s i values) here ∙ edit_done s e none

-- The edit named by the arguments, and the check's success.
abbrev the-edit : (c : lts.After-place_in_body tie.the-claims reads.Pre reads.Post tie.handed_clauses) → Edit
the-edit c =
    let a = c.args in
    edit_of a.own_node a.node a.stream a.period a.deadline a.jitter

no-refusal : (c : lts.After-place_in_body tie.the-claims reads.Pre reads.Post tie.handed_clauses)
    → (edit_answer c.args.sheet.now (the-edit c)).number ≡ 0
no-refusal c = sym (ap (λ a. a.number) c.in_ok-check_edit.ensures)

-- The place found is the stream's,
found : (c : lts.After-place_in_body tie.the-claims reads.Pre reads.Post tie.handed_clauses)
    → c.place_in_body-at.result
    ≡ stream_at c.args.sheet.now (the-edit c).node (the-edit c).stream
found c = omega (arith, c.place_in_body-at.ensures.0, c.place_of.ensures)

-- and all its words are there.
inside : (c : lts.After-place_in_body tie.the-claims reads.Pre reads.Post tie.handed_clauses)
    → c.place_in_body-at.result + stream_words ≤ length c.args.sheet.now
inside c =
    let s = c.args.sheet.now in
    omega (arith, found c, edit_there s (the-edit c) (edit_passes s (the-edit c) (no-refusal c)))

pub slice_bounds-put_stream-start : goal.slice_bounds-put_stream-start
slice_bounds-put_stream-start c = omega (arith, inside c)

pub slice_bounds-put_stream-count : goal.slice_bounds-put_stream-count
slice_bounds-put_stream-count c = omega (arith, inside c)

pub returns-in_err-check_edit : goal.returns-in_err-check_edit
returns-in_err-check_edit c =
    let a = c.args in
    let e = edit_of a.own_node a.node a.stream a.period a.deadline a.jitter in
    let same = c.in_err-check_edit.ensures in
    let kept = edit_refused a.sheet.now e (λ none. refuses _ (ap (λ b. b.number) same ∙ none)) in
    record { answer = grind (rules, same); sheet = kept; valid = grind rules; others = others_kept a.sheet.now e same kept }

pub returns : goal.returns
returns c =
    let p = c.before.before.before.before.before in
    let a = p.args in
    let same = p.in_ok-check_edit.ensures in
    let set = words-set a.sheet.now (the-edit p) _ p.place_in_body-at.result (no-refusal p) (found p) c.put_stream.ensures in
    record { answer = same; sheet = set; valid = stays_valid a.sheet.now (the-edit p) same set refl; others = others_kept a.sheet.now (the-edit p) same set }
