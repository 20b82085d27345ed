-- The text of what the replay answered and left in its buffer is the program's. Assumes nothing.
use Prim.Native.Nat.{ℕ}
use mathlib.Core.Path.{◌≡◌, refl, sym, ap, ◌∙◌}
use mathlib.Core.Bool.{Bool, true, false}
use mathlib.Core.List.{List}
use lib.ListN.{length, drop}
use lib.Dec.{eqb}
use borrow.Author.Tests.{eqb-true, eqb-false}
use Rattle.model.specs.declared.Answer.{Answer}
use Rattle.model.specs.Limits.{max_releases}
use Rattle.model.specs.Protocol.{releases, replayed}
use Rattle.model.specs.Answers.{buffer_after, replay_answer, replay_buffer}
use Rattle.model.proofs.Answers.Buffer.{buffer_written}
use Rattle.model.proofs.Answers.NotRefused.{replay_accepted}
use Rattle.model.proofs.Sheet.ValidSheet.{valid_fits}
use Rattle.model.proofs.Protocol.Run.{replayed-length}
use Rattle.texts.specs.Text.{replay_text}
use Rattle.texts.proofs.Answered.{replayed as answer-replayed, not_replayed}
use Rattle.texts.proofs.Front.{begins_front}
use Rattle.replay.specs.Output.{replayed_text}

-- The table shows the begin ticks of the replay, and a refusal none.
same_text : (begins room : List ℕ) (count : ℕ) (a : Answer)
    → (a.number ≡ 0 → length begins ≡ count)
    → replay_text (buffer_after a begins room) count a ≡ replay_text begins count a
same_text begins room count a all = go (eqb a.number 0) refl
  where
    go : (t : Bool) → eqb a.number 0 ≡ t → replay_text (buffer_after a begins room) count a ≡ replay_text begins count a
    go true e =
        let passes = eqb-true a.number 0 e in
        ap (λ words. replay_text words count a) (sym (buffer_written a begins room passes))
        ∙ sym (answer-replayed _ count a passes)
        ∙ begins_front begins (drop (length begins) room) count a.second a.third (all passes)
        ∙ answer-replayed begins count a passes
    go false e =
        let refuses = eqb-false a.number 0 e in
        sym (not_replayed _ count a refuses) ∙ not_replayed begins count a refuses

pub answered : (s log room : List ℕ) (horizon : ℕ) {a : Answer} {begins : List ℕ}
    → length room ≡ max_releases
    → a ≡ replay_answer s log horizon (length room)
    → begins ≡ replay_buffer s log horizon room
    → replay_text begins (releases log) a ≡ replayed_text s log horizon
unfolding replayed_text replay_buffer
answered s log room horizon size e f =
    rw (f, e, size)
    (same_text (replayed s log horizon).begins room (releases log) (replay_answer s log horizon max_releases)
    (λ passes.
    let ok = replay_accepted {s = s} {log = log} {horizon = horizon} {room = max_releases} passes in
    replayed-length s log horizon (valid_fits s ok.valid).header.slot_from))
