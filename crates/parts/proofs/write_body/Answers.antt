-- `parts::write_body` meets its contract: the streams passed stand at the front of the part, the rest is as it was. The words of the
-- next go into the part that is lent from there on. Assumes nothing.
use Prim.Native.Nat.{ℕ, ◌≤◌, ◌*◌, ◌-◌, ◌+◌}
use mathlib.Core.Path.{◌≡◌, refl, ◌∙◌, ap}
use mathlib.Core.List.{List, [], ◌∷◌, ◌++◌}
use native.Mathlib.Omega.{arith}
use lib.ListN.{length, take, drop}
use Rattle.theory.specs.Listing.{replaced_at, put_front}
use Rattle.theory.proofs.Listing.{joined_next}
use Rattle.theory.proofs.Overwriting.{over_next, over_front, lent_length, put_fits}
use Rattle.model.specs.Limits.{stream_words}
use Rattle.model.specs.Sheet.{word}
use Rattle.tables.specs.Writing.{stream_words_of, body_of}
use Rattle.tables.proofs.WrittenWords.{streams_length}
use Rattle.parts.proofs.write_body.Goals as goal

-- The next stream's words, put into the part that is lent after those passed.
next-stream : (periods deadlines jitters old body part : List ℕ) (before i at : ℕ) {p d q : ℕ}
    → stream_words * i ≤ length old
    → at + stream_words ≤ length body
    → at ≡ stream_words * i
    → body ≡ replaced_at old 0 (body_of periods deadlines jitters before i)
    → p ≡ word periods (before + i)
    → d ≡ word deadlines (before + i)
    → q ≡ word jitters (before + i)
    → part ≡ put_front (p ∷ d ∷ q ∷ []) (take (length body - at) (drop at body))
    → take at body ++ (part ++ drop (length body - at) (drop at body)) ≡ replaced_at old 0 (body_of periods deadlines jitters before (i + 1))
unfolding stream_words_of
next-stream periods deadlines jitters old body part before i at {p} {d} {q} fits free place so_far period deadline jitter put =
    let words : List ℕ = stream_words_of periods deadlines jitters (before + i) in
    let long = streams_length periods deadlines jitters before i in
    let lent = take (length body - at) (drop at body) in
    let back = put_fits words lent (omega (arith, free, lent_length body at)) in
    over_next old body part (body_of periods deadlines jitters before i) words 0 at (omega (arith, fits, long)) (omega (arith, place, long)) so_far ((rw (period, deadline, jitter) at put) ∙ back)
    ∙ ap (replaced_at old 0) (joined_next (stream_words_of periods deadlines jitters) before i)

pub loop-i-preserved : goal.loop-i-preserved
loop-i-preserved c =
    let a = c.args in
    let l = c.loop-i in
    let from = ap (λ n. a.before + n) c.wide.ensures.0 in
    next-stream a.tables.now.periods.now a.tables.now.deadlines.now a.tables.now.jitters.now a.body.now l.body c.put_stream.new.part a.before l.i _
    (omega arith)
    (omega arith)
    c.body_words-at.ensures.0
    l.invariant
    (c.word_at.ensures ∙ ap (word a.tables.now.periods.now) from)
    (c.word_at-in-loop-i.ensures ∙ ap (word a.tables.now.deadlines.now) from)
    (c.word_at-in-loop-i-2.ensures ∙ ap (word a.tables.now.jitters.now) from)
    c.put_stream.ensures

pub returns : goal.returns
returns c =
    let a = c.args in
    let l = c.loop-i in
    let done : l.i ≡ a.count = omega arith in
    let long = streams_length a.tables.now.periods.now a.tables.now.deadlines.now a.tables.now.jitters.now a.before a.count in
    l.invariant ∙ rw done (over_front a.body.now (body_of a.tables.now.periods.now a.tables.now.deadlines.now a.tables.now.jitters.now a.before a.count) ∙ rw long refl)
