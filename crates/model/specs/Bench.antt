-- "Bench sheets": the sheets and logs of P1 to P12, and a sheet and logs to which the demands are applied. Rules 10. Assumes nothing.
use Rattle.std.specs.Prelude.{ℕ, List, [], ◌∷◌}

-- "Sheet A", with the period and deadline of node 1's first stream and the deadline of its second as they vary. No stream has a jitter.
unfoldable pub sheet_a : ℕ → ℕ → ℕ → List ℕ
sheet_a period first second =
    2 ∷ 5 ∷ 1 ∷ 9 ∷ 2 ∷ 1 ∷ 15 ∷ 1 ∷ 2 ∷ period ∷ first ∷ 0 ∷ 60 ∷ second ∷ 0 ∷ 30 ∷ 30 ∷ 0 ∷ []

-- Sheet A where "node 2 gets a second stream 50 50".
unfoldable pub sheet_a6 : List ℕ
sheet_a6 = 2 ∷ 5 ∷ 1 ∷ 9 ∷ 2 ∷ 1 ∷ 15 ∷ 2 ∷ 2 ∷ 40 ∷ 40 ∷ 0 ∷ 60 ∷ 60 ∷ 0 ∷ 30 ∷ 30 ∷ 0 ∷ 50 ∷ 50 ∷ 0 ∷ []

-- "one node, TMS 5, TPR 1, budget 1", with two streams, the second 100 100.
unfoldable pub sheet_p7 : ℕ → List ℕ
sheet_p7 first = 1 ∷ 5 ∷ 1 ∷ 6 ∷ 2 ∷ 1 ∷ first ∷ first ∷ 0 ∷ 100 ∷ 100 ∷ 0 ∷ []

-- The logs of P9 and of P11.
unfoldable pub log_p9 : List ℕ
log_p9 = 0 ∷ 1 ∷ 0 ∷ 2 ∷ 1 ∷ 3 ∷ []

unfoldable pub log_p11 : List ℕ
log_p11 = 0 ∷ 2 ∷ 0 ∷ 3 ∷ 0 ∷ 3 ∷ 1 ∷ 1 ∷ []

-- On sheet A and those like it: a stream of node 1 and the only one of node 2 break their periods at tick 0, and the other stream of node 1
-- releases just after its turn has started.
unfoldable pub crowded_by : ℕ → ℕ → List ℕ
crowded_by often once = 0 ∷ often ∷ 0 ∷ often ∷ 0 ∷ 3 ∷ 0 ∷ 3 ∷ 1 ∷ once ∷ []

-- The second stream of node 1 releases often, and the first once.
abbrev pub log_crowded : List ℕ
log_crowded = crowded_by 2 1

-- The first releases often, and the second once.
abbrev pub log_urgent : List ℕ
log_urgent = crowded_by 1 2

-- On sheet A: the first stream of node 1 releases twice, its period apart to the tick, and its second stream once.
unfoldable pub log_periodic : List ℕ
log_periodic = 0 ∷ 1 ∷ 0 ∷ 3 ∷ 0 ∷ 3 ∷ 1 ∷ 2 ∷ 40 ∷ 1 ∷ []

-- Two nodes, TMS 5, TPR 1: node 1 with budget 1 and a stream 60 60, node 2 with budget 2 and two streams, the first with period 40 and a
-- deadline as it varies, the second 60 60. A longest turn of node 2 takes 11 ticks, and C is 17.
unfoldable pub sheet_pair : ℕ → List ℕ
sheet_pair first = 2 ∷ 5 ∷ 1 ∷ 9 ∷ 1 ∷ 1 ∷ 12 ∷ 2 ∷ 2 ∷ 60 ∷ 60 ∷ 0 ∷ 40 ∷ first ∷ 0 ∷ 60 ∷ 60 ∷ 0 ∷ []

-- On it: all turns are full, and node 2's first stream releases just after a turn of its node has started.
unfoldable pub log_pair : List ℕ
log_pair = 0 ∷ 1 ∷ 0 ∷ 1 ∷ 0 ∷ 3 ∷ 0 ∷ 3 ∷ 0 ∷ 3 ∷ 7 ∷ 2 ∷ []

-- Sheet A with a jitter for each of node 1's streams.
unfoldable pub sheet_jitter : ℕ → ℕ → List ℕ
sheet_jitter first second = 2 ∷ 5 ∷ 1 ∷ 9 ∷ 2 ∷ 1 ∷ 15 ∷ 1 ∷ 2 ∷ 40 ∷ 40 ∷ first ∷ 60 ∷ 60 ∷ second ∷ 30 ∷ 30 ∷ 0 ∷ []

-- On it, with jitter 18 for the first: node 2 fills its turns; node 1's first stream is queued at 1, 18 ticks after its event at tick
-- −17, and at 23, at once with the next event, 40 ticks after the first; its second stream is queued once.
unfoldable pub log_jitter : List ℕ
log_jitter = 0 ∷ 3 ∷ 0 ∷ 3 ∷ 0 ∷ 3 ∷ 0 ∷ 3 ∷ 0 ∷ 3 ∷ 0 ∷ 3 ∷ 1 ∷ 1 ∷ 1 ∷ 2 ∷ 23 ∷ 1 ∷ []
