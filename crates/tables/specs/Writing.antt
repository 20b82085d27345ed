-- "Write the sheet": the words of the sheet that tables make, what the writer answers and leaves in the lent buffer ("room"), for
-- every input; and what it promises of reading and writing. Rules 4.7, 4.8, 6.1, 7.1 and 7.2. Assumes nothing.
use Rattle.std.specs.Prelude.{ℕ, ◌≤◌, ◌≡◌, Bool, ◌||◌, not, List, [], ◌∷◌, ◌++◌, length, take, eqb}
use Rattle.theory.specs.Listing.{joined_from}
use Rattle.model.specs.declared.Answer.{Answer}
use Rattle.model.specs.Limits.{max_nodes}
use Rattle.model.specs.Refusal.{success, refuse, refuse_if, ◌or_else◌, first_of, outside}
use Rattle.model.specs.Sheet.{word, body_at, cycle_ticks, cycle, ticks_outside, counts_outside, times_outside, Valid}
use Rattle.model.specs.Answers.{room_refusal, buffer_after}
use Rattle.tables.specs.Tables.{Tables, tables_of, node_entry, sum_of, counts_before, stream_entry}

-- The first words: n, which "is the length of the counts", TMS and TPR.
abbrev pub header_of : Tables → List ℕ
header_of t = length t.counts ∷ t.message ∷ t.slot ∷ []

-- The contents row of node k: the place of its body, its number of streams, its budget.
unfoldable pub row_of : List ℕ → List ℕ → ℕ → List ℕ
row_of counts budgets k = body_at (length counts) (counts_before counts k) ∷ node_entry counts k ∷ node_entry budgets k ∷ []

-- The words of the stream that i others come before: its least period, its deadline and its jitter.
unfoldable pub stream_words_of : List ℕ → List ℕ → List ℕ → ℕ → List ℕ
stream_words_of periods deadlines jitters i = word periods i ∷ word deadlines i ∷ word jitters i ∷ []

-- A body: the words of `count` streams, the first of which `before` others come before.
abbrev pub body_of : List ℕ → List ℕ → List ℕ → ℕ → ℕ → List ℕ
body_of periods deadlines jitters before count = joined_from (stream_words_of periods deadlines jitters) before count

-- All contents rows.
abbrev pub rows_of : Tables → List ℕ
rows_of t = joined_from (row_of t.counts t.budgets) 1 (length t.counts)

-- All bodies, "in node order without gaps".
abbrev pub bodies_of : Tables → List ℕ
bodies_of t =
    joined_from
    (λ k. body_of t.periods t.deadlines t.jitters (counts_before t.counts k) (node_entry t.counts k))
    1
    (length t.counts)

-- The sheet that tables make: "contents first, then bodies".
unfoldable pub written : Tables → List ℕ
written t = header_of t ++ rows_of t ++ bodies_of t

-- "C" of tables.
unfoldable pub cycle_of : ℕ → ℕ → List ℕ → List ℕ → ℕ
cycle_of message slot counts budgets = cycle_ticks (sum_of budgets) message (length counts) slot

-- Refusal 4 "at (node, 0) for a row": its count or its budget is out of range.
unfoldable pub table_row_refusal : List ℕ → List ℕ → ℕ → Answer
table_row_refusal counts budgets k = refuse_if (counts_outside (node_entry counts k) (node_entry budgets k)) (refuse 4 k 0)

-- Refusal 5 of stream j of node k, which `before` streams come before.
unfoldable pub table_stream_refusal : List ℕ → List ℕ → List ℕ → ℕ → ℕ → ℕ → Answer
table_stream_refusal periods deadlines jitters before k j =
    refuse_if (times_outside (stream_entry periods before j) (stream_entry deadlines before j) (stream_entry jitters before j)) (refuse 5 k j)

-- Refusal 5 of node k's streams, in order.
unfoldable pub table_body_refusal : List ℕ → List ℕ → List ℕ → List ℕ → ℕ → Answer
table_body_refusal counts periods deadlines jitters k =
    first_of (table_stream_refusal periods deadlines jitters (counts_before counts k) k) 1 (node_entry counts k)

-- Refusals 2 and 3, and 4 "at 0 0 if budgets and counts differ in length, then at (node, 0) for a row".
unfoldable pub contents_refusal : ℕ → ℕ → List ℕ → List ℕ → Answer
contents_refusal message slot counts budgets =
    refuse_if (outside 1 max_nodes (length counts)) (refuse 2 0 0)
    or_else refuse_if (ticks_outside message slot) (refuse 3 0 0)
    or_else refuse_if (not (eqb (length budgets) (length counts))) (refuse 4 0 0)
    or_else first_of (table_row_refusal counts budgets) 1 (length counts)

-- True where "periods or deadlines", or jitters, "are not as long as the counts' sum".
unfoldable pub lengths_differ : ℕ → ℕ → ℕ → ℕ → Bool
lengths_differ periods deadlines jitters total = not (eqb periods total) || not (eqb deadlines total) || not (eqb jitters total)

-- Refusals 2 to 5 of tables, in their order: 4 at 0 0 for the lengths after the rows, then 5, the first in sheet order. Accepted for
-- tables that make a valid sheet.
unfoldable pub tables_refusal : Tables → Answer
tables_refusal t =
    contents_refusal t.message t.slot t.counts t.budgets
    or_else refuse_if (lengths_differ (length t.periods) (length t.deadlines) (length t.jitters) (sum_of t.counts)) (refuse 4 0 0)
    or_else first_of (table_body_refusal t.counts t.periods t.deadlines t.jitters) 1 (length t.counts)

-- The writer's answer, with a buffer of so many words: "the words written and C". Refusals 2, 3, 4, 5, 6.
unfoldable pub write_answer : Tables → ℕ → Answer
write_answer t room =
    tables_refusal t
    or_else room_refusal (length (written t)) room
    or_else success (length (written t)) (cycle_of t.message t.slot t.counts t.budgets)

-- The buffer after the writer: the sheet in its first words, and the rest unchanged.
unfoldable pub write_buffer : Tables → List ℕ → List ℕ
write_buffer t room = buffer_after (write_answer t (length room)) (written t) room

-- "Its sheet reads back as the same tables": what stands in the buffer after a success with these words and this C.
pub record ReadsBack (t : Tables) (words c : ℕ) (room : List ℕ) : Type 0 where
  pub valid : Valid (take words room)
  pub same : tables_of (take words room) ≡ t
  pub same_cycle : cycle (take words room) ≡ c

-- "a valid sheet read and written again has the same words": what the writer answers, and leaves in the buffer, for the tables of any
-- valid sheet that has room there.
abbrev pub WrittenAgain : Tables → List ℕ → Answer → List ℕ → Type 0
WrittenAgain t before answer after =
    (s : List ℕ)
    → Valid s
    → t ≡ tables_of s
    → length s ≤ length before
    → (answer ≡ success (length s) (cycle s)) × (take (length s) after ≡ s)
