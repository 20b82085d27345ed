-- "The sheet": a list of words, contents first, then bodies. Nodes are numbered from 1, and so are the streams of a node.
-- Rules 4 and 2.5, and 7.1 for refusals 1 to 5. Assumes nothing.
use Rattle.std.specs.Prelude.{ℕ, pred, ◌+◌, ◌*◌, ◌≤◌, ◌≡◌, Bool, ◌||◌, not, List, length, get_or, ltb, leb, eqb}
use Rattle.theory.specs.Sum.{sum_to}
use Rattle.theory.specs.Listing.{values_from, joined_from}
use Rattle.model.specs.declared.Answer.{Answer}
use Rattle.model.specs.Limits.{header_words, row_words, stream_words, max_nodes, max_streams, max_budget, max_slot_ticks, max_time}
use Rattle.model.specs.Refusal.{refuse, refuse_if, ◌or_else◌, first_of, outside}

-- The word at an index; 0 past the end, where no valid sheet is read.
abbrev pub word : List ℕ → ℕ → ℕ
word table i = get_or table i 0

-- "n", the number of nodes.
abbrev pub nodes : List ℕ → ℕ
nodes s = word s 0

-- "TMS", the ticks that a message takes.
abbrev pub message_ticks : List ℕ → ℕ
message_ticks s = word s 1

-- "TPR", the ticks that a protocol slot takes.
abbrev pub slot_ticks : List ℕ → ℕ
slot_ticks s = word s 2

-- Where node k's row of the "contents" stands.
abbrev pub row_at : ℕ → ℕ
row_at k = header_words + row_words * pred k

-- "the place (word index) of its body", as the row of node k has it.
abbrev pub place : List ℕ → ℕ → ℕ
place s k = word s (row_at k)

-- "its number of streams".
abbrev pub stream_count : List ℕ → ℕ → ℕ
stream_count s k = word s (row_at k + 1)

-- "its budget": the most messages of node k in one turn.
abbrev pub budget : List ℕ → ℕ → ℕ
budget s k = word s (row_at k + 2)

-- The streams of nodes 1 to k together.
abbrev pub streams_up_to : List ℕ → ℕ → ℕ
streams_up_to s k = sum_to (stream_count s) k

-- The streams of the nodes before node k.
abbrev pub streams_before : List ℕ → ℕ → ℕ
streams_before s k = streams_up_to s (pred k)

-- The streams of the whole sheet.
abbrev pub total_streams : List ℕ → ℕ
total_streams s = streams_up_to s (nodes s)

-- The "running number over the whole sheet, from 1, in sheet order" of stream j of node k.
abbrev pub running_number : List ℕ → ℕ → ℕ → ℕ
running_number s k j = streams_before s k + j

-- A value for each stream of the sheet, "in sheet order": those of node 1's streams, then of node 2's, and so on.
abbrev pub in_sheet_order : {X : Type 0} → List ℕ → (ℕ → ℕ → X) → List X
in_sheet_order s value = joined_from (λ k. values_from (value k) 1 (stream_count s k)) 1 (nodes s)

-- The words before the first body of n nodes: header and contents.
abbrev pub first_body_at : ℕ → ℕ
first_body_at n = header_words + row_words * n

-- Where the body stands that so many streams come before, of n nodes: "the first body is at 3 + 3n, each next one directly after
-- the last". After the last one it is where "the sheet ends".
abbrev pub body_at : ℕ → ℕ → ℕ
body_at n before = first_body_at n + stream_words * before

-- The words before the first body of the sheet.
abbrev pub contents_words : List ℕ → ℕ
contents_words s = first_body_at (nodes s)

-- The place that node k's body must have.
abbrev pub body_place : List ℕ → ℕ → ℕ
body_place s k = body_at (nodes s) (streams_before s k)

-- The length that the sheet must have: "the sheet ends with the last body".
abbrev pub sheet_length : List ℕ → ℕ
sheet_length s = body_at (nodes s) (total_streams s)

-- Where stream j of node k stands.
abbrev pub stream_at : List ℕ → ℕ → ℕ → ℕ
stream_at s k j = place s k + stream_words * pred j

-- "least period" of stream j of node k.
abbrev pub period : List ℕ → ℕ → ℕ → ℕ
period s k j = word s (stream_at s k j)

-- "deadline" of stream j of node k.
abbrev pub deadline : List ℕ → ℕ → ℕ → ℕ
deadline s k j = word s (stream_at s k j + 1)

-- "jitter" of stream j of node k: "each message is queued 0 to jitter ticks after its event".
abbrev pub jitter : List ℕ → ℕ → ℕ → ℕ
jitter s k j = word s (stream_at s k j + 2)

-- The budgets of nodes 1 to k together.
abbrev pub budgets_up_to : List ℕ → ℕ → ℕ
budgets_up_to s k = sum_to (budget s) k

-- "Full cycle C = (sum of all budgets) × TMS + n × TPR": the longest time for a turn of every node.
abbrev pub cycle_ticks : ℕ → ℕ → ℕ → ℕ → ℕ
cycle_ticks budgets message n slot = budgets * message + n * slot

-- "C" of the sheet.
unfoldable pub cycle : List ℕ → ℕ
cycle s = cycle_ticks (budgets_up_to s (nodes s)) (message_ticks s) (nodes s) (slot_ticks s)

-- Stream j of node k is on the sheet.
pub record OnSheet (s : List ℕ) (k j : ℕ) : Type 0 where
  pub node_from : 1 ≤ k
  pub node_to : k ≤ nodes s
  pub stream_from : 1 ≤ j
  pub stream_to : j ≤ stream_count s k

-- True where TMS or TPR is out of range.
unfoldable pub ticks_outside : ℕ → ℕ → Bool
ticks_outside message slot = outside 1 max_slot_ticks message || outside 1 max_slot_ticks slot

-- True where a node's number of streams or its budget is out of range.
unfoldable pub counts_outside : ℕ → ℕ → Bool
counts_outside count budget = ltb max_streams count || outside 1 max_budget budget

-- True where a stream's period, deadline or jitter is out of range; the deadline is "1 to the period", and the jitter "from 0 to less than
-- the period".
unfoldable pub times_outside : ℕ → ℕ → ℕ → Bool
times_outside period deadline jitter = outside 1 max_time period || outside 1 period deadline || leb period jitter

-- True for "a wrong place, stream count or budget" in the row of node k.
unfoldable pub row_wrong : List ℕ → ℕ → Bool
row_wrong s k = not (eqb (place s k) (body_place s k)) || counts_outside (stream_count s k) (budget s k)

-- Refusal 4 of one contents row, at "(node, 0)".
unfoldable pub row_refusal : List ℕ → ℕ → Answer
row_refusal s k = refuse_if (row_wrong s k) (refuse 4 k 0)

-- Refusal 5 of one stream, a "period or deadline out of range" or a jitter, at "node, stream".
unfoldable pub stream_refusal : List ℕ → ℕ → ℕ → Answer
stream_refusal s k j = refuse_if (times_outside (period s k j) (deadline s k j) (jitter s k j)) (refuse 5 k j)

-- Refusal 5 of one node's streams, in order.
unfoldable pub body_refusal : List ℕ → ℕ → Answer
body_refusal s k = first_of (stream_refusal s k) 1 (stream_count s k)

-- Refusals 1 to 3, and 4 for "fewer than 3 + 3n words", in their order.
unfoldable pub header_refusal : List ℕ → Answer
header_refusal s =
    refuse_if (ltb (length s) header_words) (refuse 1 0 0)
    or_else refuse_if (outside 1 max_nodes (nodes s)) (refuse 2 0 0)
    or_else refuse_if (ticks_outside (message_ticks s) (slot_ticks s)) (refuse 3 0 0)
    or_else refuse_if (ltb (length s) (contents_words s)) (refuse 4 0 0)

-- Refusals 1 to 5, in their order: the contents "node by node", "then a wrong total length", then the bodies. Accepted for a
-- valid sheet.
unfoldable pub sheet_refusal : List ℕ → Answer
sheet_refusal s =
    header_refusal s
    or_else first_of (row_refusal s) 1 (nodes s)
    or_else refuse_if (not (eqb (length s) (sheet_length s))) (refuse 4 0 0)
    or_else first_of (body_refusal s) 1 (nodes s)

-- "A valid sheet is one that gets none of 1 to 5."
abbrev pub Valid : List ℕ → Type 0
Valid s = (sheet_refusal s).number ≡ 0
