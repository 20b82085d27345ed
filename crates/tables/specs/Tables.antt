-- "lent tables of counts, budgets, periods and deadlines", and "jitters like periods": what a sheet says without where its words stand, and
-- how a sheet is read into them. Rules 4.6. Assumes nothing.
use Rattle.std.specs.Prelude.{ℕ, pred, ◌+◌, List, length}
use Rattle.theory.specs.Sum.{sum_to}
use Rattle.theory.specs.Listing.{values_from}
use Rattle.model.specs.Sheet.{word, nodes, message_ticks, slot_ticks, stream_count, budget, period, deadline, jitter, in_sheet_order}

-- "TMS" and "TPR"; of each node its number of streams ("counts") and its budget; of each stream, in sheet order, its least period, its
-- deadline and its jitter.
pub record Tables : Type 0 where
  pub message : ℕ
  pub slot : ℕ
  pub counts : List ℕ
  pub budgets : List ℕ
  pub periods : List ℕ
  pub deadlines : List ℕ
  pub jitters : List ℕ

-- The two numbers and five lent tables of the writer, in its order.
abbrev pub lent_tables : ℕ → ℕ → List ℕ → List ℕ → List ℕ → List ℕ → List ℕ → Tables
lent_tables message slot counts budgets periods deadlines jitters =
    record {
      message = message;
      slot = slot;
      counts = counts;
      budgets = budgets;
      periods = periods;
      deadlines = deadlines;
      jitters = jitters;
    }

-- What a table of nodes has for node k, from 1.
abbrev pub node_entry : List ℕ → ℕ → ℕ
node_entry table k = word table (pred k)

-- The sum of what a table has for nodes 1 to k.
abbrev pub sum_up_to : List ℕ → ℕ → ℕ
sum_up_to table k = sum_to (node_entry table) k

-- The sum of a whole table of nodes, as "the counts' sum".
abbrev pub sum_of : List ℕ → ℕ
sum_of table = sum_up_to table (length table)

-- The streams of the nodes before node k, by the counts.
abbrev pub counts_before : List ℕ → ℕ → ℕ
counts_before counts k = sum_up_to counts (pred k)

-- What a table of streams has for the stream j of a node that so many streams come before: "in sheet order".
abbrev pub stream_entry : List ℕ → ℕ → ℕ → ℕ
stream_entry table before j = word table (before + pred j)

-- Reading: the tables of a sheet, in sheet order.
abbrev pub tables_of : List ℕ → Tables
tables_of s =
    record {
      message = message_ticks s;
      slot = slot_ticks s;
      counts = values_from (stream_count s) 1 (nodes s);
      budgets = values_from (budget s) 1 (nodes s);
      periods = in_sheet_order s (period s);
      deadlines = in_sheet_order s (deadline s);
      jitters = in_sheet_order s (jitter s);
    }
