-- `writer::write_sheet` meets its contract: each check's refusal is the chain's, and where none refuses, the sheet is written; and what is
-- answered and written has the promises of reading and writing. Assumes nothing.
use Prim.Native.Nat.{ℕ, ◌≤◌}
use mathlib.Core.Path.{◌≡◌, refl, sym, ◌∙◌, ap, ap₂}
use mathlib.Core.List.{List, ◌++◌}
use native.Mathlib.Omega.{arith}
use lib.ListN.{length, drop}
use borrow.Author.Tests.{ltb-false}
use lib.Dec.{ltb}
use borrow.Author.Rules.{rules}
use Rattle.std.proofs.lemmas.Result.{err_from_is_err_and}
use Rattle.model.specs.Refusal.{success, accepted, refuse, refuse_if}
use Rattle.model.specs.Sheet.{body_at}
use Rattle.model.specs.Answers.{room_refusal}
use Rattle.model.proofs.Answers.Buffer.{buffer_kept, buffer_written}
use Rattle.model.proofs.Sheet.Refusals.{or_else_both, refuse_if_none}
use Rattle.refusals.specs.declared.Refusal.{Refusal}
use Rattle.refusals.specs.Numbers.{numbers}
use Rattle.refusals.proofs.Chains.{refuses, stops, goes_on}
use Rattle.tables.specs.Tables.{Tables, sum_of}
use Rattle.tables.specs.Lent.{tables_as}
use Rattle.tables.specs.Writing.{cycle_of, contents_refusal, tables_refusal, written, write_answer, write_buffer}
use Rattle.tables.proofs.WrittenWords.{written-length}
use Rattle.tables.proofs.Passing.{TablesFit, tables_fit}
use Rattle.tables.proofs.Bounds.{streams_most}
use Rattle.tables.proofs.Promises.{reads_back, again}
use Rattle.writer.proofs.write_sheet.Goals as goal

-- A refusal leaves the buffer as it was.
kept : (t : Tables) (room : List ℕ) (r : Refusal) → numbers r ≡ write_answer t (length room) → room ≡ write_buffer t room
unfolding write_buffer
kept t room r answer = buffer_kept (write_answer t (length room)) (written t) room (λ e. refuses r (ap (λ a. a.number) answer ∙ e))

-- A success leaves the sheet in its first words.
sheet-left : (t : Tables) (room : List ℕ) {words c : ℕ} {after : List ℕ}
    → success words c ≡ write_answer t (length room)
    → after ≡ written t ++ drop (length (written t)) room
    → after ≡ write_buffer t room
unfolding write_buffer
sheet-left t room answer left =
    left ∙ buffer_written (write_answer t (length room)) (written t) room (sym (ap (λ a. a.number) answer))

-- The answer where the tables are refused,
by-tables : (t : Tables) (room : ℕ) (r : Refusal) → numbers r ≡ tables_refusal t → numbers r ≡ write_answer t room
unfolding write_answer
by-tables t room r found = stops r _ found

-- where the room is,
by-room : (t : Tables) (room : ℕ) (r : Refusal) {words : ℕ}
    → accepted ≡ tables_refusal t
    → words ≡ body_at (length t.counts) (sum_of t.counts)
    → numbers r ≡ refuse_if (ltb room words) (refuse 6 0 0)
    → numbers r ≡ write_answer t room
unfolding write_answer room_refusal
by-room t room r tables words short = goes_on tables (stops r _ (rw (words ∙ sym (written-length t)) at short))

-- and where neither is.
by-none : (t : Tables) (room : ℕ) {words c : ℕ}
    → accepted ≡ tables_refusal t
    → words ≡ body_at (length t.counts) (sum_of t.counts)
    → accepted ≡ refuse_if (ltb room words) (refuse 6 0 0)
    → c ≡ cycle_of t.message t.slot t.counts t.budgets
    → success words c ≡ write_answer t room
unfolding write_answer room_refusal
by-none t room tables words enough cycle =
    let long = words ∙ sym (written-length t) in
    goes_on tables (goes_on (rw long at enough) (ap₂ success long cycle))

-- A room that is not refused is long enough,
long-enough : (room words : ℕ) → accepted ≡ refuse_if (ltb room words) (refuse 6 0 0) → words ≤ room
long-enough room words enough =
    ltb-false room words (refuse_if_none (ltb room words) (refuse 6 0 0) (λ e. omega arith) (sym (ap (λ a. a.number) enough)))

-- and the contents of tables that are not refused are not either.
contents-pass : (t : Tables) → accepted ≡ tables_refusal t → (contents_refusal t.message t.slot t.counts t.budgets).number ≡ 0
unfolding tables_refusal
contents-pass t passes = (or_else_both (contents_refusal t.message t.slot t.counts t.budgets) _ (sym (ap (λ a. a.number) passes))).0

-- What the check of the tables leaves.
fit : (t : Tables) → accepted ≡ tables_refusal t → TablesFit t
fit t passes = tables_fit t (sym (ap (λ a. a.number) passes))

pub returns-in_err-check_tables : goal.returns-in_err-check_tables
returns-in_err-check_tables c =
    let a = c.args in
    let t = tables_as a.tables.now in
    let p = err_from_is_err_and c.from_residual.result c.from_residual.ensures.1 in
    let answer = by-tables t (length a.room.now) _ c.in_err-check_tables.ensures in
    let same = kept t a.room.now _ answer in
    record {
      answer = rw (p.1, p.2) answer;
      buffer = same;
      reads = search rules;
      again = rw (p.1, p.2) (again t a.room.now answer same);
    }

pub sheet_words-words-requires : goal.sheet_words-words-requires
sheet_words-words-requires c =
    let f = (fit (tables_as c.args.tables.now) c.in_ok-check_tables.ensures).contents in
    (f.nodes_to, streams_most _ f _ (omega arith))

pub returns-in_err-refuse_if : goal.returns-in_err-refuse_if
returns-in_err-refuse_if c =
    let a = c.args in
    let t = tables_as a.tables.now in
    let p = err_from_is_err_and c.from_residual-in_err-refuse_if.result c.from_residual-in_err-refuse_if.ensures.1 in
    let answer = by-room t (length a.room.now) _ c.in_ok-check_tables.ensures c.sheet_words-words.ensures c.in_err-refuse_if.ensures in
    let same = kept t a.room.now _ answer in
    record {
      answer = rw (p.1, p.2) answer;
      buffer = same;
      reads = search rules;
      again = rw (p.1, p.2) (again t a.room.now answer same);
    }

pub write_words-requires : goal.write_words-requires
write_words-requires c =
    let f = (fit (tables_as c.args.tables.now) c.in_ok-check_tables.ensures).contents in
    let long = long-enough (length c.args.room.now) c.sheet_words-words.result c.in_ok-refuse_if.ensures in
    (f.nodes_to, streams_most _ f (length c.args.tables.now.counts.now) (omega arith), omega (arith, c.sheet_words-words.ensures, long))

pub overflow_cast-result : goal.overflow_cast-result
overflow_cast-result c =
    let f = (fit (tables_as c.args.tables.now) c.in_ok-check_tables.ensures).contents in
    omega (arith, c.sheet_words-words.ensures, f.nodes_to, streams_most _ f (length c.args.tables.now.counts.now) (omega arith))

pub cycle_of-requires : goal.cycle_of-requires
cycle_of-requires c =
    let a = c.args in
    contents-pass (tables_as a.tables.now) c.in_ok-check_tables.ensures

pub returns : goal.returns
returns c =
    let a = c.args in
    let t = tables_as a.tables.now in
    let answer = by-none t (length a.room.now) c.in_ok-check_tables.ensures c.sheet_words-words.ensures c.in_ok-refuse_if.ensures c.cycle_of.ensures in
    let left = sheet-left t a.room.now answer c.write_words.ensures in
    record {
      answer = answer;
      buffer = left;
      reads = reads_back t a.room.now answer left refl;
      again = again t a.room.now answer left;
    }
