-- `writer::cycle_of` meets its contract: the budgets' sum is the definition's, and the whole bounds its two parts. Assumes nothing.
use Prim.Native.Nat.{ℕ, ◌*◌}
use mathlib.Core.Path.{◌≡◌, refl, sym, ◌∙◌, ap}
use lib.ListN.{length}
use native.Mathlib.Omega.{arith}
use Rattle.tables.specs.Tables.{Tables, sum_up_to, sum_of}
use Rattle.tables.specs.Lent.{tables_as}
use Rattle.tables.specs.Writing.{cycle_of, contents_refusal}
use Rattle.tables.proofs.Passing.{contents_fit}
use Rattle.tables.proofs.Bounds.{budgets_most, cycle_most}
use Rattle.writer.proofs.cycle_of.Goals as goal

-- The sum up to the last node is that of the whole table.
sum : (t : Tables) {found : ℕ} → (contents_refusal t.message t.slot t.counts t.budgets).number ≡ 0 → found ≡ sum_up_to t.budgets (length t.counts) → found ≡ sum_of t.budgets
sum t none same = same ∙ ap (sum_up_to t.budgets) (sym (contents_fit t none).budgets_all)

pub overflow_cast-n : goal.overflow_cast-n
overflow_cast-n c = omega (arith, (contents_fit (tables_as c.args.tables.now) c.requires).nodes_to)

pub overflow_cast-result : goal.overflow_cast-result
overflow_cast-result c =
    let t = tables_as c.args.tables.now in
    omega (arith, sum t c.requires c.sum_up_to.ensures, budgets_most t (contents_fit t c.requires))

pub overflow_mul-result : goal.overflow_mul-result
unfolding cycle_of
overflow_mul-result c =
    let t = tables_as c.args.tables.now in
    omega (arith, ap (λ n. n * t.message) (sum t c.requires c.sum_up_to.ensures), cycle_most t (contents_fit t c.requires))

pub overflow_mul-result-2 : goal.overflow_mul-result-2
unfolding cycle_of
overflow_mul-result-2 c =
    let t = tables_as c.args.tables.now in
    omega (arith, cycle_most t (contents_fit t c.requires))

pub overflow_add-result : goal.overflow_add-result
unfolding cycle_of
overflow_add-result c =
    let t = tables_as c.args.tables.now in
    omega (arith, ap (λ n. n * t.message) (sum t c.requires c.sum_up_to.ensures), cycle_most t (contents_fit t c.requires))

pub returns : goal.returns
unfolding cycle_of
returns c = rw (sum (tables_as c.args.tables.now) c.requires c.sum_up_to.ensures) refl
