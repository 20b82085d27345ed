-- `validation::check_tables` meets its contract: contents that are not refused have few nodes. Assumes nothing.
use Prim.Native.Nat.{◌≤◌}
use mathlib.Core.Path.{◌≡◌, sym, ap}
use native.Mathlib.Omega.{arith}
use lib.ListN.{length}
use Rattle.model.specs.Limits.{max_nodes}
use Rattle.model.specs.Refusal.{accepted}
use Rattle.tables.specs.Tables.{Tables}
use Rattle.tables.specs.Lent.{tables_as}
use Rattle.tables.specs.Writing.{contents_refusal}
use Rattle.tables.proofs.Passing.{contents_fit}
use Rattle.validation.proofs.check_tables.Goals as goal

-- the nodes of tables whose contents are not refused
few : (t : Tables) → accepted ≡ contents_refusal t.message t.slot t.counts t.budgets → length t.counts ≤ max_nodes
few t passes = (contents_fit t (sym (ap (λ a. a.number) passes))).nodes_to

pub overflow_cast-n : goal.overflow_cast-n
overflow_cast-n c = omega (arith, few (tables_as c.args.tables.now) c.in_ok-check_contents.ensures)
