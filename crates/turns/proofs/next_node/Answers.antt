-- `turns::next_node` meets its contract: the branch decides the definition's test. Assumes nothing.
use mathlib.Core.Path.{refl, sym, ap, ◌∙◌}
use borrow.Author.Tests.{eq-eqb, ne_eqb}
use Rattle.model.specs.Sheet.{nodes}
use Rattle.model.specs.Protocol.{next_node}
use Rattle.turns.proofs.next_node.Goals as goal

pub returns-then-k-header : goal.returns-then-k-header
unfolding next_node
returns-then-k-header c =
    let a = c.args in
    rw (eq-eqb a.k (nodes a.sheet.now) (c.if-k-header.true ∙ ap (λ h. h.nodes) c.requires.1)) refl

pub returns : goal.returns
unfolding next_node
returns c =
    let a = c.args in
    rw (ne_eqb a.k (nodes a.sheet.now) (λ same. c.if-k-header.false (same ∙ sym (ap (λ h. h.nodes) c.requires.1)))) refl
