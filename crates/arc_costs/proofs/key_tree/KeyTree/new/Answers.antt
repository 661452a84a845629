use Rattle.std.proofs.Common.{subst, sym, arith}
use Rattle.std.specs.Map.{keys_of}
use Rattle.arc_costs.specs.inner.Tree.{IsTree}
use Rattle.arc_costs.proofs.TreeLemmas.{no_tree}
use Rattle.arc_costs.proofs.key_tree.KeyTree.new.Goals as goal

pub invariant_of-result : goal.invariant_of-result
invariant_of-result g c =
    let same = g.K.PartialEq.eq in
    let digit = g.K.Digits.digit in
    let rows = c.new.ensures in
    let next = c.new-2.ensures in (
      subst (λ es. IsTree same digit (keys_of es) c.new-2.result.items) (sym rows.items)
          (subst (IsTree same digit _) (sym next.items) (no_tree same digit)),
      record { rows = omega (arith, rows.len, rows.capacity); ways = omega (arith, next.len, next.capacity) },
    )
