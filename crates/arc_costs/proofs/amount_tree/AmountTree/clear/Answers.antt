use Rattle.std.proofs.Common.{◌≡◌, ◌+◌, drop, get_or, length, sym, ap, ◌∙◌, subst, arith, refl}
use Rattle.std.proofs.lemmas.List.{drop_all, drop_more, length-map}
use Rattle.indexmap.specs.IndexMap.{set_value_at}
use Rattle.arc_costs.specs.Amounts.{clear_amounts}
use Rattle.arc_costs.specs.inner.Shape.{AllWhole}
use Rattle.arc_costs.specs.inner.Somes.{Knows}
use Rattle.arc_costs.proofs.SomeLemmas.{AreLeft, all_left, clear_amounts-set, knows_none, left_next, none_left, within}
use Rattle.arc_costs.proofs.amount_tree.AmountTree.clear.Given.{Over}
use Rattle.arc_costs.proofs.amount_tree.AmountTree.clear.Goals as goal
use Rattle.arc_costs.proofs.amount_tree.AmountTree.clear.Goals.{After-clear}

pub rows-init : goal.rows-init
rows-init g c = record {
  keys = refl;
  left =
      subst (AreLeft g.A.Amount.nothing c.self.inside.rows.entries) (sym c.deref-index-items.ensures.value)
      (all_left g.A.Amount.is_some g.A.Amount.nothing g.A.Amount.is_whole g.met.A.Amount.none_is_nothing
      c.self.inside.rows.entries c.self.inside.some.items
      (subst (λ v. AllWhole g.A.Amount.is_whole v.entries) (sym c.self.view_is) c.requires) c.self.invariant.each);
  spare = refl;
}

pub set-requires : goal.set-requires
set-requires g c =
    let nothing = g.A.Amount.nothing in
    let some = c.self.inside.some.items in
    let items = c.deref-index-items.ensures.value in
    let many = ap length items in
    let in_rows = within g.A.Amount.is_some c.self.inside.rows.entries some c.self.invariant.each c.rows.index-index 0
    (omega (arith, many, c.rows-test.true)) in
    let same = ap (λ is. get_or is c.rows.index-index 0) items in
    let keys = ap (λ es. length es) c.rows.invariant.keys in
    let now = length-map {B = g.row.K.Denot × g.row.A.Denot} c.rows.self-inside.1.0.entries (λ e. (e.0, nothing)) in
    let was = length-map {B = g.row.K.Denot × g.row.A.Denot} c.self.inside.rows.entries (λ e. (e.0, nothing)) in
    omega (arith, in_rows, same, keys, now, was)

pub rows-preserved : goal.rows-preserved
rows-preserved g c =
    let nothing = g.A.Amount.nothing in
    let es = c.rows.self-inside.1.0.entries in
    let i = get_or c.deref-index-items.result.now c.rows.index-index 0 in
    let set = c.set.ensures.entries ∙ ap (λ v. set_value_at es i v) c.zero.ensures in
    record {
      keys = ap (clear_amounts nothing) set ∙ clear_amounts-set nothing es i nothing ∙ c.rows.invariant.keys;
      left =
          subst (λ rows. AreLeft nothing rows (drop (c.rows.index-index + 1) c.deref-index-items.result.now)) (sym set)
          (left_next nothing es i (drop (c.rows.index-index + 1) c.deref-index-items.result.now)
          (subst (AreLeft nothing es)
          (drop_more c.deref-index-items.result.now c.rows.index-index 0 c.rows-test.true) c.rows.invariant.left));
      spare = c.set.ensures.spare ∙ c.rows.invariant.spare;
    }

cleared : (g : Over) (c : After-clear g)
    → c.rows.self-inside.1.0.entries ≡ clear_amounts g.A.Amount.nothing c.self.inside.rows.entries
cleared g c =
    let nothing = g.A.Amount.nothing in
    none_left nothing c.rows.self-inside.1.0.entries
    (subst (AreLeft nothing c.rows.self-inside.1.0.entries)
    (drop_all c.rows.index-index c.deref-index-items.result.now c.rows-test.false) c.rows.invariant.left)
    ∙ c.rows.invariant.keys

pub invariant_of-self : goal.invariant_of-self
invariant_of-self g c =
    let fits = c.self.invariant.fits in
    let cap : c.self.inside.some.cap ≡ c.clear.new.self.cap = sym c.clear.ensures.capacity in
    subst (λ es. Knows g.A.Amount.is_some es c.clear.new.self.items c.clear.new.self.cap)
    (sym (cleared g (goal.at.invariant_of-self g c).After-clear))
    (subst
    (λ is. Knows g.A.Amount.is_some (clear_amounts g.A.Amount.nothing c.self.inside.rows.entries) is c.clear.new.self.cap)
    (sym c.clear.ensures.items)
    (knows_none g.A.Amount.is_some g.A.Amount.nothing g.met.A.Amount.nothing_is_none c.self.inside.rows.entries
    c.clear.new.self.cap (omega (arith, fits, cap))))

pub returns-clause-entries : goal.returns-clause-entries
returns-clause-entries g c =
    cleared g (goal.at.returns-clause-entries g c).After-clear
    ∙ ap (λ v. clear_amounts g.A.Amount.nothing v.entries) c.self.view_is
