use Rattle.std.proofs.Common.{◌≡◌, ◌-◌, max, sym, ◌∙◌, arith}
use Rattle.std.specs.Prelude.{is_some}
use Rattle.guest_mem.specs.inner.Table.{at_place}
use Rattle.guest_mem.proofs.Gaps.{gaps-next, gaps-still}
use Rattle.guest_mem.proofs.table.Table.look.Goals.{then-has, else-has}
use Rattle.guest_mem.proofs.table.Table.look.Goals as goal

pub places-preserved : goal.places-preserved
places-preserved c =
    let wider : c.max-wider.result ≡ max c.places.widest (c.places.place - c.places.past) = c.max-wider.ensures in
    elim c.if-has.branch [
      | then-has w ↦ record {
        order = omega (arith, w.past-is);
        wide = omega (arith, w.widest-is, wider, c.places.invariant.wide);
        none =
            gaps-next (λ q. is_some (at_place c.args.self.now.places.items q)) c.first-first.result c.places.place
            c.places.past c.places.widest c.if-has.past c.if-has.widest c.places.invariant.none c.places.invariant.order
            (sym c.has.ensures ∙ w.if-has.true) w.past-is (w.widest-is ∙ wider);
      }
      | else-has w ↦ record {
        order = omega (arith, w.past-is, c.places.invariant.order);
        wide = omega (arith, w.widest-is, c.places.invariant.wide);
        none =
            gaps-still (λ q. is_some (at_place c.args.self.now.places.items q)) c.first-first.result c.places.past
            c.places.widest c.if-has.past c.if-has.widest c.places.invariant.none w.past-is w.widest-is;
      }
    ]
