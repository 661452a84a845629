-- The laws of the orders of places and arcs.
use Rattle.std.specs.Prelude.{◌≡◌, ◌==◌, ◌&&◌, ℕ, Bool, Some}
use Rattle.std.specs.Cmp.{IsEquivalence, IsPartialOrder, IsTotalOrder, nat_cmp_total, nat_eq_equiv}
use Rattle.std.specs.Cmp.{and_equiv, both_tied, on_equiv, on_total, po, then_total, unsigned_ties}
use Rattle.std.specs.Ordering.{eq_by_cmp, is_eq, nat_cmp, ordering_then}
use Rattle.std.specs.declared.cmp.Ordering.{Ordering}
use Rattle.event_costs.specs.Keys.{ArcKey, Place}
use Rattle.event_costs.specs.Order.{arc_order, place_order, same_arc, same_place}

pub place_equiv : IsEquivalence same_place
place_equiv =
    and_equiv (on_equiv (λ (p : Place). p.func.0) nat_eq_equiv)
    (and_equiv (on_equiv (λ (p : Place). p.file.0) nat_eq_equiv) (on_equiv (λ (p : Place). p.line) nat_eq_equiv))

pub place_total : IsTotalOrder place_order
place_total =
    then_total (on_total (λ (p : Place). p.func.0) nat_cmp_total)
    (then_total (on_total (λ (p : Place). p.file.0) nat_cmp_total) (on_total (λ (p : Place). p.line) nat_cmp_total))

pub place_ties : (x y : Place) → same_place x y ≡ eq_by_cmp place_order x y
place_ties x y =
    both_tied (x.func.0 == y.func.0) (x.file.0 == y.file.0 && x.line == y.line) (nat_cmp x.func.0 y.func.0)
    (ordering_then (nat_cmp x.file.0 y.file.0) (nat_cmp x.line y.line)) (unsigned_ties x.func.0 y.func.0)
    (both_tied (x.file.0 == y.file.0) (x.line == y.line) (nat_cmp x.file.0 y.file.0) (nat_cmp x.line y.line)
    (unsigned_ties x.file.0 y.file.0) (unsigned_ties x.line y.line))

pub place_partial : IsPartialOrder same_place (λ x y. Some (place_order x y))
place_partial = po place_total place_ties

abbrev same_call : ArcKey → ArcKey → Bool
same_call x y = x.line == y.line && x.callee.0 == y.callee.0

abbrev call_order : ArcKey → ArcKey → Ordering
call_order x y = ordering_then (nat_cmp x.line y.line) (nat_cmp x.callee.0 y.callee.0)

pub arc_equiv : IsEquivalence same_arc
arc_equiv =
    and_equiv (on_equiv (λ (a : ArcKey). a.caller.0) nat_eq_equiv)
    (and_equiv (on_equiv (λ (a : ArcKey). a.file.0) nat_eq_equiv)
    (and_equiv (on_equiv (λ (a : ArcKey). a.line) nat_eq_equiv)
    (on_equiv (λ (a : ArcKey). a.callee.0) nat_eq_equiv)))

pub arc_total : IsTotalOrder arc_order
arc_total =
    then_total (on_total (λ (a : ArcKey). a.caller.0) nat_cmp_total)
    (then_total (on_total (λ (a : ArcKey). a.file.0) nat_cmp_total)
    (then_total (on_total (λ (a : ArcKey). a.line) nat_cmp_total)
    (on_total (λ (a : ArcKey). a.callee.0) nat_cmp_total)))

pub arc_ties : (x y : ArcKey) → same_arc x y ≡ eq_by_cmp arc_order x y
arc_ties x y =
    both_tied (x.caller.0 == y.caller.0) (x.file.0 == y.file.0 && same_call x y) (nat_cmp x.caller.0 y.caller.0)
    (ordering_then (nat_cmp x.file.0 y.file.0) (call_order x y)) (unsigned_ties x.caller.0 y.caller.0)
    (both_tied (x.file.0 == y.file.0) (same_call x y) (nat_cmp x.file.0 y.file.0) (call_order x y)
    (unsigned_ties x.file.0 y.file.0)
    (both_tied (x.line == y.line) (x.callee.0 == y.callee.0) (nat_cmp x.line y.line) (nat_cmp x.callee.0 y.callee.0)
    (unsigned_ties x.line y.line) (unsigned_ties x.callee.0 y.callee.0)))

pub arc_partial : IsPartialOrder same_arc (λ x y. Some (arc_order x y))
arc_partial = po arc_total arc_ties
