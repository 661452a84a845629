use Rattle.std.proofs.Common.{◌≡◌, ℕ, ◌-◌, ◌∷◌, List, get_or, length, drop, sym, ◌∙◌, subst, arith}
use Rattle.std.proofs.lemmas.List.{drop_all}
use Rattle.sym_map.specs.declared.range.Span.{Span}
use Rattle.sym_map.specs.inner.Piles.{IsPileOf}
use Rattle.sym_map.proofs.Piles.{pile_next, taken}
use Rattle.sym_map.proofs.pile.pile_up.Goals as goal

pub spans-init : goal.spans-init
spans-init c =
    let spans : List Span = c.args.spans.now in
    record {
      within = omega arith;
      start = omega (arith, c.new-pile.ensures.start);
      is = rw (drop_all (length spans) spans (omega arith)) c.new-pile.ensures.pile;
    }

pub lay-requires : goal.lay-requires
lay-requires c = taken _ _ _ (sym c.takes.ensures ∙ c.if-not-takes.false)

pub spans-preserved : goal.spans-preserved
spans-preserved c =
    let spans : List Span = c.args.spans.now in
    let so = c.spans.invariant in
    let e : drop (c.spans.i - 1) spans ≡ get_or spans (c.spans.i - 1) _ ∷ drop c.spans.i spans =
    pile_next spans c.spans.i _ (omega arith) (omega (arith, so.within)) in
    record {
      within = omega (arith, so.within);
      start = omega (arith, so.start, c.in_ok-lay.ensures.end);
      is = rw e (c.in_ok-lay.ensures.pile (drop c.spans.i spans) so.is);
    }

pub returns : goal.returns
returns c =
    let end : c.spans.i ≡ 0 = omega arith in
    c.in_ok-into_ranges.ensures c.args.spans.now
    (subst (λ (n : ℕ). IsPileOf (drop n c.args.spans.now) c.spans.pile.settled.ranges.items c.spans.pile.settled.end
    c.spans.pile.stack.items) end c.spans.invariant.is)
