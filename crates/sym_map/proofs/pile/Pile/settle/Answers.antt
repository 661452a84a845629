use Rattle.std.proofs.Common.{◌≡◌, [], sym, ◌∙◌, arith}
use Rattle.std.proofs.lemmas.List.{nil_from_length}
use Rattle.sym_map.proofs.Piles.{seen_on_top, settled_further, settled_behind}
use Rattle.sym_map.proofs.pile.Pile.settle.Goals as goal

pub returns-then-top-end-clause-pile : goal.returns-then-top-end-clause-pile
returns-then-top-end-clause-pile c = λ spans so.
    let pile = rw c.in-Some.ensures.items at (c.stack.invariant.pile spans so) in
    rw c.in_ok-push.ensures.items
    (settled_further spans _ _ _ _ _ pile (omega (arith, c.in_ok-extend.ensures.end))
    (c.in_ok-extend.ensures.settled spans pile.settled
    (λ a le lt. seen_on_top spans _ _ _ _ a pile le (omega arith) ∙ sym c.cover.ensures)))

pub stack-preserved : goal.stack-preserved
stack-preserved c = record {
  start = omega (arith, c.in_ok-extend-2.ensures.end, c.stack.invariant.start);
  pile = λ spans so.
      let pile = rw c.in-Some.ensures.items at (c.stack.invariant.pile spans so) in
      settled_behind spans _ _ _ _ _ _ pile (omega (arith, c.in_ok-extend-2.ensures.end))
      (omega (arith, c.in_ok-extend-2.ensures.end))
      (c.in_ok-extend-2.ensures.settled spans pile.settled
      (λ a le lt. seen_on_top spans _ _ _ _ a pile le lt ∙ sym c.cover-in-Some.ensures));
}

pub returns-clause-pile : goal.returns-clause-pile
returns-clause-pile c = λ spans so.
    let pile = c.stack.invariant.pile spans so in
    let cases = c.in_default.ensures.cases in
    let old : c.stack.self.stack.items ≡ [] = nil_from_length _ (omega (arith, cases.0, c.stack.self.stack.ok.0)) in
    let new : c.pop.new.self.items ≡ [] = nil_from_length _ (omega (arith, cases.1, c.pop.new.self.ok.0)) in
    let empty = rw old at pile in
    rw new
    (settled_further spans _ _ _ _ _ empty (omega (arith, c.in_ok-extend-3.ensures.end))
    (c.in_ok-extend-3.ensures.settled spans pile.settled (λ a le lt. empty.ahead a le)))
