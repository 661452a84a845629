use Rattle.std.proofs.Common.{◌≡◌, arith}
use Rattle.sym_map.proofs.Piles.{laid}
use Rattle.sym_map.proofs.pile.Pile.lay.Goals as goal

pub returns-clause-pile : goal.returns-clause-pile
returns-clause-pile c = λ spans so.
    let e : c.settle.new.self.settled.end ≡ c.args.span.now.start = omega (arith, c.in_ok-settle.ensures.end) in
    rw e (laid spans _ _ _ c.args.span.now (rw e at (c.in_ok-settle.ensures.pile spans so))
    c.in_ok-push_on_top.ensures)
