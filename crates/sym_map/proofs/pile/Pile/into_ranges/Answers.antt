use Rattle.sym_map.proofs.Piles.{cut_of_pile}
use Rattle.sym_map.proofs.pile.Pile.into_ranges.Goals as goal

pub returns : goal.returns
returns c = λ spans so.
    cut_of_pile spans _ _ (rw c.in_ok-settle.ensures.end at (c.in_ok-settle.ensures.pile spans so))
