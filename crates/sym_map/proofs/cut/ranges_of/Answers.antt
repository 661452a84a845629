use Rattle.std.proofs.Common.{◌∷◌, [], arith}
use Rattle.sym_map.proofs.cut.ranges_of.Goals as goal

pub into_ranges-requires : goal.into_ranges-requires
into_ranges-requires c = c.in_ok-lay.ensures.within (omega (arith, c.new-pile.ensures.start))

pub returns : goal.returns
returns c = c.into_ranges.ensures (c.args.span.now ∷ []) (c.in_ok-lay.ensures.pile [] c.new-pile.ensures.pile)
