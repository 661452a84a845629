use Rattle.std.proofs.Common.{[]}
use Rattle.sym_map.proofs.RowPiles.{lined_one}
use Rattle.sym_map.proofs.row_pile.Numbered.one.Goals as goal

pub returns : goal.returns
returns c =
    rw (lined_one c.args.self.now.ids.now c.args.self.now.rows.now.rows c.args.self.now.rows.now.sequences c.args.number
    c.sequence.result c.sequence.ensures.value)
    (c.into_ranges.ensures _ (c.in_ok-lay.ensures.pile [] c.new-pile.ensures.pile))
