use Rattle.std.proofs.Common.{fold, map, reverse, take}
use Rattle.cg_format.specs.Heading.{heading}
use Rattle.cg_format.specs.Marks.{Plain}
use Rattle.cg_format.specs.Part.{after_row}
use Rattle.cg_format.specs.Standing.{WriterState}
use Rattle.cg_format.proofs.part.write_named.Given as goal

abbrev pub invariant-rows : goal.invariant-rows
invariant-rows g l =
    WriterState (g.N.Naming.map l.names)
    (fold (after_row l.head (g.N.Naming.map l.names)) (reverse (map Plain (heading l.head l.sum)))
    (take l.row-index l.row-items))
    l.writer
