use Rattle.std.proofs.Common.{fold, map, reverse, take}
use Rattle.cg_format.specs.Marks.{Plain}
use Rattle.cg_format.specs.Standing.{WriterState}
use Rattle.addr_rows.specs.Texts.{after_row, all_rows, heading}
use Rattle.addr_rows.specs.inner.Refs.{listed, row_of}
use Rattle.addr_rows.proofs.writing.write_rows.Given as goal

abbrev pub invariant-refs : goal.invariant-refs
invariant-refs l =
    WriterState l.syms (fold (λ lines place. after_row l.head l.syms lines (row_of (all_rows (listed l.syms l.rows)) place))
    (reverse (map Plain (heading l.head l.sum))) (take l.place-index l.place-items))
    l.writer
