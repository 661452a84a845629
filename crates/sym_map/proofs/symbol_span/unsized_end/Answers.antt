use Rattle.sym_map.proofs.SymbolSpans.{covers_by_section, covers_by_next}
use Rattle.sym_map.proofs.symbol_span.unsized_end.Goals as goal

pub returns-in-Some : goal.returns-in-Some
returns-in-Some c = λ limits same is a.
    rw (c.min.ensures, c.from.ensures, c.section_end-end.ensures)
    (covers_by_next c.args.elf.now limits c.args.symbol.now a c.in-Some.next same c.requires.not_sized
    (rw c.in-Some.is at is))

pub returns-in-None : goal.returns-in-None
returns-in-None c = λ limits same is a.
    rw c.section_end-end.ensures
    (covers_by_section c.args.elf.now limits c.args.symbol.now a same c.requires.not_sized (rw c.in-None.is at is))
