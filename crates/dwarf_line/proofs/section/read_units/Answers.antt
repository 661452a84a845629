use Rattle.std.proofs.Common.{◌∙◌}
use Rattle.dwarf_line.proofs.Reading.{is_read}
use Rattle.dwarf_line.proofs.section.read_units.Goals as goal

pub from_builder-requires : goal.from_builder-requires
from_builder-requires c = (is_read _ _ _ _ c.units.invariant c.in_default.ensures.read).table

pub returns-clause-sequences : goal.returns-clause-sequences
returns-clause-sequences c =
    let read = is_read _ _ _ _ c.units.invariant c.in_default.ensures.read in
    c.from_builder.ensures.sequences ∙ read.lines

pub returns-clause-units : goal.returns-clause-units
returns-clause-units c =
    let read = is_read _ _ _ _ c.units.invariant c.in_default.ensures.read in
    c.from_builder.ensures.units ∙ read.count
