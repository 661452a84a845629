use Rattle.std.proofs.Common.{rules, arith, append_assoc}
use Rattle.prog_make.specs.inner.LineSection.{unit_bytes}
use Rattle.prog_make.proofs.Lengths.{length-line_header, length-unit}
use Rattle.prog_make.proofs.line_section.push_unit.Goals as goal

pub overflow_add-len : goal.overflow_add-len
overflow_add-len c = let unit = length-unit c.args.file.now c.args.program.now in omega arith

pub overflow_cast-len : goal.overflow_cast-len
overflow_cast-len c = let unit = length-unit c.args.file.now c.args.program.now in omega arith

pub returns : goal.returns
unfolding unit_bytes
returns c = rw (length-line_header c.args.file.now) (search (rules, append_assoc))
