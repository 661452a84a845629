use Rattle.std.proofs.Common.{◌≡◌, ◌+◌, length, rules, arith, append_assoc}
use Rattle.prog_make.specs.inner.LineProgram.{program_bytes}
use Rattle.prog_make.specs.inner.LineSection.{unit_bytes}
use Rattle.prog_make.proofs.Lengths.{length-unit}
use Rattle.prog_make.proofs.line_section.line_section.Goals as goal

pub overflow_add-unit_len-2 : goal.overflow_add-unit_len-2
overflow_add-unit_len-2 c = let unit = length-unit c.args.file.now (program_bytes c.args.functions.now) in omega arith

pub overflow_add-unit_len-3 : goal.overflow_add-unit_len-3
overflow_add-unit_len-3 c =
    let unit = length-unit c.args.file.now (program_bytes c.args.functions.now) in
    let program : c.len-2.result ≡ length (program_bytes c.args.functions.now) = search rules in
    omega arith

pub overflow_cast-unit_len : goal.overflow_cast-unit_len
overflow_cast-unit_len c =
    let unit = length-unit c.args.file.now (program_bytes c.args.functions.now) in
    let program : c.len-2.result ≡ length (program_bytes c.args.functions.now) = search rules in
    omega arith

pub returns : goal.returns
returns c =
    let unit = length-unit c.args.file.now (program_bytes c.args.functions.now) in
    let program : c.len-2.result ≡ length (program_bytes c.args.functions.now) = search rules in
    let len : 36 + c.len.result + c.len-2.result
    ≡ length (unit_bytes c.args.file.now (program_bytes c.args.functions.now)) = omega arith in
    rw (← len) (search (rules, append_assoc))
