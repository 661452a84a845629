-- What is written, with the sequences still to come, is the whole.
use Rattle.std.proofs.Common.{◌≡◌, ◌++◌, drop}
use Rattle.prog_make.specs.inner.LineProgram.{program_bytes}
use Rattle.prog_make.proofs.line_program.push_program.Given as goal

abbrev pub invariant-functions : goal.invariant-functions
invariant-functions l = l.out ++ program_bytes (drop l.function-index l.functions)
    ≡ l.fn.out ++ program_bytes l.functions
