-- What is written, with the rows still to come, is the sequence but for its end.
use Rattle.std.proofs.Common.{◌≡◌, ◌-◌, ◌++◌, replicate}
use Rattle.prog_make.specs.Functions.{instruction_count}
use Rattle.prog_make.specs.inner.LineProgram.{first_row_bytes, next_row}
use Rattle.prog_make.proofs.line_program.push_sequence.Given as goal

abbrev pub invariant-rows : goal.invariant-rows
invariant-rows l = l.out ++ replicate (instruction_count l.function - l._row) next_row
    ≡ l.fn.out ++ (first_row_bytes l.function ++ replicate (instruction_count l.function - 1) next_row)
