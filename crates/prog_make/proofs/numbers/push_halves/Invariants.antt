-- What is written, with the numbers still to come, is the whole.
use Rattle.std.proofs.Common.{◌≡◌, ◌++◌, drop}
use Rattle.prog_make.specs.Encoding.{halves_bytes}
use Rattle.prog_make.proofs.numbers.push_halves.Given as goal

abbrev pub invariant-halves : goal.invariant-halves
invariant-halves l = l.out ++ halves_bytes (drop l.half-index l.halves) ≡ l.fn.out ++ halves_bytes l.halves
