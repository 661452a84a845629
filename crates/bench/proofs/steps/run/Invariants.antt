use Rattle.std.proofs.Common.{◌≡◌, ◌%◌}
use Rattle.std.specs.Prelude.{slice_index}
use Rattle.bench.proofs.steps.run.Given as goal

abbrev pub invariant-steps : goal.invariant-steps
invariant-steps l = record { aligned : l.regs.pc % 4 ≡ 0; zero : slice_index l.regs.x 0 ≡ 0 }
