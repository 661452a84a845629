use Rattle.std.proofs.Common.{◌≡◌, ◌<◌, Some, sym, ◌∙◌, length, arith}
use Rattle.dwarf_line.specs.Registers.{outcome_of}
use Rattle.dwarf_line.proofs.Runs.{begins, goes_on}
use Rattle.dwarf_line.proofs.program.run.Goals as goal

pub program-init : goal.program-init
program-init c = rw (c.start-state.ensures, c.new-cursor.ensures) (begins _ _ _ _ _ c.requires)

pub program-preserved : goal.program-preserved
program-preserved c =
    let found : c.read.result ≡ Some c.in_ok-instruction.instruction = c.in_ok-instruction.ensures.ok_part in
    let read = rw found at c.read.ensures.read in
    let shorter = rw found at c.read.ensures.shrinks in
    let some : 0 < length c.program.cursor = omega (arith, shorter) in
    let is : outcome_of c.args.header.now c.program.state c.in_ok-instruction.instruction
    ≡ Some c.in_ok-outcome.outcome = sym c.after.ensures ∙ c.in_ok-outcome.ensures.ok_part in
    rw c.in_ok-state.ensures.ok.0 (goes_on _ _ _ _ _ _ _ _ _ _ _ _ c.program.invariant some shorter read is
    c.in_ok-state.ensures.ok.1)
