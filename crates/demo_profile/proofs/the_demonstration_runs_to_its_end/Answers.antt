use Rattle.std.proofs.Common.{◌+◌, ◌*◌, [], length, sym, ap, ◌∙◌, subst, inl, inr, arith}
use Rattle.event_costs.proofs.RunLemmas.{IsTrace-same}
use Rattle.elf_read.specs.Image.{Image}
use Rattle.guest_load.specs.First.{guest_at_start}
use Rattle.guest_sched.specs.Machine.{new_machine}
use Rattle.demo_run.proofs.ExitLemmas.{Ends, ends}
use Rattle.profile_run.specs.Steps.{first_machine}
use Rattle.profile_run.specs.Trace.{next_step, start}
use Rattle.demo_profile.proofs.EndLemmas.{left}
use Rattle.demo_profile.proofs.the_demonstration_runs_to_its_end.Goals as goal

pub returns : goal.returns
returns c = λ size file guest trace stop some most is same short given.
    let machine : Ends (first_machine guest) 0 (3788 * size + 65)
    = subst (λ (image : Image). Ends
    (new_machine (guest_at_start image guest.args guest.input) guest.options.quantum guest.options.seed) 0
    (3788 * size + 65)) (sym same)
    (ends size guest.options.quantum guest.options.seed file guest.input guest.args some most is short) in
    let long = machine.long in
    record {
      waits = machine.waits;
      few = machine.few;
      ends = λ enough.
          let all = left guest machine.trace (first_machine guest) machine.is.last [] machine.is.run machine.exits
          (omega arith) in
          let one = IsTrace-same (next_step guest) (start guest) trace all.trace stop all.stop given all.is in
          elim all.ends_so [
            | inl exits ↦ inl (one.1 ∙ exits.0, ap length one.0 ∙ exits.1 ∙ omega arith)
            | inr nests ↦ inr (one.1 ∙ nests)
          ];
    }
