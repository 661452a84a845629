use Rattle.std.proofs.Common.{◌+◌, ap, ◌∙◌, length, arith}
use Rattle.std.proofs.lemmas.Bool.{ne_eqb}
use Rattle.event_costs.specs.declared.numbers.ThreadNo.{ThreadNo}
use Rattle.guest_futex.specs.Waits.{times_waiting}
use Rattle.guest_futex.proofs.WaitLaws.{times_waiting-queued, one_or_none}
use Rattle.cases_machine.proofs.crowd.filled.Goals as goal

pub wait-requires-clause-apart : goal.wait-requires-clause-apart
wait-requires-clause-apart c =
    let thread : ThreadNo = record { 0 = c.arriving.arrived + 1 } in
    ap (times_waiting thread) c.reserve.ensures.same ∙ c.arriving.invariant.later thread (omega arith)

pub arriving-preserved : goal.arriving-preserved
arriving-preserved c = record {
  number = c.wait.ensures.number ∙ ap (λ ws. length ws + 1) c.reserve.ensures.same
      ∙ ap (λ n. n + 1) c.arriving.invariant.number;
  later = λ thread more.
      let arrived : ThreadNo = record { 0 = c.arriving.arrived + 1 } in
      omega (
        arith,
        ap (times_waiting thread) c.wait.ensures.queued,
        times_waiting-queued arrived thread c.if-apart.addr c.reserve.new.self.waits,
        ap (times_waiting thread) c.reserve.ensures.same,
        c.arriving.invariant.later thread (omega (arith, more)),
        ap one_or_none (ne_eqb (c.arriving.arrived + 1) thread.0 (λ same. omega (arith, more, same))),
      );
}
