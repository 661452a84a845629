use Rattle.std.proofs.Common.{◌≡◌, ◌<◌, length}
use Rattle.event_costs.specs.declared.numbers.ThreadNo.{ThreadNo}
use Rattle.guest_futex.specs.Waits.{times_waiting}
use Rattle.cases_machine.proofs.crowd.filled.Given as goal

-- so many threads wait, none with a higher number
abbrev pub invariant-arriving : goal.invariant-arriving
invariant-arriving l = record {
  number : length l.waiters.waits ≡ l.arrived;
  later : (thread : ThreadNo) → l.arrived < thread.0 → times_waiting thread l.waiters.waits ≡ 0;
}
