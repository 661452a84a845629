use Rattle.std.proofs.Common.{◌<◌, ◌^◌}
use Rattle.event_costs.proofs.OneLemmas.{AreLast}
use Rattle.event_costs.proofs.ones.bits_of.Given as goal

abbrev pub invariant-kinds : goal.invariant-kinds
invariant-kinds l = record {
  few : l.bits < 2 ^ l.i;
  last : AreLast l.kinds l.i l.bits;
}
