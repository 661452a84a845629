use Rattle.std.proofs.Common.{◌<◌}
use Rattle.std.specs.Prelude.{All}
use Rattle.std.specs.List.Sorted.{IsStrictlyIncreasing}
use Rattle.event_costs.specs.FuncSet.{numbers}
use Rattle.event_costs.specs.declared.numbers.FuncId.{FuncId}
use Rattle.sym_map.proofs.NamedFunctions.{AreNamed}
use Rattle.sym_map.proofs.function.named_among.Given as goal

abbrev pub invariant-functions : goal.invariant-functions
invariant-functions l = record {
  rise : IsStrictlyIncreasing (numbers l.found.items);
  below : All (λ (func : FuncId). func.0 < l.number) l.found.items;
  each : AreNamed l.functions l.name l.number l.found.items;
}
