use Rattle.std.proofs.Common.{All}
use Rattle.call_graph.specs.Groups.{IsWithin}
use Rattle.cases_reading.proofs.graphs.arcs_of.Given as goal

abbrev pub invariant-words : goal.invariant-words
invariant-words l = All (IsWithin l.functions) l.arcs.items
