-- The spans of the functions so far.
use Rattle.std.proofs.Common.{◌≡◌, map, take}
use Rattle.prog_make.proofs.SpanLemmas.{function_span}
use Rattle.prog_make.proofs.conditions.are_functions_apart.Given as goal

abbrev pub invariant-functions : goal.invariant-functions
invariant-functions l = l.spans.items ≡ map function_span (take l.function-index l.functions)
