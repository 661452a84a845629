-- The order of functions.
use Rattle.std.specs.Ordering.{nat_cmp, ordering_then}
use Rattle.std.specs.Cmp.Lexicographic.{slice_cmp}
use Rattle.std.specs.declared.cmp.Ordering.{Ordering}
use Rattle.sym_map.specs.declared.function.Function.{Function}

-- by the file, and then by the name
abbrev pub by_function : Function → Function → Ordering
by_function x y = ordering_then (nat_cmp x.home.0 y.home.0) (slice_cmp nat_cmp x.name y.name)
