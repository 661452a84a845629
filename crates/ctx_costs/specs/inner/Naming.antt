-- Rows with contexts in place of their numbers, in the order of the contexts.
use Rattle.std.specs.Prelude.{List, map, IsPermutation}
use Rattle.std.specs.Ordering.{is_lt}
use Rattle.std.specs.List.Sorted.{IsSortedBy}
use Rattle.arc_costs.specs.Contents.{Listed}
use Rattle.contexts.specs.Contexts.{Context}
use Rattle.ctx_rows.specs.Telling.{named_arc, named_line}
use Rattle.ctx_rows.specs.Rows.{CtxListed, arc_of, place_of}
use Rattle.ctx_rows.specs.Sums.{arc_order, place_order}

pub record AreNamedRows (contexts : List Context) (rows : Listed) (named : CtxListed) : Type 0 where
  pub lines : IsPermutation (map (named_line contexts) rows.lines) named.lines
  pub arcs : IsPermutation (map (named_arc contexts) rows.arcs) named.arcs
  pub lines_rise : IsSortedBy (λ x y. is_lt (place_order (place_of x) (place_of y))) named.lines
  pub arcs_rise : IsSortedBy (λ x y. is_lt (arc_order (arc_of x) (arc_of y))) named.arcs
