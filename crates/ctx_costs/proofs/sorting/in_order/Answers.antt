use Rattle.std.proofs.Common.{◌≡◌, List, IsPermutation, ap, map, rules, subst}
use Rattle.std.specs.Ordering.{is_lt}
use Rattle.std.proofs.lemmas.Fn.{always_returns_same}
use Rattle.std.proofs.lemmas.List.MinMax.{ranks_by}
use Rattle.std.proofs.lemmas.List.Sorted.{IsPermutation-map}
use Rattle.arc_costs.specs.Contents.{Listed}
use Rattle.arc_costs.specs.Rows.{ArcRow, LineRow}
use Rattle.ctx_rows.specs.Rows.{arc_of, place_of}
use Rattle.ctx_rows.specs.Sums.{arc_order, place_order}
use Rattle.ctx_rows.proofs.OrderLemmas.{arc_total, place_total}
use Rattle.ctx_rows.specs.Telling.{named_arc, named_line}
use Rattle.ctx_costs.proofs.RowsLemmas.{sorted_map}
use Rattle.ctx_costs.proofs.sorting.in_order.Goals as goal

pub returns : goal.returns
returns c =
    let cs = c.args.contexts.now in
    let lines = c.sort_unstable_by.new.self.items in
    let arcs = c.sort_unstable_by-2.new.self.items in
    record {
      lines = subst (λ (xs : List LineRow). IsPermutation (map (named_line cs) xs) (map (named_line cs) lines))
          (ap (λ (l : Listed). l.lines) c.rows.view_is)
          (IsPermutation-map (named_line cs) c.rows.inside.lines.items lines c.sort_unstable_by.ensures.permutation);
      arcs = subst (λ (xs : List ArcRow). IsPermutation (map (named_arc cs) xs) (map (named_arc cs) arcs))
          (ap (λ (l : Listed). l.arcs) c.rows.view_is)
          (IsPermutation-map (named_arc cs) c.rows.inside.arcs.items arcs c.sort_unstable_by-2.ensures.permutation);
      lines_rise = sorted_map (named_line cs) (λ x y. is_lt (place_order (place_of x) (place_of y))) lines
          (c.sort_unstable_by.ensures.sorted
          (λ x y. is_lt (place_order (place_of (named_line cs x)) (place_of (named_line cs y))))
          (ranks_by place_total (λ x. place_of (named_line cs x)))
          (always_returns_same _ (λ a r. is_lt r
          ≡ is_lt (place_order (place_of (named_line cs a.0.now)) (place_of (named_line cs a.1.0.now)))) _
          (λ a r f' called. (search rules, search rules))));
      arcs_rise = sorted_map (named_arc cs) (λ x y. is_lt (arc_order (arc_of x) (arc_of y))) arcs
          (c.sort_unstable_by-2.ensures.sorted
          (λ x y. is_lt (arc_order (arc_of (named_arc cs x)) (arc_of (named_arc cs y))))
          (ranks_by arc_total (λ x. arc_of (named_arc cs x)))
          (always_returns_same _ (λ a r. is_lt r
          ≡ is_lt (arc_order (arc_of (named_arc cs a.0.now)) (arc_of (named_arc cs a.1.0.now)))) _
          (λ a r f' called. (search rules, search rules))));
    }
