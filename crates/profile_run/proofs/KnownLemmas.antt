-- The functions and files of rows are those of their map.
use Rattle.std.proofs.Common.{List, map, filter, flat_map, subst, inl, inr}
use Rattle.std.specs.Option.{option_to_list}
use Rattle.std.proofs.lemmas.List.Elements.{All-from_recursion}
use Rattle.event_costs.specs.Keys.{ArcKey, Place}
use Rattle.arc_costs.specs.Arcs.{is_some_arc}
use Rattle.arc_costs.specs.Lines.{is_some_line}
use Rattle.arc_costs.specs.Rows.{ArcRow, LineRow}
use Rattle.arc_costs.proofs.RiseLemmas as rise
use Rattle.event_costs.specs.Order.{arc_order, place_order}
use Rattle.sym_map.specs.SymbolMap.{SymbolMap, place_of}
use Rattle.shadow_stack.specs.Changes.{change}
use Rattle.shadow_stack.specs.Stacks.{Activation}
use Rattle.shadow_stack.specs.Traces.{EventOnStack}
use Rattle.cg_format.specs.Part.{AreKnown, IsKnownArc, IsKnownLine}
use Rattle.recorder.specs.Laws.{IsIn}
use Rattle.recorder.specs.Rows.{arc_at, arcs, arcs_at, arcs_of, line_at, places, rows_of}
use Rattle.recorder.specs.inner.Known.{KnowsPlaces}
use Rattle.profile_run.proofs.Others.{arc_only, arc_total, AreKnownIn, IsKnownKey, pushed_known, all_of, from_append}
use Rattle.profile_run.proofs.Others.{from_flat, from_map, in_filter}
use Rattle.recorder.proofs.LineLemmas.{place_only, place_total}

module _ (syms : SymbolMap) (knows : KnowsPlaces syms) (xs : List EventOnStack)
    (stacks : (x : EventOnStack) → IsIn xs x → AreKnownIn syms knows x.stack) where
  line_known : (r : LineRow) → IsIn (filter is_some_line (map (line_at syms xs) (places syms xs))) r
      → IsKnownLine syms r
  line_known r there =
      let row = in_filter is_some_line (map (line_at syms xs) (places syms xs)) r there in
      let place = from_map (line_at syms xs) (places syms xs) r row.0 in
      let event =
      from_map (λ (x : EventOnStack). place_of syms x.event.done.pc) xs place.0
      (rise.risen_in place_order place_total place_only (map (λ (x : EventOnStack). place_of syms x.event.done.pc) xs)
      place.0 place.1) in
      let P : Place → Type 0 = λ p. IsKnownLine syms (line_at syms xs p) in
      let known : P (place_of syms event.0.event.done.pc) =
      record { function = (knows event.0.event.done.pc).0; file = (knows event.0.event.done.pc).1 } in
      subst (IsKnownLine syms) place.2 (subst P event.2 known)

  key_known : (k : ArcKey) → IsIn (arcs syms xs) k → IsKnownKey syms knows k
  key_known k there =
      let event =
      from_flat (arcs_at syms) xs k
      (rise.risen_in arc_order arc_total arc_only (flat_map (arcs_at syms) xs) k there) in
      let x = event.0 in
      elim (from_append (arcs_of x.stack) (arcs_of (option_to_list (change syms x.event x.stack).pushed)) k event.2)
      as (λ _. IsKnownKey syms knows k) [
        | inl before ↦
            (let a = from_flat (λ (f : Activation). option_to_list f.arc) x.stack k before in
            (stacks x event.1 a.0 a.1).arc k a.2)
        | inr pushed ↦
            (let a =
            from_flat (λ (f : Activation). option_to_list f.arc)
            (option_to_list (change syms x.event x.stack).pushed) k pushed in
            (pushed_known syms knows x.event x.stack (stacks x event.1) a.0 a.1).arc k a.2)
      ]

  arc_known : (r : ArcRow) → IsIn (filter is_some_arc (map (arc_at syms xs) (arcs syms xs))) r → IsKnownArc syms r
  arc_known r there =
      let row = in_filter is_some_arc (map (arc_at syms xs) (arcs syms xs)) r there in
      let key = from_map (arc_at syms xs) (arcs syms xs) r row.0 in
      let is = key_known key.0 key.1 in
      subst (IsKnownArc syms) key.2 (record { caller = is.caller; file = is.file; callee = is.callee })

  pub rows_known : AreKnown syms (rows_of syms xs)
  unfolding rows_of
  rows_known = record {
    lines = All-from_recursion (IsKnownLine syms) (filter is_some_line (map (line_at syms xs) (places syms xs)))
        (all_of (IsKnownLine syms) (filter is_some_line (map (line_at syms xs) (places syms xs))) line_known);
    arcs = All-from_recursion (IsKnownArc syms) (filter is_some_arc (map (arc_at syms xs) (arcs syms xs)))
        (all_of (IsKnownArc syms) (filter is_some_arc (map (arc_at syms xs) (arcs syms xs))) arc_known);
  }
