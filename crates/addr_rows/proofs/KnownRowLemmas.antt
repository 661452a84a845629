-- The functions and files of a thread's rows are those of the map.
use Rattle.std.proofs.Common.{List, flat_map, inl, inr, map, subst, sym}
use Rattle.std.specs.List.{AllByRecursion}
use Rattle.std.specs.Option.{option_to_list}
use Rattle.std.proofs.lemmas.List.Elements.{All-from_recursion, recursion_from_All}
use Rattle.event_costs.specs.Keys.{ArcKey}
use Rattle.sym_map.specs.SymbolMap.{IsFunc, IsSound, SymbolMap}
use Rattle.shadow_stack.specs.Changes.{change}
use Rattle.shadow_stack.specs.Stacks.{Activation, Stack}
use Rattle.shadow_stack.specs.Traces.{EventOnStack}
use Rattle.arc_costs.specs.Arcs.{is_some_arc}
use Rattle.event_costs.specs.Order.{arc_order}
use Rattle.arc_costs.specs.Rows.{ArcRow}
use Rattle.arc_costs.proofs.RiseLemmas as rise
use Rattle.recorder.specs.Laws.{IsIn}
use Rattle.recorder.specs.Rows.{arc_at, arcs, arcs_at, arcs_of, rows_of}
use Rattle.addr_rows.proofs.Others.{arc_only, arc_total, all_of, from_append, from_flat, from_map, in_filter, of_all}
use Rattle.addr_rows.proofs.Others.{IsReached}
use Rattle.recorder.proofs.KnownLemmas as plain
use Rattle.sym_map.specs.AddressMap.{address_map}
use Rattle.cg_format.specs.Part as part
use Rattle.arc_costs.specs.Contents.{Listed}
use Rattle.addr_rows.specs.EventRows.{addr_rows_of, located_rows, located_arc, located_line}
use Rattle.addr_rows.specs.Known.{AreKnown, IsKnownArc, IsKnownLine}
use Rattle.addr_rows.specs.declared.rows.AddrArc.{AddrArc}
use Rattle.addr_rows.specs.declared.rows.AddrLine.{AddrLine}
use Rattle.addr_rows.proofs.AddressMapLemmas.{address_knows, same_func}

module _ (m : SymbolMap) (sound : IsSound m) (xs : List EventOnStack)
    (reached : AllByRecursion (IsReached (address_map m)) xs) where
  abbrev n : SymbolMap
  n = address_map m

  abbrev IsKnownKey : ArcKey → Type 0
  IsKnownKey k = plain.IsKnownKey n (address_knows m sound) k

  in_frames : (s : Stack) → plain.AreKnownIn n (address_knows m sound) s → (k : ArcKey) → IsIn (arcs_of s) k
      → IsKnownKey k
  in_frames s all k there =
      let a = from_flat (λ (b : Activation). option_to_list b.arc) s k there in (all a.0 a.1).arc k a.2

  at_event : (x : EventOnStack) → IsReached n x → (k : ArcKey) → IsIn (arcs_at n x) k → IsKnownKey k
  at_event x is k there =
      let stack : plain.AreKnownIn n (address_knows m sound) x.stack
      = subst (plain.AreKnownIn n (address_knows m sound)) (sym is.is)
      (plain.stack_known n (address_knows m sound) is.events is.first) in
      let new = option_to_list (change n x.event x.stack).pushed in
      elim (from_append (arcs_of x.stack) (arcs_of new) k there) as (λ _. IsKnownKey k) [
        | inl old ↦ in_frames x.stack stack k old
        | inr comes ↦
            in_frames new (plain.pushed_known n (address_knows m sound) x.event x.stack stack) k comes
      ]

  key_known : (k : ArcKey) → IsIn (arcs n xs) k → IsKnownKey k
  key_known k there =
      let x = from_flat (arcs_at n) xs k
      (rise.risen_in arc_order arc_total arc_only (flat_map (arcs_at n) xs) k there) in
      at_event x.0 (of_all (IsReached n) xs reached x.0 x.1) k x.2

  -- an arc of the rows
  pub row_known : (r : ArcRow) → IsIn (rows_of n xs).arcs r → IsFunc m r.arc.caller × IsFunc m r.arc.callee
  unfolding rows_of
  row_known r there =
      let key = from_map (arc_at n xs) (arcs n xs) r
      (in_filter is_some_arc (map (arc_at n xs) (arcs n xs)) r there).0 in
      let is = key_known key.0 key.1 in
      subst (λ (q : ArcRow). IsFunc m q.arc.caller × IsFunc m q.arc.callee) key.2
      (same_func m key.0.caller is.caller, same_func m key.0.callee is.callee)

  line_known : (r : AddrLine) → IsIn (map (located_line m) (rows_of n xs).lines) r → IsKnownLine m r
  line_known r there =
      let q = from_map (located_line m) (rows_of n xs).lines r there in
      subst (IsKnownLine m) q.2
      (record { function = sound.place_functions q.0.place.line; file = sound.place_files q.0.place.line })

  arc_known : (r : AddrArc) → IsIn (map (located_arc m) (rows_of n xs).arcs) r → IsKnownArc m r
  arc_known r there =
      let q = from_map (located_arc m) (rows_of n xs).arcs r there in
      let is = row_known q.0 q.1 in
      subst (IsKnownArc m) q.2
      (record { caller = is.0; file = sound.place_files q.0.arc.line; callee = is.1 })

  pub rows_known : AreKnown m (addr_rows_of m xs)
  unfolding addr_rows_of
  rows_known = record {
    lines = All-from_recursion (IsKnownLine m) (map (located_line m) (rows_of n xs).lines)
        (all_of (IsKnownLine m) (map (located_line m) (rows_of n xs).lines) line_known);
    arcs = All-from_recursion (IsKnownArc m) (map (located_arc m) (rows_of n xs).arcs)
        (all_of (IsKnownArc m) (map (located_arc m) (rows_of n xs).arcs) arc_known);
  }

-- rows of a run over the map that tells code by its addresses
pub located_known : (m : SymbolMap) → IsSound m → (rows : Listed) → part.AreKnown (address_map m) rows
    → AreKnown m (located_rows m rows)
located_known m sound rows known = record {
  lines = All-from_recursion (IsKnownLine m) (map (located_line m) rows.lines)
      (all_of (IsKnownLine m) (map (located_line m) rows.lines) line);
  arcs = All-from_recursion (IsKnownArc m) (map (located_arc m) rows.arcs)
      (all_of (IsKnownArc m) (map (located_arc m) rows.arcs) arc);
}
  where
    line : (r : AddrLine) → IsIn (map (located_line m) rows.lines) r → IsKnownLine m r
    line r there =
        let q = from_map (located_line m) rows.lines r there in
        subst (IsKnownLine m) q.2
        (record { function = sound.place_functions q.0.place.line; file = sound.place_files q.0.place.line })

    arc : (r : AddrArc) → IsIn (map (located_arc m) rows.arcs) r → IsKnownArc m r
    arc r there =
        let q = from_map (located_arc m) rows.arcs r there in
        let is = of_all (part.IsKnownArc (address_map m)) rows.arcs
        (recursion_from_All (part.IsKnownArc (address_map m)) rows.arcs known.arcs) q.0 q.1 in
        subst (IsKnownArc m) q.2
        (record {
          caller = same_func m q.0.arc.caller is.caller;
          file = sound.place_files q.0.arc.line;
          callee = same_func m q.0.arc.callee is.callee;
        })
