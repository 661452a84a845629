-- The functions and files of rows by context are those of the map.
use Rattle.std.proofs.Common.{◌≡◌, inl, inr, ℕ, zero, suc, ◌+◌, ◌<◌, List, [], ◌∷◌, Option, None, Some, IfSome}
use Rattle.std.proofs.Common.{filter, flat_map, length, map, take, refl, sym, subst, arith}
use Rattle.std.specs.List.{AllByRecursion}
use Rattle.std.specs.Option.{option_map, option_to_list}
use Rattle.std.proofs.lemmas.List.Elements.{All-from_recursion}
use Rattle.event_costs.specs.declared.event.Event.{Event}
use Rattle.event_costs.specs.Keys.{ArcKey}
use Rattle.sym_map.specs.SymbolMap.{IsFile, IsSound, SymbolMap}
use Rattle.shadow_stack.specs.Changes.{change, with_pushed}
use Rattle.shadow_stack.specs.Stacks.{Activation, Stack, top_of}
use Rattle.shadow_stack.specs.Traces.{EventOnStack}
use Rattle.ctx_rows.proofs.Others.{change-end, rooted-some, in_right, of_all, all_of, from_append}
use Rattle.ctx_rows.proofs.Others.{from_flat, in_filter, from_map}
use Rattle.recorder.specs.Laws.{IsIn}
use Rattle.arc_costs.specs.Keys.{risen}
use Rattle.recorder.specs.inner.Known.{KnowsPlaces}
use Rattle.recorder.proofs.KnownLemmas as plain
use Rattle.arc_costs.proofs.RiseLemmas as rise
use Rattle.contexts.specs.Contexts.{context}
use Rattle.ctx_rows.specs.Known.{AreKnown, IsKnownArc, IsKnownContext, IsKnownLine}
use Rattle.ctx_rows.specs.Rows.{arc_with, arcs_at, ctx_rows_of, is_some_arc, is_some_line, line_with}
use Rattle.ctx_rows.specs.Sums.{CtxArcKey, CtxPlace, arc_calls, arc_cost, arc_order, counts_at, ctx_arc, ctx_arc_of}
use Rattle.ctx_rows.specs.Sums.{ctx_arcs, place_order, pushed_arc, self_cost}
use Rattle.ctx_rows.specs.declared.rows.CtxArc.{CtxArc}
use Rattle.ctx_rows.specs.declared.rows.CtxLine.{CtxLine}
use Rattle.ctx_rows.proofs.OrderLemmas as ties
use Rattle.ctx_rows.specs.Since.{AreEntered, StandsOn}
use Rattle.ctx_rows.proofs.HoldsLemmas.{IsReached}
use Rattle.ctx_rows.proofs.StackLemmas.{entered_after}

some_taken : (n x : ℕ) (xs : List ℕ) → 0 < length (take (n + 1) (x ∷ xs))
some_taken n x xs =
    let more : suc n ≡ n + 1 = omega arith in subst (λ m. 0 < length (take m (x ∷ xs))) more (omega arith)

module _ (syms : SymbolMap) (sound : IsSound syms) (callers : ℕ) where
  knows : KnowsPlaces syms
  knows address = (sound.place_functions address, sound.place_files address)

  abbrev AreKnownIn : Stack → Type 0
  AreKnownIn s = plain.AreKnownIn syms knows s

  functions_known : (n : ℕ) (s : Stack) → AreKnownIn s
      → AllByRecursion (λ f. f < length syms.functions) (take n (map (λ (a : Activation). a.func.0) s))
  functions_known zero s all = tt
  functions_known (suc n) [] all = tt
  functions_known (suc n) (a ∷ s) all = ((all a (inl refl)).func, functions_known n s (λ b there. all b (inr there)))

  context_known : (s : Stack) → 0 < length s → AreKnownIn s → IsKnownContext syms (context callers s)
  context_known [] some all = absurd (omega (arith, some))
  context_known (a ∷ s) some all = (
    some_taken callers a.func.0 (map (λ (b : Activation). b.func.0) s),
    All-from_recursion (λ f. f < length syms.functions) (context callers (a ∷ s))
        (functions_known (callers + 1) (a ∷ s) all),
  )

  record IsKnownKey (k : CtxArcKey) : Type 0 where
    caller : IsKnownContext syms k.caller
    file : IsFile syms k.file
    callee : IsKnownContext syms k.callee

  some_top : (s : Stack) (k : ArcKey) → top_of s ≡ Some k.caller → 0 < length s
  some_top [] k is = absurd (cc)
  some_top (b ∷ s) k is = omega arith

  arc_known : (a : Activation) (s : Stack) → AreKnownIn (a ∷ s)
      → IfSome a.arc (λ arc. (arc.callee ≡ a.func) × (top_of s ≡ Some arc.caller)) → (k : CtxArcKey)
      → IsIn (option_to_list (ctx_arc callers a s)) k → IsKnownKey k
  arc_known a s all from k there = by a.arc (λ arc inside. ((all a (inl refl)).arc arc inside).file) from there
    where
      by : (o : Option ArcKey) → ((arc : ArcKey) → IsIn (option_to_list o) arc → IsFile syms arc.file)
          → IfSome o (λ arc. (arc.callee ≡ a.func) × (top_of s ≡ Some arc.caller))
          → IsIn (option_to_list (option_map (λ (arc : ArcKey). record {
            caller = context callers s;
            file = arc.file;
            line = arc.line;
            callee = context callers (a ∷ s);
          }) o)) k → IsKnownKey k
      by None files from_ there_ = elim there_ [ ]
      by (Some arc) files from_ (inl is) =
          subst IsKnownKey is
          (record {
            caller = context_known s (some_top s arc from_.1) (λ b inside. all b (inr inside));
            file = files arc (inl refl);
            callee = context_known (a ∷ s) (omega arith) all;
          })
      by (Some arc) files from_ (inr none) = elim none [ ]

  arcs_known : (s : Stack) → AreKnownIn s → AreEntered s → (k : CtxArcKey)
      → IsIn (flat_map option_to_list (ctx_arcs callers s)) k → IsKnownKey k
  arcs_known [] all entered_ k there = elim there [ ]
  arcs_known (a ∷ s) all entered_ k there =
      elim (from_append (option_to_list (ctx_arc callers a s))
      (flat_map option_to_list (ctx_arcs callers s)) k there)
      as (λ _. IsKnownKey k) [
        | inl here ↦ arc_known a s all entered_.0 k here
        | inr later ↦ arcs_known s (λ b inside. all b (inr inside)) entered_.2 k later
      ]

  pushed_arc_known : (e : Event) (s : Stack) → AreKnownIn s → AreEntered s → (k : CtxArcKey)
      → IsIn (option_to_list (pushed_arc callers (change syms e s))) k → IsKnownKey k
  pushed_arc_known e s all entered k there =
      by (change syms e s).pushed (plain.pushed_known syms knows e s all) (entered_after syms e s entered) there
    where
      by : (p : Option Activation) → ((a : Activation) → IsIn (option_to_list p) a → plain.IsKnown syms knows a)
          → AreEntered (with_pushed p (change syms e s).rest)
          → IsIn (option_to_list (ctx_arc_of callers p (change syms e s).rest)) k → IsKnownKey k
      by None known on inside = elim inside [ ]
      by (Some a) known on inside =
          arc_known a (change syms e s).rest
          (λ b in_all. elim in_all as (λ _. plain.IsKnown syms knows b) [
            | inl is ↦ known b (inl is)
            | inr later ↦
                all b
                (subst (λ u. IsIn u b) (sym (change-end syms e s).whole)
                (in_right (change-end syms e s).front (change syms e s).rest b later))
          ]) on.0 k inside

  module _ (xs : List EventOnStack) (stand : AllByRecursion (StandsOn syms) xs)
      (reached : AllByRecursion (IsReached syms) xs) where
    stack_known : (x : EventOnStack) → IsIn xs x → AreKnownIn x.stack
    stack_known x there =
        let r = of_all (IsReached syms) xs reached x there in
        subst AreKnownIn (sym r.is) (plain.stack_known syms knows r.events r.first)

    abbrev line_list : List CtxLine
    line_list =
        filter is_some_line
        (map (line_with (λ kind p. self_cost callers syms kind p xs))
        (risen place_order (map (counts_at callers syms) xs)))

    abbrev arc_list : List CtxArc
    arc_list =
        filter is_some_arc
        (map (arc_with (λ k. arc_calls callers syms k xs) (λ kind k. arc_cost callers kind k xs))
        (risen arc_order (flat_map (arcs_at callers syms) xs)))

    line_known : (r : CtxLine) → IsIn line_list r → IsKnownLine syms r
    line_known r there =
        let from =
        from_map (line_with (λ kind p. self_cost callers syms kind p xs))
        (risen place_order (map (counts_at callers syms) xs)) r
        (in_filter is_some_line
        (map (line_with (λ kind p. self_cost callers syms kind p xs))
        (risen place_order (map (counts_at callers syms) xs)))
        r there).0 in
        let x =
        from_map (counts_at callers syms) xs from.0
        (rise.risen_in place_order ties.place_total ties.place_only (map (counts_at callers syms) xs) from.0 from.1) in
        let on = of_all (StandsOn syms) xs stand x.0 x.1 in
        subst (IsKnownLine syms) from.2
        (subst (λ (p : CtxPlace). IsKnownLine syms (line_with (λ kind q. self_cost callers syms kind q xs) p)) x.2
        (record {
          ctx = context_known x.0.stack (rooted-some x.0.stack on.rooted) (stack_known x.0 x.1);
          file = (knows x.0.event.done.pc).1;
        }))

    arc_row_known : (r : CtxArc) → IsIn arc_list r → IsKnownArc syms r
    arc_row_known r there =
        let from =
        from_map (arc_with (λ k. arc_calls callers syms k xs) (λ kind k. arc_cost callers kind k xs))
        (risen arc_order (flat_map (arcs_at callers syms) xs)) r
        (in_filter is_some_arc
        (map (arc_with (λ k. arc_calls callers syms k xs) (λ kind k. arc_cost callers kind k xs))
        (risen arc_order (flat_map (arcs_at callers syms) xs))) r there).0 in
        let x =
        from_flat (arcs_at callers syms) xs from.0
        (rise.risen_in arc_order ties.arc_total ties.arc_only (flat_map (arcs_at callers syms) xs) from.0 from.1) in
        let on = of_all (StandsOn syms) xs stand x.0 x.1 in
        let key : IsKnownKey from.0
        = elim (from_append (flat_map option_to_list (ctx_arcs callers x.0.stack))
        (option_to_list (pushed_arc callers (change syms x.0.event x.0.stack))) from.0 x.2) as
        (λ _. IsKnownKey from.0) [
          | inl under ↦ arcs_known x.0.stack (stack_known x.0 x.1) on.entered from.0 under
          | inr comes ↦ pushed_arc_known x.0.event x.0.stack (stack_known x.0 x.1) on.entered from.0 comes
        ] in
        subst (IsKnownArc syms) from.2 (record { caller = key.caller; file = key.file; callee = key.callee })

    pub rows_known : AreKnown syms (ctx_rows_of callers syms xs)
    unfolding ctx_rows_of
    rows_known = record {
      lines = All-from_recursion (IsKnownLine syms) line_list (all_of (IsKnownLine syms) line_list line_known);
      arcs = All-from_recursion (IsKnownArc syms) arc_list (all_of (IsKnownArc syms) arc_list arc_row_known);
    }
