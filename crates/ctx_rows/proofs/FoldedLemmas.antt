-- The rows of events by context fold back to their plain rows.
use Rattle.std.proofs.Common.{◌≡◌, ◌≢◌, ◌⊎◌, inl, inr, ℕ, suc, ◌+◌, ◌==◌, ◌||◌, not, Bool, true, false, List, [], ◌∷◌}
use Rattle.std.proofs.Common.{Option, None, Some, IfSome, flat_map, get_or, map, sum_by, take, refl, ap, sym, subst, ◌∙◌}
use Rattle.std.proofs.Common.{arith, if◌then◌else◌}
use Rattle.std.specs.List.{AllByRecursion}
use Rattle.std.specs.Option.{option_map, option_to_list}
use Rattle.std.specs.Prelude.{slice_index}
use Rattle.std.proofs.lemmas.Bool.Decides.{eqb_tells}
use Rattle.event_costs.specs.Costs.{IsWhole}
use Rattle.event_costs.specs.declared.event.Event.{Event}
use Rattle.event_costs.specs.Keys.{ArcKey, Place}
use Rattle.event_costs.specs.Order as order
use Rattle.event_costs.specs.declared.numbers.FuncId.{FuncId}
use Rattle.sym_map.specs.SymbolMap.{SymbolMap, place_of as place_in}
use Rattle.shadow_stack.specs.Changes.{change, with_pushed}
use Rattle.shadow_stack.specs.Stacks.{Activation, Stack, top_of}
use Rattle.shadow_stack.specs.Traces.{EventOnStack}
use Rattle.arc_costs.specs.Contents.{Listed}
use Rattle.arc_costs.specs.Rows.{ArcRow, LineRow}
use Rattle.arc_costs.specs.Totals.{is_some_cost}
use Rattle.recorder.specs.Laws.{IsIn}
use Rattle.recorder.specs.Rows.{rows_of}
use Rattle.ctx_rows.proofs.Others.{in_flat, in_left, in_right, of_all}
use Rattle.ctx_rows.proofs.OrderLemmas as ties
use Rattle.ctx_rows.proofs.ShareLemmas as share
use Rattle.ctx_rows.proofs.ShareLemmas.{HaveSums, Keys, Naming, by_place, from_of, froms_on, passing, sums_map}
use Rattle.ctx_rows.proofs.StackLemmas.{entered_after}
use Rattle.contexts.specs.Contexts.{context}
use Rattle.ctx_rows.specs.Folding.{AreSumsOf, function_of, plain as plain_rows, plain_arc, plain_line}
use Rattle.ctx_rows.specs.Rows.{arc_of, arc_with, arcs_at, ctx_rows_of, is_some_arc, is_some_line, line_with, place_of}
use Rattle.ctx_rows.specs.Since.{AreEntered, StandsOn}
use Rattle.ctx_rows.specs.Sums.{CtxArcKey, CtxPlace, arc_calls, arc_cost, arc_order, counts_at, ctx_arc_of}
use Rattle.ctx_rows.specs.Sums.{ctx_arcs, place_order, pushed_arc, same_arc, same_place, self_cost}
use Rattle.ctx_rows.specs.declared.rows.CtxArc.{CtxArc}
use Rattle.ctx_rows.specs.declared.rows.CtxLine.{CtxLine}

-- ---- the naming by contexts

abbrev pub places : Keys CtxPlace
places = record {
  same = same_place;
  order = place_order;
  total = ties.place_total;
  only = ties.place_only;
  alike = ties.place_alike;
  itself = ties.place_itself;
}

abbrev pub arcs : Keys CtxArcKey
arcs = record {
  same = same_arc;
  order = arc_order;
  total = ties.arc_total;
  only = ties.arc_only;
  alike = ties.arc_alike;
  itself = ties.arc_itself;
}

abbrev pub by_context : ℕ → SymbolMap → Naming CtxPlace CtxArcKey
by_context callers syms = record {
  spot = counts_at callers syms;
  froms = λ x. ctx_arcs callers x.stack;
  pushed = λ x. pushed_arc callers (change syms x.event x.stack);
}

-- ---- a context's function is that of its frame

first_of : (callers : ℕ) (a : Activation) (s : Stack) → function_of (context callers (a ∷ s)) ≡ a.func
first_of callers a s =
    let more : suc callers ≡ callers + 1 = omega arith in
    λ i. record { 0 = slice_index (take (sym more i) (a.func.0 ∷ map (λ (b : Activation). b.func.0) s)) 0 }

some_same : (f g : FuncId) → ◌≡◌ {A = Option FuncId} (Some f) (Some g) → f ≡ g
some_same f g is = cc

first_is : (callers : ℕ) (s : Stack) (f : FuncId) → top_of s ≡ Some f → function_of (context callers s) ≡ f
first_is callers [] f is = absurd (cc)
first_is callers (a ∷ s) f is = first_of callers a s ∙ some_same a.func f is

abbrev plain_key : CtxArcKey → ArcKey
plain_key k = record { caller = function_of k.caller; file = k.file; line = k.line; callee = function_of k.callee }

abbrev plain_place : CtxPlace → Place
plain_place p = record { func = function_of p.ctx; file = p.file; line = p.line }

module _ (callers : ℕ) where
  abbrev From : Activation → Stack → Option ArcKey → Type 0
  From a s o = IfSome o (λ arc. (arc.callee ≡ a.func) × (top_of s ≡ Some arc.caller))

  -- an arc between contexts is folded to that between their functions
  arc_folds : (a : Activation) (s : Stack) (o : Option ArcKey) → From a s o
      → option_map plain_key (option_map (λ (arc : ArcKey). record {
        caller = context callers s;
        file = arc.file;
        line = arc.line;
        callee = context callers (a ∷ s);
      }) o) ≡ o
  arc_folds a s None from = refl
  arc_folds a s (Some arc) from = λ i. Some (record {
    caller = first_is callers s arc.caller from.1 i;
    file = arc.file;
    line = arc.line;
    callee = (first_of callers a s ∙ sym from.0) i;
  })

  froms_fold : (s : Stack) → AreEntered s → map (option_map plain_key) (ctx_arcs callers s) ≡ froms_on s
  froms_fold [] all = refl
  froms_fold (a ∷ s) all = λ i. arc_folds a s a.arc all.0 i ∷ froms_fold s all.2 i

  pushed_folds : (syms : SymbolMap) (e : Event) (s : Stack) → AreEntered s
      → option_map plain_key (pushed_arc callers (change syms e s)) ≡ from_of (change syms e s).pushed
  pushed_folds syms e s all = by (change syms e s).pushed (entered_after syms e s all)
    where
      by : (p : Option Activation) → AreEntered (with_pushed p (change syms e s).rest)
          → option_map plain_key (ctx_arc_of callers p (change syms e s).rest) ≡ from_of p
      by None entered = refl
      by (Some a) entered = arc_folds a (change syms e s).rest a.arc entered.0

  abbrev AllFold : SymbolMap → List EventOnStack → List EventOnStack → Type 0
  AllFold syms = share.AllFold (by_context callers syms) (by_place syms) plain_place plain_key

  all_fold : (syms : SymbolMap) (xs : List EventOnStack) → AllByRecursion (StandsOn syms) xs → AllFold syms xs xs
  all_fold syms [] stand = tt
  all_fold syms (x ∷ xs) stand = (
    record {
      cost = refl;
      spot = λ i. record {
        func = first_is callers x.stack (place_in syms x.event.done.pc).func stand.0.top i;
        file = (place_in syms x.event.done.pc).file;
        line = (place_in syms x.event.done.pc).line;
      };
      froms = froms_fold x.stack stand.0.entered;
      pushed = pushed_folds syms x.event x.stack stand.0.entered;
    },
    all_fold syms xs stand.1,
  )

-- ---- the rows

-- an arc row that is all 0
pub none_of_arc : (calls : ℕ) (cost : List ℕ) → (not (calls == 0) || is_some_cost cost) ≡ false
    → (calls ≡ 0) × (is_some_cost cost ≡ false)
none_of_arc calls cost none = by (eqb_tells calls 0)
  where
    by : ((calls == 0 ≡ true) × (calls ≡ 0)) ⊎ ((calls == 0 ≡ false) × (calls ≢ 0))
        → (calls ≡ 0) × (is_some_cost cost ≡ false)
    by (inl zero_) = (zero_.1, sym (ap (λ b. not b || is_some_cost cost) zero_.0) ∙ none)
    by (inr some) = absurd (never (sym (ap (λ b. not b || is_some_cost cost) some.0) ∙ none))
      where
        never : true ≡ false → ⊥
        never e = cc

module _ (callers : ℕ) (syms : SymbolMap) where
  -- the arcs of an event are among its keys
  pub inside : (x : EventOnStack) (k : CtxArcKey) → IsIn (ctx_arcs callers x.stack) (Some k)
      ⊎ (pushed_arc callers (change syms x.event x.stack) ≡ Some k) → IsIn (arcs_at callers syms x) k
  inside x k (inl under) =
      in_left (flat_map option_to_list (ctx_arcs callers x.stack))
      (option_to_list (pushed_arc callers (change syms x.event x.stack))) k
      (in_flat option_to_list (ctx_arcs callers x.stack) (Some k) k under (inl refl))
  inside x k (inr comes) =
      in_right (flat_map option_to_list (ctx_arcs callers x.stack))
      (option_to_list (pushed_arc callers (change syms x.event x.stack))) k
      (subst (λ o. IsIn (option_to_list o) k) (sym comes) (inl refl))

module _ (callers : ℕ) (syms : SymbolMap) (xs : List EventOnStack) (stand : AllByRecursion (StandsOn syms) xs) where
  abbrev n : Naming CtxPlace CtxArcKey
  n = by_context callers syms

  whole : (x : EventOnStack) → IsIn xs x → IsWhole x.cost
  whole x there = (of_all (StandsOn syms) xs stand x there).whole

  pub lines_where : (kind : ℕ) (passes : CtxPlace → Bool)
      → sum_by (λ (r : CtxLine). if passes (place_of r) then get_or r.cost kind 0 else 0)
      (ctx_rows_of callers syms xs).lines ≡ share.line_total n kind passes xs
  unfolding ctx_rows_of
  lines_where =
      share.lines_where n xs whole places place_of (λ (r : CtxLine). r.cost)
      (line_with (λ kind p. self_cost callers syms kind p xs)) is_some_line (λ k. refl) (λ k. refl) (λ r none. none)

  pub arcs_where : (kind : ℕ) (passes : CtxArcKey → Bool)
      → sum_by (λ (r : CtxArc). if passes (arc_of r) then get_or r.cost kind 0 else 0)
      (ctx_rows_of callers syms xs).arcs ≡ share.arc_total n kind passes xs
  unfolding ctx_rows_of
  arcs_where =
      share.arcs_where n xs whole arcs (arcs_at callers syms) (inside callers syms) arc_of (λ (r : CtxArc). r.calls)
      (λ (r : CtxArc). r.cost) (arc_with (λ k. arc_calls callers syms k xs) (λ kind k. arc_cost callers kind k xs))
      is_some_arc (λ k. refl) (λ r none. none_of_arc r.calls r.cost none) (λ k. refl)

  calls_where : (passes : CtxArcKey → Bool)
      → sum_by (λ (r : CtxArc). if passes (arc_of r) then r.calls else 0) (ctx_rows_of callers syms xs).arcs
      ≡ share.call_total n passes xs
  unfolding ctx_rows_of
  calls_where =
      share.calls_where n xs whole arcs (arcs_at callers syms) (inside callers syms) arc_of (λ (r : CtxArc). r.calls)
      (λ (r : CtxArc). r.cost) (arc_with (λ k. arc_calls callers syms k xs) (λ kind k. arc_cost callers kind k xs))
      is_some_arc (λ k. refl) (λ r none. none_of_arc r.calls r.cost none) (λ k. refl)

  -- what they fold back to
  pub folded_sums : HaveSums syms xs (plain_rows (ctx_rows_of callers syms xs))
  folded_sums = record {
    lines = λ kind place.
        sums_map (λ (r : LineRow). if order.same_place place r.place then get_or r.cost kind 0 else 0) plain_line
        (ctx_rows_of callers syms xs).lines
        ∙ lines_where kind (λ p. order.same_place place (plain_place p))
        ∙ share.lines_fold n (by_place syms) plain_place plain_key kind (order.same_place place) xs xs
        (all_fold callers syms xs stand);
    arcs = λ kind arc.
        sums_map (λ (r : ArcRow). if order.same_arc arc r.arc then get_or r.cost kind 0 else 0) plain_arc
        (ctx_rows_of callers syms xs).arcs
        ∙ arcs_where kind (λ k. order.same_arc arc (plain_key k))
        ∙ share.arcs_fold n (by_place syms) plain_place plain_key kind (order.same_arc arc) xs xs
        (all_fold callers syms xs stand)
        ∙ share.plain_arcs syms kind arc xs;
    calls = λ arc.
        sums_map (λ (r : ArcRow). if order.same_arc arc r.arc then r.calls else 0) plain_arc
        (ctx_rows_of callers syms xs).arcs
        ∙ calls_where (λ k. order.same_arc arc (plain_key k))
        ∙ share.calls_fold n (by_place syms) plain_place plain_key (order.same_arc arc) xs xs
        (all_fold callers syms xs stand)
        ∙ share.plain_calls syms arc xs;
  }

  pub folded_are : (rows : Listed) → AreSumsOf (plain_rows (ctx_rows_of callers syms xs)) rows → rows ≡ rows_of syms xs
  folded_are = share.summed_are syms xs (plain_rows (ctx_rows_of callers syms xs)) folded_sums
