-- Rows by contexts of no callers are plain rows: a context is a function.
use Rattle.std.proofs.Common.{◌≡◌, ℕ, ◌&&◌, ◌==◌, Bool, true, false, List, [], ◌∷◌, ◌++◌, Option, None, Some, IfSome}
use Rattle.std.proofs.Common.{filter, flat_map, map, refl, ap, sym, ◌∙◌}
use Rattle.std.specs.BTreeSet.{insert_key}
use Rattle.std.specs.List.{AllByRecursion}
use Rattle.std.specs.Option.{option_map, option_to_list}
use Rattle.std.specs.Ordering.{match_ordering, nat_cmp, ordering_then}
use Rattle.std.specs.declared.cmp.Ordering.{Ordering}
use Rattle.std.specs.declared.cmp.Ordering.TheVariants.{Equal, Greater, Less}
use Rattle.std.proofs.lemmas.List.{map-append}
use Rattle.event_costs.specs.declared.event.Event.{Event}
use Rattle.event_costs.specs.declared.numbers.FuncId.{FuncId}
use Rattle.event_costs.specs.Keys.{ArcKey, Place}
use Rattle.event_costs.specs.Order as order
use Rattle.sym_map.specs.SymbolMap.{SymbolMap, place_of}
use Rattle.shadow_stack.specs.Changes.{change, with_pushed}
use Rattle.shadow_stack.specs.Stacks.{Activation, Stack, top_of}
use Rattle.shadow_stack.specs.Traces.{EventOnStack}
use Rattle.arc_costs.specs.Arcs as arcs
use Rattle.arc_costs.specs.Keys.{by_kind, risen}
use Rattle.arc_costs.specs.Lines as lines
use Rattle.arc_costs.proofs.RowLemmas.{filter-map}
use Rattle.recorder.specs.Rows as events
use Rattle.recorder.specs.Rows.{rows_of}
use Rattle.recorder.specs.Sums as sums
use Rattle.contexts.specs.Contexts.{Context, context}
use Rattle.ctx_rows.specs.Folding.{plain, plain_arc, plain_line}
use Rattle.ctx_rows.specs.Rows.{arc_with, arcs_at, ctx_rows_of, is_some_arc, is_some_line, line_with}
use Rattle.ctx_rows.specs.Since.{AreEntered, StandsOn}
use Rattle.ctx_rows.specs.Sums.{CtxArcKey, CtxPlace, arc_calls, arc_cost, arc_order, counts_at, ctx_arc_of, ctx_arcs}
use Rattle.ctx_rows.specs.Sums.{place_order, pushed_arc, same_arc, same_place, self_cost}
use Rattle.ctx_rows.proofs.FoldedLemmas.{by_context}
use Rattle.ctx_rows.proofs.ShareLemmas as share
use Rattle.ctx_rows.proofs.ShareLemmas.{by_place, from_of, froms_on}
use Rattle.ctx_rows.proofs.StackLemmas.{entered_after}

-- ---- a function as a context

abbrev single : FuncId → Context
single f = f.0 ∷ []

abbrev in_single : Place → CtxPlace
in_single p = record { ctx = single p.func; file = p.file; line = p.line }

abbrev of_single : ArcKey → CtxArcKey
of_single k = record { caller = single k.caller; file = k.file; line = k.line; callee = single k.callee }

last_equal : (o : Ordering) → ordering_then o Equal ≡ o
last_equal Less = refl
last_equal Equal = refl
last_equal Greater = refl

last_true : (b : Bool) → b && true ≡ b
last_true true = refl
last_true false = refl

places_order : (p q : Place) → place_order (in_single p) (in_single q) ≡ order.place_order p q
places_order p q =
    ap (λ o. ordering_then o (ordering_then (nat_cmp p.file.0 q.file.0) (nat_cmp p.line q.line)))
    (last_equal (nat_cmp p.func.0 q.func.0))

arcs_order : (k q : ArcKey) → arc_order (of_single k) (of_single q) ≡ order.arc_order k q
arcs_order k q = λ i. ordering_then (last_equal (nat_cmp k.caller.0 q.caller.0) i)
    (ordering_then (nat_cmp k.file.0 q.file.0)
    (ordering_then (nat_cmp k.line q.line) (last_equal (nat_cmp k.callee.0 q.callee.0) i)))

places_same : (p q : Place) → same_place (in_single p) (in_single q) ≡ order.same_place p q
places_same p q = ap (λ b. b && (p.file.0 == q.file.0 && p.line == q.line)) (last_true (p.func.0 == q.func.0))

arcs_same : (k q : ArcKey) → same_arc (of_single k) (of_single q) ≡ order.same_arc k q
arcs_same k q = λ i. last_true (k.caller.0 == q.caller.0) i
    && (k.file.0 == q.file.0 && (k.line == q.line && last_true (k.callee.0 == q.callee.0) i))

-- ---- rows of keys that stand for others, in the same order

module _ {K C : Type 0} (R : K → K → Ordering) (S : C → C → Ordering) (f : K → C)
    (alike : (k q : K) → S (f k) (f q) ≡ R k q) where
  put_same : (ks : List K) (k : K) → insert_key S (map f ks) (f k) ≡ map f (insert_key R ks k)
  put_same [] k = refl
  put_same (x ∷ ks) k =
      ap (λ o. match_ordering o (f k ∷ f x ∷ map f ks) (f x ∷ map f ks) (f x ∷ insert_key S (map f ks) (f k))) (alike k x)
      ∙ by (R k x) (put_same ks k)
    where
      by : (o : Ordering) → insert_key S (map f ks) (f k) ≡ map f (insert_key R ks k)
          → match_ordering o (f k ∷ f x ∷ map f ks) (f x ∷ map f ks) (f x ∷ insert_key S (map f ks) (f k))
          ≡ map f (match_ordering o (k ∷ x ∷ ks) (x ∷ ks) (x ∷ insert_key R ks k))
      by Less rest = refl
      by Equal rest = refl
      by Greater rest = ap (λ cs. f x ∷ cs) rest

  risen_same : (ks : List K) → risen S (map f ks) ≡ map f (risen R ks)
  risen_same [] = refl
  risen_same (k ∷ ks) = ap (λ cs. insert_key S cs (f k)) (risen_same ks) ∙ put_same (risen R ks) k

  module _ {Row Fine : Type 0} (at : K → Row) (some : Row → Bool) (fine : C → Fine) (some_fine : Fine → Bool)
      (read : Fine → Row) (some_is : (r : Fine) → some (read r) ≡ some_fine r)
      (is : (k : K) → read (fine (f k)) ≡ at k) where
    each_row : (ks : List K) → map read (map fine (map f ks)) ≡ map at ks
    each_row [] = refl
    each_row (k ∷ ks) = λ i. is k i ∷ each_row ks i

    rows_same : (cs : List C) (ks : List K) → cs ≡ map f ks
        → map read (filter some_fine (map fine (risen S cs))) ≡ filter some (map at (risen R ks))
    rows_same cs ks same =
        ap (λ us. map read (filter some_fine (map fine us))) (ap (risen S) same ∙ risen_same ks)
        ∙ sym (filter-map read some some_fine some_is (map fine (map f (risen R ks))))
        ∙ ap (filter some) (each_row (risen R ks))

-- ---- events

top_single : (s : Stack) (f : FuncId) → top_of s ≡ Some f → context 0 s ≡ single f
top_single [] f is = absurd (cc)
top_single (a ∷ s) f is = ap single (some_same is)
  where
    some_same : ◌≡◌ {A = Option FuncId} (Some a.func) (Some f) → a.func ≡ f
    some_same e = cc

arc_single : (a : Activation) (s : Stack) (o : Option ArcKey)
    → IfSome o (λ arc. (arc.callee ≡ a.func) × (top_of s ≡ Some arc.caller))
    → option_map of_single o ≡ option_map (λ (arc : ArcKey). record {
      caller = context 0 s;
      file = arc.file;
      line = arc.line;
      callee = context 0 (a ∷ s);
    }) o
arc_single a s None from = refl
arc_single a s (Some arc) from = λ i. Some (record {
  caller = sym (top_single s arc.caller from.1) i;
  file = arc.file;
  line = arc.line;
  callee = single (from.0 i);
})

froms_single : (s : Stack) → AreEntered s → map (option_map of_single) (froms_on s) ≡ ctx_arcs 0 s
froms_single [] all = refl
froms_single (a ∷ s) all = λ i. arc_single a s a.arc all.0 i ∷ froms_single s all.2 i

pushed_single : (n : SymbolMap) (e : Event) (s : Stack) → AreEntered s
    → option_map of_single (from_of (change n e s).pushed) ≡ pushed_arc 0 (change n e s)
pushed_single n e s all = by (change n e s).pushed (entered_after n e s all)
  where
    by : (p : Option Activation) → AreEntered (with_pushed p (change n e s).rest)
        → option_map of_single (from_of p) ≡ ctx_arc_of 0 p (change n e s).rest
    by None entered = refl
    by (Some a) entered = arc_single a (change n e s).rest a.arc entered.0

-- the keys of arcs
of_option : (o : Option ArcKey) → option_to_list (option_map of_single o) ≡ map of_single (option_to_list o)
of_option None = refl
of_option (Some k) = refl

of_froms : (s : Stack)
    → flat_map option_to_list (map (option_map of_single) (froms_on s)) ≡ map of_single (events.arcs_of s)
of_froms [] = refl
of_froms (a ∷ s) =
    (λ i. of_option a.arc i ++ of_froms s i) ∙ sym (map-append of_single (option_to_list a.arc) (events.arcs_of s))

of_pushed : (p : Option Activation)
    → option_to_list (option_map of_single (from_of p)) ≡ map of_single (events.arcs_of (option_to_list p))
of_pushed None = refl
of_pushed (Some a) = by a.arc
  where
    by : (o : Option ArcKey) → option_to_list (option_map of_single o) ≡ map of_single (option_to_list o ++ [])
    by None = refl
    by (Some k) = refl

module _ (n : SymbolMap) where
  abbrev Folds : EventOnStack → Type 0
  Folds x = share.Folds (by_place n) (by_context 0 n) in_single of_single x x

  folds : (x : EventOnStack) → StandsOn n x → Folds x
  folds x on = record {
    cost = refl;
    spot = λ i. record {
      ctx = sym (top_single x.stack (place_of n x.event.done.pc).func on.top) i;
      file = (place_of n x.event.done.pc).file;
      line = (place_of n x.event.done.pc).line;
    };
    froms = froms_single x.stack on.entered;
    pushed = pushed_single n x.event x.stack on.entered;
  }

  abbrev AllFold : List EventOnStack → Type 0
  AllFold xs = share.AllFold (by_place n) (by_context 0 n) in_single of_single xs xs

  all_fold : (xs : List EventOnStack) → AllByRecursion (StandsOn n) xs → AllFold xs
  all_fold [] stand = tt
  all_fold (x ∷ xs) stand = (folds x stand.0, all_fold xs stand.1)

  places_at : (xs : List EventOnStack) → AllFold xs
      → map (counts_at 0 n) xs ≡ map in_single (map (λ x. place_of n x.event.done.pc) xs)
  places_at [] all = refl
  places_at (x ∷ xs) all = λ i. sym all.0.spot i ∷ places_at xs all.1 i

  keys_at : (xs : List EventOnStack) → AllFold xs
      → flat_map (arcs_at 0 n) xs ≡ map of_single (flat_map (events.arcs_at n) xs)
  keys_at [] all = refl
  keys_at (x ∷ xs) all =
      (λ i. here i ++ keys_at xs all.1 i)
      ∙ sym (map-append of_single (events.arcs_at n x) (flat_map (events.arcs_at n) xs))
    where
      here : arcs_at 0 n x ≡ map of_single (events.arcs_at n x)
      here =
          (λ i. flat_map option_to_list (sym all.0.froms i) ++ option_to_list (sym all.0.pushed i))
          ∙ (λ i. of_froms x.stack i ++ of_pushed (change n x.event x.stack).pushed i)
          ∙ sym (map-append of_single (events.arcs_of x.stack)
          (events.arcs_of (option_to_list (change n x.event x.stack).pushed)))

  -- ---- the rows

  module _ (xs : List EventOnStack) (stand : AllByRecursion (StandsOn n) xs) where
    all : AllFold xs
    all = all_fold xs stand

    line_is : (p : Place)
        → plain_line (line_with (λ kind q. self_cost 0 n kind q xs) (in_single p)) ≡ events.line_at n xs p
    line_is p = λ i. record { place = p; cost = by_kind (λ kind. cost kind i) }
      where
        cost : (kind : ℕ) → self_cost 0 n kind (in_single p) xs ≡ share.line_total (by_place n) kind (order.same_place p) xs
        cost kind =
            sym (share.lines_fold (by_place n) (by_context 0 n) in_single of_single kind (same_place (in_single p)) xs xs
            all)
            ∙ (λ i. share.line_total (by_place n) kind (λ q. places_same p q i) xs)

    arc_is : (k : ArcKey)
        → plain_arc (arc_with (λ q. arc_calls 0 n q xs) (λ kind q. arc_cost 0 kind q xs) (of_single k))
        ≡ events.arc_at n xs k
    arc_is k = λ i. record { arc = k; calls = calls i; cost = by_kind (λ kind. cost kind i) }
      where
        calls : arc_calls 0 n (of_single k) xs ≡ sums.arc_calls n k xs
        calls =
            sym (share.calls_fold (by_place n) (by_context 0 n) in_single of_single (same_arc (of_single k)) xs xs all)
            ∙ (λ i. share.call_total (by_place n) (λ q. arcs_same k q i) xs)
            ∙ share.plain_calls n k xs

        cost : (kind : ℕ) → arc_cost 0 kind (of_single k) xs ≡ sums.arc_cost kind k xs
        cost kind =
            sym (share.arcs_fold (by_place n) (by_context 0 n) in_single of_single kind (same_arc (of_single k)) xs xs
            all)
            ∙ (λ i. share.arc_total (by_place n) kind (λ q. arcs_same k q i) xs)
            ∙ share.plain_arcs n kind k xs

    pub single_rows : plain (ctx_rows_of 0 n xs) ≡ rows_of n xs
    unfolding ctx_rows_of rows_of
    single_rows = λ i. record {
      lines = rows_same order.place_order place_order in_single places_order (events.line_at n xs) lines.is_some_line
          (line_with (λ kind p. self_cost 0 n kind p xs)) is_some_line plain_line (λ r. refl) line_is
          (map (counts_at 0 n) xs) (map (λ x. place_of n x.event.done.pc) xs) (places_at xs all) i;
      arcs = rows_same order.arc_order arc_order of_single arcs_order (events.arc_at n xs) arcs.is_some_arc
          (arc_with (λ k. arc_calls 0 n k xs) (λ kind k. arc_cost 0 kind k xs)) is_some_arc plain_arc (λ r. refl) arc_is
          (flat_map (arcs_at 0 n) xs) (flat_map (events.arcs_at n) xs) (keys_at xs all) i;
    }
