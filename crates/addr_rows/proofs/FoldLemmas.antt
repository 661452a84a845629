-- The rows of a thread's events by address fold back to their plain rows.
use Rattle.std.proofs.Common.{◌≡◌, ◌⊎◌, inl, inr, ℕ, ◌<◌, ◌^◌, is_some, Bool, true, false, List, [], ◌∷◌, Option, None}
use Rattle.std.proofs.Common.{Some, drop, get_or, map, refl, ap, sym, subst, ◌∙◌, arith, if◌then◌else◌}
use Rattle.std.specs.List.{AllByRecursion}
use Rattle.std.specs.Option.{option_map, option_to_list}
use Rattle.std.proofs.lemmas.Bool.Decides.{nat_tests}
use Rattle.std.proofs.lemmas.List.{drop-map}
use Rattle.event_costs.specs.Costs.{IsWhole}
use Rattle.event_costs.specs.declared.event.Event.{Event}
use Rattle.event_costs.specs.Keys.{ArcKey, Place}
use Rattle.event_costs.specs.Order.{arc_order, place_order, same_arc, same_place}
use Rattle.event_costs.specs.declared.numbers.FuncId.{FuncId}
use Rattle.sym_map.specs.AddressMap.{address_map}
use Rattle.sym_map.specs.AddressMap.{address_line}
use Rattle.sym_map.specs.SymbolMap.{SymbolMap, place_of}
use Rattle.shadow_stack.specs.Changes.{Change, after, arc_from, change, drop_count, next_func, with_pushed}
use Rattle.shadow_stack.specs.Stacks.{Activation, Stack}
use Rattle.shadow_stack.specs.Traces.{EventOnStack}
use Rattle.arc_costs.specs.Arcs.{arc_of, arc_sum, call_sum, is_some_arc}
use Rattle.arc_costs.specs.Contents.{Listed}
use Rattle.arc_costs.specs.Keys.{by_kind}
use Rattle.arc_costs.specs.Lines.{is_some_line, line_sum, place_of as key_of}
use Rattle.arc_costs.specs.Rows.{ArcRow, LineRow}
use Rattle.recorder.specs.Laws.{IsIn}
use Rattle.recorder.specs.Rows.{arc_at, arcs_at, arcs_of, line_at, rows_of}
use Rattle.ctx_rows.specs.Folding.{AreSumsOf}
use Rattle.ctx_rows.proofs.FoldedLemmas.{none_of_arc}
use Rattle.ctx_rows.proofs.FrameLemmas.{kept_stack}
use Rattle.ctx_rows.proofs.ShareLemmas as share
use Rattle.ctx_rows.proofs.ShareLemmas.{HaveSums, Keys, by_place, from_of, froms_on, sums_map}
use Rattle.addr_rows.specs.EventRows.{addr_rows_of, located_arc, located_key, located_line}
use Rattle.addr_rows.specs.Plain.{plain, plain_arc, plain_line}
use Rattle.addr_rows.proofs.AddressMapLemmas.{address_code, address_place}
use Rattle.addr_rows.proofs.AlikeLemmas.{alike_after, alike_change, alike_gone, alike_length, alike_top}
use Rattle.addr_rows.proofs.AlikeLemmas.{shape, shapes}
use Rattle.addr_rows.proofs.Others.{arc_alike, arc_itself, arc_only, arc_total, change_push, from_map, in_flat, in_left}
use Rattle.addr_rows.proofs.Others.{in_right, of_all, place_alike, place_itself, place_only, place_total, true_false}

abbrev plain_places : Keys Place
plain_places = record {
  same = same_place;
  order = place_order;
  total = place_total;
  only = place_only;
  alike = place_alike;
  itself = place_itself;
}

abbrev plain_keys : Keys ArcKey
plain_keys = record {
  same = same_arc;
  order = arc_order;
  total = arc_total;
  only = arc_only;
  alike = arc_alike;
  itself = arc_itself;
}

pub map_map : {X Y Z : Type 0} (f : Y → Z) (g : X → Y) (xs : List X) → map f (map g xs) ≡ map (λ x. f (g x)) xs
map_map f g [] = refl
map_map f g (x ∷ xs) = ap (λ zs. f (g x) ∷ zs) (map_map f g xs)

-- the arc of a frame that is pushed
from_is : (m : SymbolMap) (e : Event) (s : Stack) → from_of (change m e s).pushed
    ≡ (if is_some (change m e s).pushed then arc_from (place_of m e.done.pc) (next_func m e) (change m e s).rest else None)
from_is m e s = elim (change_push m e s) as (λ _. from_of (change m e s).pushed
    ≡ (if is_some (change m e s).pushed then arc_from (place_of m e.done.pc) (next_func m e) (change m e s).rest
    else None)) [
      | inl none ↦ subst By (sym none) refl
      | inr p ↦ subst By (sym p.1) refl
    ]
  where
    By : Option Activation → Type 0
    By o = from_of o
        ≡ (if is_some o then arc_from (place_of m e.done.pc) (next_func m e) (change m e s).rest else None)

-- ---- events by the map of addresses

-- A stack by the map of addresses, and one by the map itself.
pub record AreLocated (m : SymbolMap) (r s : Stack) : Type 0 where
  pub alike : shapes s ≡ shapes r
  pub arcs : map (option_map (located_key m)) (froms_on r) ≡ froms_on s

-- An event with its stack by the map of addresses, and with that by the map itself; its pc is that of its line.
pub record IsLocated (m : SymbolMap) (y x : EventOnStack) : Type 0 where
  pub event : y.event ≡ x.event
  pub cost : y.cost ≡ x.cost
  pub stack : AreLocated m y.stack x.stack
  pub whole : IsWhole x.cost
  pub small : x.event.done.pc < 2 ^ 32

module _ (m : SymbolMap) where
  abbrev am : SymbolMap
  am = address_map m

  place_back : (pc : ℕ) → pc < 2 ^ 32 → place_of m (place_of am pc).line ≡ place_of m pc
  place_back pc small =
      let least : address_line pc ≡ pc = grind (arith, nat_tests) in
      ap (λ (p : Place). place_of m p.line) (address_place m pc) ∙ ap (place_of m) least

  -- the arc of a frame that is pushed
  entered_arc : (e : Event) → e.done.pc < 2 ^ 32 → (r s : Stack) → shapes s ≡ shapes r
      → option_map (located_key m) (arc_from (place_of am e.done.pc) (next_func am e) r)
      ≡ arc_from (place_of m e.done.pc) (next_func m e) s
  entered_arc e small [] [] alike = refl
  entered_arc e small [] (a ∷ s) alike = absurd (omega (arith, alike_length (a ∷ s) [] alike))
  entered_arc e small (b ∷ r) [] alike = absurd (omega (arith, alike_length [] (b ∷ r) alike))
  entered_arc e small (b ∷ r) (a ∷ s) alike =
      let back = place_back e.done.pc small in
      let caller = top_same (alike_top (a ∷ s) (b ∷ r) alike) in
      let callee = (address_code m).funcs e.done.next in
      λ i. Some (record {
        caller = sym caller i;
        file = (back i).file;
        line = (back i).line;
        callee = sym callee i;
      })
    where
      top_same : ◌≡◌ {A = Option FuncId} (Some a.func) (Some b.func) → a.func ≡ b.func
      top_same is = cc

  some_shape : (p : Option Activation) → is_some (option_map shape p) ≡ is_some p
  some_shape None = refl
  some_shape (Some a) = refl

  some_same : (e : Event) (r s : Stack) → shapes s ≡ shapes r
      → is_some (change am e r).pushed ≡ is_some (change m e s).pushed
  some_same e r s alike =
      sym (some_shape (change am e r).pushed)
      ∙ ap (λ (c : Change). is_some c.pushed) (sym (alike_change m am (address_code m) e s r alike))
      ∙ some_shape (change m e s).pushed

  pushed_arc : (e : Event) → e.done.pc < 2 ^ 32 → (r s : Stack) → shapes s ≡ shapes r
      → option_map (located_key m) (from_of (change am e r).pushed) ≡ from_of (change m e s).pushed
  pushed_arc e small r s alike =
      ap (option_map (located_key m)) (from_is am e r)
      ∙ (λ i. option_map (located_key m) (if some_same e r s alike i
      then arc_from (place_of am e.done.pc) (next_func am e) (change am e r).rest else None))
      ∙ by (is_some (change m e s).pushed)
      ∙ sym (from_is m e s)
    where
      by : (b : Bool)
          → option_map (located_key m) (if b then arc_from (place_of am e.done.pc) (next_func am e)
          (change am e r).rest else None)
          ≡ (if b then arc_from (place_of m e.done.pc) (next_func m e) (change m e s).rest else None)
      by true = entered_arc e small (change am e r).rest (change m e s).rest
          (ap (λ (c : Change). c.rest) (alike_change m am (address_code m) e s r alike))
      by false = refl

  -- what an event leaves
  pub located_after : (e : Event) → e.done.pc < 2 ^ 32 → (r s : Stack) → AreLocated m r s
      → AreLocated m (after am r e) (after m s e)
  located_after e small r s at = record {
    alike = alike_after m am (address_code m) e s r at.alike;
    arcs = with_arcs (change am e r).pushed (change m e s).pushed (pushed_arc e small r s at.alike)
        (some_same e r s at.alike);
  }
    where
      gone_same : drop_count m e s ≡ drop_count am e r
      gone_same = alike_gone m am (address_code m) e s r at.alike

      kept_arcs : map (option_map (located_key m)) (froms_on (change am e r).rest) ≡ froms_on (change m e s).rest
      kept_arcs =
          ap (λ (t : Stack). map (option_map (located_key m)) (froms_on t)) (sym (kept_stack am e r))
          ∙ ap (map (option_map (located_key m))) (sym (drop-map (λ (a : Activation). a.arc) (drop_count am e r) r))
          ∙ sym (drop-map (option_map (located_key m)) (drop_count am e r) (froms_on r))
          ∙ (λ i. drop (sym gone_same i) (at.arcs i))
          ∙ drop-map (λ (a : Activation). a.arc) (drop_count m e s) s
          ∙ ap froms_on (kept_stack m e s)

      with_arcs : (q p : Option Activation) → option_map (located_key m) (from_of q) ≡ from_of p
          → is_some q ≡ is_some p
          → map (option_map (located_key m)) (froms_on (with_pushed q (change am e r).rest))
          ≡ froms_on (with_pushed p (change m e s).rest)
      with_arcs None None arc some = kept_arcs
      with_arcs (Some b) (Some a) arc some = λ i. arc i ∷ kept_arcs i
      with_arcs None (Some a) arc some = absurd (true_false (sym some))
      with_arcs (Some b) None arc some = absurd (true_false some)

  -- Events by the map of addresses, and by the map itself, one by one.
  abbrev pub AllLocated : List EventOnStack → List EventOnStack → Type 0
  AllLocated [] [] = Unit {0}
  AllLocated [] (x ∷ xs) = ⊥
  AllLocated (y ∷ ys) [] = ⊥
  AllLocated (y ∷ ys) (x ∷ xs) = IsLocated m y x × AllLocated ys xs

  all_whole : (ys xs : List EventOnStack) → AllLocated ys xs → AllByRecursion (λ (y : EventOnStack). IsWhole y.cost) ys
  all_whole [] xs all = tt
  all_whole (y ∷ ys) [] all = absurd all
  all_whole (y ∷ ys) (x ∷ xs) all = (subst IsWhole (sym all.0.cost) all.0.whole, all_whole ys xs all.1)

-- ---- the rows

module _ (m : SymbolMap) (ys xs : List EventOnStack) (all : AllLocated m ys xs) where
  abbrev n : SymbolMap
  n = address_map m

  abbrev read_place : Place → Place
  read_place p = place_of m p.line

  folds : (rs ss : List EventOnStack) → AllLocated m rs ss
      → share.AllFold (by_place n) (by_place m) read_place (located_key m) rs ss
  folds [] [] located = tt
  folds [] (x ∷ ss) located = absurd located
  folds (y ∷ rs) [] located = absurd located
  folds (y ∷ rs) (x ∷ ss) located =
      let at = located.0 in (
        record {
          cost = at.cost;
          spot = ap (λ (e : Event). place_of m (place_of n e.done.pc).line) at.event
              ∙ place_back m x.event.done.pc at.small;
          froms = at.stack.arcs;
          pushed =
              ap (λ (e : Event). option_map (located_key m) (from_of (change n e y.stack).pushed)) at.event
              ∙ pushed_arc m x.event at.small y.stack x.stack at.stack.alike;
        },
        folds rs ss located.1,
      )

  whole : (y : EventOnStack) → IsIn ys y → IsWhole y.cost
  whole = of_all (λ (y : EventOnStack). IsWhole y.cost) ys (all_whole m ys xs all)

  inside : (y : EventOnStack) (k : ArcKey) → IsIn (froms_on y.stack) (Some k)
      ⊎ (from_of (change n y.event y.stack).pushed ≡ Some k) → IsIn (arcs_at n y) k
  inside y k (inl under) =
      let a = from_map (λ (f : Activation). f.arc) y.stack (Some k) under in
      in_left (arcs_of y.stack) (arcs_of (option_to_list (change n y.event y.stack).pushed)) k
      (in_flat (λ (f : Activation). option_to_list f.arc) y.stack a.0 k a.1
      (subst (λ (o : Option ArcKey). IsIn (option_to_list o) k) (sym a.2) (inl refl)))
  inside y k (inr comes) =
      in_right (arcs_of y.stack) (arcs_of (option_to_list (change n y.event y.stack).pushed)) k
      (by (change n y.event y.stack).pushed comes)
    where
      by : (p : Option Activation) → from_of p ≡ Some k → IsIn (arcs_of (option_to_list p)) k
      by None is = absurd (cc)
      by (Some a) is =
          in_left (option_to_list a.arc) [] k
          (subst (λ (o : Option ArcKey). IsIn (option_to_list o) k) (sym is) (inl refl))

  pub located_sums : HaveSums m xs (plain (addr_rows_of m ys))
  unfolding addr_rows_of rows_of
  located_sums = record {
    lines = λ kind p.
        let test : LineRow → ℕ = λ r. if same_place p r.place then get_or r.cost kind 0 else 0 in
        ap (line_sum kind p) (map_map plain_line (located_line m) (rows_of n ys).lines)
        ∙ sums_map test (λ (r : LineRow). plain_line (located_line m r)) (rows_of n ys).lines
        ∙ share.lines_where (by_place n) ys whole plain_places key_of (λ (r : LineRow). r.cost) (line_at n ys)
        is_some_line (λ k. refl) (λ k. refl) (λ r none. none) kind (λ q. same_place p (read_place q))
        ∙ share.lines_fold (by_place n) (by_place m) read_place (located_key m) kind (same_place p) ys xs
        (folds ys xs all);
    arcs = λ kind k.
        let test : ArcRow → ℕ = λ r. if same_arc k r.arc then get_or r.cost kind 0 else 0 in
        ap (arc_sum kind k) (map_map plain_arc (located_arc m) (rows_of n ys).arcs)
        ∙ sums_map test (λ (r : ArcRow). plain_arc (located_arc m r)) (rows_of n ys).arcs
        ∙ share.arcs_where (by_place n) ys whole plain_keys (arcs_at n) inside arc_of (λ (r : ArcRow). r.calls)
        (λ (r : ArcRow). r.cost) (arc_at n ys) is_some_arc (λ q. refl) (λ r none. none_of_arc r.calls r.cost none)
        (λ q i. by_kind (λ j. sym (share.plain_arcs n j q ys) i)) kind (λ q. same_arc k (located_key m q))
        ∙ share.arcs_fold (by_place n) (by_place m) read_place (located_key m) kind (same_arc k) ys xs
        (folds ys xs all)
        ∙ share.plain_arcs m kind k xs;
    calls = λ k.
        let test : ArcRow → ℕ = λ r. if same_arc k r.arc then r.calls else 0 in
        ap (call_sum k) (map_map plain_arc (located_arc m) (rows_of n ys).arcs)
        ∙ sums_map test (λ (r : ArcRow). plain_arc (located_arc m r)) (rows_of n ys).arcs
        ∙ share.calls_where (by_place n) ys whole plain_keys (arcs_at n) inside arc_of (λ (r : ArcRow). r.calls)
        (λ (r : ArcRow). r.cost) (arc_at n ys) is_some_arc (λ q. refl) (λ r none. none_of_arc r.calls r.cost none)
        (λ q. sym (share.plain_calls n q ys)) (λ q. same_arc k (located_key m q))
        ∙ share.calls_fold (by_place n) (by_place m) read_place (located_key m) (same_arc k) ys xs (folds ys xs all)
        ∙ share.plain_calls m k xs;
  }

  pub folded_are : (rows : Listed) → AreSumsOf (plain (addr_rows_of m ys)) rows → rows ≡ rows_of m xs
  folded_are = share.summed_are m xs (plain (addr_rows_of m ys)) located_sums
