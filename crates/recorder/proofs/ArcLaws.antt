-- Each arc under which an event ran was pushed by an event before it.
use Rattle.std.proofs.Common.{◌≡◌, ◌≢◌, ◌⊎◌, inl, inr, ℕ, zero, suc, ◌*◌, ◌==◌, Bool, true, false, cond, List, []}
use Rattle.std.proofs.Common.{◌∷◌, ◌++◌, take, drop, map, filter, get_or, Option, Some, None, append_assoc, refl, sym}
use Rattle.std.proofs.Common.{ap, subst, ◌∙◌, arith, true≢false}
use Rattle.std.proofs.lemmas.Bool.Decides.{nat_tests}
use Rattle.std.proofs.lemmas.List.{append-nil, map-append}
use Rattle.std.proofs.lemmas.List.Elements.{filter-append}
use Rattle.std.proofs.lemmas.List.Sums.{fold-append}
use Rattle.event_costs.specs.declared.event.Event.{Event}
use Rattle.event_costs.specs.Keys.{ArcKey}
use Rattle.event_costs.specs.declared.numbers.ThreadNo.{ThreadNo}
use Rattle.sym_map.specs.SymbolMap.{SymbolMap}
use Rattle.shadow_stack.specs.Changes.{after, change, with_pushed}
use Rattle.shadow_stack.specs.Stacks.{Activation, root, Stack}
use Rattle.shadow_stack.specs.Traces.{CountedEvent, first_pc, is_by, events_by, EventOnStack, events_on_stacks, event_on_stack_after, events_on_stacks_from, stack_after}
use Rattle.shadow_stack.specs.Traces.{stack_of}
use Rattle.recorder.proofs.Others.{change-end, IsEnd}
use Rattle.recorder.specs.Laws.{IsIn, IsPushed, pieces}
use Rattle.recorder.specs.Sums.{arc_calls, arc_cost, entered_by, is_arc, of_thread, pushes}
use Rattle.recorder.proofs.ListLemmas.{in_filter, in_left, in_right, some_number}
use Rattle.recorder.proofs.RecordingLemmas.{same_thread}

in_front : {X : Type 0} (n : ℕ) (xs : List X) (x : X) → IsIn (take n xs) x → IsIn xs x
in_front zero xs x inside = absurd inside
in_front (suc n) [] x inside = inside
in_front (suc n) (y ∷ xs) x (inl is) = inl is
in_front (suc n) (y ∷ xs) x (inr inside) = inr (in_front n xs x inside)

in_rest : {X : Type 0} (n : ℕ) (xs : List X) (x : X) → IsIn (drop n xs) x → IsIn xs x
in_rest zero xs x inside = inside
in_rest (suc n) [] x inside = inside
in_rest (suc n) (y ∷ xs) x inside = inr (in_rest n xs x inside)

in_piece : {X : Type 0} (cuts : List ℕ) (xs piece : List X) (x : X) → IsIn (pieces cuts xs) piece
    → IsIn piece x → IsIn xs x
in_piece [] xs piece x (inl is) inside = subst (λ ys. IsIn ys x) (sym is) inside
in_piece [] xs piece x (inr none) inside = absurd none
in_piece (n ∷ cuts) xs piece x (inl is) inside = in_front n xs x (subst (λ ys. IsIn ys x) (sym is) inside)
in_piece (n ∷ cuts) xs piece x (inr later) inside = in_rest n xs x (in_piece cuts (drop n xs) piece x later inside)

true_if : (b : Bool) → ◌≢◌ {A = ℕ} (cond b 1 0) 0 → b ≡ true
true_if true some = refl
true_if false some = absurd (some refl)

push_found : (key : ArcKey) (p : Option Activation) → pushes key p ≢ 0
    → (a : Activation) × (p ≡ Some a) × (is_arc key a.arc ≡ true)
push_found key None some = absurd (some refl)
push_found key (Some a) some = (a, refl, true_if (is_arc key a.arc) some)

frame_found : (key : ArcKey) (cost : ℕ) (s : Stack) → cost * entered_by key s ≢ 0
    → (a : Activation) × IsIn s a × (is_arc key a.arc ≡ true)
frame_found key cost s some =
    let found = some_number (λ (a : Activation). cond (is_arc key a.arc) 1 0) s
    (λ none. some (ap (λ n. cost * n) none ∙ omega arith)) in
    (found.0, found.1, true_if (is_arc key found.0.arc) found.2)

-- what is pushed later was pushed
pushed_more : (syms : SymbolMap) (key : ArcKey) (xs ys : List EventOnStack) → IsPushed syms key xs
    → IsPushed syms key (xs ++ ys)
pushed_more syms key xs ys p = record {
  event = p.event;
  inside = in_left xs ys p.event p.inside;
  frame = p.frame;
  pushed = p.pushed;
  entered = p.entered;
}

-- every frame of a thread's stack that was entered by an arc was pushed by one of these events
abbrev AllPushed : SymbolMap → List CountedEvent → List EventOnStack → Type 0
AllPushed syms earlier done =
    (t : ThreadNo) (pc : ℕ) (key : ArcKey) (a : Activation) → IsIn (stack_of syms (events_by t earlier) pc) a
    → is_arc key a.arc ≡ true → IsPushed syms key done

no_arc : (key : ArcKey) (r a : Activation) → r ≡ a → r.arc ≡ None → is_arc key a.arc ≡ true → ⊥
no_arc key r a is none entered =
    let e : is_arc key a.arc ≡ false
    = ap (λ (o : Option ArcKey). is_arc key o) (ap (λ (x : Activation). x.arc) (sym is) ∙ none) in
    true≢false (sym entered ∙ e)

none_pushed : (syms : SymbolMap) → AllPushed syms [] []
none_pushed syms t pc key a (inl is) entered = absurd (no_arc key _ a is refl entered)
none_pushed syms t pc key a (inr none) entered = absurd none

-- the stack after one more of its thread's events
first_of : (es : List Event) (e : Event) (pc : ℕ) → first_pc (es ++ e ∷ []) pc ≡ first_pc es e.done.pc
first_of [] e pc = refl
first_of (f ∷ es) e pc = refl

stack_more : (syms : SymbolMap) (es : List Event) (e : Event) (pc : ℕ)
    → stack_of syms (es ++ e ∷ []) pc ≡ after syms (stack_of syms es e.done.pc) e
stack_more syms es e pc =
    ap (λ p. stack_after syms (root syms p) (es ++ e ∷ [])) (first_of es e pc)
    ∙ fold-append (after syms) (root syms (first_pc es e.done.pc)) es (e ∷ [])

in_after : (syms : SymbolMap) (s : Stack) (e : Event) (a : Activation) → IsIn (after syms s e) a
    → ((change syms e s).pushed ≡ Some a) ⊎ IsIn s a
in_after syms s e a inside = by (change syms e s).pushed refl inside
  where
    ends : IsEnd (change syms e s).rest s
    ends = change-end syms e s

    kept_in_s : IsIn (change syms e s).rest a → IsIn s a
    kept_in_s here =
        subst (λ (t : Stack). IsIn t a) (sym ends.whole) (in_right ends.front (change syms e s).rest a here)

    by : (p : Option Activation) → (change syms e s).pushed ≡ p → IsIn (with_pushed p (change syms e s).rest) a
        → ((change syms e s).pushed ≡ Some a) ⊎ IsIn s a
    by None is here = inr (kept_in_s here)
    by (Some b) is (inl same) = inl (is ∙ ap (λ (x : Activation). Some x) same)
    by (Some b) is (inr here) = inr (kept_in_s here)

own_more : (t : ThreadNo) (earlier : List CountedEvent) (x : CountedEvent) (b : Bool) → is_by t x ≡ b
    → events_by t (earlier ++ x ∷ []) ≡ events_by t earlier ++ map (λ y. y.event) (cond b (x ∷ []) [])
own_more t earlier x b is =
    ap (map (λ (y : CountedEvent). y.event))
    (filter-append (is_by t) earlier (x ∷ []) ∙ ap (λ c. filter (is_by t) earlier ++ cond c (x ∷ []) []) is)
    ∙ map-append (λ (y : CountedEvent). y.event) (filter (is_by t) earlier) (cond b (x ∷ []) [])

pushed_step : (syms : SymbolMap) (earlier : List CountedEvent) (done : List EventOnStack) (x : CountedEvent) → AllPushed syms earlier done
    → AllPushed syms (earlier ++ x ∷ []) (done ++ event_on_stack_after syms earlier x ∷ [])
pushed_step syms earlier done x all t pc key a inside entered = by (is_by t x) refl
  where
    new : List EventOnStack
    new = event_on_stack_after syms earlier x ∷ []

    mine : is_by t x ≡ true → x.event.thread ≡ t
    mine is = same_thread x.event.thread t (grind (arith, nat_tests))

    here : is_by t x ≡ true → ((change syms x.event (stack_of syms (events_by t earlier) x.event.done.pc)).pushed ≡ Some a)
        ⊎ IsIn (stack_of syms (events_by t earlier) x.event.done.pc) a → IsPushed syms key (done ++ new)
    here is (inl pushed) = record {
      event = event_on_stack_after syms earlier x;
      inside = in_right done new (event_on_stack_after syms earlier x) (inl refl);
      frame = a;
      pushed = ap (λ (u : ThreadNo). (change syms x.event (stack_of syms (events_by u earlier) x.event.done.pc)).pushed)
          (mine is) ∙ pushed;
      entered = entered;
    }
    here is (inr before) = pushed_more syms key done new (all t x.event.done.pc key a before entered)

    by : (b : Bool) → is_by t x ≡ b → IsPushed syms key (done ++ new)
    by true is =
        here is (in_after syms (stack_of syms (events_by t earlier) x.event.done.pc) x.event a
        (subst (λ (s : Stack). IsIn s a) (ap (λ (es : List Event). stack_of syms es pc) (own_more t earlier x true is)
        ∙ stack_more syms (events_by t earlier) x.event pc) inside))
    by false is =
        pushed_more syms key done new (all t pc key a
        (subst (λ (s : Stack). IsIn s a)
        (ap (λ (es : List Event). stack_of syms es pc)
        (own_more t earlier x false is ∙ append-nil (events_by t earlier))) inside) entered)

pushed_from : (syms : SymbolMap) (earlier xs : List CountedEvent) (done : List EventOnStack) → AllPushed syms earlier done
    → (x : EventOnStack) → IsIn (events_on_stacks_from syms earlier xs) x
    → (key : ArcKey) (a : Activation) → IsIn x.stack a → is_arc key a.arc ≡ true
    → IsPushed syms key (done ++ events_on_stacks_from syms earlier xs)
pushed_from syms earlier [] done all x none key a inside entered = absurd none
pushed_from syms earlier (y ∷ xs) done all x (inl is) key a inside entered =
    pushed_more syms key done (events_on_stacks_from syms earlier (y ∷ xs))
    (all y.event.thread y.event.done.pc key a (subst (λ (z : EventOnStack). IsIn z.stack a) (sym is) inside) entered)
pushed_from syms earlier (y ∷ xs) done all x (inr later) key a inside entered =
    subst (λ (zs : List EventOnStack). IsPushed syms key zs)
    (append_assoc done (event_on_stack_after syms earlier y ∷ []) (events_on_stacks_from syms (earlier ++ y ∷ []) xs))
    (pushed_from syms (earlier ++ y ∷ []) xs (done ++ event_on_stack_after syms earlier y ∷ [])
    (pushed_step syms earlier done y all) x later key a inside entered)

-- an arc with a call or a cost in a segment, of a thread, was pushed by an event of the trace
pub arc_pushed : (syms : SymbolMap) (trace : List CountedEvent) (cuts : List ℕ) (segment : List EventOnStack) (thread : ThreadNo)
    (key : ArcKey) (kind : ℕ) → IsIn (pieces cuts (events_on_stacks syms trace)) segment
    → (arc_calls syms key (of_thread thread segment) ≢ 0) ⊎ (arc_cost kind key (of_thread thread segment) ≢ 0)
    → IsPushed syms key (events_on_stacks syms trace)
arc_pushed syms trace cuts segment thread key kind piece (inl called) =
    let found = some_number (λ (x : EventOnStack). pushes key (change syms x.event x.stack).pushed)
    (of_thread thread segment) called in
    let push = push_found key (change syms found.0.event found.0.stack).pushed found.2 in
    record {
      event = found.0;
      inside =
          in_piece cuts (events_on_stacks syms trace) segment found.0 piece
          (in_filter (λ (x : EventOnStack). x.event.thread.0 == thread.0) segment found.0 found.1).0;
      frame = push.0;
      pushed = push.1;
      entered = push.2;
    }
arc_pushed syms trace cuts segment thread key kind piece (inr costs) =
    let found = some_number (λ (x : EventOnStack). get_or x.cost kind 0 * entered_by key x.stack)
    (of_thread thread segment) costs in
    let frame = frame_found key (get_or found.0.cost kind 0) found.0.stack found.2 in
    pushed_from syms [] trace [] (none_pushed syms) found.0
    (in_piece cuts (events_on_stacks syms trace) segment found.0 piece
    (in_filter (λ (x : EventOnStack). x.event.thread.0 == thread.0) segment found.0 found.1).0)
    key frame.0 frame.1 frame.2
