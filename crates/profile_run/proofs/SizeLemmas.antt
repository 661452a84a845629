-- How large the numbers of a run's rows are.
use Rattle.std.proofs.Common.{◌≡◌, ℕ, zero, suc, ◌+◌, ◌*◌, ◌^◌, ◌<◌, ◌≤◌, not, Bool, true, false, List, [], ◌∷◌, ◌++◌}
use Rattle.std.proofs.Common.{length}
use Rattle.std.proofs.Common.{map, filter, flat_map, sum_by, get_or, All, Option, None, Some, refl, ap, sym, subst, ◌∙◌}
use Rattle.std.proofs.Common.{arith, inl, inr, if◌then◌else◌}
use Rattle.std.specs.List.{enumerate_from, range_with_len}
use Rattle.std.proofs.lemmas.List.{length-append, length-map}
use Rattle.std.proofs.lemmas.List.Elements.{All-from_recursion}
use Rattle.std.proofs.lemmas.List.Sums.{sum_by-cons, sum_by-le}
use Rattle.event_costs.specs.Costs.{event_kinds}
use Rattle.event_costs.specs.declared.event.Event.{Event}
use Rattle.event_costs.specs.Keys.{ArcKey, Place}
use Rattle.event_costs.specs.declared.numbers.ThreadNo.{ThreadNo}
use Rattle.cg_format.specs.declared.trigger.Trigger.{Trigger}
use Rattle.sym_map.specs.SymbolMap.{SymbolMap, place_of}
use Rattle.shadow_stack.specs.Changes.{change, new_activation}
use Rattle.shadow_stack.specs.Kinds.{is_root}
use Rattle.shadow_stack.specs.Stacks.{Activation, Stack, most_frames, root}
use Rattle.shadow_stack.specs.Traces.{EventOnStack, stack_of}
use Rattle.shadow_stack.specs.declared.frame.Kind.{Kind}
use Rattle.cache_lru.specs.Costs.{event_cost}
use Rattle.cache_lru.proofs.HistoryLemmas.{event_cost-ones}
use Rattle.arc_costs.specs.Arcs.{is_some_arc}
use Rattle.arc_costs.specs.Contents.{Listed}
use Rattle.arc_costs.specs.Lines.{is_some_line}
use Rattle.event_costs.specs.Order.{same_place}
use Rattle.arc_costs.specs.Rows.{ArcRow, LineRow}
use Rattle.guest_sched.specs.Step.{MachineStep}
use Rattle.recorder.specs.Laws.{IsIn}
use Rattle.recorder.specs.Sums.{arc_calls, arc_cost, entered_by, is_arc, pushes, self_cost}
use Rattle.cg_format.specs.declared.head.PartHead.{PartHead}
use Rattle.part_dump.specs.Calls.{Readies, Sees, Writes, closed_calls, part_calls, segment_calls, step_calls}
use Rattle.part_dump.specs.Calls.{steps_calls}
use Rattle.part_dump.specs.Calls.{thread_calls, tried_calls}
use Rattle.part_dump.specs.Cuts.{cuts}
use Rattle.part_dump.specs.Steps.{Step, event_of, frames_in, steps_of_thread, events_of_thread, events_on_stack_of, stack_at, thread_of, threads}
use Rattle.profile_run.proofs.Others.{cuts_together, length-push, count_is, in_flat, in_left, in_right, all_of}
use Rattle.profile_run.proofs.Others.{from_append, from_flat, from_map, in_filter, units, pushes_one, frames_within}
use Rattle.std.specs.Prelude.{◌==◌}
use Rattle.profile_run.specs.Program.{Program, head_of_run}
use Rattle.profile_run.specs.Parts.{calls_of}
use Rattle.arc_costs.specs.Keys.{by_kind}
use Rattle.recorder.specs.Rows.{arc_at, arcs, line_at, places, rows_of}
use Rattle.profile_run.specs.Sizes.{FitTypes}
use Rattle.profile_run.specs.Steps.{AreTold, IsTold}
use Rattle.profile_run.specs.Trace.{Makes, RunStep, events_of, steps_of}
use Rattle.profile_run.proofs.AccountLemmas.{true_false}
use Rattle.profile_run.proofs.CallLemmas.{calls_whole}
use Rattle.recorder.proofs.StackLemmas.{Each, stack_each}
use Rattle.profile_run.proofs.MachineLemmas.{of_machine}

-- ---- the frames of an arc

-- a root was entered by no arc
abbrev IsBare : Activation → Type 0
IsBare a = is_root a.kind ≡ true → a.arc ≡ None

stacks_bare : (syms : SymbolMap) (es : List Event) (pc : ℕ) → Each IsBare (stack_of syms es pc)
stacks_bare syms = stack_each syms IsBare begins enters
  where
    begins : (pc : ℕ) → Each IsBare (root syms pc)
    begins pc a (inl is) = λ kind. ap (λ (b : Activation). b.arc) (sym is)
    begins pc a (inr none) = elim none [ ]

    enters : (e : Event) (kind : Kind) (s : Stack) → is_root kind ≡ false → Each IsBare s
        → IsBare (new_activation syms e kind s)
    enters e kind s other all = λ is. absurd (true_false (sym is ∙ other))

sums_le : {A : Type 0} (f g : A → ℕ) (xs : List A) → ((x : A) → IsIn xs x → f x ≤ g x) → sum_by f xs ≤ sum_by g xs
sums_le f g [] each = omega arith
sums_le f g (x ∷ xs) each =
    let left = sum_by-cons f x xs in
    let right = sum_by-cons g x xs in
    let here = each x (inl refl) in
    let rest = sums_le f g xs (λ y there. each y (inr there)) in
    omega (arith, left, right, here, rest)

most_one : (b : Bool) → (if b then 1 else 0) ≤ 1
most_one true = omega arith
most_one false = omega arith

-- the frames that were entered by an arc are no roots
entered_few : (k : ArcKey) (s : Stack) → Each IsBare s → entered_by k s ≤ frames_in s
entered_few k s bare =
    let left = count_is (λ (a : Activation). is_arc k a.arc) s in
    let right = count_is (λ (a : Activation). not (is_root a.kind)) s in
    let less =
    sums_le (λ (a : Activation). if is_arc k a.arc then 1 else 0)
    (λ (a : Activation). if not (is_root a.kind) then 1 else 0) s
    (λ a there. by a (bare a there) (is_root a.kind) refl) in
    omega (arith, left, right, less)
  where
    by : (a : Activation) → IsBare a → (b : Bool) → is_root a.kind ≡ b
        → (if is_arc k a.arc then 1 else 0) ≤ (if not b then 1 else 0)
    by a bare_ true is = let none = ap {B = ℕ} (λ o. if is_arc k o then 1 else 0) (bare_ is) in omega (arith, none)
    by a bare_ false is = most_one (is_arc k a.arc)

-- ---- the steps of a run

-- what an event adds to a sum is small
pub record IsSmall (x : EventOnStack) : Type 0 where
  pub ones : (kind : ℕ) → get_or x.cost kind 0 ≤ 1
  pub frames : (k : ArcKey) → entered_by k x.stack ≤ most_frames

module _ (guest : Program) where
  small_step : (before : List RunStep) (told : MachineStep) (x : RunStep) → IsTold guest before told x → IsSmall x.step.on_stack
  small_step before told x is =
      let thread = told.event.thread.0 in
      let pc = told.event.done.pc in
      let steps = steps_of before in
      let cost = event_cost guest.options.branch guest.options.shapes (events_of before) told.event in
      subst (λ (y : RunStep). IsSmall y.step.on_stack) (sym is.is)
      (record {
        ones = units cost (event_cost-ones guest.options.branch guest.options.shapes (events_of before) told.event);
        frames = λ k.
            (let few =
            entered_few k (stack_at guest.syms steps thread pc)
            (stacks_bare guest.syms (events_of_thread thread steps) pc) in
            let within = frames_within guest.syms steps thread pc in
            let room = is.room in
            omega (arith, few, within, room));
      })

  pub are_small : (before : List RunStep) (tolds : List MachineStep) (xs : List RunStep) → AreTold guest before tolds xs
      → (y : Step) → IsIn (steps_of xs) y → IsSmall y.on_stack
  are_small before [] [] are y there = elim there [ ]
  are_small before [] (x ∷ xs) are y there = absurd are
  are_small before (t ∷ ts) [] are y there = absurd are
  are_small before (t ∷ ts) (x ∷ xs) are y (inl is) =
      subst (λ (z : Step). IsSmall z.on_stack) is (small_step before t x are.0)
  are_small before (t ∷ ts) (x ∷ xs) are y (inr there) = are_small (before ++ x ∷ []) ts xs are.1 y there

  pub are_few : (before : List RunStep) (tolds : List MachineStep) (xs : List RunStep) → length before ≤ guest.options.budget
      → AreTold guest before tolds xs → length before + length xs ≤ guest.options.budget
  are_few before [] [] few are = omega (arith, few)
  are_few before [] (x ∷ xs) few are = absurd are
  are_few before (t ∷ ts) [] few are = absurd are
  are_few before (t ∷ ts) (x ∷ xs) few are =
      let spare = are.0.spare in
      let more = length-push before x in
      let rest = are_few (before ++ x ∷ []) ts xs (omega (arith, spare, more)) are.1 in
      omega (arith, rest, more)

-- ---- sums over few events

-- one number of a cost, for each frame
product_most : (n k : ℕ) → n ≤ 1 → k ≤ most_frames → n * k ≤ most_frames
product_most zero k one few = let none : 0 * k ≡ 0 = omega arith in omega (arith, none)
product_most (suc zero) k one few = let same : 1 * k ≡ k = omega arith in omega (arith, same, few)
product_most (suc (suc n)) k one few = absurd (omega (arith, one))

by_kind_fits : (f : ℕ → ℕ) → ((kind : ℕ) → f kind < 2 ^ 64) → All (λ n. n < 2 ^ 64) (by_kind f)
by_kind_fits f small =
    All-from_recursion (λ n. n < 2 ^ 64) (by_kind f)
    (all_of (λ n. n < 2 ^ 64) (by_kind f)
    (λ n there. (let kind = from_map f (range_with_len 0 event_kinds) n there in
    subst (λ k. k < 2 ^ 64) kind.2 (small kind.0))))

module _ (syms : SymbolMap) (xs : List EventOnStack) (small : (x : EventOnStack) → IsIn xs x → IsSmall x)
    (few : length xs ≤ 10 ^ 12) where
  sum_few : (f : EventOnStack → ℕ) (n : ℕ) → ((x : EventOnStack) → IsIn xs x → f x ≤ n) → sum_by f xs ≤ length xs * n
  sum_few f n each = sum_by-le f n xs (All-from_recursion (λ x. f x ≤ n) xs (all_of (λ x. f x ≤ n) xs each))

  pub self_fits : (kind : ℕ) (place : Place) → self_cost syms kind place xs < 2 ^ 64
  self_fits kind place =
      let most =
      sum_few (λ x. if same_place place (place_of syms x.event.done.pc) then get_or x.cost kind 0 else 0) 1
      (λ x there. by (same_place place (place_of syms x.event.done.pc)) ((small x there).ones kind)) in
      omega (arith, most, few)
    where
      by : {n : ℕ} (b : Bool) → n ≤ 1 → (if b then n else 0) ≤ 1
      by true one = one
      by false one = omega arith

  pub arc_fits : (kind : ℕ) (k : ArcKey) → arc_cost kind k xs < 2 ^ 64
  arc_fits kind k =
      let most =
      sum_few (λ x. get_or x.cost kind 0 * entered_by k x.stack) most_frames
      (λ x there. product_most (get_or x.cost kind 0) (entered_by k x.stack) ((small x there).ones kind)
      ((small x there).frames k)) in
      omega (arith, most, few)

  pub calls_fit : (k : ArcKey) → arc_calls syms k xs < 2 ^ 64
  calls_fit k =
      let most =
      sum_few (λ x. pushes k (change syms x.event x.stack).pushed) 1
      (λ x there. pushes_one k (change syms x.event x.stack).pushed) in
      omega (arith, most, few)

  a_line : (r : LineRow) → IsIn (filter is_some_line (map (line_at syms xs) (places syms xs))) r
      → All (λ n. n < 2 ^ 64) r.cost
  a_line r there =
      let from =
      from_map (line_at syms xs) (places syms xs) r
      (in_filter is_some_line (map (line_at syms xs) (places syms xs)) r there).0 in
      subst (λ (q : LineRow). All (λ n. n < 2 ^ 64) q.cost) from.2
      (by_kind_fits (λ kind. self_cost syms kind from.0 xs) (λ kind. self_fits kind from.0))

  an_arc : (r : ArcRow) → IsIn (filter is_some_arc (map (arc_at syms xs) (arcs syms xs))) r
      → (r.calls < 2 ^ 64) × All (λ n. n < 2 ^ 64) r.cost
  an_arc r there =
      let from =
      from_map (arc_at syms xs) (arcs syms xs) r
      (in_filter is_some_arc (map (arc_at syms xs) (arcs syms xs)) r there).0 in
      let P : ArcRow → Type 0 = λ q. (q.calls < 2 ^ 64) × All (λ n. n < 2 ^ 64) q.cost in
      let here : P (arc_at syms xs from.0) =
      (calls_fit from.0, by_kind_fits (λ kind. arc_cost kind from.0 xs) (λ kind. arc_fits kind from.0)) in
      subst P from.2 here

  rows_fit : FitTypes (rows_of syms xs)
  unfolding rows_of
  rows_fit =
      let line_rows = filter is_some_line (map (line_at syms xs) (places syms xs)) in
      let arc_rows = filter is_some_arc (map (arc_at syms xs) (arcs syms xs)) in
      record {
        lines =
            All-from_recursion (λ (r : LineRow). All (λ n. n < 2 ^ 64) r.cost) line_rows
            (all_of (λ (r : LineRow). All (λ n. n < 2 ^ 64) r.cost) line_rows a_line);
        calls =
            All-from_recursion (λ (r : ArcRow). r.calls < 2 ^ 64) arc_rows
            (all_of (λ (r : ArcRow). r.calls < 2 ^ 64) arc_rows (λ r there. (an_arc r there).0));
        arcs =
            All-from_recursion (λ (r : ArcRow). All (λ n. n < 2 ^ 64) r.cost) arc_rows
            (all_of (λ (r : ArcRow). All (λ n. n < 2 ^ 64) r.cost) arc_rows (λ r there. (an_arc r there).1));
      }

-- ---- the parts of a run

same_rows : (h k : PartHead) (a b : Listed) → Writes h a ≡ Writes k b → b ≡ a
same_rows h k a b e = cc

not_readies : (thread : ThreadNo) (pc : ℕ) (h : PartHead) (rows : Listed) → Readies thread pc ≡ Writes h rows → ⊥
not_readies thread pc h rows e = cc

not_sees : (x : Step) (h : PartHead) (rows : Listed) → Sees x ≡ Writes h rows → ⊥
not_sees x h rows e = cc

in_enumerate : {X : Type 0} (n : ℕ) (xs : List X) (p : ℕ × X) → IsIn (enumerate_from n xs) p → IsIn xs p.1
in_enumerate n [] p there = elim there [ ]
in_enumerate n (x ∷ xs) p (inl is) = inl (ap (λ q. q.1) is)
in_enumerate n (x ∷ xs) p (inr there) = inr (in_enumerate (n + 1) xs p there)

length_in_flat : {A B : Type 0} (f : A → List B) (xs : List A) (x : A) → IsIn xs x
    → length (f x) ≤ length (flat_map f xs)
length_in_flat {B = B} f [] x there = elim there [ ]
length_in_flat {B = B} f (y ∷ xs) x (inl is) =
    let all = length-append (f y) (flat_map f xs) in
    let here = ap (λ z. length (f z)) is in
    omega (arith, all, here)
length_in_flat {B = B} f (y ∷ xs) x (inr there) =
    let all = length-append (f y) (flat_map f xs) in
    let rest = length_in_flat f xs x there in
    omega (arith, all, rest)

-- rows of a thread's events among some steps
record AreRowsIn (syms : SymbolMap) (steps : List Step) (rows : Listed) : Type 0 where
  segment : List Step
  thread : ℕ
  within : (x : Step) → IsIn segment x → IsIn steps x
  few : length segment ≤ length steps
  is : rows ≡ rows_of syms (events_on_stack_of thread segment)

module _ (guest : Program) (steps : List Step) where
  abbrev closed : List (List Step × Trigger)
  closed = (cuts guest.syms guest.options.dump_points steps).closed

  abbrev recent : List Step
  recent = (cuts guest.syms guest.options.dump_points steps).recent

  abbrev all_closed : List Step
  all_closed = flat_map (λ (s : List Step × Trigger). s.0) closed

  together : all_closed ++ recent ≡ steps
  together = cuts_together guest.syms guest.options.dump_points steps

  of_thread : (part : ℕ) (trigger : Trigger) (thread : ℕ) (xs : List EventOnStack) (h : PartHead) (rows : Listed)
      → IsIn (thread_calls (rows_of guest.syms) (head_of_run guest) part trigger thread xs) (Writes h rows)
      → rows ≡ rows_of guest.syms xs
  of_thread part trigger thread [] h rows there = elim there [ ]
  of_thread part trigger thread (x ∷ xs) h rows (inl is) =
      same_rows _ h (rows_of guest.syms (x ∷ xs)) rows is
  of_thread part trigger thread (x ∷ xs) h rows (inr none) = elim none [ ]

  of_parts : (part : ℕ) (segment : List Step) (trigger : Trigger) (h : PartHead) (rows : Listed)
      → IsIn (part_calls (rows_of guest.syms) (head_of_run guest) part segment trigger) (Writes h rows)
      → ((x : Step) → IsIn segment x → IsIn steps x) → length segment ≤ length steps
      → AreRowsIn guest.syms steps rows
  of_parts part segment trigger h rows there inside less =
      let from =
      from_flat
      (λ thread. thread_calls (rows_of guest.syms) (head_of_run guest) part trigger thread (events_on_stack_of thread segment))
      (threads segment) (Writes h rows) there in
      record {
        segment = segment;
        thread = from.0;
        within = inside;
        few = less;
        is = of_thread part trigger from.0 (events_on_stack_of from.0 segment) h rows from.2;
      }

  no_part : (xs : List Step) (h : PartHead) (rows : Listed) → IsIn (steps_calls xs) (Writes h rows) → ⊥
  no_part xs h rows there =
      let from = from_flat step_calls xs (Writes h rows) there in by from.0 from.2
    where
      by : (x : Step) → IsIn (step_calls x) (Writes h rows) → ⊥
      by x (inl is) = not_readies (event_of x).thread (event_of x).done.pc h rows is
      by x (inr (inl is)) = not_sees x h rows is
      by x (inr (inr none)) = elim none [ ]

  no_tried : (tried : Option (ThreadNo × ℕ)) (h : PartHead) (rows : Listed) → IsIn (tried_calls tried) (Writes h rows)
      → ⊥
  no_tried None h rows there = elim there [ ]
  no_tried (Some t) h rows (inl is) = not_readies t.0 t.1 h rows is
  no_tried (Some t) h rows (inr none) = elim none [ ]

  of_closed : (h : PartHead) (rows : Listed)
      → IsIn (closed_calls (rows_of guest.syms) (head_of_run guest) closed) (Writes h rows)
      → AreRowsIn guest.syms steps rows
  of_closed h rows there =
      let from =
      from_flat (λ s. segment_calls (rows_of guest.syms) (head_of_run guest) s.0 s.1.0 s.1.1) (enumerate_from 1 closed)
      (Writes h rows) there in
      let segment = from.0.1.0 in
      let inside = in_enumerate 1 closed from.0 from.1 in
      elim (from_append (steps_calls segment)
      (part_calls (rows_of guest.syms) (head_of_run guest) from.0.0 segment from.0.1.1) (Writes h rows) from.2) as
      (λ _. AreRowsIn guest.syms steps rows) [
        | inl told ↦ absurd (no_part segment h rows told)
        | inr part ↦
            of_parts from.0.0 segment from.0.1.1 h rows part
            (λ x is. subst (λ ys. IsIn ys x) together
            (in_left all_closed recent x (in_flat (λ (s : List Step × Trigger). s.0) closed from.0.1 x inside is)))
            (let one = length_in_flat (λ (s : List Step × Trigger). s.0) closed from.0.1 inside in
            let all = ap length (sym together) ∙ length-append all_closed recent in
            omega (arith, one, all))
      ]

  of_recent : (part : ℕ) (trigger : Trigger) (h : PartHead) (rows : Listed)
      → IsIn (part_calls (rows_of guest.syms) (head_of_run guest) part recent trigger) (Writes h rows)
      → AreRowsIn guest.syms steps rows
  of_recent part trigger h rows there =
      of_parts part recent trigger h rows there
      (λ x is. subst (λ ys. IsIn ys x) together (in_right all_closed recent x is))
      (let all = ap length (sym together) ∙ length-append all_closed recent in omega (arith, all))

  part_rows : (tried : Option (ThreadNo × ℕ)) (h : PartHead) (rows : Listed)
      → IsIn (calls_of guest steps tried) (Writes h rows) → AreRowsIn guest.syms steps rows
  part_rows tried h rows there =
      let before = closed_calls (rows_of guest.syms) (head_of_run guest) closed in
      elim (from_append ((before ++ steps_calls recent) ++ tried_calls tried) _ (Writes h rows)
      (subst (λ cs. IsIn cs (Writes h rows)) (calls_whole guest steps tried) there)) as
      (λ _. AreRowsIn guest.syms steps rows) [
        | inr last ↦ of_recent _ _ h rows last
        | inl told ↦
            elim (from_append (before ++ steps_calls recent) (tried_calls tried) (Writes h rows) told) as
            (λ _. AreRowsIn guest.syms steps rows) [
              | inr none ↦ absurd (no_tried tried h rows none)
              | inl early ↦
                  elim (from_append before (steps_calls recent) (Writes h rows) early) as
                  (λ _. AreRowsIn guest.syms steps rows) [
                    | inl cut ↦ of_closed h rows cut
                    | inr none ↦ absurd (no_part recent h rows none)
                  ]
            ]
      ]

pub fewer : (p : Step → Bool) (xs : List Step) → length (filter p xs) ≤ length xs
fewer p [] = omega arith
fewer p (x ∷ xs) = by (p x) (fewer p xs)
  where
    by : (b : Bool) → length (filter p xs) ≤ length xs
        → length (if b then x ∷ filter p xs else filter p xs) ≤ length (x ∷ xs)
    by true rest = omega (arith, rest)
    by false rest = omega (arith, rest)

pub parts_fit : (guest : Program) (past : List RunStep) (tried : Option (ThreadNo × ℕ)) (h : PartHead) (rows : Listed)
    → guest.options.budget ≤ 10 ^ 12 → Makes guest past → IsIn (calls_of guest (steps_of past) tried) (Writes h rows)
    → FitTypes rows
parts_fit guest past tried h rows long makes there =
    let run = of_machine guest past makes in
    let part = part_rows guest (steps_of past) tried h rows there in
    let xs = events_on_stack_of part.thread part.segment in
    let own_few = fewer (λ x. thread_of x == part.thread) part.segment in
    let seen = length-map (steps_of_thread part.thread part.segment) (λ (x : Step). x.on_stack) in
    let all = length-map past (λ (x : RunStep). x.step) in
    let within = are_few guest [] run.tolds past (omega arith) run.are in
    let less = part.few in
    subst FitTypes (sym part.is)
    (rows_fit guest.syms xs
    (λ x is. (let y = from_map (λ (z : Step). z.on_stack) (steps_of_thread part.thread part.segment) x is in
    let at = in_filter (λ (z : Step). thread_of z == part.thread) part.segment y.0 y.1 in
    subst IsSmall y.2 (are_small guest [] run.tolds past run.are y.0 (part.within y.0 at.0))))
    (omega (arith, own_few, seen, all, within, less, long)))
