-- The same events of a thread in two runs are the same work.
use Rattle.std.proofs.Common.{◌≡◌, ℕ, ◌+◌, ◌*◌, ◌==◌, Bool, true, List, [], ◌∷◌, ◌++◌, map, get_or, refl, sym, ap, ◌∙◌}
use Rattle.std.proofs.Common.{if◌then◌else◌, subst, sum_by}
use Rattle.std.specs.List.{AllByRecursion}
use Rattle.std.proofs.lemmas.List.Elements.{All-filter, All-from_recursion, recursion_from_All}
use Rattle.std.proofs.lemmas.List.Sums.{sum_by-cons}
use Rattle.event_costs.specs.Kinds.{number}
use Rattle.event_costs.specs.declared.event.Event.{Event}
use Rattle.event_costs.specs.declared.kind.Kind.{Kind}
use Rattle.event_costs.specs.declared.kind.Kind.TheVariants.{Ir, Dr, Dw, I1mr, D1mr, D1mw, ILmr, DLmr, DLmw}
use Rattle.event_costs.specs.declared.kind.Kind.TheVariants.{Bc, Bcm, Bi, Bim}
use Rattle.sym_map.specs.SymbolMap.{SymbolMap, place_of}
use Rattle.shadow_stack.specs.Changes.{after, change}
use Rattle.shadow_stack.specs.Stacks.{Stack, root}
use Rattle.shadow_stack.specs.Traces.{EventOnStack, first_pc}
use Rattle.event_costs.specs.Order.{same_place}
use Rattle.cache_lru.specs.Costs.{Shapes, event_cost}
use Rattle.guest_sched.specs.Step.{MachineStep}
use Rattle.part_dump.specs.Steps.{Step, event_of, steps_of_thread, events_of_thread, events_on_stack_of, thread_of}
use Rattle.recorder.specs.Standing as recorder
use Rattle.recorder.specs.Sums.{entered_by, pushes}
use Rattle.profile_run.specs.Program.{Program, CanRun}
use Rattle.profile_run.specs.Steps.{AreTold}
use Rattle.profile_run.specs.Trace.{Makes, RunStep, steps_of}
use Rattle.once_each.specs.Runs.{costed_step}
use Rattle.run_laws.specs.ThreadWork.{HaveSameWork, first_stack, is_work, own_costed_events}
use Rattle.run_laws.proofs.EventLemmas.{have_stacks, machine}
use Rattle.run_laws.proofs.OwnRowLemmas.{own_folded}

-- what came before an event, and the caches, change nothing of these kinds
same_count : (branches : Bool) (shapes others : Shapes) (before past : List Event) (event : Event) (kind : Kind)
    → is_work kind ≡ true
    → get_or (event_cost branches shapes before event) (number kind) 0
    ≡ get_or (event_cost branches others past event) (number kind) 0
unfolding event_cost
same_count branches shapes others before past event Ir is = refl
same_count branches shapes others before past event Dr is = refl
same_count branches shapes others before past event Dw is = refl
same_count branches shapes others before past event Bc is = refl
same_count branches shapes others before past event Bi is = refl
same_count branches shapes others before past event I1mr is = absurd (cc)
same_count branches shapes others before past event D1mr is = absurd (cc)
same_count branches shapes others before past event D1mw is = absurd (cc)
same_count branches shapes others before past event ILmr is = absurd (cc)
same_count branches shapes others before past event DLmr is = absurd (cc)
same_count branches shapes others before past event DLmw is = absurd (cc)
same_count branches shapes others before past event Bcm is = absurd (cc)
same_count branches shapes others before past event Bim is = absurd (cc)

-- a step costs what its event costs after some others
pub record IsCosted (branches : Bool) (x : Step) : Type 0 where
  pub shapes : Shapes
  pub before : List Event
  pub is : x.on_stack.cost ≡ event_cost branches shapes before (event_of x)

costed_from : (guest : Program) (before : List RunStep) (tolds : List MachineStep) (past : List RunStep)
    → AreTold guest before tolds past → AllByRecursion (IsCosted guest.options.branch) (steps_of past)
costed_from guest before [] [] are = tt
costed_from guest before [] (x ∷ past) are = absurd are
costed_from guest before (told ∷ tolds) [] are = absurd are
costed_from guest before (told ∷ tolds) (x ∷ past) are = (
  subst (λ (y : RunStep). IsCosted guest.options.branch y.step) (sym are.0.is)
      (record { shapes = guest.options.shapes; before = _; is = refl }),
  costed_from guest (before ++ x ∷ []) tolds past are.1,
)

own_costed : (guest : Program) → CanRun guest → (past : List RunStep) → Makes guest past → (thread : ℕ)
    → AllByRecursion (IsCosted guest.options.branch) (steps_of_thread thread (steps_of past))
own_costed guest can past makes thread =
    let m = machine guest can past makes in
    recursion_from_All (IsCosted guest.options.branch) (steps_of_thread thread (steps_of past))
    (All-filter (λ (x : Step). thread_of x == thread) (IsCosted guest.options.branch) (steps_of past)
    (All-from_recursion (IsCosted guest.options.branch) (steps_of past) (costed_from guest [] m.tolds past m.are)))

-- of the events of two lists each is the same, and has the same number
abbrev AreAlike : ℕ → List Step → List Step → Type 0
AreAlike kind [] [] = Unit {0}
AreAlike kind [] (y ∷ ys) = ⊥
AreAlike kind (x ∷ xs) [] = ⊥
AreAlike kind (x ∷ xs) (y ∷ ys) =
    (event_of x ≡ event_of y) × (get_or x.on_stack.cost kind 0 ≡ get_or y.on_stack.cost kind 0) × AreAlike kind xs ys

sums_alike : (syms : SymbolMap) (kind : ℕ) (sum : Event → Stack → ℕ → ℕ) (s : Stack) (xs ys : List Step)
    → AreAlike kind xs ys
    → sum_by (λ (x : EventOnStack). sum x.event x.stack (get_or x.cost kind 0)) (recorder.events_on_stack syms s (map costed_step xs))
    ≡ sum_by (λ (x : EventOnStack). sum x.event x.stack (get_or x.cost kind 0)) (recorder.events_on_stack syms s (map costed_step ys))
sums_alike syms kind sum s [] [] are = refl
sums_alike syms kind sum s [] (y ∷ ys) are = absurd are
sums_alike syms kind sum s (x ∷ xs) [] are = absurd are
sums_alike syms kind sum s (x ∷ xs) (y ∷ ys) are =
    let number = λ (x : EventOnStack). sum x.event x.stack (get_or x.cost kind 0) in
    let rest = λ (e : Event) (zs : List Step).
    recorder.events_on_stack syms (after syms s e) (map costed_step zs) in
    let first : Step → EventOnStack = λ z. record { event = event_of z; cost = z.on_stack.cost; stack = s } in
    sum_by-cons number (first x) (rest (event_of x) xs)
    ∙ (λ i. sum (are.0 i) s (are.1 i) + sums_alike syms kind sum (after syms s (event_of x)) xs ys are.2 i)
    ∙ (λ i. sum (event_of y) s (get_or y.on_stack.cost kind 0) + sum_by number (rest (are.0 i) ys))
    ∙ sym (sum_by-cons number (first y) (rest (event_of y) ys))

events_alike : (branches : Bool) (kind : Kind) → is_work kind ≡ true → (xs ys : List Step)
    → AllByRecursion (IsCosted branches) xs → AllByRecursion (IsCosted branches) ys → map event_of xs ≡ map event_of ys
    → AreAlike (number kind) xs ys
events_alike branches kind work [] [] a b same = tt
events_alike branches kind work [] (y ∷ ys) a b same = absurd (cc)
events_alike branches kind work (x ∷ xs) [] a b same = absurd (cc)
events_alike branches kind work (x ∷ xs) (y ∷ ys) a b same =
    let first : event_of x ≡ event_of y = cc in
    let others : map event_of xs ≡ map event_of ys = cc in (
      first,
      ap (λ (cost : List ℕ). get_or cost (number kind) 0) a.0.is
          ∙ same_count branches a.0.shapes b.0.shapes a.0.before b.0.before (event_of x) kind work
          ∙ ap (λ (e : Event). get_or (event_cost branches b.0.shapes b.0.before e) (number kind) 0) first
          ∙ ap (λ (cost : List ℕ). get_or cost (number kind) 0) (sym b.0.is),
      events_alike branches kind work xs ys a.1 b.1 others,
    )

module _ (guest other : Program) (past others : List RunStep) (thread : ℕ) (can : CanRun guest) (could : CanRun other)
    (makes : Makes guest past) (made : Makes other others) (one_map : guest.syms ≡ other.syms)
    (branches : guest.options.branch ≡ other.options.branch)
    (same : events_of_thread thread (steps_of past) ≡ events_of_thread thread (steps_of others)) where
  abbrev syms : SymbolMap
  syms = guest.syms

  abbrev first : Stack
  first = first_stack syms thread (steps_of past)

  -- both begin with one stack
  folded : events_on_stack_of thread (steps_of others) ≡ recorder.events_on_stack syms first (own_costed_events thread (steps_of others))
  folded =
      let map_back = sym one_map in
      let events_back = sym same in
      own_folded other.syms thread (steps_of others) (have_stacks other could others made)
      ∙ (λ i. recorder.events_on_stack (map_back i) (root (map_back i) (first_pc (events_back i) 0))
      (own_costed_events thread (steps_of others)))

  sums : (kind : Kind) → is_work kind ≡ true → (sum : Event → Stack → ℕ → ℕ)
      → sum_by (λ (x : EventOnStack). sum x.event x.stack (get_or x.cost (number kind) 0)) (events_on_stack_of thread (steps_of past))
      ≡ sum_by (λ (x : EventOnStack). sum x.event x.stack (get_or x.cost (number kind) 0)) (events_on_stack_of thread (steps_of others))
  sums kind work sum =
      let of_seen = λ (x : EventOnStack). sum x.event x.stack (get_or x.cost (number kind) 0) in
      ap (sum_by of_seen) (own_folded syms thread (steps_of past) (have_stacks guest can past makes))
      ∙ sums_alike syms (number kind) sum first (steps_of_thread thread (steps_of past)) (steps_of_thread thread (steps_of others))
      (events_alike guest.options.branch kind work (steps_of_thread thread (steps_of past)) (steps_of_thread thread (steps_of others))
      (own_costed guest can past makes thread)
      (subst (λ b. AllByRecursion (IsCosted b) (steps_of_thread thread (steps_of others))) (sym branches)
      (own_costed other could others made thread))
      same)
      ∙ sym (ap (sum_by of_seen) folded)

  pub same_work : HaveSameWork syms (events_on_stack_of thread (steps_of past)) (events_on_stack_of thread (steps_of others))
  same_work = record {
    lines = λ kind place work. sums kind work (λ e s n. if same_place place (place_of syms e.done.pc) then n else 0);
    arcs = λ kind arc work. sums kind work (λ e s n. n * entered_by arc s);
    calls = λ arc. sums Ir refl (λ e s n. pushes arc (change syms e s).pushed);
  }
