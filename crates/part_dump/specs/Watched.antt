-- Watched runs: lists of calls as a run makes them, all with the same map of symbols.
use Rattle.std.specs.Prelude.{◌≡◌, ℕ, ◌^◌, ◌<◌, ◌≤◌, ◌==◌, ◌&&◌, Bool, true, false, not, List, [], ◌∷◌, ◌++◌, length}
use Rattle.std.specs.Prelude.{flat_map, All, IfSome, Option, None, Some, is_some, if◌then◌else◌}
use Rattle.std.specs.List.{list_any}
use Rattle.event_costs.specs.Costs.{IsWhole}
use Rattle.event_costs.specs.declared.event.Event.{Event}
use Rattle.sym_map.specs.SymbolMap.{SymbolMap}
use Rattle.shadow_stack.specs.Stacks.{most_frames}
use Rattle.cg_format.specs.Part.{AreKnown}
use Rattle.part_dump.specs.Calls.{Call, Readies, Sees, Writes}
use Rattle.part_dump.specs.Steps.{Step, event_of, live, steps_of_thread, stack_at, thread_of}

-- the steps among calls
abbrev pub steps_of : Call → List Step
steps_of (Readies thread pc) = []
steps_of (Sees x) = x ∷ []
steps_of (Writes head rows) = []

abbrev pub steps_in : List Call → List Step
steps_in cs = flat_map steps_of cs

-- the last of a list
abbrev pub last_of : {A : Type 0} → List A → Option A
last_of [] = None
last_of (x ∷ []) = Some x
last_of (x ∷ (y ∷ ys)) = last_of (y ∷ ys)

-- An event follows the events of its thread: it begins where the last one led, and that didn't end the thread.
abbrev pub Follows : Option Step → Event → Type 0
Follows None e = Unit {0}
Follows (Some x) e = ((event_of x).ends ≡ false) × ((event_of x).done.next ≡ e.done.pc)

abbrev pub is_woken : ℕ → Step → Bool
is_woken thread x = list_any (λ t. t.0 == thread) x.woken

-- Whether a thread waits after these steps, if it did so before them: it does where its last step began to wait and no
-- step since has woken it.
abbrev pub waits_after : ℕ → Bool → List Step → Bool
waits_after thread before [] = before
waits_after thread before (x ∷ xs) =
    waits_after thread (if thread_of x == thread then is_some x.wait else (before && not (is_woken thread x))) xs

abbrev pub waits : ℕ → List Step → Bool
waits thread steps = waits_after thread false steps

-- how many steps a run has at most
abbrev pub most_steps : ℕ
most_steps = 10 ^ 12

-- a step as it may follow these steps
pub record IsOrderly (syms : SymbolMap) (earlier : List Step) (x : Step) : Type 0 where
  pub follows : Follows (last_of (steps_of_thread (thread_of x) earlier)) (event_of x)
  pub whole : IsWhole x.on_stack.cost
  pub ones : All (λ n. n ≤ 1) x.on_stack.cost
  pub room : length earlier < most_steps
  pub frames : live syms earlier < most_frames
  pub stack : x.on_stack.stack ≡ stack_at syms earlier (thread_of x) (event_of x).done.pc
  -- a thread steps where it doesn't wait, and wakes those that wait
  pub awake : waits (thread_of x) earlier ≡ false
  pub wakes : (thread : ℕ) → is_woken thread x ≡ true → waits thread earlier ≡ true

-- the pc at which a thread was last ready
abbrev pub ready_pc_by : ℕ → Call → Option ℕ → Option ℕ
ready_pc_by thread (Readies t pc) before = if t.0 == thread then Some pc else before
ready_pc_by thread (Sees x) before = before
ready_pc_by thread (Writes head rows) before = before

abbrev pub ready_pc_after : ℕ → Option ℕ → List Call → Option ℕ
ready_pc_after thread before [] = before
ready_pc_after thread before (c ∷ cs) = ready_pc_after thread (ready_pc_by thread c before) cs

abbrev pub ready_pc : ℕ → List Call → Option ℕ
ready_pc thread cs = ready_pc_after thread None cs

-- A call as it may follow others. Up to its first step a thread is ready at one pc. A step stands right after its
-- thread was ready at its pc. A part is of a thread that has made a step, and its rows' functions and files are those
-- of the map.
abbrev pub Fits : SymbolMap → List Call → Call → Type 0
Fits syms earlier (Readies thread pc) =
    steps_of_thread thread.0 (steps_in earlier) ≡ [] → IfSome (ready_pc thread.0 earlier) (λ before. before ≡ pc)
Fits syms earlier (Sees x) =
    (last_of earlier ≡ Some (Readies (event_of x).thread (event_of x).done.pc)) × IsOrderly syms (steps_in earlier) x
Fits syms earlier (Writes head rows) = (0 < length (steps_of_thread head.thread.0 (steps_in earlier))) × AreKnown syms rows

-- each call fits those before it
abbrev pub FitAll : SymbolMap → List Call → List Call → Type 0
FitAll syms earlier [] = Unit {0}
FitAll syms earlier (c ∷ cs) = Fits syms earlier c × FitAll syms (earlier ++ c ∷ []) cs

abbrev pub AreWatched : SymbolMap → List Call → Type 0
AreWatched syms cs = FitAll syms [] cs
