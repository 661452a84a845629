-- What holds of every run: the order of each thread's events, of waits and wakings, and of threads.
use Rattle.std.specs.Prelude.{◌≡◌, ℕ, ◌+◌, ◌≤◌, ◌^◌, ◌==◌, ◌&&◌, Bool, true, false, not, nat_le, List, [], ◌∷◌}
use Rattle.std.specs.Prelude.{if◌then◌else◌, Option, Some, None}
use Rattle.std.specs.List.{list_any}
use Rattle.std.specs.Option.{is_some, option_map}
use Rattle.event_costs.specs.Runs.{Run}
use Rattle.event_costs.specs.declared.numbers.ThreadNo.{ThreadNo}
use Rattle.event_costs.specs.declared.outcome.End.{End}
use Rattle.event_costs.specs.declared.outcome.End.TheVariants.{Exited, Killed, UnsupportedInstr, UnsupportedCall, Budget}
use Rattle.event_costs.specs.declared.outcome.End.TheVariants.{Frames, AllWaiting}
use Rattle.rv_step.specs.Promises.{IsWithin}
use Rattle.guest_load.specs.declared.thread.Thread.{Thread}
use Rattle.guest_load.specs.Guest.{Guest}
use Rattle.guest_load.specs.Lawful.{IsLawful}
use Rattle.guest_sys.specs.CallRow.{caller_of}
use Rattle.guest_sched.specs.Step.{MachineStep}
use Rattle.guest_sched.specs.Machine.{Machine, new_machine, next}

-- ---- where a thread stands after the steps so far

abbrev pub is_step_of : ThreadNo → MachineStep → Bool
is_step_of thread x = x.event.thread.0 == thread.0

abbrev pub later : Option MachineStep → Option MachineStep → Option MachineStep
later (Some x) o = Some x
later None o = o

-- the last step of a thread
abbrev pub last_step : ThreadNo → List MachineStep → Option MachineStep
last_step thread [] = None
last_step thread (x ∷ xs) = later (last_step thread xs) (if is_step_of thread x then Some x else None)

-- the step that made a thread: the first one after which there have been so many
abbrev pub maker : ThreadNo → List MachineStep → Option MachineStep
maker thread [] = None
maker thread (x ∷ xs) = if nat_le thread.0 x.threads then Some x else maker thread xs

abbrev pub next_pc : Option MachineStep → Option ℕ
next_pc o = option_map (λ x. x.event.done.next) o

abbrev pub pc_in : ThreadNo → List Thread → Option ℕ
pc_in thread threads = option_map (λ c. c.thread.regs.pc) (caller_of thread threads)

-- the first pc of a thread: its pc in the first guest, or the next pc of its maker
abbrev pub start_pc : Guest → ThreadNo → List MachineStep → Option ℕ
start_pc guest thread xs = if nat_le thread.0 guest.made then pc_in thread guest.threads else next_pc (maker thread xs)

abbrev pub after_last : Option MachineStep → Option ℕ → Option ℕ
after_last None start = start
after_last (Some x) start = if x.event.ends then None else Some x.event.done.next

-- the pc at which a thread goes on: none once it has ended
unfoldable pub pc_after : Guest → ThreadNo → List MachineStep → Option ℕ
pc_after guest thread xs = after_last (last_step thread xs) (start_pc guest thread xs)

-- ---- who waits

abbrev pub is_woken : ThreadNo → MachineStep → Bool
is_woken thread x = list_any (λ t. t.0 == thread.0) x.woken

-- a thread waits after a step of its own that began a wait, and after another's that didn't wake it
abbrev pub waits_after : ThreadNo → Bool → MachineStep → Bool
waits_after thread now x = if is_step_of thread x then is_some x.wait else now && not (is_woken thread x)

abbrev pub waits_from : ThreadNo → Bool → List MachineStep → Bool
waits_from thread now [] = now
waits_from thread now (x ∷ xs) = waits_from thread (waits_after thread now x) xs

-- whether a thread waits after the steps so far
unfoldable pub waits : ThreadNo → List MachineStep → Bool
waits thread xs = waits_from thread false xs

-- ---- how many threads there have been

abbrev pub made_from : ℕ → List MachineStep → ℕ
made_from made [] = made
made_from made (x ∷ xs) = made_from x.threads xs

-- ---- the laws

-- the machine comes from its first state by these steps
pub record IsReached (guest : Guest) (quantum : ℕ) (seed : Option ℕ) (earlier : List MachineStep) (m : Machine) : Type 0 where
  pub lawful : IsLawful guest
  pub run : Run next (new_machine guest quantum seed) earlier m

-- A step after others.
pub record InOrder (guest : Guest) (earlier : List MachineStep) (x : MachineStep) : Type 0 where
  -- its pc is the next pc of its thread's step before it; the thread hasn't ended
  pub goes_on : pc_after guest x.event.thread earlier ≡ Some x.event.done.pc
  -- its thread doesn't wait
  pub awake : waits x.event.thread earlier ≡ false
  -- and who is woken waited
  pub wakes : (thread : ThreadNo) → is_woken thread x ≡ true → waits thread earlier ≡ true
  -- its thread is one of those that were made
  pub numbered : (1 ≤ x.event.thread.0) × (x.event.thread.0 ≤ made_from guest.made earlier)
  -- and it makes one thread more or none
  pub makes : (made_from guest.made earlier ≤ x.threads) × (x.threads ≤ made_from guest.made earlier + 1)
  -- its word and its data lie below 2^32
  pub within : (x.event.done.pc + 4 ≤ 2 ^ 32) × IsWithin x.event.done.touch

-- an end that an instruction or a call gave, which was tried
abbrev pub IsTried : End → Type 0
IsTried (Killed signal pc) = Unit {0}
IsTried (UnsupportedInstr pc word) = Unit {0}
IsTried (UnsupportedCall pc number) = Unit {0}
IsTried (Exited code) = ⊥
IsTried (Budget steps) = ⊥
IsTried Frames = ⊥
IsTried AllWaiting = ⊥
