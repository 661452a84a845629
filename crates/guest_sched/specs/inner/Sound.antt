-- What holds of every machine between two steps.
use Rattle.std.specs.Prelude.{◌≡◌, ℕ, ◌+◌, ◌≤◌, List, Option, Some, None, slice_get}
use Rattle.std.specs.Option.{option_map}
use Rattle.event_costs.specs.declared.numbers.ThreadNo.{ThreadNo}
use Rattle.guest_load.specs.declared.thread.Thread.{Thread}
use Rattle.guest_futex.specs.Waits.{times_waiting}
use Rattle.guest_sys.specs.Kernel.{Kernel, times_live}
use Rattle.guest_sys.specs.Laws.{times_in}
use Rattle.guest_sched.specs.Engine.{Engine}
use Rattle.guest_sched.specs.declared.engine.Engine.{Engine as EngineFields}

abbrev pub engine_of : EngineFields → Engine
engine_of c = record { kernel = c.kernel; held = c.held; run_queue = c.run_queue; exit = c.exit }

-- the thread whose turn it is: none once the guest has exited
abbrev pub on_turn : Option ℕ → List ThreadNo → Option ThreadNo
on_turn (Some code) ready = None
on_turn None ready = slice_get ready 0

-- the number of the thread at a place
abbrev pub number_at : List Thread → ℕ → Option ℕ
number_at threads place = option_map (λ t. t.no.0) (slice_get threads place)

-- a thread is ready or waits no more often than it is live
abbrev pub IsLively : List ThreadNo → Kernel → Type 0
IsLively ready s =
    (thread : ThreadNo) → times_in thread ready + times_waiting thread s.waits ≤ times_live thread s.guest.threads

pub record IsSound (c : EngineFields) : Type 0 where
  pub lively : IsLively c.run_queue.ready c.kernel
  pub quantum : 1 ≤ c.run_queue.quantum
  pub steps_left : (thread : ThreadNo) → on_turn c.exit c.run_queue.ready ≡ Some thread → 1 ≤ c.run_queue.steps_left
  pub placed : (thread : ThreadNo) → on_turn c.exit c.run_queue.ready ≡ Some thread
      → number_at c.kernel.guest.threads c.place ≡ Some thread.0
