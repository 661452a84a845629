-- The machine: the guest and its waits, the ready threads with their turn, the running thread's reservation and, once
-- the guest has exited, its exit code.
use Rattle.std.specs.Prelude.{ℕ, List, [], ◌∷◌, map, slice_get, if◌then◌else◌, Option, None}
use Rattle.std.specs.Option.{option_and_then}
use Rattle.event_costs.specs.declared.numbers.ThreadNo.{ThreadNo}
use Rattle.guest_load.specs.Guest.{Guest}
use Rattle.guest_sys.specs.Kernel.{Kernel, kernel_of}
use Rattle.guest_sys.specs.CallRow.{caller_of}
use Rattle.guest_sys.specs.declared.caller.Caller.{Caller}
use Rattle.guest_sched.specs.declared.turns.Fate.{Fate}
use Rattle.guest_sched.specs.RunQueue.{RunQueue, generator_of, with_new_turn, ends_turn, after_step}

pub record Engine : Type 0 where
  pub kernel : Kernel
  pub held : Option ℕ
  pub run_queue : RunQueue
  pub exit : Option ℕ

-- the running thread is the first ready one, with its place among the live ones
unfoldable pub runner : Engine → Option Caller
runner w = option_and_then (λ thread. caller_of thread w.kernel.guest.threads) (slice_get w.run_queue.ready 0)

-- ---- turns

-- the next turn begins where the guest hasn't exited and a thread is ready
abbrev pub begins : Option ℕ → List ThreadNo → RunQueue → RunQueue
begins None (thread ∷ threads) line = with_new_turn line
begins _ _ line = line

abbrev pub next_turn : Engine → Engine
next_turn w = record w { run_queue = begins w.exit w.run_queue.ready w.run_queue }

-- the machine once the running thread's step has passed; the end of its turn clears the reservation
unfoldable pub engine_after_step : Fate → List ThreadNo → Engine → Engine
engine_after_step f threads w =
    if ends_turn f w.run_queue
    then next_turn (record w { run_queue = after_step f threads w.run_queue; held = None })
    else record w { run_queue = after_step f threads w.run_queue }

-- ---- the first machine

-- a guest in which nobody waits and all live threads are ready, by rising number
unfoldable pub first_engine : Guest → ℕ → Option ℕ → Engine
first_engine guest quantum seed = next_turn (record {
  kernel = kernel_of guest [];
  held = None;
  run_queue = record {
    ready = map (λ t. t.no) guest.threads;
    steps_left = 0;
    quantum = quantum;
    generator = generator_of seed;
  };
  exit = None;
})
