-- The threads that are ready, and the turn of the first one.
use Rattle.std.specs.Prelude.{ℕ, ◌+◌, ◌-◌, ◌%◌, ◌==◌, Bool, true, List, ◌++◌, length, take, drop, if◌then◌else◌, Option}
use Rattle.std.specs.Prelude.{Some}
use Rattle.std.specs.List.{remove}
use Rattle.std.specs.Option.{option_map, option_map_or}
use Rattle.rand_core.specs.Pcg32Seed.{pcg32_seed}
use Rattle.rand_pcg.specs.Lcg.{Lcg}
use Rattle.rand_pcg.specs.Pcg.{pcg32, pcg32_of_seed}
use Rattle.event_costs.specs.declared.numbers.ThreadNo.{ThreadNo}
use Rattle.guest_sched.specs.declared.turns.Fate.{Fate}
use Rattle.guest_sched.specs.declared.turns.Fate.TheVariants as fate

pub record RunQueue : Type 0 where
  -- the ready threads, of which the first one runs
  pub ready : List ThreadNo
  -- how many steps are left of its turn; 0 where no turn has begun
  pub steps_left : ℕ
  -- the length of a turn, or with a seed the greatest length
  pub quantum : ℕ
  -- what draws the turns, where there is a seed
  pub generator : Option Lcg

-- the generator that a seed makes, `seed_from_u64` of the crate rand_pcg
abbrev pub generator_of : Option ℕ → Option Lcg
generator_of seed = option_map (λ n. pcg32_of_seed (pcg32_seed 16 n)) seed

-- ---- a turn begins

-- the thread at a place, counted from 0, moves to the first place, and the others keep their order
abbrev pub to_front : ℕ → List ThreadNo → List ThreadNo
to_front place threads = take 1 (drop place threads) ++ remove threads place

-- the first word chooses the thread, and the second one the length
abbrev pub with_drawn_turn : ℕ → ℕ → RunQueue → RunQueue
with_drawn_turn first second queue = record queue {
  ready = to_front (first % length queue.ready) queue.ready;
  steps_left = 1 + second % queue.quantum;
}

-- Without a seed a turn has the quantum's length. With one, two words of the generator are drawn.
unfoldable pub with_new_turn : RunQueue → RunQueue
with_new_turn queue =
    option_map_or (λ g.
    record (with_drawn_turn (pcg32 g).0 (pcg32 (pcg32 g).1).0 queue) { generator = Some (pcg32 (pcg32 g).1).1 })
    queue.generator (record queue { steps_left = queue.quantum })

-- ---- a step of a turn

-- threads that a step woke or made go to the end
abbrev pub with_threads : List ThreadNo → RunQueue → RunQueue
with_threads threads queue = record queue { ready = queue.ready ++ threads }

-- a turn ends with its last step, at a yield, and where the thread waits or has ended
abbrev pub ends_turn : Fate → RunQueue → Bool
ends_turn fate.Runs queue = queue.steps_left == 1
ends_turn _ queue = true

-- Where its turn has ended, a thread that neither waits nor has ended follows at the end.
abbrev pub after_turn : Fate → List ThreadNo → List ThreadNo
after_turn fate.Leaves ready = drop 1 ready
after_turn _ ready = drop 1 ready ++ take 1 ready

abbrev pub without_turn : Fate → RunQueue → RunQueue
without_turn f queue = record queue { ready = after_turn f queue.ready; steps_left = 0 }

abbrev pub goes_on : RunQueue → RunQueue
goes_on queue = record queue { steps_left = queue.steps_left - 1 }

-- the queue after a step of the running thread
abbrev pub after_own_step : Fate → RunQueue → RunQueue
after_own_step f queue = if ends_turn f queue then without_turn f queue else goes_on queue

-- The threads that a step woke or made go to the end first; then the running thread follows, where it goes there too.
-- The next turn has not begun yet.
abbrev pub after_step : Fate → List ThreadNo → RunQueue → RunQueue
after_step f threads queue = after_own_step f (with_threads threads queue)
