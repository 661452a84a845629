-- The ready threads, from the circle in which they are kept.
use Rattle.std.specs.Prelude.{map}
use Rattle.guest_sched.specs.RunQueue.{RunQueue}
use Rattle.guest_sched.specs.declared.run_queue.RunQueue.TheInside.{Inside}

abbrev pub run_queue_of : Inside → RunQueue
run_queue_of s = record {
  ready = map (λ r. r.thread) s.ready.items;
  steps_left = s.steps_left;
  quantum = s.quantum;
  generator = s.generator;
}
