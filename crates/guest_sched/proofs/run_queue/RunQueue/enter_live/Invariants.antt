use Rattle.std.proofs.Common.{◌≡◌, map, take}
use Rattle.guest_load.specs.declared.thread.Thread.{Thread}
use Rattle.guest_sched.specs.RunQueue.{with_threads}
use Rattle.guest_sched.proofs.run_queue.RunQueue.enter_live.Given as goal

abbrev pub invariant-threads : goal.invariant-threads
invariant-threads l = l.self ≡ with_threads (map (λ (t : Thread). t.no) (take l.thread-index l.threads)) l.initial.self
