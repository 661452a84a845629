use Rattle.std.proofs.Common.{◌≡◌, take}
use Rattle.guest_sched.specs.RunQueue.{with_threads}
use Rattle.guest_sched.proofs.run_queue.RunQueue.enter_woken.Given as goal

abbrev pub invariant-threads : goal.invariant-threads
invariant-threads l = l.self ≡ with_threads (take l.thread-index l.threads) l.initial.self
