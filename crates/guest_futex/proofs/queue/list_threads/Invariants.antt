use Rattle.std.proofs.Common.{◌≡◌, ◌++◌, take, vec_capacity}
use Rattle.guest_futex.specs.Waits.{threads_of}
use Rattle.guest_futex.proofs.queue.list_threads.Given as goal

abbrev pub invariant-loop-wait : goal.invariant-loop-wait
invariant-loop-wait l = record {
  listed : l.threads.items ≡ l.initial.threads.items ++ threads_of (take l.wait-index l.waits);
  room : vec_capacity l.threads ≡ vec_capacity l.initial.threads;
}
