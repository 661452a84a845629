use Rattle.std.proofs.Common.{◌≡◌, fold, take}
use Rattle.cases_parts.specs.TallyState.{mix_thread}
use Rattle.cases_parts.proofs.tally.mix_threads.Given as goal

abbrev pub invariant-threads : goal.invariant-threads
invariant-threads l = l.after ≡ fold mix_thread l.order (take l.thread-index l.threads)
