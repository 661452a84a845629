use Rattle.std.proofs.Common.{List, get_or, ap, ◌∙◌}
use Rattle.guest_load.specs.declared.thread.Thread.{Thread}
use Rattle.guest_sys.proofs.LiveLemmas.{nobody}
use Rattle.guest_sched.proofs.CallLemmas.{thread_there}
use Rattle.guest_sched.proofs.EngineLemmas.{runner_is}
use Rattle.guest_sched.proofs.engine.Engine.running.Goals as goal

pub returns-clause-thread : goal.returns-clause-thread
returns-clause-thread c =
    let e = c.args.self.now in
    λ d is. ap (λ (ts : List Thread). get_or ts e.place nobody) c.threads.ensures.threads
    ∙ thread_there e d nobody (runner_is e d c.requires.sound c.threads.ensures.lawful.rising c.requires.runs is)
