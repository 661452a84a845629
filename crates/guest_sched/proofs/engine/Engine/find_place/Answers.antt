use Rattle.std.proofs.Common.{List, sym, subst}
use Rattle.guest_load.specs.declared.thread.Thread.{Thread}
use Rattle.guest_sys.specs.Kernel.{IsLive}
use Rattle.guest_sched.proofs.TurnLemmas.{live_first}
use Rattle.guest_sched.proofs.engine.Engine.find_place.Goals as goal

pub place_of-self-requires-clause-live : goal.place_of-self-requires-clause-live
place_of-self-requires-clause-live c =
    subst (λ (ts : List Thread). IsLive c.args.ready.thread ts) (sym c.threads.ensures.threads)
    (live_first c.args.self.now.run_queue.ready c.args.self.now.kernel c.args.ready.thread c.requires.lively
    c.requires.first)
