use Rattle.std.proofs.Common.{◌≡◌, List, None, map, ap, ◌∙◌}
use Rattle.guest_load.specs.Guest.{Guest}
use Rattle.guest_load.specs.declared.thread.Thread.{Thread}
use Rattle.guest_sched.specs.RunQueue.{with_threads}
use Rattle.guest_sched.specs.Engine.{first_engine, next_turn}
use Rattle.guest_sched.proofs.TurnLemmas.{first_queue}
use Rattle.guest_sched.proofs.engine.Engine.new.Goals as goal

pub returns-clause-first : goal.returns-clause-first
unfolding first_engine
returns-clause-first c =
    let threads : c.deref.result.now ≡ c.args.guest.threads = c.deref.ensures.value
    ∙ ap (λ (g : Guest). g.threads) c.guest.view_is in
    let line : c.enter_live.new.self ≡ first_queue c.args.guest.threads c.args.turns.quantum c.args.turns.seed =
    c.enter_live.ensures ∙ ap (with_threads (map (λ (t : Thread). t.no) c.deref.result.now)) c.in_ok-run_queue.ensures
    ∙ ap (λ (ts : List Thread). first_queue ts c.args.turns.quantum c.args.turns.seed) threads in
    c.begin_turn.ensures.turn
    ∙ (λ i. next_turn (record { kernel = c.new-2.ensures i; held = None; run_queue = line i; exit = None }))
