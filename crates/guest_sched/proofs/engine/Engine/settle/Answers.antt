use Rattle.std.proofs.Common.{◌≡◌, ◌++◌, List, sym, subst, ap, ◌∙◌}
use Rattle.std.specs.Option.{option_to_list}
use Rattle.event_costs.specs.declared.numbers.ThreadNo.{ThreadNo}
use Rattle.guest_sys.specs.Kernel.{Kernel}
use Rattle.guest_sys.specs.Laws.{spawned_by}
use Rattle.guest_sched.specs.declared.turns.Fate.{Fate}
use Rattle.guest_sched.specs.RunQueue.{after_step}
use Rattle.guest_sched.specs.Step.{fate_of}
use Rattle.guest_sched.specs.inner.Sound.{IsLively}
use Rattle.guest_sched.proofs.engine.Engine.settle.Goals as goal

pub turn-requires-clause-lively : goal.turn-requires-clause-lively
turn-requires-clause-lively c =
    let line = c.args.self.now.run_queue in
    let woken : c.deref.result.now ≡ c.args.effect.now.woken = c.deref.ensures.value ∙ c.woken.view_is in
    let threads : c.deref.result.now ++ option_to_list c.spawned_by.result
    ≡ c.args.effect.now.woken ++ spawned_by c.args.effect.now.act =
    ap (λ (ts : List ThreadNo). ts ++ option_to_list c.spawned_by.result) woken
    ∙ ap (λ (ts : List ThreadNo). c.args.effect.now.woken ++ ts) c.spawned_by.ensures in
    subst (λ (s : Kernel). IsLively
    (after_step c.fate_of.result (c.deref.result.now ++ option_to_list c.spawned_by.result) line).ready s)
    (sym c.count_step.ensures.counted)
    (subst
    (λ (f : Fate). IsLively
    (after_step f (c.deref.result.now ++ option_to_list c.spawned_by.result) line).ready c.args.self.now.kernel)
    (sym c.fate_of.ensures)
    (subst
    (λ (ts : List ThreadNo). IsLively (after_step (fate_of c.args.effect.now.act) ts line).ready c.args.self.now.kernel)
    (sym threads) c.requires.lively))
