use Rattle.std.proofs.Common.{◌≡◌, ◌+◌, ◌<◌, length, map, sym, subst, ap, ◌∙◌}
use Rattle.std.proofs.Math.ListN.{set}
use Rattle.rv_step.specs.Code.{IsCodeOf}
use Rattle.guest_load.specs.Guest.{Guest}
use Rattle.guest_load.specs.Lawful.{guest_of}
use Rattle.guest_sys.specs.declared.caller.Caller.{Caller}
use Rattle.guest_sys.specs.Common.{IsCaller}
use Rattle.guest_sched.specs.Step.{with_regs}
use Rattle.guest_sched.specs.inner.Stages.{IsExecuted}
use Rattle.guest_sched.proofs.ExecuteLemmas.{caller_there, caller_with, executes_nothing, executes_retired}
use Rattle.guest_sched.proofs.ExecuteLemmas.{lawful_executed, same_numbers}
use Rattle.guest_sched.proofs.PlaceLemmas.{thread_number}
use Rattle.guest_sched.proofs.engine.execute.Goals as goal

pub invariant_of-guest : goal.invariant_of-guest
invariant_of-guest c =
    let g = guest_of c.guest.inside in
    let t = c.index_mut-thread.result.now in
    let within : c.args.place < length g.threads
    = subst (λ (s : Guest). c.args.place < length s.threads) (sym c.guest.view_is) c.requires.within in
    lawful_executed g (caller_with c.args.place t) c.step_kept-stepped.new.regs c.step_kept-stepped.new.mem
    (g.steps + 1) c.guest.invariant
    (caller_there g c.args.place t within c.index_mut-thread.ensures.value)
    c.step_kept-stepped.ensures.still_aligned c.step_kept-stepped.ensures.still_zero

pub step_kept-stepped-requires-clause-code : goal.step_kept-stepped-requires-clause-code
step_kept-stepped-requires-clause-code c =
    subst (λ (s : Guest). IsCodeOf c.args.code.now s.mem) (sym c.guest.view_is) c.requires.code

pub returns-in-Retired-clause-executed : goal.returns-in-Retired-clause-executed
returns-in-Retired-clause-executed c =
    let g = guest_of c.guest.inside in
    let t = c.index_mut-thread.result.now in
    let within : c.args.place < length g.threads
    = subst (λ (s : Guest). c.args.place < length s.threads) (sym c.guest.view_is) c.requires.within in
    let after : Guest
    = record g {
      mem = c.step_kept-stepped.new.mem;
      threads = set g.threads c.args.place (with_regs t c.step_kept-stepped.new.regs);
      steps = g.steps + 1;
    } in
    subst (λ (s : Guest). (d : Caller) → IsCaller s d → d.place ≡ c.args.place
    → IsExecuted d s c.args.held.now c.step_kept-stepped.result after c.step_kept-stepped.new.held) c.guest.view_is
    (executes_retired g c.args.place t c.args.held.now c.step_kept-stepped.result c.in-Retired.field-0
    c.step_kept-stepped.new.regs c.step_kept-stepped.new.mem c.step_kept-stepped.new.held
    within c.index_mut-thread.ensures.value c.step_kept-stepped.ensures.outcome c.in-Retired.is)

pub returns-in_default-clause-executed : goal.returns-in_default-clause-executed
returns-in_default-clause-executed c =
    let g = guest_of c.guest.inside in
    let t = c.index_mut-thread.result.now in
    let within : c.args.place < length g.threads
    = subst (λ (s : Guest). c.args.place < length s.threads) (sym c.guest.view_is) c.requires.within in
    let after : Guest = record g {
      mem = c.step_kept-stepped.new.mem;
      threads = set g.threads c.args.place (with_regs t c.step_kept-stepped.new.regs);
    } in
    subst (λ (s : Guest). (d : Caller) → IsCaller s d → d.place ≡ c.args.place
    → IsExecuted d s c.args.held.now c.step_kept-stepped.result after c.step_kept-stepped.new.held) c.guest.view_is
    (executes_nothing g c.args.place t c.args.held.now c.step_kept-stepped.result c.step_kept-stepped.new.regs
    c.step_kept-stepped.new.mem c.step_kept-stepped.new.held
    within c.index_mut-thread.ensures.value c.step_kept-stepped.ensures.outcome c.in_default.not-Retired
    c.step_kept-stepped.ensures.registers_stay c.step_kept-stepped.ensures.memory_stays
    c.step_kept-stepped.ensures.reservation_stays)

pub returns-in-Retired-clause-numbers : goal.returns-in-Retired-clause-numbers
returns-in-Retired-clause-numbers c =
    let g = guest_of c.guest.inside in
    same_numbers g.threads c.args.place c.index_mut-thread.result.now c.step_kept-stepped.new.regs
    c.index_mut-thread.ensures.value
    ∙ ap (λ (s : Guest). map thread_number s.threads) c.guest.view_is

pub returns-in_default-clause-numbers : goal.returns-in_default-clause-numbers
returns-in_default-clause-numbers c =
    let g = guest_of c.guest.inside in
    same_numbers g.threads c.args.place c.index_mut-thread.result.now c.step_kept-stepped.new.regs
    c.index_mut-thread.ensures.value
    ∙ ap (λ (s : Guest). map thread_number s.threads) c.guest.view_is
