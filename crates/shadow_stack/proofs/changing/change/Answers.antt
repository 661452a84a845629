use Rattle.std.proofs.Common.{◌≡◌, ◌-◌, None, Some, List, take, refl, sym, ap, subst, ◌∙◌, arith}
use Rattle.std.specs.Option.{option_map}
use Rattle.event_costs.specs.Arcs.{Telling, TakesAll}
use Rattle.shadow_stack.specs.Stacks.{Activation, top_of}
use Rattle.shadow_stack.specs.declared.frame.Frame.{Frame}
use Rattle.shadow_stack.specs.Changes.{new_activation, activation_at}
use Rattle.shadow_stack.specs.Frames.{closings, pushed_activation, pushing, count_pushed, stack}
use Rattle.shadow_stack.specs.Arenas.{frames, stack_at}
use Rattle.shadow_stack.proofs.PlanLemmas.{plan_of, pushed_now, tellings_now, frames_now}
use Rattle.shadow_stack.proofs.TellingLemmas.{TakesAll-append, takes_later}
use Rattle.shadow_stack.proofs.ChainLemmas.{ChangesChainOnly-refl}
use Rattle.shadow_stack.proofs.StayLemmas.{Stays, none_gone, none_pushed, nothing_told, same_frames}
use Rattle.shadow_stack.proofs.changing.change.Given.{Over}
use Rattle.shadow_stack.proofs.changing.change.Goals as goal
use Rattle.shadow_stack.proofs.changing.change.Goals.{Then-goes_on}

-- ---- nothing changes

same : (g : Over) (c : Then-goes_on g)
    → Stays c.args.syms.now c.args.event.now (frames c.args.arena.now.slots c.args.head)
same g c =
    c.goes_on.ensures.change c.if-goes_on.true c.args.syms.now (stack_at c.args.arena.now.slots c.args.head)
    c.requires.func (ap (λ (fs : List Frame). top_of (stack fs)) c.top.ensures.frames)

pub returns-then-goes_on-clause-frames : goal.returns-then-goes_on-clause-frames
returns-then-goes_on-clause-frames g c =
    same_frames c.args.syms.now c.args.total.now c.args.event.now (frames c.args.arena.now.slots c.args.head)
    (same g (goal.at.returns-then-goes_on-clause-frames g c).Then-goes_on)

pub returns-then-goes_on-clause-told : goal.returns-then-goes_on-clause-told
returns-then-goes_on-clause-told g c =
    subst (λ (ts : List Telling). TakesAll g.S.ArcSink.takes c.args.sink.now ts c.args.sink.now)
    (sym (nothing_told c.args.syms.now c.args.total.now c.args.event.now (frames c.args.arena.now.slots c.args.head)
    (same g (goal.at.returns-then-goes_on-clause-told g c).Then-goes_on))) refl

pub returns-then-goes_on-clause-chain : goal.returns-then-goes_on-clause-chain
returns-then-goes_on-clause-chain g c = ChangesChainOnly-refl c.args.arena.now.slots c.args.head

pub returns-then-goes_on-clause-room : goal.returns-then-goes_on-clause-room
returns-then-goes_on-clause-room g c =
    let is = same g (goal.at.returns-then-goes_on-clause-room g c).Then-goes_on in
    let fs = frames c.args.arena.now.slots c.args.head in
    omega (
      arith,
      none_gone c.args.syms.now c.args.event.now fs is,
      ap count_pushed (none_pushed c.args.syms.now c.args.event.now fs is),
    )

-- ---- frames go or come

pub close-kept-requires-clause-below : goal.close-kept-requires-clause-below
close-kept-requires-clause-below g c =
    (plan_of c.args.syms.now c.args.event.now c.args.arena.now.slots c.args.head c.plan_change-plan.result.kept
    c.plan_change-plan.result.pushed
    c.requires.lies c.requires.some c.plan_change-plan.ensures.lies c.plan_change-plan.ensures.change).below

pub enter-requires-clause-some : goal.enter-requires-clause-some
enter-requires-clause-some g c =
    let plan =
    plan_of c.args.syms.now c.args.event.now c.args.arena.now.slots c.args.head c.plan_change-plan.result.kept
    c.plan_change-plan.result.pushed
    c.requires.lies c.requires.some c.plan_change-plan.ensures.lies c.plan_change-plan.ensures.change in
    omega (arith, c.close-kept.ensures.depth, plan.some c.in-Some.kind c.in-Some.is)

pub enter-requires-clause-tellings : goal.enter-requires-clause-tellings
enter-requires-clause-tellings g c =
    let old = c.args.arena.now.slots in
    let plan =
    plan_of c.args.syms.now c.args.event.now old c.args.head c.plan_change-plan.result.kept c.plan_change-plan.result.pushed
    c.requires.lies c.requires.some c.plan_change-plan.ensures.lies c.plan_change-plan.ensures.change in
    let a : Activation
    = activation_at c.args.way.place c.args.way.next_func c.in-Some.kind
    (stack_at c.close-kept.new.arena.slots c.close-kept.result) in
    let is =
    pushed_now c.args.syms.now c.args.event.now old c.args.head c.plan_change-plan.result.kept c.plan_change-plan.result.pushed
    c.in-Some.kind c.args.way.place c.args.way.next_func
    (frames c.close-kept.new.arena.slots c.close-kept.result) plan c.in-Some.is c.requires.place
    c.requires.func c.close-kept.ensures.frames in
    takes_later g.S.ArcSink.takes g.S.ArcSink.can_take g.met.S.ArcSink.takes_rest c.args.sink.now c.close-kept.new.sink
    (closings c.args.total.now (take (c.args.head.depth - c.plan_change-plan.result.kept.depth) (frames old c.args.head)))
    (pushing (Some a))
    (subst (λ (ts : List Telling). g.S.ArcSink.can_take c.args.sink.now ts)
    (tellings_now c.args.syms.now c.args.event.now c.args.total.now old c.args.head c.plan_change-plan.result.kept
    c.plan_change-plan.result.pushed a plan is)
    c.requires.tellings)
    c.close-kept.ensures.told

pub returns-in-Some-clause-frames : goal.returns-in-Some-clause-frames
returns-in-Some-clause-frames g c =
    let old = c.args.arena.now.slots in
    let plan =
    plan_of c.args.syms.now c.args.event.now old c.args.head c.plan_change-plan.result.kept c.plan_change-plan.result.pushed
    c.requires.lies c.requires.some c.plan_change-plan.ensures.lies c.plan_change-plan.ensures.change in
    let a : Activation
    = activation_at c.args.way.place c.args.way.next_func c.in-Some.kind
    (stack_at c.close-kept.new.arena.slots c.close-kept.result) in
    let is =
    pushed_now c.args.syms.now c.args.event.now old c.args.head c.plan_change-plan.result.kept c.plan_change-plan.result.pushed
    c.in-Some.kind c.args.way.place c.args.way.next_func
    (frames c.close-kept.new.arena.slots c.close-kept.result) plan c.in-Some.is c.requires.place
    c.requires.func c.close-kept.ensures.frames in
    c.enter.ensures.frames
    ∙ frames_now c.args.syms.now c.args.event.now c.args.total.now old c.args.head c.plan_change-plan.result.kept
    c.plan_change-plan.result.pushed a
    (frames c.close-kept.new.arena.slots c.close-kept.result) plan is c.close-kept.ensures.frames

pub returns-in-Some-clause-told : goal.returns-in-Some-clause-told
returns-in-Some-clause-told g c =
    let old = c.args.arena.now.slots in
    let plan =
    plan_of c.args.syms.now c.args.event.now old c.args.head c.plan_change-plan.result.kept c.plan_change-plan.result.pushed
    c.requires.lies c.requires.some c.plan_change-plan.ensures.lies c.plan_change-plan.ensures.change in
    let a : Activation
    = activation_at c.args.way.place c.args.way.next_func c.in-Some.kind
    (stack_at c.close-kept.new.arena.slots c.close-kept.result) in
    let is =
    pushed_now c.args.syms.now c.args.event.now old c.args.head c.plan_change-plan.result.kept c.plan_change-plan.result.pushed
    c.in-Some.kind c.args.way.place c.args.way.next_func
    (frames c.close-kept.new.arena.slots c.close-kept.result) plan c.in-Some.is c.requires.place
    c.requires.func c.close-kept.ensures.frames in
    subst (λ (ts : List Telling). TakesAll g.S.ArcSink.takes c.args.sink.now ts c.enter.new.sink)
    (sym (tellings_now c.args.syms.now c.args.event.now c.args.total.now old c.args.head c.plan_change-plan.result.kept
    c.plan_change-plan.result.pushed a plan is))
    (TakesAll-append g.S.ArcSink.takes c.args.sink.now c.close-kept.new.sink c.enter.new.sink
    (closings c.args.total.now (take (c.args.head.depth - c.plan_change-plan.result.kept.depth) (frames old c.args.head)))
    (pushing (Some a))
    c.close-kept.ensures.told c.enter.ensures.told)

pub returns-in-Some-clause-room : goal.returns-in-Some-clause-room
returns-in-Some-clause-room g c =
    let old = c.args.arena.now.slots in
    let plan =
    plan_of c.args.syms.now c.args.event.now old c.args.head c.plan_change-plan.result.kept c.plan_change-plan.result.pushed
    c.requires.lies c.requires.some c.plan_change-plan.ensures.lies c.plan_change-plan.ensures.change in
    let is =
    pushed_now c.args.syms.now c.args.event.now old c.args.head c.plan_change-plan.result.kept c.plan_change-plan.result.pushed
    c.in-Some.kind c.args.way.place c.args.way.next_func
    (frames c.close-kept.new.arena.slots c.close-kept.result) plan c.in-Some.is c.requires.place
    c.requires.func c.close-kept.ensures.frames in
    omega (arith, c.enter.ensures.room, c.close-kept.ensures.room, plan.count, plan.below, ap count_pushed is)

pub returns-in-None-clause-room : goal.returns-in-None-clause-room
returns-in-None-clause-room g c =
    let old = c.args.arena.now.slots in
    let kept = c.plan_change-plan.result.kept in
    let plan =
    plan_of c.args.syms.now c.args.event.now old c.args.head kept c.plan_change-plan.result.pushed
    c.requires.lies c.requires.some c.plan_change-plan.ensures.lies c.plan_change-plan.ensures.change in
    let none : pushed_activation c.args.syms.now c.args.event.now (frames old c.args.head) ≡ None
    = plan.pushed_is
    ∙ ap (option_map (λ k. new_activation c.args.syms.now c.args.event.now k (stack_at old kept))) c.in-None.is in
    omega (arith, c.close-kept.ensures.room, plan.below, plan.count, ap count_pushed none)
