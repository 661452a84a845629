use Rattle.std.proofs.Common.{◌≡◌, ◌+◌, Ok, Some, sym, subst}
use Rattle.outside.specs.Outside.{outside_with, stream_of}
use Rattle.event_costs.specs.declared.event.Event.{Event}
use Rattle.guest_sched.specs.Machine.{running}
use Rattle.profile_run.proofs.AdvanceLemmas as adv
use Rattle.profile_run.proofs.StretchLemmas as stretch
use Rattle.profile_run.proofs.running.step.Goals as goal

pub try_instruction-requires-clause-few : goal.try_instruction-requires-clause-few
try_instruction-requires-clause-few g c =
    adv.few_steps g.W.Watch.meaning c.requires.1.1.1.1.0 c.requires.1.1.1.1.1.0

pub try_instruction-requires-clause-runs : goal.try_instruction-requires-clause-runs
try_instruction-requires-clause-runs g c =
    adv.runs_now g.W.Watch.meaning c.requires.1.1.1.1.0 c.requires.1.1.1.1.1.0

pub count-counted-requires : goal.count-counted-requires
count-counted-requires g c =
    let makes = rw (← c.copied-event.ensures) at c.in-Ok.ensures.retired in
    adv.can_count g.W.Watch.meaning c.requires.1.1.1.1.0 c.requires.1.1.1.1.1.0 makes

-- memory was wanting for the next step
pub returns-in-Err-ready : goal.returns-in-Err-ready
returns-in-Err-ready g c =
    let m = g.W.Watch.meaning in
    let job = c.requires.1.1.1.1.0 in
    let s = c.requires.1.1.1.1.1.0 in
    let makes = rw (← c.copied-event.ensures) at c.in-Ok.ensures.retired in
    let count = c.count-counted in
    let counted =
    count.ensures.counted g.job.guest g.job.first s.past (adv.is_made m job s makes) job.symbols (adv.long m job) in
    stretch.starves m job s makes count.new.self count.new.watch count.result.noted counted
    count.ensures.machine (count.ensures.plain c.if-counted.true) c.args.more
    c.requires.1.1.1.1.1.1
    (stretch.some_is c.args.more c.if-more-ne0.true)

pub returns-then-more-ne0 : goal.returns-then-more-ne0
returns-then-more-ne0 g c =
    let m = g.W.Watch.meaning in
    let job = c.requires.1.1.1.1.0 in
    let s = c.requires.1.1.1.1.1.0 in
    let may = c.requires.1.1.1.1.1.1 in
    let makes = rw (← c.copied-event.ensures) at c.in-Ok.ensures.retired in
    let count = c.count-counted in
    let counted =
    count.ensures.counted g.job.guest g.job.first s.past (adv.is_made m job s makes) job.symbols (adv.long m job) in
    let some = stretch.some_is c.args.more c.if-more-ne0.true in
    let two = stretch.two_left _ c.args.more may.turn some in
    let runs =
    subst (λ (e : Event). running c.try_instruction.new.self ≡ Some (e.thread, e.done.next))
    (sym c.copied-event.ensures) (c.in-Ok.ensures.runs_on two) in
    stretch.lasts m job s makes count.new.self count.new.watch count.result.noted counted
    count.ensures.machine (count.ensures.plain c.if-counted.true) c.args.more may some runs
    (c.in-Ok.ensures.turn two) c.ready.new.self
    (adv.on_unless _ c.ready.result c.in_default.not-Err c.ready.ensures.ok)

pub finish_step-requires : goal.finish_step-requires
finish_step-requires g c =
    let m = g.W.Watch.meaning in
    let job = c.requires.1.1.1.1.0 in
    let s = c.requires.1.1.1.1.1.0 in
    let makes = rw (← c.copied-event.ensures) at c.in-Ok.ensures.retired in
    let count = c.count-counted in
    let counted =
    count.ensures.counted g.job.guest g.job.first s.past (adv.is_made m job s makes) job.symbols (adv.long m job) in
    let cut = adv.can_cut m job s makes count.new.self count.new.watch count.result.noted
    counted in
    λ κs lives. (lives.0, (lives.1, (job, cut)))

pub returns-in_err-over-in-Ok : goal.returns-in_err-over-in-Ok
returns-in_err-over-in-Ok g c =
    let m = g.W.Watch.meaning in
    let job = c.requires.1.1.1.1.0 in
    let s = c.requires.1.1.1.1.1.0 in
    let makes = rw (← c.copied-event.ensures) at c.in-Ok.ensures.retired in
    let count = c.count-counted in
    let counted =
    count.ensures.counted g.job.guest g.job.first s.past (adv.is_made m job s makes) job.symbols (adv.long m job) in
    let out = stream_of g.O.Sink c.args.out.now in
    let err = stream_of g.E.Sink c.args.err.now in
    let written =
    stretch.written m job s makes count.new.self count.new.watch count.result.noted counted in
    let done = c.finish_step in
    stretch.refuses_on m g.job c.args.order.now.options.now c.args.more
    (c.args.begun.now.counting.machine.engine.kernel.guest.steps + 1)
    done.new.begun.counting done.new.begun.parts done.new.watch
    (outside_with g.F.Folder done.new.folder out err) c.from_residual.result c.in_err-over-in-Ok.field-0.0
    c.from_residual.ensures.1 (c.in_err-over-in-Ok.ensures out err written)

pub returns-in_ok-over-in-Ok : goal.returns-in_ok-over-in-Ok
returns-in_ok-over-in-Ok g c =
    let m = g.W.Watch.meaning in
    let job = c.requires.1.1.1.1.0 in
    let s = c.requires.1.1.1.1.1.0 in
    let makes = rw (← c.copied-event.ensures) at c.in-Ok.ensures.retired in
    let count = c.count-counted in
    let counted =
    count.ensures.counted g.job.guest g.job.first s.past (adv.is_made m job s makes) job.symbols (adv.long m job) in
    let out = stream_of g.O.Sink c.args.out.now in
    let err = stream_of g.E.Sink c.args.err.now in
    let written =
    stretch.written m job s makes count.new.self count.new.watch count.result.noted counted in
    let done = c.finish_step in
    adv.advances_as m g.job count.new.self.machine.engine.kernel.guest.steps
    (c.args.begun.now.counting.machine.engine.kernel.guest.steps + 1)
    (adv.counts_on m job s makes count.new.self count.new.watch count.result.noted counted)
    (Ok c.in_ok-over-in-Ok.over) done.new.begun.counting done.new.begun.parts done.new.watch
    (outside_with g.F.Folder done.new.folder out err) (c.in_ok-over-in-Ok.ensures out err written)
