use Rattle.std.proofs.Common.{◌+◌, ap}
use Rattle.outside.specs.Outside.{outside_with, stream_of}
use Rattle.guest_sched.specs.Machine.{Machine}
use Rattle.profile_run.specs.Program.{Options}
use Rattle.profile_run.proofs.AdvanceLemmas as adv
use Rattle.profile_run.proofs.running.advance.Goals as goal

pub returns-then-is_over : goal.returns-then-is_over
returns-then-is_over g c =
    adv.ends_at g.W.Watch.meaning c.requires.1.1.1.1.0 c.requires.1.1.1.1.1 c.options.inside.budget
    (ap (λ (o : Options). o.budget) c.options.view_is) c.is_over.result c.is_over.ensures.over c.if-is_over.true
    c.end_before-end.result c.end_before-end.ensures (c.args.begun.now.counting.machine.engine.kernel.guest.steps + 1)

pub begin-requires : goal.begin-requires
begin-requires g c =
    let m = g.W.Watch.meaning in
    let job = c.requires.1.1.1.1.0 in
    let s = c.requires.1.1.1.1.1 in
    adv.runs_on m job s
    (adv.not_ended m job s c.options.inside.budget (ap (λ (o : Options). o.budget) c.options.view_is) c.is_over.result
    c.is_over.ensures.over c.if-is_over.false)

pub returns-in-Err : goal.returns-in-Err
returns-in-Err g c =
    adv.starves g.W.Watch.meaning c.requires.1.1.1.1.0 c.requires.1.1.1.1.1

pub run_stretch-requires : goal.run_stretch-requires
run_stretch-requires g c =
    let m = g.W.Watch.meaning in
    let job = c.requires.1.1.1.1.0 in
    let s = c.requires.1.1.1.1.1 in
    let none =
    adv.not_ended m job s c.options.inside.budget (ap (λ (o : Options). o.budget) c.options.view_is) c.is_over.result
    c.is_over.ensures.over c.if-is_over.false in
    let begins =
    adv.on_unless _ c.begin.result c.in_default.not-Err c.begin.ensures.begins in
    let started =
    adv.started m job s none c.begin.new.self c.begin.new.watch begins
    (adv.shallow_for m job s none c.is_over.ensures.shallow begins.thread) c.begin.ensures.machine
    c.begin.ensures.costs in
    λ κs lives. (
      lives.0,
      (lives.1.0, (lives.1.1.0, (lives.1.1.1, (job, started)))),
    )

pub returns : goal.returns
returns g c =
    let m = g.W.Watch.meaning in
    adv.advances_as m g.job (c.begin.new.self.machine.engine.kernel.guest.steps + 1)
    (c.args.begun.now.counting.machine.engine.kernel.guest.steps + 1)
    (ap (λ (x : Machine). x.engine.kernel.guest.steps + 1) c.begin.ensures.machine) c.run_stretch.result
    c.run_stretch.new.begun.counting
    c.run_stretch.new.begun.parts c.run_stretch.new.watch
    (outside_with g.F.Folder c.run_stretch.new.folder
    (stream_of g.O.Sink c.run_stretch.new.out)
    (stream_of g.E.Sink c.run_stretch.new.err)) c.run_stretch.ensures
