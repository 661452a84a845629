use Rattle.std.proofs.Common.{◌+◌, Ok, sym, ap, ◌∙◌, arith}
use Rattle.outside.specs.Outside.{outside_with, stream_of}
use Rattle.part_dump.specs.Cuts.{DumpPoints, every_cut}
use Rattle.profile_run.specs.Program.{Options}
use Rattle.profile_run.proofs.AdvanceLemmas as adv
use Rattle.profile_run.proofs.StretchLemmas as stretch
use Rattle.profile_run.proofs.running.run_stretch.Goals as goal

pub more-more-requires : goal.more-more-requires
more-more-requires g c =
    let spare = stretch.spare_now g.W.Watch.meaning c.requires.1.1.1.1.0 c.requires.1.1.1.1.1 in
    let same = ap (λ (o : Options). o.budget) c.options.view_is in
    omega (arith, spare, same)

pub steps-init : goal.steps-init
steps-init g c =
    let more = c.more-more.ensures in
    record {
      started = c.requires.1.1.1.1.1;
      may = record {
        turn = more.turn;
        budget =
            (let same = ap (λ (o : Options). o.budget) c.options.view_is in
            let within = more.budget in
            omega (arith, within, same));
        uncut = λ n above within.
            ap (λ (a : DumpPoints). every_cut a.every n) (sym c.requires.1.1.1.1.0.rule.said) ∙ more.uncut n above within;
      };
      made = adv.same_count c.args.begun.now.counting.machine.engine.kernel.guest.steps;
    }

pub step-requires : goal.step-requires
step-requires g c κs within = (
  within.0,
  (
    within.1.0,
    (
      within.1.1.0,
      (
        within.1.1.1,
        (c.requires.1.1.1.1.0, (c.steps.invariant.started, c.steps.invariant.may)),
      ),
    ),
  ),
)

pub steps-preserved : goal.steps-preserved
steps-preserved g c =
    let new = c.step.new in
    let now =
    outside_with g.F.Folder new.folder
    (stream_of g.O.Sink new.out)
    (stream_of g.E.Sink new.err) in
    let on =
    stretch.goes g.W.Watch.meaning g.job c.args.order.now.options.now c.steps.more
    (c.steps.begun.counting.machine.engine.kernel.guest.steps + 1) new.begun.counting new.begun.parts new.watch now
    c.in_ok-stepped.stepped
    c.in-Lasts.is c.in_ok-stepped.ensures in
    let before = c.steps.invariant.made in
    let more = on.3 in
    record { started = on.0; may = on.2; made = omega (arith, before, more) }

pub returns-in-Ends : goal.returns-in-Ends
returns-in-Ends g c =
    let m = g.W.Watch.meaning in
    let new = c.step.new in
    let now =
    outside_with g.F.Folder new.folder
    (stream_of g.O.Sink new.out)
    (stream_of g.E.Sink new.err) in
    let before = c.steps.invariant.made in
    adv.advances_past m g.job (c.args.begun.now.counting.machine.engine.kernel.guest.steps + 1)
    (c.steps.begun.counting.machine.engine.kernel.guest.steps + 1) (omega (arith, before)) (Ok c.in-Ends.over)
    new.begun.counting
    new.begun.parts new.watch now
    (stretch.ends m g.job c.args.order.now.options.now c.steps.more
    (c.steps.begun.counting.machine.engine.kernel.guest.steps + 1)
    new.begun.counting new.begun.parts new.watch now c.in_ok-stepped.stepped c.in-Ends.over c.in-Ends.is
    c.in_ok-stepped.ensures)
