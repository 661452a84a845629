use Rattle.std.proofs.Common.{ap, refl}
use Rattle.outside.specs.Outside.{Outside, outside_with, shelf}
use Rattle.guest_sched.specs.Machine.{Machine}
use Rattle.profile_run.proofs.AdvanceLemmas as adv
use Rattle.profile_run.proofs.running.finish_step.Goals as goal

pub returns-in_err-cut : goal.returns-in_err-cut
returns-in_err-cut g c = λ out err s.
    let m = g.W.Watch.meaning in
    let job = c.requires.1.1.0 in
    let new : Outside =
    outside_with g.F.Folder c.cut.new.folder out err in
    let refused =
    c.in_err-cut.ensures.cuts g.job.guest g.job.first s.past s.last (shelf g.job.old) job.symbols job.options
    job.rule s.uncut (adv.has_put m job s) in
    adv.refuses m g.job c.args.begun.now.counting.machine.engine.kernel.guest.steps c.cut.new.begun.counting
    c.cut.new.begun.parts
    c.cut.new.watch new c.from_residual.result c.in_err-cut.field-0.0 c.from_residual.ensures.1
    (adv.uncuttable m job s new refl refl
    (record {
      loads = c.cut.ensures.loads;
      puts = c.cut.ensures.never_falls;
      out = adv.same_count out.faults;
      err = adv.same_count err.faults;
    }) c.in_err-cut.field-0.0 refused.0 refused.1)

pub returns : goal.returns
returns g c = λ out err s.
    let m = g.W.Watch.meaning in
    let job = c.requires.1.1.0 in
    let new : Outside =
    outside_with g.F.Folder c.cut.new.folder out err in
    let done =
    c.in_ok-cut.ensures.cuts g.job.guest g.job.first s.past s.last (shelf g.job.old) job.symbols job.options
    job.rule s.uncut (adv.has_put m job s) in (
      adv.stands_on m job s new refl refl
          (record {
            loads = c.cut.ensures.loads;
            puts = c.cut.ensures.never_falls;
            out = adv.same_count out.faults;
            err = adv.same_count err.faults;
          })
          c.cut.new.begun.counting c.cut.new.begun.parts c.cut.new.watch done.0 done.1,
      adv.no_fewer _ _ (ap (λ (x : Machine). x.engine.kernel.guest.steps) c.cut.ensures.machine),
    )
