use Rattle.std.proofs.Common.{◌+◌, Some, subst, refl}
use Rattle.outside.specs.Outside.{outside_with, stream_of}
use Rattle.profile_run.specs.inner.Standing.{SendsAll}
use Rattle.profile_run.proofs.AdvanceLemmas as adv
use Rattle.profile_run.proofs.OutputLemmas.{sends_nothing}
use Rattle.profile_run.proofs.running.step_halted_cold.Goals as goal

pub next_halted-requires-clause-few : goal.next_halted-requires-clause-few
next_halted-requires-clause-few g c = adv.few_steps g.W.Watch.meaning c.requires.1.1.1.1.0 c.requires.1.1.1.1.1.0

pub next_halted-requires-clause-runs : goal.next_halted-requires-clause-runs
next_halted-requires-clause-runs g c = adv.runs_now g.W.Watch.meaning c.requires.1.1.1.1.0 c.requires.1.1.1.1.1.0

pub next_halted-requires-clause-halted : goal.next_halted-requires-clause-halted
next_halted-requires-clause-halted g c = c.requires.1.1.1.1.1.1

pub returns-in-Ok-Ended : goal.returns-in-Ok-Ended
returns-in-Ok-Ended g c =
    let ended = rw c.in-Ok-Ended.field-0-is at c.in-Ok-Ended.ensures in
    adv.ends_tried g.W.Watch.meaning c.requires.1.1.1.1.0 c.requires.1.1.1.1.1.0 c.in-Ok-Ended.end _ ended.0 ended.1
    refl

pub returns-in-Err : goal.returns-in-Err
returns-in-Err g c = adv.starves_in g.W.Watch.meaning c.requires.1.1.1.1.0 c.requires.1.1.1.1.1.0

pub count_shell-noted-requires : goal.count_shell-noted-requires
count_shell-noted-requires g c =
    let makes = rw c.in-Ok-Retired.field-0-is at c.in-Ok-Retired.ensures in
    adv.can_count g.W.Watch.meaning c.requires.1.1.1.1.0 c.requires.1.1.1.1.1.0 makes

pub finish_step-requires : goal.finish_step-requires
finish_step-requires g c =
    let m = g.W.Watch.meaning in
    let job = c.requires.1.1.1.1.0 in
    let s = c.requires.1.1.1.1.1.0 in
    let makes = rw c.in-Ok-Retired.field-0-is at c.in-Ok-Retired.ensures in
    let count = c.count_shell-noted in
    let counted =
    count.ensures.counted g.job.guest g.job.first s.past (adv.is_made m job s makes) job.symbols (adv.long m job) in
    let cut = adv.can_cut m job s makes count.new.self count.new.watch count.result
    counted in
    λ κs lives. (lives.0, (lives.1, (job, cut)))

pub returns-in-Ok-Retired : goal.returns-in-Ok-Retired
returns-in-Ok-Retired g c =
    let m = g.W.Watch.meaning in
    let job = c.requires.1.1.1.1.0 in
    let s = c.requires.1.1.1.1.1.0 in
    let makes = rw c.in-Ok-Retired.field-0-is at c.in-Ok-Retired.ensures in
    let count = c.count_shell-noted in
    let counted =
    count.ensures.counted g.job.guest g.job.first s.past (adv.is_made m job s makes) job.symbols (adv.long m job) in
    let out = stream_of g.O.Sink c.args.out.now in
    let err = stream_of g.E.Sink c.args.err.now in
    let folder = c.args.folder.now in
    let now =
    outside_with g.F.Folder folder out err in
    let written =
    adv.is_written m job s makes count.new.self count.new.watch count.result counted now refl
    (sends_nothing out err)
    (record {
      loads = refl;
      puts = adv.same_count (g.F.Folder.put_faults folder);
      out = adv.same_count out.faults;
      err = adv.same_count err.faults;
    }) in
    let done = c.finish_step in
    adv.advances_as m g.job count.new.self.machine.engine.kernel.guest.steps
    (c.args.begun.now.counting.machine.engine.kernel.guest.steps + 1)
    (adv.counts_on m job s makes count.new.self count.new.watch count.result counted)
    done.result done.new.begun.counting done.new.begun.parts done.new.watch
    (outside_with g.F.Folder done.new.folder out err) (done.ensures out err written)

pub count_shell-noted-requires-in-Ok-RetiredOutput : goal.count_shell-noted-requires-in-Ok-RetiredOutput
count_shell-noted-requires-in-Ok-RetiredOutput g c =
    let makes = rw c.in-Ok-RetiredOutput.field-0-is at c.in-Ok-RetiredOutput.ensures in
    adv.can_count g.W.Watch.meaning c.requires.1.1.1.1.0 c.requires.1.1.1.1.1.0 makes

pub finish_step-requires-in-Ok-RetiredOutput : goal.finish_step-requires-in-Ok-RetiredOutput
finish_step-requires-in-Ok-RetiredOutput g c =
    let m = g.W.Watch.meaning in
    let job = c.requires.1.1.1.1.0 in
    let s = c.requires.1.1.1.1.1.0 in
    let makes = rw c.in-Ok-RetiredOutput.field-0-is at c.in-Ok-RetiredOutput.ensures in
    let count = c.count_shell-noted-in-Ok-RetiredOutput in
    let counted =
    count.ensures.counted g.job.guest g.job.first s.past (adv.is_made m job s makes) job.symbols (adv.long m job) in
    let cut = adv.can_cut m job s makes count.new.self count.new.watch count.result
    counted in
    λ κs lives. (lives.0, (lives.1, (job, cut)))

pub returns-in_ok-write_output-in-Ok-RetiredOutput : goal.returns-in_ok-write_output-in-Ok-RetiredOutput
returns-in_ok-write_output-in-Ok-RetiredOutput g c =
    let m = g.W.Watch.meaning in
    let job = c.requires.1.1.1.1.0 in
    let s = c.requires.1.1.1.1.1.0 in
    let makes = rw c.in-Ok-RetiredOutput.field-0-is at c.in-Ok-RetiredOutput.ensures in
    let count = c.count_shell-noted-in-Ok-RetiredOutput in
    let counted =
    count.ensures.counted g.job.guest g.job.first s.past (adv.is_made m job s makes) job.symbols (adv.long m job) in
    let out = stream_of g.O.Sink c.write_output.new.out in
    let err = stream_of g.E.Sink c.write_output.new.err in
    let folder = c.args.folder.now in
    let now =
    outside_with g.F.Folder folder out err in
    let wrote = c.in_ok-write_output-in-Ok-RetiredOutput.ensures.answer in
    let told = c.in-Ok-RetiredOutput.descriptor in
    let written =
    adv.is_written m job s makes count.new.self count.new.watch count.result counted now refl
    (subst (λ bs. SendsAll (Some (told, bs)) (stream_of g.O.Sink c.args.out.now) (stream_of g.E.Sink c.args.err.now)
    out err) c.as_bytes.ensures wrote)
    (record {
      loads = refl;
      puts = adv.same_count (g.F.Folder.put_faults folder);
      out = c.write_output.ensures.out_never_falls;
      err = c.write_output.ensures.err_never_falls;
    }) in
    let done = c.finish_step-in-Ok-RetiredOutput in
    adv.advances_as m g.job count.new.self.machine.engine.kernel.guest.steps
    (c.args.begun.now.counting.machine.engine.kernel.guest.steps + 1)
    (adv.counts_on m job s makes count.new.self count.new.watch count.result counted)
    done.result done.new.begun.counting done.new.begun.parts done.new.watch
    (outside_with g.F.Folder done.new.folder out err) (done.ensures out err written)

pub returns-in_err-write_output-in-Ok-RetiredOutput : goal.returns-in_err-write_output-in-Ok-RetiredOutput
returns-in_err-write_output-in-Ok-RetiredOutput g c =
    let m = g.W.Watch.meaning in
    let job = c.requires.1.1.1.1.0 in
    let s = c.requires.1.1.1.1.1.0 in
    let makes = rw c.in-Ok-RetiredOutput.field-0-is at c.in-Ok-RetiredOutput.ensures in
    let count = c.count_shell-noted-in-Ok-RetiredOutput in
    let counted =
    count.ensures.counted g.job.guest g.job.first s.past (adv.is_made m job s makes) job.symbols (adv.long m job) in
    let out = stream_of g.O.Sink c.write_output.new.out in
    let err = stream_of g.E.Sink c.write_output.new.err in
    let folder = c.args.folder.now in
    let now =
    outside_with g.F.Folder folder out err in
    let fault = c.in_err-write_output-in-Ok-RetiredOutput.field-0.0 in
    let refused =
    adv.unwritten m job s makes count.new.self count.new.watch count.result counted (Unit {0})
    c.in-Ok-RetiredOutput.descriptor c.in-Ok-RetiredOutput.bytes c.as_bytes.result.now fault now c.as_bytes.ensures refl
    refl
    (record {
      loads = refl;
      puts = adv.same_count (g.F.Folder.put_faults folder);
      out = c.write_output.ensures.out_never_falls;
      err = c.write_output.ensures.err_never_falls;
    }) c.in_err-write_output-in-Ok-RetiredOutput.ensures.answer in
    adv.refuses m g.job (c.args.begun.now.counting.machine.engine.kernel.guest.steps + 1) count.new.self
    c.args.begun.now.parts
    count.new.watch now c.from_residual.result fault c.from_residual.ensures.1 refused
