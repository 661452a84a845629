use Rattle.std.proofs.Common.{◌+◌, refl}
use Rattle.outside.specs.Outside.{outside_with, stream_of}
use Rattle.profile_run.specs.inner.Standing.{Grows}
use Rattle.profile_run.proofs.AdvanceLemmas as adv
use Rattle.profile_run.proofs.FinishLemmas as fin
use Rattle.profile_run.proofs.running.run_to_end.Goals as goal

pub put_segment-requires : goal.put_segment-requires
put_segment-requires g c =
    let m = g.W.Watch.meaning in
    let job = c.requires.1.1.1.1.0 in
    let now =
    outside_with g.F.Folder c.advance.new.folder
    (stream_of g.O.Sink c.advance.new.out)
    (stream_of g.E.Sink c.advance.new.err) in
    let e =
    fin.ends m g.job (c.run.begun.counting.machine.engine.kernel.guest.steps + 1) c.in_ok-over.over c.in-Some.end
    c.advance.new.begun.counting c.advance.new.begun.parts c.advance.new.watch now c.in-Some.is c.in_ok-over.ensures in
    fin.can_put m job e

pub returns-in_err-put_segment : goal.returns-in_err-put_segment
returns-in_err-put_segment g c =
    let m = g.W.Watch.meaning in
    let job = c.requires.1.1.1.1.0 in
    let now =
    outside_with g.F.Folder c.advance.new.folder
    (stream_of g.O.Sink c.advance.new.out)
    (stream_of g.E.Sink c.advance.new.err) in
    let e =
    fin.ends m g.job (c.run.begun.counting.machine.engine.kernel.guest.steps + 1) c.in_ok-over.over c.in-Some.end
    c.advance.new.begun.counting c.advance.new.begun.parts c.advance.new.watch now c.in-Some.is c.in_ok-over.ensures in
    let new =
    outside_with g.F.Folder c.put_segment.new.folder
    (stream_of g.O.Sink c.advance.new.out)
    (stream_of g.E.Sink c.advance.new.err) in
    let grows : Grows now new =
    record {
      loads = c.put_segment.ensures.loads;
      puts = c.put_segment.ensures.never_falls;
      out = adv.same_count (g.O.Sink.faults c.advance.new.out);
      err = adv.same_count (g.E.Sink.faults c.advance.new.err);
    } in
    let refused =
    c.in_err-put_segment.ensures.puts (fin.plan m job e) job.symbols job.options (fin.begins m job e)
    (fin.has_put m job e) in
    fin.refuses_run m g.job c.put_segment.new.begun.counting c.put_segment.new.begun.parts c.put_segment.new.watch new
    c.from_residual-in_err-put_segment.result c.in_err-put_segment.field-0.0
    c.from_residual-in_err-put_segment.ensures.1
    (fin.unfinished m job e new refl refl grows c.in_err-put_segment.field-0.0 refused)

pub returns-in-Some : goal.returns-in-Some
returns-in-Some g c =
    let m = g.W.Watch.meaning in
    let job = c.requires.1.1.1.1.0 in
    let now =
    outside_with g.F.Folder c.advance.new.folder
    (stream_of g.O.Sink c.advance.new.out)
    (stream_of g.E.Sink c.advance.new.err) in
    let e =
    fin.ends m g.job (c.run.begun.counting.machine.engine.kernel.guest.steps + 1) c.in_ok-over.over c.in-Some.end
    c.advance.new.begun.counting c.advance.new.begun.parts c.advance.new.watch now c.in-Some.is c.in_ok-over.ensures in
    let new =
    outside_with g.F.Folder c.put_segment.new.folder
    (stream_of g.O.Sink c.advance.new.out)
    (stream_of g.E.Sink c.advance.new.err) in
    let grows : Grows now new =
    record {
      loads = c.put_segment.ensures.loads;
      puts = c.put_segment.ensures.never_falls;
      out = adv.same_count (g.O.Sink.faults c.advance.new.out);
      err = adv.same_count (g.E.Sink.faults c.advance.new.err);
    } in
    let put =
    c.in_ok-put_segment.ensures.puts (fin.plan m job e) job.symbols job.options (fin.begins m job e)
    (fin.has_put m job e) in
    fin.finished m job e new refl refl grows c.put_segment.new.begun.counting c.put_segment.new.begun.parts
    c.put_segment.new.watch c.put_segment.ensures.machine put

pub run-smaller : goal.run-smaller
run-smaller g c =
    let m = g.W.Watch.meaning in
    let now =
    outside_with g.F.Folder c.advance.new.folder
    (stream_of g.O.Sink c.advance.new.out)
    (stream_of g.E.Sink c.advance.new.err) in
    let goes =
    fin.goes_on m g.job (c.run.begun.counting.machine.engine.kernel.guest.steps + 1) c.in_ok-over.over
    c.advance.new.begun.counting
    c.advance.new.begun.parts c.advance.new.watch now c.in_default.is c.in_ok-over.ensures in
    fin.fewer_left g.job.guest.options.budget c.run.begun.counting.machine.engine.kernel.guest.steps
    c.advance.new.begun.counting.machine.engine.kernel.guest.steps
    (fin.within m g.job c.advance.new.begun.counting c.advance.new.begun.parts c.advance.new.watch now goes.0) goes.1
