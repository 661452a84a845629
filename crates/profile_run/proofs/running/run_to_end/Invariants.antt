use Rattle.std.proofs.Common.{◌-◌}
use Rattle.outside.specs.Outside.{outside_with, stream_of}
use Rattle.profile_run.specs.inner.Standing.{Standing}
use Rattle.profile_run.proofs.running.run_to_end.Given as goal

abbrev pub ghost-advance : goal.ghost-advance
ghost-advance g a = g.job

-- between two steps
abbrev pub invariant-run : goal.invariant-run
invariant-run g l = record {
  stands : Standing g.W.Watch.meaning g.job l.begun.counting l.begun.parts l.watch
      (outside_with g.F.Folder l.folder
      (stream_of g.O.Sink l.out) (stream_of g.E.Sink l.err));
}

-- the steps that are left
abbrev pub decreases-run : goal.decreases-run
decreases-run g l = g.job.guest.options.budget - l.begun.counting.machine.engine.kernel.guest.steps
