use Rattle.std.proofs.Common.{◌≤◌}
use Rattle.outside.specs.Outside.{outside_with, stream_of}
use Rattle.profile_run.specs.inner.Standing.{IsStarted, MayFollow}
use Rattle.profile_run.proofs.running.run_stretch.Given as goal

abbrev pub ghost-step : goal.ghost-step
ghost-step g a = g.job

-- a step has begun, after which so many may follow
abbrev pub invariant-steps : goal.invariant-steps
invariant-steps g l = record {
  started : IsStarted g.W.Watch.meaning g.job l.begun.counting l.begun.parts l.watch
      (outside_with g.F.Folder l.folder
      (stream_of g.O.Sink l.out) (stream_of g.E.Sink l.err));
  may : MayFollow l.order.options.now l.begun.counting.machine l.more;
  made : l.fn.begun.counting.machine.engine.kernel.guest.steps ≤ l.begun.counting.machine.engine.kernel.guest.steps;
}

-- the steps that may follow
abbrev pub decreases-steps : goal.decreases-steps
decreases-steps g l = l.more
