use Rattle.std.proofs.Common.{◌≡◌, ◌≤◌, ◌+◌, ◌-◌}
use Rattle.event_costs.specs.declared.numbers.ThreadNo.{ThreadNo}
use Rattle.recorder.specs.Accounts.{knows, live}
use Rattle.outside.specs.Outside.{shelf_of}
use Rattle.profile_run.specs.inner.Standing.{ArePut, CanPut, HasPut, IsPutting, Plan, calls_below, files_after}
use Rattle.profile_run.proofs.parts.Parts.put_segment.Given as goal

abbrev pub invariant-threads : goal.invariant-threads
invariant-threads g l = record {
  within : l.number ≤ l.threads;
  can : CanPut g.W.Watch.meaning g.W.Watch.fresh l.syms l.options (l.number + 1) l.self.head l.recorder l.watch;
  puts : (plan : Plan g.row.W.Denot) → plan.guest.syms ≡ l.syms → plan.guest.options ≡ l.options
      → IsPutting g.W.Watch.meaning plan 1 l.fn.self.head l.fn.recorder l.fn.watch
      → HasPut l.options.base
      (files_after g.W.Watch.meaning plan
      (calls_below plan l.fn.self.head.part l.fn.self.head.trigger 1))
      plan.folder (shelf_of g.F.Folder l.fn.folder) l.fn.self.put.items
      → ArePut g.W.Watch.meaning plan l.fn.self.head.part l.fn.self.head.trigger (l.number + 1) l.self
      l.recorder l.watch (shelf_of g.F.Folder l.folder);
  known : (other : ThreadNo) → knows l.recorder other ≡ knows l.fn.recorder other;
  live : live l.recorder ≡ live l.fn.recorder;
  part : l.self.head.part ≡ l.fn.self.head.part;
  never_falls : g.F.Folder.put_faults l.fn.folder ≤ g.F.Folder.put_faults l.folder;
  loads : g.F.Folder.load_faults l.folder ≡ g.F.Folder.load_faults l.fn.folder;
}

abbrev pub decreases-threads : goal.decreases-threads
decreases-threads g l = l.threads - l.number
