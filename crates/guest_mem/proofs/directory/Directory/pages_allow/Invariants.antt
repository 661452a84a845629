use Rattle.guest_mem.specs.inner.Page.{EachAllows}
use Rattle.guest_mem.specs.inner.Directory.{page_at}
use Rattle.guest_mem.proofs.directory.Directory.pages_allow.Given as goal

abbrev pub invariant-loop-step : goal.invariant-loop-step
invariant-loop-step l = EachAllows (page_at l.self) l.want l.first l.step
