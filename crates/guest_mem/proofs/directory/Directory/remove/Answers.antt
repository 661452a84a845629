use Rattle.std.proofs.Common.{ap, sym, true, false}
use Rattle.std.specs.Prelude.{is_some}
use Rattle.guest_mem.specs.inner.Directory.{page_at, page_total}
use Rattle.guest_mem.proofs.Counts.{total_taken}
use Rattle.guest_mem.proofs.directory.Directory.remove.Goals as goal

pub returns-in-Some-clause-taken : goal.returns-in-Some-clause-taken
unfolding page_total
returns-in-Some-clause-taken c =
    total_taken (page_at c.args.self.now) (page_at c.take.new.self) c.args.number true c.take.ensures.after c.requires
    (ap is_some (sym c.in-Some.ensures.taken))

pub returns-in-None-clause-taken : goal.returns-in-None-clause-taken
unfolding page_total
returns-in-None-clause-taken c =
    total_taken (page_at c.args.self.now) (page_at c.take.new.self) c.args.number false c.take.ensures.after c.requires
    (ap is_some (sym c.in-None.ensures.taken))
