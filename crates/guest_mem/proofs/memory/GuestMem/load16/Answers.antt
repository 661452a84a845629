use Rattle.std.proofs.Common.{◌∙◌, arith}
use Rattle.guest_mem.specs.inner.Directory.{page_at}
use Rattle.guest_mem.proofs.Spans.{whole_pages}
use Rattle.guest_mem.proofs.Accesses.{loaded-page, loaded-no_page}
use Rattle.guest_mem.proofs.memory.GuestMem.load16.Goals as goal

pub returns-in-Some-clause-value : goal.returns-in-Some-clause-value
returns-in-Some-clause-value c =
    loaded-page (page_at c.self.inside.directory) c.args.self.now 1 c.args.addr 2 _ c.in-Some.page.now
    (whole_pages c.self.inside.directory) c.self.view_is c.in-Some.ensures.page c.in-Some.ensures.allowed
    (omega arith) (omega arith) (omega arith)
    (c.from.ensures ∙ c.half.ensures)

pub returns-in-None-clause-value : goal.returns-in-None-clause-value
returns-in-None-clause-value c =
    loaded-no_page (page_at c.self.inside.directory) c.args.self.now 1 c.args.addr 2
    (whole_pages c.self.inside.directory) c.self.view_is c.in-None.ensures.none (omega arith) (omega arith)
    (omega arith)
