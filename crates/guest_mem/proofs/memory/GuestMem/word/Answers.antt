use Rattle.std.proofs.Common.{arith}
use Rattle.guest_mem.specs.inner.Directory.{page_at}
use Rattle.guest_mem.proofs.Spans.{whole_pages}
use Rattle.guest_mem.proofs.Accesses.{loaded-page, loaded-no_page}
use Rattle.guest_mem.proofs.memory.GuestMem.word.Goals as goal

pub returns-in-Some : goal.returns-in-Some
returns-in-Some c =
    loaded-page (page_at c.self.inside.directory) c.args.self.now c.args.want c.args.addr 4 _ c.in-Some.page.now
    (whole_pages c.self.inside.directory) c.self.view_is c.in-Some.ensures.page c.in-Some.ensures.allowed
    (omega arith) (omega arith) (omega arith)
    c.word.ensures

pub returns-in-None : goal.returns-in-None
returns-in-None c =
    loaded-no_page (page_at c.self.inside.directory) c.args.self.now c.args.want c.args.addr 4
    (whole_pages c.self.inside.directory) c.self.view_is c.in-None.ensures.none (omega arith) (omega arith)
    (omega arith)
