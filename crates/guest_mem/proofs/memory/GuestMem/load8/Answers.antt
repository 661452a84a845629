use Rattle.std.proofs.Common.{◌%◌, ◌<◌, length, sym, ◌∙◌, arith}
use Rattle.guest_mem.specs.inner.Directory.{page_at}
use Rattle.guest_mem.proofs.Spans.{whole_pages}
use Rattle.guest_mem.proofs.Accesses.{loaded-page, loaded-no_page, number_of-one}
use Rattle.guest_mem.proofs.memory.GuestMem.load8.Goals as goal

pub returns-in-Some-clause-value : goal.returns-in-Some-clause-value
returns-in-Some-clause-value c =
    loaded-page (page_at c.self.inside.directory) c.args.self.now 1 c.args.addr 1 _ c.in-Some.page.now
    (whole_pages c.self.inside.directory) c.self.view_is c.in-Some.ensures.page c.in-Some.ensures.allowed
    (omega arith) (omega arith) (omega arith)
    (c.from.ensures ∙ c.byte.ensures ∙ sym (
    let within : c.args.addr % 4096 < length c.in-Some.page.now.bytes
    = (let whole = (whole_pages c.self.inside.directory _ _ c.in-Some.ensures.page).whole in
    omega (arith, whole)) in
    number_of-one c.in-Some.page.now.bytes (c.args.addr % 4096) within))

pub returns-in-None-clause-value : goal.returns-in-None-clause-value
returns-in-None-clause-value c =
    loaded-no_page (page_at c.self.inside.directory) c.args.self.now 1 c.args.addr 1
    (whole_pages c.self.inside.directory) c.self.view_is c.in-None.ensures.none (omega arith) (omega arith)
    (omega arith)
