use Rattle.std.proofs.Common.{sym, ◌∙◌, ap, arith}
use Rattle.guest_mem.specs.Memory.{byte_at}
use Rattle.guest_mem.specs.inner.Directory.{page_at}
use Rattle.guest_mem.proofs.Spans.{whole_pages}
use Rattle.guest_mem.proofs.Views.{byte_at-page, byte_at-none}
use Rattle.guest_mem.proofs.memory.GuestMem.byte.Goals as goal

pub returns-in-Some : goal.returns-in-Some
returns-in-Some c =
    c.byte.ensures
    ∙ sym (byte_at-page (page_at c.self.inside.directory) c.args.addr c.in-Some.page.now (sym c.in-Some.ensures)
    (whole_pages c.self.inside.directory _ _ (sym c.in-Some.ensures)) (omega arith))
    ∙ ap (λ m. byte_at m c.args.addr) c.self.view_is

pub returns-in-None : goal.returns-in-None
returns-in-None c =
    sym (byte_at-none (page_at c.self.inside.directory) c.args.addr (sym c.in-None.ensures) (omega arith))
    ∙ ap (λ m. byte_at m c.args.addr) c.self.view_is
