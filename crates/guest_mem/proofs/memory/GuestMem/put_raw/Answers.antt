use Rattle.std.proofs.Common.{sym, ◌∙◌, ap, length}
use Rattle.guest_mem.specs.Memory.{write_at}
use Rattle.guest_mem.specs.inner.Page.{memory_of_pages}
use Rattle.guest_mem.specs.inner.Directory.{page_at}
use Rattle.guest_mem.proofs.Mapped.{total_same}
use Rattle.guest_mem.proofs.Laws.{elsewhere-written, elsewhere-by}
use Rattle.guest_mem.proofs.memory.GuestMem.put_raw.Goals as goal

pub invariant_of-self : goal.invariant_of-self
invariant_of-self c = c.self.invariant
    ∙ sym (total_same c.self.inside.directory c.put_bytes.new.self c.put_bytes.ensures.pages)

pub returns-clause-elsewhere : goal.returns-clause-elsewhere
returns-clause-elsewhere c =
    elsewhere-by c.args.self.now (memory_of_pages (page_at c.put_bytes.new.self))
    (write_at c.args.self.now c.args.addr c.args.bytes.now) c.args.addr (length c.args.bytes.now)
    (c.put_bytes.ensures.after ∙ ap (λ m. write_at m c.args.addr c.args.bytes.now) c.self.view_is)
    (elsewhere-written c.args.self.now c.args.addr c.args.bytes.now)
