use Rattle.std.proofs.Common.{length, sym, ◌∙◌, ap}
use Rattle.guest_mem.specs.Memory.{may, store_at}
use Rattle.guest_mem.specs.inner.Page.{memory_of_pages}
use Rattle.guest_mem.specs.inner.Directory.{page_at}
use Rattle.guest_mem.proofs.Spans.{whole_pages}
use Rattle.guest_mem.proofs.Mapped.{total_same}
use Rattle.guest_mem.proofs.Accesses.{elsewhere-stored, refused_same, reads_back}
use Rattle.guest_mem.proofs.memory.GuestMem.store.Goals as goal

pub invariant_of-self : goal.invariant_of-self
invariant_of-self c = c.self.invariant ∙ sym (total_same c.self.inside.directory c.store.new.self c.store.ensures.pages)

pub returns-then-store-clause-reads_back : goal.returns-then-store-clause-reads_back
returns-then-store-clause-reads_back c =
    reads_back (page_at c.self.inside.directory) c.args.self.now
    (memory_of_pages (page_at c.store.new.self)) c.args.addr c.args.bytes.now
    (whole_pages c.self.inside.directory) c.self.view_is
    (ap (λ m. may m 2 c.args.addr (length c.args.bytes.now)) (sym c.self.view_is) ∙ sym c.if-store.ensures.allowed)
    (c.store.ensures.after ∙ ap (λ m. store_at m c.args.addr c.args.bytes.now) c.self.view_is)

pub returns-then-store-clause-elsewhere : goal.returns-then-store-clause-elsewhere
returns-then-store-clause-elsewhere c =
    elsewhere-stored c.args.self.now (memory_of_pages (page_at c.store.new.self)) c.args.addr c.args.bytes.now
    (c.store.ensures.after ∙ ap (λ m. store_at m c.args.addr c.args.bytes.now) c.self.view_is)

pub invariant_of-self-2 : goal.invariant_of-self-2
invariant_of-self-2 c = c.self.invariant
    ∙ sym (total_same c.self.inside.directory c.store.new.self c.store.ensures.pages)

pub returns-clause-elsewhere : goal.returns-clause-elsewhere
returns-clause-elsewhere c =
    elsewhere-stored c.args.self.now (memory_of_pages (page_at c.store.new.self)) c.args.addr c.args.bytes.now
    (c.store.ensures.after ∙ ap (λ m. store_at m c.args.addr c.args.bytes.now) c.self.view_is)

pub returns-clause-refused : goal.returns-clause-refused
returns-clause-refused c =
    refused_same c.args.self.now (memory_of_pages (page_at c.store.new.self)) c.args.addr c.args.bytes.now
    (ap (λ m. may m 2 c.args.addr (length c.args.bytes.now)) (sym c.self.view_is) ∙ sym c.if-store.ensures.allowed)
    (c.store.ensures.after ∙ ap (λ m. store_at m c.args.addr c.args.bytes.now) c.self.view_is)
