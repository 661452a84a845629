use Rattle.std.proofs.Common.{sym, length, refl}
use Rattle.guest_mem.specs.inner.Page.{memory_of_pages}
use Rattle.guest_mem.specs.inner.Directory.{page_at}
use Rattle.guest_mem.proofs.Mapped.{may_nothing}
use Rattle.guest_mem.proofs.Accesses.{stored_when, stored_unless}
use Rattle.guest_mem.proofs.directory.Directory.store_across.Goals as goal

pub returns-then-not-may-clause-after : goal.returns-then-not-may-clause-after
returns-then-not-may-clause-after c =
    stored_unless (memory_of_pages (page_at c.args.self.now)) _ c.args.at c.args.bytes.now
    (sym c.if-not-may.ensures) refl

pub put_bytes-requires : goal.put_bytes-requires
put_bytes-requires c = may_nothing _ 2 c.args.at (length c.args.bytes.now) (sym c.if-not-may.ensures)

pub returns-clause-after : goal.returns-clause-after
returns-clause-after c = stored_when (memory_of_pages (page_at c.args.self.now)) _ c.args.at c.args.bytes.now
    (sym c.if-not-may.ensures) c.put_bytes.ensures.after
