use Rattle.std.proofs.Common.{sym, ◌∙◌, arith, length}
use Rattle.std.proofs.lemmas.Bool.Decides.{nat_tests}
use Rattle.guest_mem.specs.inner.Directory.{page_at}
use Rattle.guest_mem.proofs.Spans.{whole_pages}
use Rattle.guest_mem.proofs.Views.{may-page}
use Rattle.guest_mem.proofs.Accesses.{store_page}
use Rattle.guest_mem.proofs.directory.Directory.store.Goals as goal

pub returns-clause-allowed : goal.returns-clause-allowed
returns-clause-allowed c = c.write.ensures.allowed
    ∙ sym (may-page (page_at c.args.self.now) 2 c.args.at (length c.args.bytes.now)
    (whole_pages c.args.self.now) c.requires (grind (arith, nat_tests)) (grind (arith, nat_tests)))

pub returns-clause-after : goal.returns-clause-after
returns-clause-after c = store_page (page_at c.args.self.now) (page_at c.write.new.self) c.args.at c.args.bytes.now
    (whole_pages c.args.self.now) c.requires (grind (arith, nat_tests)) (grind (arith, nat_tests)) c.write.ensures.after
