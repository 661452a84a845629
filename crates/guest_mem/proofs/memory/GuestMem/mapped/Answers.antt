use Rattle.std.proofs.Common.{◌∙◌, ◌*◌, ap}
use Rattle.guest_mem.specs.Memory.{may, pages_mapped}
use Rattle.guest_mem.specs.inner.Directory.{page_at}
use Rattle.guest_mem.proofs.Mapped.{pages_mapped-is, pages_mapped-bytes}
use Rattle.guest_mem.proofs.Spans.{whole_pages}
use Rattle.guest_mem.proofs.memory.GuestMem.mapped.Goals as goal

pub returns-clause-pages : goal.returns-clause-pages
returns-clause-pages c =
    pages_mapped-is (page_at c.self.inside.directory) c.args.first c.args.pages c.pages_allow.result
    (whole_pages c.self.inside.directory) c.requires.aligned c.requires.within c.pages_allow.ensures
    ∙ ap (λ m. pages_mapped m c.args.first c.args.pages) c.self.view_is

pub returns-clause-bytes : goal.returns-clause-bytes
returns-clause-bytes c =
    pages_mapped-bytes (page_at c.self.inside.directory) c.args.first c.args.pages c.pages_allow.result
    (whole_pages c.self.inside.directory) c.requires.aligned c.requires.within c.pages_allow.ensures
    ∙ ap (λ m. may m 0 c.args.first (c.args.pages * 4096)) c.self.view_is
