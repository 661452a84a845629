use Rattle.std.proofs.Common.{◌≡◌, ◌*◌, ◌/◌, ◌∙◌, ap, arith}
use Rattle.guest_mem.specs.Memory.{unmap_at}
use Rattle.guest_mem.specs.inner.Page.{memory_of_pages}
use Rattle.guest_mem.specs.inner.Directory.{page_at}
use Rattle.guest_mem.proofs.Spans.{whole_pages}
use Rattle.guest_mem.proofs.Views.{memory_of_pages-unmapped}
use Rattle.guest_mem.proofs.Laws.{elsewhere-unmapped, elsewhere-by}
use Rattle.guest_mem.proofs.memory.GuestMem.unmap.Goals as goal

pub returns-clause-after : goal.returns-clause-after
returns-clause-after c =
    let start : c.args.first / 4096 * 4096 ≡ c.args.first = omega arith in
    memory_of_pages-unmapped (page_at c.self.inside.directory) (page_at c.clear-taken.new.self)
    (c.args.first / 4096) c.args.pages (whole_pages c.self.inside.directory) c.clear-taken.ensures.after
    ∙ ap (λ a. unmap_at (memory_of_pages (page_at c.self.inside.directory)) a (c.args.pages * 4096)) start
    ∙ ap (λ m. unmap_at m c.args.first (c.args.pages * 4096)) c.self.view_is

pub returns-clause-elsewhere : goal.returns-clause-elsewhere
returns-clause-elsewhere c =
    elsewhere-by c.args.self.now (memory_of_pages (page_at c.clear-taken.new.self))
    (unmap_at c.args.self.now c.args.first (c.args.pages * 4096)) c.args.first (c.args.pages * 4096)
    (returns-clause-after c) (elsewhere-unmapped c.args.self.now c.args.first (c.args.pages * 4096))
