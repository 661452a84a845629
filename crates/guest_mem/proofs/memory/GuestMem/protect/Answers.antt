use Rattle.std.proofs.Common.{◌≡◌, ◌*◌, ◌/◌, sym, ◌∙◌, ap, arith}
use Rattle.guest_mem.specs.Memory.{protect_at}
use Rattle.guest_mem.specs.inner.Page.{memory_of_pages}
use Rattle.guest_mem.specs.inner.Directory.{page_at}
use Rattle.guest_mem.proofs.Spans.{whole_pages}
use Rattle.guest_mem.proofs.Mapped.{total_same, range_same}
use Rattle.guest_mem.proofs.Views.{memory_of_pages-protected}
use Rattle.guest_mem.proofs.Laws.{elsewhere-protected, elsewhere-by}
use Rattle.guest_mem.proofs.memory.GuestMem.protect.Goals as goal

pub invariant_of-self : goal.invariant_of-self
invariant_of-self c = c.self.invariant
    ∙ sym (total_same c.self.inside.directory c.protect_range.new.self
    (range_same (page_at c.self.inside.directory) (page_at c.protect_range.new.self)
    (c.args.first / 4096) c.args.pages c.args.perm c.protect_range.ensures))

pub returns-clause-after : goal.returns-clause-after
returns-clause-after c =
    let start : c.args.first / 4096 * 4096 ≡ c.args.first = omega arith in
    memory_of_pages-protected (page_at c.self.inside.directory) (page_at c.protect_range.new.self)
    (c.args.first / 4096) c.args.pages c.args.perm (whole_pages c.self.inside.directory) c.protect_range.ensures
    ∙ ap (λ a. protect_at (memory_of_pages (page_at c.self.inside.directory)) a (c.args.pages * 4096) c.args.perm) start
    ∙ ap (λ m. protect_at m c.args.first (c.args.pages * 4096) c.args.perm) c.self.view_is

pub returns-clause-elsewhere : goal.returns-clause-elsewhere
returns-clause-elsewhere c =
    elsewhere-by c.args.self.now (memory_of_pages (page_at c.protect_range.new.self))
    (protect_at c.args.self.now c.args.first (c.args.pages * 4096) c.args.perm) c.args.first (c.args.pages * 4096)
    (returns-clause-after c) (elsewhere-protected c.args.self.now c.args.first (c.args.pages * 4096) c.args.perm)
