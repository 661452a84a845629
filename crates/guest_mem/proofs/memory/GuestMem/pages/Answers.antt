use Rattle.std.proofs.Common.{◌∙◌, ap}
use Rattle.guest_mem.specs.Memory.{page_count}
use Rattle.guest_mem.proofs.Mapped.{total_is}
use Rattle.guest_mem.proofs.memory.GuestMem.pages.Goals as goal

pub returns : goal.returns
returns c = c.self.invariant ∙ total_is c.self.inside.directory ∙ ap page_count c.self.view_is
