use Rattle.std.proofs.Common.{sym}
use Rattle.guest_mem.specs.inner.Directory.{page_at}
use Rattle.guest_mem.proofs.Mapped.{total_none, memory_of_none}
use Rattle.guest_mem.proofs.memory.GuestMem.new.Goals as goal

pub invariant_of-result : goal.invariant_of-result
invariant_of-result c = sym (total_none c.new.result c.new.ensures)

pub returns : goal.returns
returns c = memory_of_none (page_at c.new.result) c.new.ensures
