use Rattle.std.proofs.Common.{◌∙◌, ap, sym}
use Rattle.guest_mem.specs.Memory.{may}
use Rattle.guest_mem.proofs.Mapped.{may_nothing}
use Rattle.guest_mem.proofs.memory.GuestMem.copy_out.Goals as goal

pub append_bytes-requires : goal.append_bytes-requires
append_bytes-requires c = ap (λ m. may m 0 c.args.addr c.args.len) c.self.view_is
    ∙ may_nothing c.args.self.now 1 c.args.addr c.args.len (sym c.if-not-may.ensures.value)
