use Rattle.std.proofs.Common.{◌≡◌, ◌∙◌, ap, sym}
use Rattle.guest_mem.specs.Memory.{may}
use Rattle.guest_mem.proofs.Ranges.{may-from, may_at}
use Rattle.guest_mem.proofs.memory.GuestMem.may.Goals as goal

pub returns-clause-each : goal.returns-clause-each
returns-clause-each c =
    let is : c.may.result ≡ may c.args.self.now c.args.perm c.args.addr c.args.len = c.may.ensures
    ∙ ap (λ m. may m c.args.perm c.args.addr c.args.len) c.self.view_is in (
      λ ok. may_at c.args.self.now c.args.perm c.args.addr c.args.len (sym is ∙ ok),
      λ each. is
          ∙ may-from c.args.self.now c.args.perm c.args.addr c.args.len each,
    )
