use Rattle.std.proofs.Common.{List, sym, subst}
use Rattle.guest_load.specs.declared.thread.Thread.{Thread}
use Rattle.guest_load.specs.Guest.{Guest}
use Rattle.guest_load.specs.Lawful.{IsLawful, guest_of}
use Rattle.guest_sys.specs.Common.{IsCaller}
use Rattle.guest_sys.proofs.GuestLemmas.{lawful_without}
use Rattle.guest_sys.proofs.threads.remove_caller.Goals as goal

pub invariant_of-guest : goal.invariant_of-guest
invariant_of-guest c =
    subst (λ (ts : List Thread). IsLawful (record (guest_of c.guest.inside) { threads = ts }))
    (sym c.remove.ensures.items)
    (lawful_without (guest_of c.guest.inside) c.args.caller.now c.guest.inside.mem c.guest.invariant
    (subst (λ (g : Guest). IsCaller g c.args.caller.now) (sym c.guest.view_is) c.requires))
