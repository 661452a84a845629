use Rattle.std.proofs.Common.{sym, subst}
use Rattle.guest_load.specs.Lawful.{IsLawful, guest_of}
use Rattle.guest_sys.specs.Common.{IsCaller, with_caller}
use Rattle.guest_sys.proofs.GuestLemmas.{lawful_settled}
use Rattle.guest_sys.proofs.caller.settle.Goals as goal

pub invariant_of-guest : goal.invariant_of-guest
invariant_of-guest c =
    subst (λ t. IsLawful (with_caller (guest_of c.guest.inside) c.args.caller.now t)) (sym c.resume.ensures)
    (lawful_settled (guest_of c.guest.inside) c.args.caller.now c.args.value c.guest.invariant
    (subst (λ g. IsCaller g c.args.caller.now) (sym c.guest.view_is) c.requires))
