use Rattle.std.proofs.Common.{sym, subst, refl}
use Rattle.guest_load.specs.declared.thread.Thread.{Thread}
use Rattle.guest_load.specs.Lawful.{IsLawful, guest_of}
use Rattle.guest_sys.specs.Common.{IsCaller, resume, with_caller}
use Rattle.guest_sys.proofs.GuestLemmas.{caller_lawful, resumed_lawful, lawful_with_caller}
use Rattle.guest_sys.proofs.threads.set_tid_address.Goals as goal

pub invariant_of-guest : goal.invariant_of-guest
invariant_of-guest c =
    let is : IsCaller (guest_of c.guest.inside) c.args.caller.now
    = subst (λ g. IsCaller g c.args.caller.now) (sym c.guest.view_is) c.requires in
    let h = resumed_lawful c.guest.inside.made c.args.caller.now.thread.no.0 c.args.caller.now.thread
    (caller_lawful (guest_of c.guest.inside) c.args.caller.now c.guest.invariant is) in
    subst (λ (t : Thread). IsLawful
    (with_caller (guest_of c.guest.inside) c.args.caller.now (record t { clear = c.argument.result })))
    (sym c.resume-after.ensures)
    (lawful_with_caller (guest_of c.guest.inside) c.args.caller.now
    (record (resume c.args.caller.now.thread c.args.caller.now.thread.no.0) { clear = c.argument.result })
    c.guest.invariant is refl (record { numbered = h.numbered; given = h.given; aligned = h.aligned; zero = h.zero }))
