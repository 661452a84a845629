use Rattle.std.proofs.Common.{◌≡◌, ◌+◌, ◌++◌, ◌∷◌, [], List, false, sym, subst, ap, ◌∙◌}
use Rattle.guest_load.specs.declared.thread.Thread.{Thread}
use Rattle.guest_load.specs.Guest.{Guest}
use Rattle.guest_load.specs.Lawful.{IsLawful, guest_of}
use Rattle.guest_sys.specs.Common.{IsCaller}
use Rattle.guest_sys.specs.Threads.{is_crowded}
use Rattle.guest_sys.proofs.GuestLemmas.{lawful_added}
use Rattle.guest_sys.proofs.threads.add_thread.Goals as goal

pub invariant_of-guest-2 : goal.invariant_of-guest-2
invariant_of-guest-2 c =
    let back = sym c.guest.view_is in
    subst (λ (ts : List Thread). IsLawful
    (record (guest_of c.guest.inside) { mem = c.tell-2.new.mem; threads = ts; made = c.args.number }))
    (sym (c.in_ok-push.ensures.items
    ∙ ap (λ (t : Thread). c.guest.inside.threads.items ++ t ∷ []) c.new_thread.ensures))
    (lawful_added (guest_of c.guest.inside) c.args.caller.now c.args.number c.tell-2.new.mem c.guest.invariant
    (subst (λ (g : Guest). IsCaller g c.args.caller.now) back c.requires.caller)
    (subst (λ (g : Guest). c.args.number ≡ g.made + 1) back c.requires.next)
    (subst (λ (g : Guest). is_crowded g ≡ false) back c.requires.room))
