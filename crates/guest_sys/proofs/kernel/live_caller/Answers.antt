use Rattle.std.proofs.Common.{ap, sym, subst, ◌∙◌}
use Rattle.std.specs.Prelude.{IsSome}
use Rattle.event_costs.specs.declared.numbers.ThreadNo.{ThreadNo}
use Rattle.guest_load.specs.Guest.{Guest}
use Rattle.guest_sys.specs.CallRow.{caller_of}
use Rattle.guest_sys.proofs.LiveLemmas.{caller_is, live_is_found, nobody}
use Rattle.guest_sys.proofs.kernel.live_caller.Goals as goal

pub unwrap-requires : goal.unwrap-requires
unwrap-requires c =
    let threads = c.deref.ensures.value ∙ ap (λ (g : Guest). g.threads) c.guest.view_is in
    subst IsSome (sym (c.caller_of.ensures ∙ ap (caller_of c.args.thread) threads))
    (live_is_found c.args.thread c.args.guest.now.threads c.requires)

pub returns-clause-caller : goal.returns-clause-caller
returns-clause-caller c =
    let threads = c.deref.ensures.value ∙ ap (λ (g : Guest). g.threads) c.guest.view_is in
    (caller_is c.args.thread c.args.guest.now.threads nobody c.unwrap.result c.requires
    (ap (caller_of c.args.thread) (sym threads) ∙ sym c.caller_of.ensures ∙ c.unwrap.ensures)).0

pub returns-clause-number : goal.returns-clause-number
returns-clause-number c =
    let threads = c.deref.ensures.value ∙ ap (λ (g : Guest). g.threads) c.guest.view_is in
    let same =
    (caller_is c.args.thread c.args.guest.now.threads nobody c.unwrap.result c.requires
    (ap (caller_of c.args.thread) (sym threads) ∙ sym c.caller_of.ensures ∙ c.unwrap.ensures)).1 in
    ap (λ n. let t : ThreadNo = record { 0 = n } in t) same
