use Rattle.std.proofs.Common.{◌<◌, ◌%◌, Some, length, refl, sym, ap, ◌∙◌, arith}
use Rattle.guest_load.specs.declared.thread.Thread.{Thread}
use Rattle.guest_load.specs.Lawful.{guest_of}
use Rattle.guest_sys.specs.declared.caller.Caller.{Caller}
use Rattle.guest_sys.specs.Common.{IsCaller}
use Rattle.guest_sys.proofs.GuestLemmas.{caller_lawful, lawful_with_caller}
use Rattle.guest_sys.proofs.RowLemmas.{some_at}
use Rattle.cases_machine.proofs.kernel.prepare.Goals as goal

pub invariant_of-guest : goal.invariant_of-guest
invariant_of-guest c =
    let within : c.unwrap_or-place.result < length c.guest.inside.threads.items =
    omega (arith, c.if-place-len.false, c.len.ensures, c.deref.ensures.len, ap length c.deref.ensures.value) in
    let caller : Caller = record { place = c.unwrap_or-place.result; thread = c.index-live.result.now } in
    let is : IsCaller (guest_of c.guest.inside) caller =
    sym (some_at c.guest.inside.threads.items c.unwrap_or-place.result c.index-live.result.now within)
    ∙ ap (λ (t : Thread). Some t) (sym c.index-live.ensures) in
    let h = caller_lawful (guest_of c.guest.inside) caller c.guest.invariant is in
    lawful_with_caller (guest_of c.guest.inside) caller
    (record { no = c.index-live.result.now.no; regs = c.registers.result; clear = c.index-live.result.now.clear })
    c.guest.invariant is refl
    (record {
      numbered = h.numbered;
      given = h.given;
      aligned = ap (λ n. n % 4) c.registers.ensures.pc ∙ h.aligned;
      zero = c.registers.ensures.zero ∙ h.zero;
    })
