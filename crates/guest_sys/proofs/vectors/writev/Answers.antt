use Rattle.std.proofs.Common.{ap, subst, arith}
use Rattle.std.proofs.lemmas.Grind.{common_steps}
use Rattle.guest_mem.specs.Memory.{Memory}
use Rattle.guest_load.specs.Guest.{Guest}
use Rattle.guest_sys.specs.Common.{argument}
use Rattle.guest_sys.specs.Taking.{ReadsFirst}
use Rattle.guest_sys.proofs.VectorLemmas.{iovecs_are_read}
use Rattle.guest_sys.proofs.vectors.writev.Goals as goal

pub returns-in_err-text : goal.returns-in_err-text
returns-in_err-text c =
    let m = c.guest.inside.mem in
    let iov = argument 1 c.args.caller.now in
    let found = rw c.in-Some.is at c.in_ok-listed.ensures.found in
    let listed = iovecs_are_read 1048576 m c.argument.result c.argument-pairs.result c.in-Some.listed c.deref.result.now
    c.in_err-text.ensures.memory c.deref.ensures.value found in
    let at_iov = subst (λ a. ReadsFirst 1048576 m a c.argument-pairs.result) c.argument.ensures listed in
    let of_count = subst (λ n. ReadsFirst 1048576 m iov n) c.argument-pairs.ensures at_iov in
    let first = subst (λ (x : Memory). ReadsFirst 1048576 x iov (argument 2 c.args.caller.now))
    (ap (λ (g : Guest). g.mem) c.guest.view_is) of_count in
    grind (arith, common_steps, first)
