use Rattle.std.proofs.Common.{◌≡◌, ◌+◌, ◌<◌, List, length, suc, ap, ◌∙◌, arith}
use Rattle.std.specs.Prelude.{slice_index_or, slice_set}
use Rattle.guest_futex.specs.Waits.{Wait, wait_at}
use Rattle.guest_futex.proofs.OrderLaws.{partly, partly-read, partly-more}
use Rattle.guest_futex.proofs.queue.readdress.Goals as goal

abbrev none : Wait
none = record { thread = record { 0 = 0 }; addr = 0 }

pub loop-place-preserved : goal.loop-place-preserved
loop-place-preserved c =
    let addr = c.args.addr in
    let place = c.loop-place.place in
    let waits = c.args.waits.now in
    let within : place < length waits = omega (arith, c.loop-place-test.true) in
    let next : suc place ≡ place + 1 = omega arith in
    ap (λ (l : List Wait). slice_set l place (wait_at addr (slice_index_or l place none).thread)) c.loop-place.invariant
    ∙ ap (λ (w : Wait). slice_set (partly addr place waits) place (wait_at addr w.thread))
    (partly-read addr place waits none within)
    ∙ partly-more addr place waits none within ∙ ap (λ k. partly addr k waits) next
