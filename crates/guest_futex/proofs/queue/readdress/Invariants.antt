use Rattle.std.proofs.Common.{◌≡◌}
use Rattle.guest_futex.proofs.OrderLaws.{partly}
use Rattle.guest_futex.proofs.queue.readdress.Given as goal

-- so many have the address
abbrev pub invariant-loop-place : goal.invariant-loop-place
invariant-loop-place l = (l.waits ≡ partly l.addr l.place l.initial.waits)
