use Rattle.std.proofs.Common.{◌-◌}
use Rattle.guest_sys.proofs.PlaceLemmas.{IsSought}
use Rattle.guest_sys.proofs.pages.lowest_free.Given as goal

abbrev pub invariant-places : goal.invariant-places
invariant-places l = IsSought l.mem l.pages l.start

abbrev pub decreases-places : goal.decreases-places
decreases-places l = 0x7f000 - l.start
