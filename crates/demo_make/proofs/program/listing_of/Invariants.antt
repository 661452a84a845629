-- main, child and the functions so far are listed, and three words were drawn for each of these.
use Rattle.std.proofs.Common.{◌≡◌, ◌*◌}
use Rattle.demo_make.specs.Draws.{generator}
use Rattle.demo_make.specs.inner.Lists.{Lists, routines_before}
use Rattle.demo_make.proofs.program.listing_of.Given as goal

abbrev pub invariant-functions : goal.invariant-functions
invariant-functions l = record {
  lists : Lists l.listing (routines_before l.size l.k);
  words : l.words ≡ generator l.size (3 * l.k);
}
