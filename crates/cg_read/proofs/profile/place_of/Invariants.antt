use Rattle.std.proofs.Common.{◌≡◌, take, false}
use Rattle.cg_read.specs.Profiles.{has_text}
use Rattle.cg_read.proofs.profile.place_of.Given as goal

abbrev pub invariant-texts : goal.invariant-texts
invariant-texts l = has_text (take l.place l.texts) l.wanted ≡ false
