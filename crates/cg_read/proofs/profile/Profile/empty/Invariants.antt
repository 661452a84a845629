use Rattle.std.proofs.Common.{◌≡◌, take, map}
use Rattle.cg_read.proofs.profile.Profile.empty.Given as goal

abbrev pub invariant-names : goal.invariant-names
invariant-names l = l.names.items ≡ map (λ name. name.now) (take l.name-index l.events)
