use Rattle.std.proofs.Common.{◌≡◌, take}
use Rattle.profile_cli.proofs.parts.wanted.Given as goal

abbrev pub invariant-parts : goal.invariant-parts
invariant-parts l = l.files.items ≡ take l.part-index l.parts
