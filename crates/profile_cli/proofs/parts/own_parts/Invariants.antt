use Rattle.std.proofs.Common.{◌≡◌, take, map}
use Rattle.report_laws.specs.Exact.{part_wanted}
use Rattle.profile_cli.proofs.parts.own_parts.Given as goal

abbrev pub invariant-parts : goal.invariant-parts
invariant-parts l = l.own.items ≡ map (part_wanted l.base) (take l.part-index l.parts)
