use Rattle.std.proofs.Common.{◌≡◌, length}
use Rattle.cg_lines.specs.Names.{is_distinct}
use Rattle.cg_lines.proofs.events.are_distinct.Given as goal

abbrev pub invariant-names : goal.invariant-names
invariant-names l = is_distinct l.rest ≡ is_distinct l.names

abbrev pub decreases-names : goal.decreases-names
decreases-names l = length l.rest
