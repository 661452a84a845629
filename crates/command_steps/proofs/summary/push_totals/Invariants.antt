-- The totals so far.
use Rattle.std.proofs.Common.{◌≡◌, ◌++◌, take}
use Rattle.std.specs.Prelude.{codes, decimal}
use Rattle.std.specs.List.{flat_map}
use Rattle.command_steps.proofs.summary.push_totals.Given as goal

abbrev pub invariant-totals : goal.invariant-totals
invariant-totals l = l.text ≡ l.initial.text ++ flat_map (λ total. codes " " ++ decimal total)
    (take l.total-index l.totals)
