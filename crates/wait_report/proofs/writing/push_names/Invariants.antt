use Rattle.std.proofs.Common.{◌≡◌, ◌++◌, take, flat_map, codes}
use Rattle.wait_report.proofs.writing.push_names.Given as goal

abbrev pub invariant-names : goal.invariant-names
invariant-names l = l.text ≡ l.initial.text ++ flat_map (λ name. codes " " ++ name.now) (take l.name-index l.names)
