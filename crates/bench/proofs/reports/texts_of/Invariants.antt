use Rattle.std.proofs.Common.{◌≡◌, map}
use Rattle.bench.proofs.reports.texts_of.Given as goal

abbrev pub invariant-names : goal.invariant-names
invariant-names l = map (λ t. t.0) l.items.items ≡ l.yielded
