use Rattle.std.proofs.Common.{◌≡◌, map}
use Rattle.annotate.proofs.file_names.copies.Given as goal

abbrev pub invariant-names : goal.invariant-names
invariant-names l = l.copies.items ≡ map (λ n. n.now) l.yielded
