use Rattle.std.proofs.Common.{◌≡◌, ◌++◌}
use Rattle.std.specs.Vec.Iter.{into_iter_items}
use Rattle.profile_cli.proofs.process.listed.Given as goal

abbrev pub invariant-each : goal.invariant-each
invariant-each l = l.words.items ++ into_iter_items l.word-iterator ≡ into_iter_items l.fn.args
