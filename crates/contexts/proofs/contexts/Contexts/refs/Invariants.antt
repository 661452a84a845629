use Rattle.std.specs.Map.{keys_of}
use Rattle.std.proofs.Common.{◌≡◌, take}
use Rattle.contexts.proofs.contexts.Contexts.refs.Given as goal

abbrev pub invariant-contexts : goal.invariant-contexts
invariant-contexts l = l.refs.items ≡ keys_of (take l.row-index l.rows)
