use Rattle.std.proofs.Common.{◌≡◌, ◌++◌, drop}
use Rattle.std.specs.Map.{keys_of}
use Rattle.wait_report.proofs.books.keys_listed.Given as goal

abbrev pub invariant-keys : goal.invariant-keys
invariant-keys g l = l.keys.items ++ keys_of (drop l.key-index l.tally.entries) ≡ keys_of l.tally.entries
