use Rattle.std.proofs.Common.{◌≡◌, ◌≤◌, ℕ, length, take, drop}
use Rattle.outside.specs.Calls.{Tell}
use Rattle.outside.specs.inner.Front.{HasWritten}
use Rattle.outside.proofs.file_folder.create_with.Given as goal

abbrev pub invariant-pieces : goal.invariant-pieces
invariant-pieces g l = (count : ℕ) × (count ≤ length l.bytes) × (l.rest ≡ drop count l.bytes)
    × Tell (g.C.FileCalls.disk l.fn.calls) (g.C.FileCalls.disk l.calls)
    (HasWritten l.name (take count l.bytes) (g.C.FileCalls.open_file l.file))

abbrev pub decreases-pieces : goal.decreases-pieces
decreases-pieces g l = length l.rest
