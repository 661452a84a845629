use Rattle.std.proofs.Common.{◌≤◌, ◌<◌, ◌+◌, ◌-◌, length}
use Rattle.outside.specs.Calls.{Tell}
use Rattle.outside.specs.inner.Front.{HasRead}
use Rattle.outside.proofs.file_folder.read_front.Given as goal

abbrev pub invariant-pieces : goal.invariant-pieces
invariant-pieces g l = record {
  room : 0 < length l.room.items;
  within : length l.bytes.items ≤ l.limit + 1;
  read : Tell (g.C.FileCalls.disk l.fn.calls) (g.C.FileCalls.disk l.calls)
      (HasRead (g.C.FileCalls.open_file l.fn.file).rest l.bytes.items (g.C.FileCalls.open_file l.file));
}

abbrev pub decreases-pieces : goal.decreases-pieces
decreases-pieces g l = l.limit + 1 - length l.bytes.items
