use Rattle.std.proofs.Common.{◌≡◌, take}
use Rattle.name_numbers.proofs.names.common_len.Given as goal

abbrev pub invariant-bytes : goal.invariant-bytes
invariant-bytes l = take l.i l.y ≡ take l.i l.x
