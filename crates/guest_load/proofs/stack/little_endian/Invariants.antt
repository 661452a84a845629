use Rattle.std.proofs.Common.{◌≡◌, take}
use Rattle.guest_load.specs.Stack.{little_endian}
use Rattle.guest_load.proofs.stack.little_endian.Given as goal

abbrev pub invariant-words : goal.invariant-words
invariant-words l = l.bytes.items ≡ little_endian (take l.word-index l.words)
