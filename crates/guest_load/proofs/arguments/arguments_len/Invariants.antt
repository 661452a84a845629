use Rattle.std.proofs.Common.{◌≡◌, ◌-◌, ◌^◌, min, take, map, string_bytes}
use Rattle.guest_load.specs.Arguments.{arguments_len}
use Rattle.guest_load.proofs.arguments.arguments_len.Given as goal

abbrev pub invariant-arguments : goal.invariant-arguments
invariant-arguments l = l.len ≡ min (arguments_len (map string_bytes (take l.argument-index l.args))) (2 ^ 64 - 1)
