use Rattle.std.proofs.Common.{◌≡◌, take, map, string_bytes}
use Rattle.guest_load.specs.Arguments.{arguments_bytes}
use Rattle.guest_load.proofs.arguments.arguments_bytes.Given as goal

abbrev pub invariant-arguments : goal.invariant-arguments
invariant-arguments l = l.bytes.items ≡ arguments_bytes (map string_bytes (take l.argument-index l.args))
