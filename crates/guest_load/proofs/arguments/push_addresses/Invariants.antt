use Rattle.std.proofs.Common.{◌≡◌, ◌+◌, ◌++◌, take, map, string_bytes}
use Rattle.std.specs.List.{range_with_len}
use Rattle.guest_load.specs.Arguments.{arguments_len}
use Rattle.guest_load.proofs.arguments.push_addresses.Given as goal

abbrev pub invariant-arguments : goal.invariant-arguments
invariant-arguments l = record {
  next : l.addr ≡ l.fn.start + arguments_len (map string_bytes (take l.argument-index l.args));
  addresses : l.words.items ≡ l.fn.words.items ++ map
      (λ k. l.fn.start + arguments_len (take k (map string_bytes l.args))) (range_with_len 0 l.argument-index);
}
