use Rattle.std.proofs.Common.{◌≡◌, ◌+◌, length, take, map, string_bytes, sym, ap, arith, append-nil}
use Rattle.guest_load.specs.Arguments.{arguments_len}
use Rattle.guest_load.proofs.ArgumentLemmas.{no_arguments, len_more, len_within, addresses_more}
use Rattle.guest_load.proofs.arguments.push_addresses.Goals as goal

pub arguments-init : goal.arguments-init
arguments-init c = record {
  next = omega (arith, no_arguments);
  addresses = sym (append-nil c.args.words.now.items);
}

-- the arguments up to the present one, which are within all of them
more : (c : goal.After-len) → arguments_len (map string_bytes (take (c.arguments.argument-index + 1) c.args.args.now))
    ≡ arguments_len (map string_bytes (take c.arguments.argument-index c.args.args.now)) + (c.len.result + 1)
more c =
    omega (
      arith,
      len_more string_bytes c.args.args.now c.arguments.argument-index c.argument-item.result
          c.arguments-test.true,
      ap (λ s. length (string_bytes s)) c.argument-item.is,
      c.len.ensures,
      c.argument-item.result.bytes.ok.0,
    )

pub overflow_cast-addr : goal.overflow_cast-addr
overflow_cast-addr c =
    omega (arith, more c, len_within string_bytes c.args.args.now (c.arguments.argument-index + 1), c.requires.short)

pub overflow_add-addr : goal.overflow_add-addr
overflow_add-addr c =
    omega (arith, more c, len_within string_bytes c.args.args.now (c.arguments.argument-index + 1), c.requires.short)

pub overflow_add-addr-in-arguments : goal.overflow_add-addr-in-arguments
overflow_add-addr-in-arguments c =
    omega (
      arith,
      more c,
      len_within string_bytes c.args.args.now
          (c.arguments.argument-index + 1),
      c.requires.short,
      c.requires.start,
    )

pub arguments-preserved : goal.arguments-preserved
arguments-preserved c = record {
  next = omega (arith, more c, c.arguments.invariant.next);
  addresses = addresses_more string_bytes c.args.args.now c.arguments.argument-index c.args.start c.arguments.addr
      c.args.words.now.items c.arguments.words.items c.push.new.self.items c.arguments.invariant.next
      c.arguments.invariant.addresses c.in_ok-push.ensures.items;
}
