use Rattle.std.proofs.Common.{map, string_bytes, arith}
use Rattle.std.proofs.lemmas.List.{length-map}
use Rattle.guest_load.proofs.ArgumentLemmas.{length-le-arguments_len}
use Rattle.guest_load.proofs.stack.stack_words.Goals as goal

pub overflow_cast-args : goal.overflow_cast-args
overflow_cast-args c =
    omega (
      arith,
      length-le-arguments_len (map string_bytes c.args.args.now),
      length-map c.args.args.now string_bytes,
      c.requires.short,
    )
