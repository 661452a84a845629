use Rattle.std.proofs.Common.{arith}
use Rattle.elf_read.proofs.StringLemmas.{front_of-string_at}
use Rattle.elf_read.proofs.text.string_front.Goals as goal

pub returns-clause-front : goal.returns-clause-front
returns-clause-front c =
    front_of-string_at c.args.bytes.now c.args.strings c.args.place c.args.most c.min-len.result c.string_len.result
    (omega arith) (omega arith) c.string_len.ensures.length
