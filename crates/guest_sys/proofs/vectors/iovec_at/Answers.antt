use Rattle.std.proofs.Common.{◌+◌, arith}
use Rattle.guest_mem.proofs.Spans.{may_ends}
use Rattle.guest_sys.proofs.VectorLemmas.{may_part}
use Rattle.guest_sys.proofs.vectors.iovec_at.Goals as goal

pub word_at-requires : goal.word_at-requires
word_at-requires c = may_part c.args.mem.now 1 c.args.at 8 c.args.at 4 c.requires (omega arith) (omega arith)

pub overflow_add-at : goal.overflow_add-at
overflow_add-at c = omega (arith, may_ends c.args.mem.now 1 c.args.at 8 c.requires (omega arith))

pub word_at-requires-2 : goal.word_at-requires-2
word_at-requires-2 c = may_part c.args.mem.now 1 c.args.at 8 (c.args.at + 4) 4 c.requires (omega arith) (omega arith)
