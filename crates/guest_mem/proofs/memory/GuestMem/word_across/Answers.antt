use Rattle.std.proofs.Common.{sym, arith}
use Rattle.guest_mem.proofs.Spans.{may_ends}
use Rattle.guest_mem.proofs.Accesses.{loaded_refused, loaded_bytes, word_of_bytes}
use Rattle.guest_mem.proofs.memory.GuestMem.word_across.Goals as goal

pub returns-then-not-may : goal.returns-then-not-may
returns-then-not-may c = loaded_refused c.args.self.now c.args.want c.args.addr 4 (sym c.if-not-may.ensures.value)

pub overflow_add-addr : goal.overflow_add-addr
overflow_add-addr c = let ends = may_ends c.args.self.now c.args.want c.args.addr 4 (sym c.if-not-may.ensures.value)
    (omega arith) in omega (arith, ends)

pub overflow_add-addr-2 : goal.overflow_add-addr-2
overflow_add-addr-2 c = let ends = may_ends c.args.self.now c.args.want c.args.addr 4 (sym c.if-not-may.ensures.value)
    (omega arith) in omega (arith, ends)

pub overflow_add-addr-3 : goal.overflow_add-addr-3
overflow_add-addr-3 c = let ends = may_ends c.args.self.now c.args.want c.args.addr 4 (sym c.if-not-may.ensures.value)
    (omega arith) in omega (arith, ends)

pub returns : goal.returns
returns c =
    loaded_bytes c.args.self.now c.args.want c.args.addr 4 _ (sym c.if-not-may.ensures.value)
    (word_of_bytes c.args.self.now c.args.addr c.byte.result c.byte-2.result c.byte-3.result c.byte-4.result _
    c.byte.ensures c.byte-2.ensures c.byte-3.ensures c.byte-4.ensures c.from_le_bytes.ensures)
