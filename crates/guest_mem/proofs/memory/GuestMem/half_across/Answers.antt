use Rattle.std.proofs.Common.{sym, ◌∙◌, arith}
use Rattle.guest_mem.proofs.Spans.{may_ends}
use Rattle.guest_mem.proofs.Accesses.{loaded_refused, loaded_bytes, half_of_bytes}
use Rattle.guest_mem.proofs.memory.GuestMem.half_across.Goals as goal

pub returns-then-not-may-clause-value : goal.returns-then-not-may-clause-value
returns-then-not-may-clause-value c = loaded_refused c.args.self.now 1 c.args.addr 2 (sym c.if-not-may.ensures.value)

pub overflow_add-addr : goal.overflow_add-addr
overflow_add-addr c = let ends = may_ends c.args.self.now 1 c.args.addr 2 (sym c.if-not-may.ensures.value)
    (omega arith) in omega (arith, ends)

pub returns-clause-value : goal.returns-clause-value
returns-clause-value c =
    loaded_bytes c.args.self.now 1 c.args.addr 2 _ (sym c.if-not-may.ensures.value)
    (c.from.ensures
    ∙ half_of_bytes c.args.self.now c.args.addr c.byte.result c.byte-2.result _ c.byte.ensures c.byte-2.ensures
    c.from_le_bytes-half.ensures)
