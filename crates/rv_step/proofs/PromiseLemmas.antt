-- What holds of each form of effect, and so of each instruction.
use Rattle.std.proofs.Common.{◌≡◌, ℕ, zero, suc, lit≤, Bool, true, false, refl, sym, ◌+◌, ◌%◌, ◌^◌, ◌<◌, ◌≤◌, List}
use Rattle.std.proofs.Common.{subst, arith}
use Rattle.std.specs.Prelude.{Option, Some, None, slice_index, slice_set, ◌==◌, if◌then◌else◌}
use Rattle.std.specs.Option.{option_and_then, option_map, option_map_or}
use Rattle.std.proofs.lemmas.Grind.{common_steps}
use Rattle.event_costs.specs.declared.event.Done.{Done}
use Rattle.event_costs.specs.declared.event.Regs.{Regs}
use Rattle.event_costs.specs.declared.event.Flow.{Flow}
use Rattle.event_costs.specs.declared.event.Flow.TheVariants.{Plain}
use Rattle.event_costs.specs.declared.event.Touch.{Touch}
use Rattle.event_costs.specs.declared.event.Branch.{Branch}
use Rattle.rv_decode.specs.FlowOf.{flow_by, flow_of}
use Rattle.rv_decode.specs.Decoded.{decode}
use Rattle.rv_decode.specs.declared.instr.Instr.{Instr}
use Rattle.rv_decode.specs.declared.instr.Op.{Op}
use Rattle.rv_decode.specs.declared.instr.Op.TheVariants.{LUI, AUIPC, JAL, JALR, BEQ, BNE, BLT, BGE, BLTU, BGEU, LB, LH}
use Rattle.rv_decode.specs.declared.instr.Op.TheVariants.{LW, LBU, LHU, SB, SH, SW, ADDI, SLTI, SLTIU, XORI, ORI, ANDI}
use Rattle.rv_decode.specs.declared.instr.Op.TheVariants.{SLLI, SRLI, SRAI, ADD, SUB, SLL, SLT, SLTU, XOR, SRL, SRA, OR}
use Rattle.rv_decode.specs.declared.instr.Op.TheVariants.{AND, MUL, MULH, MULHSU, MULHU, DIV, DIVU, REM, REMU, FENCE}
use Rattle.rv_decode.specs.declared.instr.Op.TheVariants.{ECALL, EBREAK, LR, SC, AMOSWAP, AMOADD, AMOXOR, AMOAND, AMOOR}
use Rattle.rv_decode.specs.declared.instr.Op.TheVariants.{AMOMIN, AMOMAX, AMOMINU, AMOMAXU}
use Rattle.guest_mem.specs.Memory.{prot_read, prot_write, prot_exec, Memory, allows_at, may, load_at}
use Rattle.rv_step.specs.Causes.{flow_at}
use Rattle.rv_step.specs.Effects.{effect_by, effect_of, word_effect, fetched_effect, step_of}
use Rattle.rv_step.specs.Forms.{HartState, Outcome, register, address, offset, at, with_register, following, is_held}
use Rattle.rv_step.specs.Forms.{retires, stays, passes, computes, jumps, branches, reads, loads, stores, aligned}
use Rattle.rv_step.specs.Forms.{reserves, conditional, stores_held, replaces, swaps}
use Rattle.rv_step.specs.Promises.{IfRetired, IsSpan, IsWithin, UnlessRetired}
use Rattle.rv_step.specs.declared.stepped.Stepped.{Stepped}
use Rattle.rv_step.specs.declared.stepped.Stepped.TheVariants.{Retired, Call, Trap, Unknown}

-- the pc is a multiple of 4, and x0 is 0
pub record IsReady (r : Regs) : Type 0 where
  pub aligned : r.pc % 4 ≡ 0
  pub zero : slice_index r.x 0 ≡ 0

-- what holds of an outcome, with the flow of the instruction
pub record IsLawful (s : HartState) (flow : Flow) (o : Outcome) : Type 0 where
  pub registers_stay : UnlessRetired o.stepped (o.after.regs ≡ s.regs)
  pub memory_stays : UnlessRetired o.stepped (o.after.memory ≡ s.memory)
  pub reservation_stays : UnlessRetired o.stepped (o.after.held ≡ s.held)
  pub ready : IsReady o.after.regs
  pub pc : IfRetired o.stepped (λ d. d.pc ≡ s.regs.pc)
  pub next : IfRetired o.stepped (λ d. d.next ≡ o.after.regs.pc)
  pub stack_pointer : IfRetired o.stepped (λ d. d.sp ≡ slice_index o.after.regs.x 2)
  pub of_flow : IfRetired o.stepped (λ d. d.flow ≡ flow)
  pub data_within : IfRetired o.stepped (λ d. IsWithin d.touch)

-- ---- memory

allowed-below : (m : Memory) (want a : ℕ) → allows_at m want a ≡ true → a < 2 ^ 32
unfolding allows_at
allowed-below m want a holds = grind arith

-- bytes that may be used end at most at the last address
may-within : (n : ℕ) (m : Memory) (want a : ℕ) → may m want a (suc n) ≡ true → a + suc n ≤ 2 ^ 32
unfolding may
may-within zero m want a holds = grind (arith, allowed-below m want a)
may-within (suc n) m want a holds = grind (arith, may-within n m want (a + 1))

loaded-may : (m : Memory) (want a n v : ℕ) → load_at m want a n ≡ Some v → may m want a n ≡ true
unfolding load_at
loaded-may m want a n v given = grind arith

-- ---- registers

following-aligned : (r : Regs) → r.pc % 4 ≡ 0 → following r % 4 ≡ 0
following-aligned r pc_aligned = omega arith

set-zero : (x : List ℕ) (k value : ℕ) → slice_index x 0 ≡ 0
    → slice_index (if k == 0 then x else slice_set x k value) 0 ≡ 0
set-zero x k value at_zero = grind (arith, common_steps)

-- ---- forms

stays-lawful : (answer : Stepped) (s : HartState) (f : Flow) → IfRetired answer (λ d. ⊥) → IsReady s.regs
    → IsLawful s f (stays answer s)
stays-lawful (Retired d) s f never ready = absurd never
stays-lawful Call s f never ready = record {
  registers_stay = refl;
  memory_stays = refl;
  reservation_stays = refl;
  ready = ready;
  pc = tt;
  next = tt;
  stack_pointer = tt;
  of_flow = tt;
  data_within = tt;
}
stays-lawful (Trap signal) s f never ready = record {
  registers_stay = refl;
  memory_stays = refl;
  reservation_stays = refl;
  ready = ready;
  pc = tt;
  next = tt;
  stack_pointer = tt;
  of_flow = tt;
  data_within = tt;
}
stays-lawful (Unknown word) s f never ready = record {
  registers_stay = refl;
  memory_stays = refl;
  reservation_stays = refl;
  ready = ready;
  pc = tt;
  next = tt;
  stack_pointer = tt;
  of_flow = tt;
  data_within = tt;
}

retires-lawful : (s : HartState) (f : Flow) (t : Touch) (b : Branch) (new : HartState) → IsReady new.regs → IsWithin t
    → IsLawful s f (retires s f t b new)
unfolding retires
retires-lawful s f t b new ready within = record {
  registers_stay = tt;
  memory_stays = tt;
  reservation_stays = tt;
  ready = ready;
  pc = refl;
  next = refl;
  stack_pointer = refl;
  of_flow = refl;
  data_within = within;
}

at-ready : (r : Regs) (pc : ℕ) → pc % 4 ≡ 0 → IsReady r → IsReady (at r pc)
at-ready r pc pc_aligned ready = record { aligned = pc_aligned; zero = ready.zero }

written-ready : (r : Regs) (k value pc : ℕ) → pc % 4 ≡ 0 → IsReady r → IsReady (with_register r k value pc)
written-ready r k value pc pc_aligned ready = record { aligned = pc_aligned; zero = set-zero r.x k value ready.zero }

on-ready : (r : Regs) → IsReady r → IsReady (at r (following r))
on-ready r ready = at-ready r (following r) (following-aligned r ready.aligned) ready

written_on-ready : (r : Regs) (k value : ℕ) → IsReady r → IsReady (with_register r k value (following r))
written_on-ready r k value ready = written-ready r k value (following r) (following-aligned r ready.aligned) ready

passes-lawful : (s : HartState) → IsReady s.regs → IsLawful s Plain (passes s)
unfolding passes
passes-lawful s ready = retires-lawful s _ _ _ _ (on-ready s.regs ready) tt

computes-lawful : (i : Instr) (s : HartState) (value : ℕ) → IsReady s.regs → IsLawful s Plain (computes i s value)
unfolding computes
computes-lawful i s value ready = retires-lawful s _ _ _ _ (written_on-ready s.regs i.rd value ready) tt

-- a choice by a test is lawful where both sides are
choice-lawful : (s : HartState) (f : Flow) (b : Bool) (taken other : Outcome) → (b ≡ true → IsLawful s f taken)
    → IsLawful s f other → IsLawful s f (if b then taken else other)
choice-lawful s f true taken other first second = first refl
choice-lawful s f false taken other first second = second

tested : (n : ℕ) → (n == 0) ≡ true → n ≡ 0
tested n holds = grind arith

jumps-lawful : (i : Instr) (s : HartState) (target : ℕ) (b : Branch) → IsReady s.regs
    → IsLawful s (flow_of i) (jumps i s target b)
unfolding jumps
jumps-lawful i s target b ready =
    choice-lawful s _ (target % 4 == 0) _ _
    (λ holds. retires-lawful s _ _ _ _ (written-ready s.regs i.rd _ target (tested (target % 4) holds) ready) tt)
    (stays-lawful (Trap 7) s _ tt ready)

branches-lawful : (i : Instr) (s : HartState) (taken : Bool) → IsReady s.regs → IsLawful s Plain (branches i s taken)
unfolding branches
branches-lawful i s taken ready =
    choice-lawful s _ taken _ _
    (λ _. choice-lawful s _ (offset i s % 4 == 0) _ _
    (λ holds. retires-lawful s _ _ _ _ (at-ready s.regs (offset i s) (tested (offset i s % 4) holds) ready) tt)
    (stays-lawful (Trap 7) s _ tt ready))
    (retires-lawful s _ _ _ _ (on-ready s.regs ready) tt)

span : (m : Memory) (want a n : ℕ) → 1 ≤ n → n ≤ 4 → may m want a n ≡ true → IsSpan a n
span m want a zero low high holds = absurd (omega arith)
span m want a (suc n) low high holds = (low, high, may-within n m want a holds)

reads-lawful : (i : Instr) (s : HartState) (h : Option ℕ) (a n : ℕ) (o : Option ℕ) → ((v : ℕ) → o ≡ Some v → IsSpan a n)
    → IsReady s.regs → IsLawful s Plain (reads i s h a n o)
reads-lawful i s h a n None within ready = stays-lawful (Trap 11) s _ tt ready
reads-lawful i s h a n (Some v) within ready =
    retires-lawful s _ _ _ _ (written_on-ready s.regs i.rd v ready) (within v refl)

loaded-span : (m : Memory) (a n v : ℕ) → 1 ≤ n → n ≤ 4 → load_at m prot_read a n ≡ Some v → IsSpan a n
loaded-span m a n v low high given = span m prot_read a n low high (loaded-may m prot_read a n v given)

viewed-span : (view : ℕ → ℕ) (a n : ℕ) (o : Option ℕ) → ((w : ℕ) → o ≡ Some w → IsSpan a n) → (v : ℕ)
    → option_map view o ≡ Some v → IsSpan a n
viewed-span view a n None within v given = cc
viewed-span view a n (Some w) within v given = within w refl

loads-lawful : (i : Instr) (s : HartState) (n : ℕ) (view : ℕ → ℕ) → 1 ≤ n → n ≤ 4 → IsReady s.regs
    → IsLawful s Plain (loads i s n view)
unfolding loads
loads-lawful i s n view low high ready =
    reads-lawful i s s.held (address i s) n _
    (viewed-span view (address i s) n (load_at s.memory prot_read (address i s) n)
    (λ w given. loaded-span s.memory (address i s) n w low high given))
    ready

stores-lawful : (i : Instr) (s : HartState) (n : ℕ) → 1 ≤ n → n ≤ 4 → IsReady s.regs → IsLawful s Plain (stores i s n)
unfolding stores
stores-lawful i s n low high ready =
    choice-lawful s _ (may s.memory prot_write (address i s) n) _ _
    (λ holds. retires-lawful s _ _ _ _ (on-ready s.regs ready)
    (span s.memory prot_write (address i s) n low high holds))
    (stays-lawful (Trap 11) s _ tt ready)

aligned-lawful : (a : ℕ) (s : HartState) (o : Outcome) → IsLawful s Plain o → IsReady s.regs
    → IsLawful s Plain (aligned a s o)
aligned-lawful a s o lawful ready =
    choice-lawful s _ (a % 4 == 0) _ _ (λ _. lawful) (stays-lawful (Trap 7) s _ tt ready)

reserves-lawful : (i : Instr) (s : HartState) → IsReady s.regs → IsLawful s Plain (reserves i s)
unfolding reserves
reserves-lawful i s ready =
    let a = register i.rs1 s in
    aligned-lawful a s _
    (reads-lawful i s (Some a) a 4 (load_at s.memory prot_read a 4)
    (λ v given. loaded-span s.memory a 4 v (lit≤ tt) (lit≤ tt) given) ready)
    ready

conditional-lawful : (i : Instr) (s : HartState) (a : ℕ) → IsReady s.regs → IsLawful s Plain (conditional i s a)
conditional-lawful i s a ready =
    choice-lawful s _ (is_held s.held a) _ _
    (λ _. choice-lawful s _ (may s.memory prot_write a 4) _ _
    (λ holds. retires-lawful s _ _ _ _ (written_on-ready s.regs i.rd 0 ready)
    (span s.memory prot_write a 4 (lit≤ tt) (lit≤ tt) holds))
    (stays-lawful (Trap 11) s _ tt ready))
    (retires-lawful s _ _ _ _ (written_on-ready s.regs i.rd 1 ready) tt)

stores_held-lawful : (i : Instr) (s : HartState) → IsReady s.regs → IsLawful s Plain (stores_held i s)
unfolding stores_held
stores_held-lawful i s ready =
    aligned-lawful (register i.rs1 s) s _ (conditional-lawful i s (register i.rs1 s) ready) ready

replaces-lawful : (i : Instr) (s : HartState) (a : ℕ) (combined : ℕ → ℕ → ℕ) (o : Option ℕ) → IsReady s.regs
    → IsLawful s Plain (replaces i s a combined o)
replaces-lawful i s a combined None ready = stays-lawful (Trap 11) s _ tt ready
replaces-lawful i s a combined (Some old) ready =
    choice-lawful s _ (may s.memory prot_write a 4) _ _
    (λ holds. retires-lawful s _ _ _ _ (written_on-ready s.regs i.rd old ready)
    (span s.memory prot_write a 4 (lit≤ tt) (lit≤ tt) holds))
    (stays-lawful (Trap 11) s _ tt ready)

swaps-lawful : (i : Instr) (s : HartState) (combined : ℕ → ℕ → ℕ) → IsReady s.regs → IsLawful s Plain (swaps i s combined)
unfolding swaps
swaps-lawful i s combined ready =
    aligned-lawful (register i.rs1 s) s _ (replaces-lawful i s (register i.rs1 s) combined _ ready) ready

-- ---- instructions

effect_by-lawful : (o : Op) (i : Instr) (s : HartState) → flow_of i ≡ flow_by o i.rd i.rs1 → IsReady s.regs
    → IsLawful s (flow_by o i.rd i.rs1) (effect_by o i s)
effect_by-lawful LUI i s same ready = computes-lawful i s _ ready
effect_by-lawful AUIPC i s same ready = computes-lawful i s _ ready
effect_by-lawful JAL i s same ready =
    subst (λ (f : Flow). IsLawful s f (effect_by JAL i s)) same (jumps-lawful i s _ _ ready)
effect_by-lawful JALR i s same ready =
    subst (λ (f : Flow). IsLawful s f (effect_by JALR i s)) same (jumps-lawful i s _ _ ready)
effect_by-lawful BEQ i s same ready = branches-lawful i s _ ready
effect_by-lawful BNE i s same ready = branches-lawful i s _ ready
effect_by-lawful BLT i s same ready = branches-lawful i s _ ready
effect_by-lawful BGE i s same ready = branches-lawful i s _ ready
effect_by-lawful BLTU i s same ready = branches-lawful i s _ ready
effect_by-lawful BGEU i s same ready = branches-lawful i s _ ready
effect_by-lawful LB i s same ready = loads-lawful i s 1 _ (lit≤ tt) (lit≤ tt) ready
effect_by-lawful LH i s same ready = loads-lawful i s 2 _ (lit≤ tt) (lit≤ tt) ready
effect_by-lawful LW i s same ready = loads-lawful i s 4 _ (lit≤ tt) (lit≤ tt) ready
effect_by-lawful LBU i s same ready = loads-lawful i s 1 _ (lit≤ tt) (lit≤ tt) ready
effect_by-lawful LHU i s same ready = loads-lawful i s 2 _ (lit≤ tt) (lit≤ tt) ready
effect_by-lawful SB i s same ready = stores-lawful i s 1 (lit≤ tt) (lit≤ tt) ready
effect_by-lawful SH i s same ready = stores-lawful i s 2 (lit≤ tt) (lit≤ tt) ready
effect_by-lawful SW i s same ready = stores-lawful i s 4 (lit≤ tt) (lit≤ tt) ready
effect_by-lawful ADDI i s same ready = computes-lawful i s _ ready
effect_by-lawful SLTI i s same ready = computes-lawful i s _ ready
effect_by-lawful SLTIU i s same ready = computes-lawful i s _ ready
effect_by-lawful XORI i s same ready = computes-lawful i s _ ready
effect_by-lawful ORI i s same ready = computes-lawful i s _ ready
effect_by-lawful ANDI i s same ready = computes-lawful i s _ ready
effect_by-lawful SLLI i s same ready = computes-lawful i s _ ready
effect_by-lawful SRLI i s same ready = computes-lawful i s _ ready
effect_by-lawful SRAI i s same ready = computes-lawful i s _ ready
effect_by-lawful ADD i s same ready = computes-lawful i s _ ready
effect_by-lawful SUB i s same ready = computes-lawful i s _ ready
effect_by-lawful SLL i s same ready = computes-lawful i s _ ready
effect_by-lawful SLT i s same ready = computes-lawful i s _ ready
effect_by-lawful SLTU i s same ready = computes-lawful i s _ ready
effect_by-lawful XOR i s same ready = computes-lawful i s _ ready
effect_by-lawful SRL i s same ready = computes-lawful i s _ ready
effect_by-lawful SRA i s same ready = computes-lawful i s _ ready
effect_by-lawful OR i s same ready = computes-lawful i s _ ready
effect_by-lawful AND i s same ready = computes-lawful i s _ ready
effect_by-lawful MUL i s same ready = computes-lawful i s _ ready
effect_by-lawful MULH i s same ready = computes-lawful i s _ ready
effect_by-lawful MULHSU i s same ready = computes-lawful i s _ ready
effect_by-lawful MULHU i s same ready = computes-lawful i s _ ready
effect_by-lawful DIV i s same ready = computes-lawful i s _ ready
effect_by-lawful DIVU i s same ready = computes-lawful i s _ ready
effect_by-lawful REM i s same ready = computes-lawful i s _ ready
effect_by-lawful REMU i s same ready = computes-lawful i s _ ready
effect_by-lawful FENCE i s same ready = passes-lawful s ready
effect_by-lawful ECALL i s same ready = stays-lawful Call s _ tt ready
effect_by-lawful EBREAK i s same ready = stays-lawful (Trap 5) s _ tt ready
effect_by-lawful LR i s same ready = reserves-lawful i s ready
effect_by-lawful SC i s same ready = stores_held-lawful i s ready
effect_by-lawful AMOSWAP i s same ready = swaps-lawful i s _ ready
effect_by-lawful AMOADD i s same ready = swaps-lawful i s _ ready
effect_by-lawful AMOXOR i s same ready = swaps-lawful i s _ ready
effect_by-lawful AMOAND i s same ready = swaps-lawful i s _ ready
effect_by-lawful AMOOR i s same ready = swaps-lawful i s _ ready
effect_by-lawful AMOMIN i s same ready = swaps-lawful i s _ ready
effect_by-lawful AMOMAX i s same ready = swaps-lawful i s _ ready
effect_by-lawful AMOMINU i s same ready = swaps-lawful i s _ ready
effect_by-lawful AMOMAXU i s same ready = swaps-lawful i s _ ready

flow_of-by : (i : Instr) → flow_of i ≡ flow_by i.op i.rd i.rs1
unfolding flow_of
flow_of-by i = refl

word_effect-lawful : (word : ℕ) (i : Option Instr) (s : HartState) → IsReady s.regs
    → IsLawful s (option_map_or flow_of i Plain) (word_effect word i s)
unfolding effect_of
word_effect-lawful word None s ready = stays-lawful (Unknown word) s _ tt ready
word_effect-lawful word (Some i) s ready =
    subst (λ (f : Flow). IsLawful s f (effect_by i.op i s)) (sym (flow_of-by i))
    (effect_by-lawful i.op i s (flow_of-by i) ready)

fetched-lawful : (o : Option ℕ) (s : HartState) → IsReady s.regs
    → IsLawful s (option_map_or flow_of (option_and_then decode o) Plain) (fetched_effect o s)
fetched-lawful None s ready = stays-lawful (Trap 11) s _ tt ready
fetched-lawful (Some word) s ready = word_effect-lawful word (decode word) s ready

step-lawful : (s : HartState) → IsReady s.regs → IsLawful s (flow_at s) (step_of s)
unfolding step_of flow_at
step-lawful s ready = fetched-lawful (load_at s.memory prot_exec s.regs.pc 4) s ready

-- a word that was fetched ends at most at the last address
fetched-within : (o : Option ℕ) (s : HartState) → ((word : ℕ) → o ≡ Some word → s.regs.pc + 4 ≤ 2 ^ 32)
    → IfRetired (fetched_effect o s).stepped (λ d. s.regs.pc + 4 ≤ 2 ^ 32)
fetched-within None s within = tt
fetched-within (Some word) s within =
    if_retired (fetched_effect (Some word) s).stepped (λ d. s.regs.pc + 4 ≤ 2 ^ 32) (λ d. within word refl)
  where
    if_retired : (answer : Stepped) (P : Done → Type 0) → ((d : Done) → P d) → IfRetired answer P
    if_retired (Retired d) P each = each d
    if_retired Call P each = tt
    if_retired (Trap signal) P each = tt
    if_retired (Unknown w) P each = tt

step-fetched : (s : HartState) → IfRetired (step_of s).stepped (λ d. s.regs.pc + 4 ≤ 2 ^ 32)
unfolding step_of
step-fetched s =
    fetched-within (load_at s.memory prot_exec s.regs.pc 4) s
    (λ word given. may-within 3 s.memory prot_exec s.regs.pc (loaded-may s.memory prot_exec s.regs.pc 4 word given))

-- ---- what a step left

pub left-lawful : (s : HartState) (o : Outcome) → o ≡ step_of s → IsReady s.regs → IsLawful s (flow_at s) o
left-lawful s o given ready = subst (λ (q : Outcome). IsLawful s (flow_at s) q) (sym given) (step-lawful s ready)

at_pc : (answer : Stepped) (pc : ℕ) → IfRetired answer (λ d. d.pc ≡ pc) → IfRetired answer (λ d. pc + 4 ≤ 2 ^ 32)
    → IfRetired answer (λ d. d.pc + 4 ≤ 2 ^ 32)
at_pc (Retired d) pc same within = omega (arith, same, within)
at_pc Call pc same within = tt
at_pc (Trap signal) pc same within = tt
at_pc (Unknown word) pc same within = tt

pub left-within : (s : HartState) (o : Outcome) → o ≡ step_of s → IsReady s.regs
    → IfRetired o.stepped (λ d. d.pc + 4 ≤ 2 ^ 32)
left-within s o given ready =
    at_pc o.stepped s.regs.pc (left-lawful s o given ready).pc
    (subst (λ (q : Outcome). IfRetired q.stepped (λ d. s.regs.pc + 4 ≤ 2 ^ 32)) (sym given) (step-fetched s))
