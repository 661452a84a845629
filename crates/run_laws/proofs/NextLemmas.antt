-- The pc after a step has 32 bits.
use Rattle.std.proofs.Common.{◌≡◌, ℕ, ◌<◌, ◌%◌, ◌^◌, ◌⊎◌, inl, inr, Bool, true, false, Option, Some, None, Ok, sym, subst}
use Rattle.std.proofs.Common.{arith, if◌then◌else◌}
use Rattle.std.specs.Prelude.{◌==◌}
use Rattle.event_costs.specs.declared.event.Branch.{Branch}
use Rattle.event_costs.specs.declared.event.Done.{Done}
use Rattle.event_costs.specs.declared.event.Flow.{Flow}
use Rattle.event_costs.specs.declared.event.Touch.{Touch}
use Rattle.rv_decode.specs.Decoded.{decode}
use Rattle.rv_decode.specs.declared.instr.Instr.{Instr}
use Rattle.rv_decode.specs.declared.instr.Op.{Op}
use Rattle.rv_decode.specs.declared.instr.Op.TheVariants.{LUI, AUIPC, JAL, JALR, BEQ, BNE, BLT, BGE, BLTU, BGEU, LB, LH}
use Rattle.rv_decode.specs.declared.instr.Op.TheVariants.{LW, LBU, LHU, SB, SH, SW, ADDI, SLTI, SLTIU, XORI, ORI, ANDI}
use Rattle.rv_decode.specs.declared.instr.Op.TheVariants.{SLLI, SRLI, SRAI, ADD, SUB, SLL, SLT, SLTU, XOR, SRL, SRA, OR}
use Rattle.rv_decode.specs.declared.instr.Op.TheVariants.{AND, MUL, MULH, MULHSU, MULHU, DIV, DIVU, REM, REMU, FENCE}
use Rattle.rv_decode.specs.declared.instr.Op.TheVariants.{ECALL, EBREAK, LR, SC, AMOSWAP, AMOADD, AMOXOR, AMOAND, AMOOR}
use Rattle.rv_decode.specs.declared.instr.Op.TheVariants.{AMOMIN, AMOMAX, AMOMINU, AMOMAXU}
use Rattle.guest_mem.specs.Memory.{load_at, may, prot_exec, prot_read, prot_write}
use Rattle.rv_step.specs.Effects.{effect_by, effect_of, fetched_effect, step_of, word_effect}
use Rattle.rv_step.specs.Forms.{HartState, Outcome, address, branches, computes, conditional, is_held, jumps, loads, offset}
use Rattle.rv_step.specs.Forms.{passes, reads, register, replaces, reserves, retires, stores, stores_held, swaps}
use Rattle.rv_step.specs.Promises.{IfRetired}
use Rattle.rv_step.specs.declared.stepped.Stepped.{Stepped}
use Rattle.guest_sched.specs.Engine.{Engine}
use Rattle.guest_sched.specs.Machine.{Machine, next}
use Rattle.guest_sched.specs.Step.{MachineStep, hart_of}
use Rattle.run_laws.proofs.Others.{IsCall, IsInstruction, next_is, step_is}

abbrev IsLow : Outcome → Type 0
IsLow o = IfRetired o.stepped (λ d. d.next < 2 ^ 32)

retires_low : (s : HartState) (f : Flow) (t : Touch) (b : Branch) (new : HartState) → new.regs.pc < 2 ^ 32
    → IsLow (retires s f t b new)
unfolding retires
retires_low s f t b new low = low

choice_low : (b : Bool) (taken other : Outcome) → IsLow taken → IsLow other → IsLow (if b then taken else other)
choice_low true taken other first second = first
choice_low false taken other first second = second

passes_low : (s : HartState) → IsLow (passes s)
unfolding passes
passes_low s = retires_low s _ _ _ _ (omega arith)

computes_low : (i : Instr) (s : HartState) (value : ℕ) → IsLow (computes i s value)
unfolding computes
computes_low i s value = retires_low s _ _ _ _ (omega arith)

jumps_low : (i : Instr) (s : HartState) (target : ℕ) (b : Branch) → target < 2 ^ 32 → IsLow (jumps i s target b)
unfolding jumps
jumps_low i s target b low = choice_low (target % 4 == 0) _ _ (retires_low s _ _ _ _ low) tt

branches_low : (i : Instr) (s : HartState) (taken : Bool) → IsLow (branches i s taken)
unfolding branches
branches_low i s taken =
    choice_low taken _ _ (choice_low (offset i s % 4 == 0) _ _ (retires_low s _ _ _ _ (omega arith)) tt)
    (retires_low s _ _ _ _ (omega arith))

reads_low : (i : Instr) (s : HartState) (h : Option ℕ) (a n : ℕ) (o : Option ℕ) → IsLow (reads i s h a n o)
reads_low i s h a n None = tt
reads_low i s h a n (Some v) = retires_low s _ _ _ _ (omega arith)

loads_low : (i : Instr) (s : HartState) (n : ℕ) (view : ℕ → ℕ) → IsLow (loads i s n view)
unfolding loads
loads_low i s n view = reads_low i s s.held (address i s) n _

stores_low : (i : Instr) (s : HartState) (n : ℕ) → IsLow (stores i s n)
unfolding stores
stores_low i s n = choice_low (may s.memory prot_write (address i s) n) _ _ (retires_low s _ _ _ _ (omega arith)) tt

reserves_low : (i : Instr) (s : HartState) → IsLow (reserves i s)
unfolding reserves
reserves_low i s =
    choice_low (register i.rs1 s % 4 == 0) _ _
    (reads_low i s (Some (register i.rs1 s)) (register i.rs1 s) 4 (load_at s.memory prot_read (register i.rs1 s) 4)) tt

conditional_low : (i : Instr) (s : HartState) (a : ℕ) → IsLow (conditional i s a)
conditional_low i s a =
    choice_low (is_held s.held a) _ _ (choice_low (may s.memory prot_write a 4) _ _ (retires_low s _ _ _ _ (omega arith)) tt)
    (retires_low s _ _ _ _ (omega arith))

stores_held_low : (i : Instr) (s : HartState) → IsLow (stores_held i s)
unfolding stores_held
stores_held_low i s = choice_low (register i.rs1 s % 4 == 0) _ _ (conditional_low i s (register i.rs1 s)) tt

replaces_low : (i : Instr) (s : HartState) (a : ℕ) (combined : ℕ → ℕ → ℕ) (o : Option ℕ)
    → IsLow (replaces i s a combined o)
replaces_low i s a combined None = tt
replaces_low i s a combined (Some old) =
    choice_low (may s.memory prot_write a 4) _ _ (retires_low s _ _ _ _ (omega arith)) tt

swaps_low : (i : Instr) (s : HartState) (combined : ℕ → ℕ → ℕ) → IsLow (swaps i s combined)
unfolding swaps
swaps_low i s combined =
    choice_low (register i.rs1 s % 4 == 0) _ _ (replaces_low i s (register i.rs1 s) combined _) tt

effect_by_low : (o : Op) (i : Instr) (s : HartState) → IsLow (effect_by o i s)
effect_by_low JAL i s = jumps_low i s _ _ (omega arith)
effect_by_low JALR i s = jumps_low i s _ _ (omega arith)
effect_by_low LUI i s = computes_low i s _
effect_by_low AUIPC i s = computes_low i s _
effect_by_low BEQ i s = branches_low i s _
effect_by_low BNE i s = branches_low i s _
effect_by_low BLT i s = branches_low i s _
effect_by_low BGE i s = branches_low i s _
effect_by_low BLTU i s = branches_low i s _
effect_by_low BGEU i s = branches_low i s _
effect_by_low LB i s = loads_low i s _ _
effect_by_low LH i s = loads_low i s _ _
effect_by_low LW i s = loads_low i s _ _
effect_by_low LBU i s = loads_low i s _ _
effect_by_low LHU i s = loads_low i s _ _
effect_by_low SB i s = stores_low i s _
effect_by_low SH i s = stores_low i s _
effect_by_low SW i s = stores_low i s _
effect_by_low ADDI i s = computes_low i s _
effect_by_low SLTI i s = computes_low i s _
effect_by_low SLTIU i s = computes_low i s _
effect_by_low XORI i s = computes_low i s _
effect_by_low ORI i s = computes_low i s _
effect_by_low ANDI i s = computes_low i s _
effect_by_low SLLI i s = computes_low i s _
effect_by_low SRLI i s = computes_low i s _
effect_by_low SRAI i s = computes_low i s _
effect_by_low ADD i s = computes_low i s _
effect_by_low SUB i s = computes_low i s _
effect_by_low SLL i s = computes_low i s _
effect_by_low SLT i s = computes_low i s _
effect_by_low SLTU i s = computes_low i s _
effect_by_low XOR i s = computes_low i s _
effect_by_low SRL i s = computes_low i s _
effect_by_low SRA i s = computes_low i s _
effect_by_low OR i s = computes_low i s _
effect_by_low AND i s = computes_low i s _
effect_by_low MUL i s = computes_low i s _
effect_by_low MULH i s = computes_low i s _
effect_by_low MULHSU i s = computes_low i s _
effect_by_low MULHU i s = computes_low i s _
effect_by_low DIV i s = computes_low i s _
effect_by_low DIVU i s = computes_low i s _
effect_by_low REM i s = computes_low i s _
effect_by_low REMU i s = computes_low i s _
effect_by_low FENCE i s = passes_low s
effect_by_low ECALL i s = tt
effect_by_low EBREAK i s = tt
effect_by_low LR i s = reserves_low i s
effect_by_low SC i s = stores_held_low i s
effect_by_low AMOSWAP i s = swaps_low i s _
effect_by_low AMOADD i s = swaps_low i s _
effect_by_low AMOXOR i s = swaps_low i s _
effect_by_low AMOAND i s = swaps_low i s _
effect_by_low AMOOR i s = swaps_low i s _
effect_by_low AMOMIN i s = swaps_low i s _
effect_by_low AMOMAX i s = swaps_low i s _
effect_by_low AMOMINU i s = swaps_low i s _
effect_by_low AMOMAXU i s = swaps_low i s _

fetched_low : (o : Option ℕ) (s : HartState) → IsLow (fetched_effect o s)
unfolding effect_of
fetched_low None s = tt
fetched_low (Some word) s = by (decode word)
  where
    by : (o : Option Instr) → IsLow (word_effect word o s)
    by None = tt
    by (Some i) = effect_by_low i.op i s

step_low : (s : HartState) → IsLow (step_of s)
unfolding step_of
step_low s = fetched_low (load_at s.memory prot_exec s.regs.pc 4) s

pub next_low : (m : Machine) (x : MachineStep) (n : Machine) → next m ≡ Ok (x, n) → x.event.done.next < 2 ^ 32
next_low m x n is = by (step_is m.engine x n.engine (next_is m x n is).0).1
  where
    by : IsInstruction m.engine x n.engine ⊎ IsCall m.engine x n.engine → x.event.done.next < 2 ^ 32
    by (inl i) =
        subst (λ (p : MachineStep × Engine). p.0.event.done.next < 2 ^ 32) (sym i.gives)
        (subst (λ (a : Stepped). IfRetired a (λ (d : Done). d.next < 2 ^ 32)) i.retired (step_low (hart_of m.engine i.caller)))
    by (inr c) =
        subst (λ (p : MachineStep × Engine). p.0.event.done.next < 2 ^ 32) (sym c.gives) (omega arith)
