-- What instructions leave of memory, and that what is kept of its code stands in it.
use Rattle.std.proofs.Common.{◌≡◌, ℕ, zero, suc, lit≤, Bool, true, false, refl, sym, ap, ◌∙◌, ◌+◌, ◌%◌, ◌^◌, ◌<◌, ◌≤◌}
use Rattle.std.proofs.Common.{arith, ◌⊎◌, inl, inr, length, subst, true≢false}
use Rattle.std.specs.Prelude.{Option, Some, None, ◌==◌, if◌then◌else◌}
use Rattle.std.specs.Option.{option_and_then, option_map}
use Rattle.event_costs.specs.declared.event.Branch.{Branch}
use Rattle.event_costs.specs.declared.event.Touch.{Touch}
use Rattle.event_costs.specs.declared.event.Touch.TheVariants as touch
use Rattle.std.specs.FinMap as map
use Rattle.guest_mem.specs.Memory.{Memory, prot_read, prot_write, prot_exec, bytes_of, load_at, may, store_at}
use Rattle.guest_mem.proofs.Accesses.{elsewhere-stored}
use Rattle.rv_decode.specs.Decoded.{decode}
use Rattle.rv_decode.specs.declared.instr.Instr.{Instr}
use Rattle.rv_decode.specs.declared.instr.Op.{Op}
use Rattle.rv_decode.specs.declared.instr.Op.TheVariants.{LUI, AUIPC, JAL, JALR, BEQ, BNE, BLT, BGE, BLTU, BGEU, LB, LH}
use Rattle.rv_decode.specs.declared.instr.Op.TheVariants.{LW, LBU, LHU, SB, SH, SW, ADDI, SLTI, SLTIU, XORI, ORI, ANDI}
use Rattle.rv_decode.specs.declared.instr.Op.TheVariants.{SLLI, SRLI, SRAI, ADD, SUB, SLL, SLT, SLTU, XOR, SRL, SRA, OR}
use Rattle.rv_decode.specs.declared.instr.Op.TheVariants.{AND, MUL, MULH, MULHSU, MULHU, DIV, DIVU, REM, REMU, FENCE}
use Rattle.rv_decode.specs.declared.instr.Op.TheVariants.{ECALL, EBREAK, LR, SC, AMOSWAP, AMOADD, AMOXOR, AMOAND, AMOOR}
use Rattle.rv_decode.specs.declared.instr.Op.TheVariants.{AMOMIN, AMOMAX, AMOMINU, AMOMAXU}
use Rattle.rv_step.specs.Code.{IsCodeOf, instruction_at}
use Rattle.rv_step.specs.Effects.{effect_by, effect_of, fetched_effect, step_of, word_effect}
use Rattle.rv_step.specs.Forms.{HartState, Outcome, register, address, offset, is_held, retires, faults, misaligned, passes}
use Rattle.rv_step.specs.Forms.{computes, jumps, branches, reads, loads, stores, reserves, conditional}
use Rattle.rv_step.specs.Forms.{stays, stores_held, replaces, swaps}
use Rattle.rv_step.specs.declared.code.Code.{Code}
use Rattle.rv_step.specs.declared.stepped.Stepped.TheVariants.{Unknown}
use Rattle.rv_step.specs.inner.Stored.{IsStoredAt, IsStoredBy, IsStoredIn, may_store}

-- memory stays, or something may be stored and is
abbrev pub Leaves : Bool → HartState → Outcome → Type 0
Leaves may s o = (o.after.memory ≡ s.memory) ⊎ ((may ≡ true) × IsStoredBy o.stepped s.memory o.after.memory)

-- a choice by a test, both of whose sides do so
either : (may : Bool) (s : HartState) (b : Bool) (x y : Outcome) → Leaves may s x → Leaves may s y
    → Leaves may s (if b then x else y)
either may s true x y first second = first
either may s false x y first second = second

passes-leaves : (s : HartState) → Leaves false s (passes s)
unfolding passes retires
passes-leaves s = inl refl

computes-leaves : (i : Instr) (s : HartState) (value : ℕ) → Leaves false s (computes i s value)
unfolding computes retires
computes-leaves i s value = inl refl

jumps-leaves : (i : Instr) (s : HartState) (target : ℕ) (b : Branch) → Leaves false s (jumps i s target b)
unfolding jumps retires
jumps-leaves i s target b = either false s (target % 4 == 0) _ (misaligned s) (inl refl) (inl refl)

branches-leaves : (i : Instr) (s : HartState) (taken : Bool) → Leaves false s (branches i s taken)
unfolding branches retires
branches-leaves i s true = either false s (offset i s % 4 == 0) _ (misaligned s) (inl refl) (inl refl)
branches-leaves i s false = inl refl

reads-leaves : (i : Instr) (s : HartState) (h : Option ℕ) (a n : ℕ) (o : Option ℕ) → Leaves false s (reads i s h a n o)
unfolding retires
reads-leaves i s h a n None = inl refl
reads-leaves i s h a n (Some v) = inl refl

loads-leaves : (i : Instr) (s : HartState) (n : ℕ) (view : ℕ → ℕ) → Leaves false s (loads i s n view)
unfolding loads
loads-leaves i s n view =
    reads-leaves i s s.held (address i s) n (option_map view (load_at s.memory prot_read (address i s) n))

-- so many bytes are no more than four
at_most : (n v : ℕ) → n ≤ 4 → length (bytes_of n v) ≤ 4
at_most n v few = omega (arith, length-bytes n v)
  where
    length-bytes : (n v : ℕ) → length (bytes_of n v) ≡ n
    length-bytes zero v = refl
    length-bytes (suc n) v = ap suc (length-bytes n _)

put_at : (m : Memory) (a n v : ℕ) → n ≤ 4 → IsStoredAt a m (store_at m a (bytes_of n v))
put_at m a n v few = record { bytes = bytes_of n v; few = at_most n v few; stores = refl }

stores-leaves : (i : Instr) (s : HartState) (n : ℕ) → n ≤ 4 → Leaves true s (stores i s n)
unfolding stores retires
stores-leaves i s n few =
    either true s (may s.memory prot_write (address i s) n) _ (faults s)
    (inr (refl, put_at s.memory (address i s) n (register i.rs2 s) few)) (inl refl)

reserves-leaves : (i : Instr) (s : HartState) → Leaves false s (reserves i s)
unfolding reserves
reserves-leaves i s =
    let a = register i.rs1 s in
    either false s (a % 4 == 0) _ (misaligned s) (reads-leaves i s (Some a) a 4 (load_at s.memory prot_read a 4))
    (inl refl)

conditional-leaves : (i : Instr) (s : HartState) (a : ℕ) → Leaves true s (conditional i s a)
unfolding retires
conditional-leaves i s a =
    either true s (is_held s.held a) _ _
    (either true s (may s.memory prot_write a 4) _ (faults s)
    (inr (refl, put_at s.memory a 4 (register i.rs2 s) (lit≤ tt))) (inl refl))
    (inl refl)

stores_held-leaves : (i : Instr) (s : HartState) → Leaves true s (stores_held i s)
unfolding stores_held
stores_held-leaves i s =
    let a = register i.rs1 s in
    either true s (a % 4 == 0) _ (misaligned s) (conditional-leaves i s a) (inl refl)

replaces-leaves : (i : Instr) (s : HartState) (a : ℕ) (combined : ℕ → ℕ → ℕ) (o : Option ℕ)
    → Leaves true s (replaces i s a combined o)
unfolding retires
replaces-leaves i s a combined None = inl refl
replaces-leaves i s a combined (Some old) =
    either true s (may s.memory prot_write a 4) _ (faults s)
    (inr (refl, put_at s.memory a 4 (combined old (register i.rs2 s)) (lit≤ tt))) (inl refl)

swaps-leaves : (i : Instr) (s : HartState) (combined : ℕ → ℕ → ℕ) → Leaves true s (swaps i s combined)
unfolding swaps
swaps-leaves i s combined =
    let a = register i.rs1 s in
    either true s (a % 4 == 0) _ (misaligned s)
    (replaces-leaves i s a combined (load_at s.memory prot_read a 4)) (inl refl)

effect_by-leaves : (o : Op) (i : Instr) (s : HartState) → Leaves (may_store o) s (effect_by o i s)
effect_by-leaves LUI i s = computes-leaves i s _
effect_by-leaves AUIPC i s = computes-leaves i s _
effect_by-leaves JAL i s = jumps-leaves i s _ _
effect_by-leaves JALR i s = jumps-leaves i s _ _
effect_by-leaves BEQ i s = branches-leaves i s _
effect_by-leaves BNE i s = branches-leaves i s _
effect_by-leaves BLT i s = branches-leaves i s _
effect_by-leaves BGE i s = branches-leaves i s _
effect_by-leaves BLTU i s = branches-leaves i s _
effect_by-leaves BGEU i s = branches-leaves i s _
effect_by-leaves LB i s = loads-leaves i s 1 _
effect_by-leaves LH i s = loads-leaves i s 2 _
effect_by-leaves LW i s = loads-leaves i s 4 _
effect_by-leaves LBU i s = loads-leaves i s 1 _
effect_by-leaves LHU i s = loads-leaves i s 2 _
effect_by-leaves SB i s = stores-leaves i s 1 (lit≤ tt)
effect_by-leaves SH i s = stores-leaves i s 2 (lit≤ tt)
effect_by-leaves SW i s = stores-leaves i s 4 (lit≤ tt)
effect_by-leaves ADDI i s = computes-leaves i s _
effect_by-leaves SLTI i s = computes-leaves i s _
effect_by-leaves SLTIU i s = computes-leaves i s _
effect_by-leaves XORI i s = computes-leaves i s _
effect_by-leaves ORI i s = computes-leaves i s _
effect_by-leaves ANDI i s = computes-leaves i s _
effect_by-leaves SLLI i s = computes-leaves i s _
effect_by-leaves SRLI i s = computes-leaves i s _
effect_by-leaves SRAI i s = computes-leaves i s _
effect_by-leaves ADD i s = computes-leaves i s _
effect_by-leaves SUB i s = computes-leaves i s _
effect_by-leaves SLL i s = computes-leaves i s _
effect_by-leaves SLT i s = computes-leaves i s _
effect_by-leaves SLTU i s = computes-leaves i s _
effect_by-leaves XOR i s = computes-leaves i s _
effect_by-leaves SRL i s = computes-leaves i s _
effect_by-leaves SRA i s = computes-leaves i s _
effect_by-leaves OR i s = computes-leaves i s _
effect_by-leaves AND i s = computes-leaves i s _
effect_by-leaves MUL i s = computes-leaves i s _
effect_by-leaves MULH i s = computes-leaves i s _
effect_by-leaves MULHSU i s = computes-leaves i s _
effect_by-leaves MULHU i s = computes-leaves i s _
effect_by-leaves DIV i s = computes-leaves i s _
effect_by-leaves DIVU i s = computes-leaves i s _
effect_by-leaves REM i s = computes-leaves i s _
effect_by-leaves REMU i s = computes-leaves i s _
effect_by-leaves FENCE i s = passes-leaves s
effect_by-leaves ECALL i s = inl refl
effect_by-leaves EBREAK i s = inl refl
effect_by-leaves LR i s = reserves-leaves i s
effect_by-leaves SC i s = stores_held-leaves i s
effect_by-leaves AMOSWAP i s = swaps-leaves i s _
effect_by-leaves AMOADD i s = swaps-leaves i s _
effect_by-leaves AMOXOR i s = swaps-leaves i s _
effect_by-leaves AMOAND i s = swaps-leaves i s _
effect_by-leaves AMOOR i s = swaps-leaves i s _
effect_by-leaves AMOMIN i s = swaps-leaves i s _
effect_by-leaves AMOMAX i s = swaps-leaves i s _
effect_by-leaves AMOMINU i s = swaps-leaves i s _
effect_by-leaves AMOMAXU i s = swaps-leaves i s _

pub effect-leaves : (i : Instr) (s : HartState) → Leaves (may_store i.op) s (effect_of i s)
unfolding effect_of
effect-leaves i s = effect_by-leaves i.op i s

-- what is kept after it was told apart from a store stands in the memory after it
pub code-stored : (old new : Code) (m n : Memory) (a : ℕ) → IsStoredAt a m n
    → ((q : ℕ) (i : Instr) → map.get new q ≡ Some i → map.get old q ≡ Some i)
    → ((q : ℕ) (i : Instr) → q < 2 ^ 32 → q % 4 ≡ 0 → map.get new q ≡ Some i → (q + 4 ≤ a) ⊎ (a + 4 ≤ q))
    → IsCodeOf old m → IsCodeOf new n
unfolding instruction_at
code-stored old new m n a put fewer apart code = λ pc i low at_word is.
    ap (option_and_then decode)
    (elsewhere-stored m n a put.bytes put.stores prot_exec pc 4
    (clear pc (length put.bytes) put.few (apart pc i low at_word is)))
    ∙ code pc i low at_word (fewer pc i is)
  where
    clear : (pc n : ℕ) → n ≤ 4 → (pc + 4 ≤ a) ⊎ (a + 4 ≤ pc) → (pc + 4 ≤ a) ⊎ (a + n ≤ pc)
    clear pc n few (inl below) = inl below
    clear pc n few (inr above) = inr (omega arith)

-- what is kept stands in memory after an instruction, after which it was told of what was stored
pub kept-on : (old new : Code) (i : Instr) (s : HartState) (o : Outcome) → o ≡ effect_of i s → IsCodeOf old s.memory
    → ((q : ℕ) (i : Instr) → map.get new q ≡ Some i → map.get old q ≡ Some i)
    → ((m n : Memory) → IsStoredBy o.stepped m n → IsCodeOf old m → IsCodeOf new n) → IsCodeOf new o.after.memory
kept-on old new i s o given code fewer told =
    by (subst (λ (q : Outcome). Leaves (may_store i.op) s q) (sym given) (effect-leaves i s))
  where
    by : Leaves (may_store i.op) s o → IsCodeOf new o.after.memory
    by (inl same) = λ pc j low at_word is.
        ap (λ (m : Memory). instruction_at m pc) same ∙ code pc j low at_word (fewer pc j is)
    by (inr put) = told s.memory o.after.memory put.1 code

-- the same after one that stores nothing
pub kept-still : (code : Code) (i : Instr) (s : HartState) (o : Outcome) → o ≡ effect_of i s → may_store i.op ≡ false
    → IsCodeOf code s.memory → IsCodeOf code o.after.memory
kept-still code i s o given never stands =
    by (subst (λ (q : Outcome). Leaves (may_store i.op) s q) (sym given) (effect-leaves i s))
  where
    by : Leaves (may_store i.op) s o → IsCodeOf code o.after.memory
    by (inl same) = λ pc j low at_word is. ap (λ (m : Memory). instruction_at m pc) same ∙ stands pc j low at_word is
    by (inr put) = absurd (true≢false (sym put.0 ∙ never))

-- a step from the instruction at the pc
pub step-found : (s : HartState) (i : Instr) → instruction_at s.memory s.regs.pc ≡ Some i → step_of s ≡ effect_of i s
unfolding step_of instruction_at
step-found s i is = fetched (load_at s.memory prot_exec s.regs.pc 4) is
  where
    fetched : (o : Option ℕ) → option_and_then decode o ≡ Some i → fetched_effect o s ≡ effect_of i s
    fetched None none = cc
    fetched (Some word) given = ap (λ (d : Option Instr). word_effect word d s) given

pub step-unknown : (s : HartState) (word : ℕ) → instruction_at s.memory s.regs.pc ≡ None
    → load_at s.memory prot_exec s.regs.pc 4 ≡ Some word → step_of s ≡ stays (Unknown word) s
unfolding step_of instruction_at
step-unknown s word none fetch =
    ap (λ (o : Option ℕ). fetched_effect o s) fetch
    ∙ ap (λ (d : Option Instr). word_effect word d s) (ap (option_and_then decode) (sym fetch) ∙ none)

pub step-faults : (s : HartState) → load_at s.memory prot_exec s.regs.pc 4 ≡ None → step_of s ≡ faults s
unfolding step_of
step-faults s none = ap (λ (o : Option ℕ). fetched_effect o s) none

-- where a touch is of an address, what was stored was stored there
pub stored-there : (t : Touch) (a : ℕ) (m n : Memory)
    → ((x : ℕ) × (t ≡ touch.Read a x)) ⊎ ((x : ℕ) × (t ≡ touch.Write a x)) → IsStoredIn t m n → IsStoredAt a m n
stored-there t a m n (inl read) put = subst (λ (u : Touch). IsStoredIn u m n) read.1 put
stored-there t a m n (inr write) put = subst (λ (u : Touch). IsStoredIn u m n) write.1 put
