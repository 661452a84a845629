-- The causes of a step's answers, from the instructions' effects.
use Rattle.std.proofs.Common.{◌≡◌, ℕ, Bool, true, false, refl, ap, ◌∙◌, ◌%◌}
use Rattle.std.specs.Prelude.{Option, Some, None, ◌==◌, not, ◌&&◌, if◌then◌else◌, [], ◌∷◌}
use Rattle.std.specs.List.{list_all}
use Rattle.std.specs.Option.{option_map}
use Rattle.event_costs.specs.declared.event.Branch.{Branch}
use Rattle.rv_decode.specs.Decoded.{decode}
use Rattle.rv_decode.specs.declared.instr.Instr.{Instr}
use Rattle.rv_decode.specs.declared.instr.Op.{Op}
use Rattle.rv_decode.specs.declared.instr.Op.TheVariants.{LUI, AUIPC, JAL, JALR, BEQ, BNE, BLT, BGE, BLTU, BGEU, LB, LH}
use Rattle.rv_decode.specs.declared.instr.Op.TheVariants.{LW, LBU, LHU, SB, SH, SW, ADDI, SLTI, SLTIU, XORI, ORI, ANDI}
use Rattle.rv_decode.specs.declared.instr.Op.TheVariants.{SLLI, SRLI, SRAI, ADD, SUB, SLL, SLT, SLTU, XOR, SRL, SRA, OR}
use Rattle.rv_decode.specs.declared.instr.Op.TheVariants.{AND, MUL, MULH, MULHSU, MULHU, DIV, DIVU, REM, REMU, FENCE}
use Rattle.rv_decode.specs.declared.instr.Op.TheVariants.{ECALL, EBREAK, LR, SC, AMOSWAP, AMOADD, AMOXOR, AMOAND, AMOOR}
use Rattle.rv_decode.specs.declared.instr.Op.TheVariants.{AMOMIN, AMOMAX, AMOMINU, AMOMAXU}
use Rattle.guest_mem.specs.Memory.{prot_read, prot_write, prot_exec, may, load_at}
use Rattle.rv_step.specs.Causes.{Access, ending, ending_by, ending_of, fetched_ending, is_allowed, is_off, reading}
use Rattle.rv_step.specs.Causes.{target_if, word_ending, writing}
use Rattle.rv_step.specs.Effects.{effect_by, effect_of, word_effect, fetched_effect, step_of}
use Rattle.rv_step.specs.Forms.{HartState, Outcome, register, address, offset, is_held, retires, faults, misaligned, passes}
use Rattle.rv_step.specs.Forms.{computes, jumps, branches, reads, loads, stores, aligned, reserves, conditional}
use Rattle.rv_step.specs.Forms.{stores_held, replaces, swaps}
use Rattle.rv_step.specs.declared.stepped.Stepped.{Stepped}
use Rattle.rv_step.specs.declared.stepped.Stepped.TheVariants.{Trap}

-- a choice that a test makes of outcomes
two : (b : Bool) (x y : Outcome) (p q : Option Stepped) → ending x.stepped ≡ p → ending y.stepped ≡ q
    → ending (if b then x else y).stepped ≡ (if b then p else q)
two true x y p q first second = first
two false x y p q first second = second

flipped : (b : Bool) (p q : Option Stepped) → (if b then p else q) ≡ (if not b then q else p)
flipped true p q = refl
flipped false p q = refl

passes-ending : (s : HartState) → ending (passes s).stepped ≡ None
unfolding passes retires
passes-ending s = refl

computes-ending : (i : Instr) (s : HartState) (value : ℕ) → ending (computes i s value).stepped ≡ None
unfolding computes retires
computes-ending i s value = refl

jumps-ending : (i : Instr) (s : HartState) (target : ℕ) (b : Branch)
    → ending (jumps i s target b).stepped ≡ (if is_off (Some target) then Some (Trap 7) else None)
unfolding jumps retires
jumps-ending i s target b = two (target % 4 == 0) _ (misaligned s) None (Some (Trap 7)) refl refl
    ∙ flipped (target % 4 == 0) None (Some (Trap 7))

branches-ending : (i : Instr) (s : HartState) (taken : Bool)
    → ending (branches i s taken).stepped ≡ (if is_off (target_if taken i s) then Some (Trap 7) else None)
unfolding branches retires
branches-ending i s true = two (offset i s % 4 == 0) _ (misaligned s) None (Some (Trap 7)) refl refl
    ∙ flipped (offset i s % 4 == 0) None (Some (Trap 7))
branches-ending i s false = refl

-- what was read where it may be
read-ending : (i : Instr) (s : HartState) (h : Option ℕ) (a n v : ℕ) (view : ℕ → ℕ) (b : Bool)
    → ending (reads i s h a n (option_map view (if b then Some v else None))).stepped
    ≡ (if b then None else Some (Trap 11))
unfolding retires
read-ending i s h a n v view true = refl
read-ending i s h a n v view false = refl

-- the answer to accesses that are allowed or not
abbrev refusal : Bool → Option Stepped
refusal allowed = if allowed then None else Some (Trap 11)

alone_by : (b : Bool) → refusal b ≡ refusal (b && true)
alone_by true = refl
alone_by false = refl

alone : (s : HartState) (access : Access) → refusal (is_allowed s access) ≡ refusal (list_all (is_allowed s) (access ∷ []))
alone s access = alone_by (is_allowed s access)

loads-ending : (i : Instr) (s : HartState) (n : ℕ) (view : ℕ → ℕ) → ending (loads i s n view).stepped
    ≡ (if list_all (is_allowed s) (reading (address i s) n ∷ []) then None else Some (Trap 11))
unfolding loads load_at
loads-ending i s n view =
    read-ending i s s.held (address i s) n _ view (may s.memory prot_read (address i s) n)
    ∙ alone s (reading (address i s) n)

stores-ending : (i : Instr) (s : HartState) (n : ℕ) → ending (stores i s n).stepped
    ≡ (if list_all (is_allowed s) (writing (address i s) n ∷ []) then None else Some (Trap 11))
unfolding stores retires
stores-ending i s n = two (may s.memory prot_write (address i s) n) _ (faults s) None (Some (Trap 11)) refl refl
    ∙ alone s (writing (address i s) n)

aligned-ending : (a : ℕ) (s : HartState) (o : Outcome) (p : Option Stepped) → ending o.stepped ≡ p
    → ending (aligned a s o).stepped ≡ (if is_off (Some a) then Some (Trap 7) else p)
aligned-ending a s o p within = two (a % 4 == 0) o (misaligned s) p (Some (Trap 7)) within refl
    ∙ flipped (a % 4 == 0) p (Some (Trap 7))

plain-ending : (i : Instr) (s : HartState) (h : Option ℕ) (a n v : ℕ) (b : Bool)
    → ending (reads i s h a n (if b then Some v else None)).stepped ≡ (if b then None else Some (Trap 11))
unfolding retires
plain-ending i s h a n v true = refl
plain-ending i s h a n v false = refl

reserves-ending : (i : Instr) (s : HartState) → ending (reserves i s).stepped ≡ ending_by LR i s
unfolding reserves load_at
reserves-ending i s =
    let a = register i.rs1 s in
    aligned-ending a s (reads i s (Some a) a 4 (load_at s.memory prot_read a 4)) _
    (plain-ending i s (Some a) a 4 _ (may s.memory prot_read a 4) ∙ alone s (reading a 4))

conditional-ending : (i : Instr) (s : HartState) (a : ℕ) → ending (conditional i s a).stepped
    ≡ (if list_all (is_allowed s) (if is_held s.held a then writing a 4 ∷ [] else []) then None else Some (Trap 11))
unfolding retires
conditional-ending i s a =
    held_by (is_held s.held a) _ _
    (two (may s.memory prot_write a 4) _ (faults s) None (Some (Trap 11)) refl refl ∙ alone s (writing a 4)) refl
  where
    held_by : (b : Bool) (x y : Outcome)
        → ending x.stepped ≡ (if list_all (is_allowed s) (writing a 4 ∷ []) then None else Some (Trap 11))
        → ending y.stepped ≡ None → ending (if b then x else y).stepped
        ≡ (if list_all (is_allowed s) (if b then writing a 4 ∷ [] else []) then None else Some (Trap 11))
    held_by true x y first second = first
    held_by false x y first second = second

stores_held-ending : (i : Instr) (s : HartState) → ending (stores_held i s).stepped ≡ ending_by SC i s
unfolding stores_held
stores_held-ending i s =
    aligned-ending (register i.rs1 s) s (conditional i s (register i.rs1 s)) _
    (conditional-ending i s (register i.rs1 s))

replaces-ending : (i : Instr) (s : HartState) (a v : ℕ) (combined : ℕ → ℕ → ℕ) (readable : Bool)
    → ending (replaces i s a combined (if readable then Some v else None)).stepped
    ≡ refusal (readable && list_all (is_allowed s) (writing a 4 ∷ []))
unfolding retires
replaces-ending i s a v combined true = two (may s.memory prot_write a 4) _ (faults s) None (Some (Trap 11)) refl refl
    ∙ alone s (writing a 4)
replaces-ending i s a v combined false = refl

swaps-ending : (i : Instr) (s : HartState) (combined : ℕ → ℕ → ℕ)
    → ending (swaps i s combined).stepped ≡ ending_by AMOSWAP i s
unfolding swaps load_at
swaps-ending i s combined =
    let a = register i.rs1 s in
    aligned-ending a s (replaces i s a combined (load_at s.memory prot_read a 4)) _
    (replaces-ending i s a _ combined (may s.memory prot_read a 4))

effect_by-ending : (o : Op) (i : Instr) (s : HartState) → ending (effect_by o i s).stepped ≡ ending_by o i s
effect_by-ending LUI i s = computes-ending i s _
effect_by-ending AUIPC i s = computes-ending i s _
effect_by-ending JAL i s = jumps-ending i s _ _
effect_by-ending JALR i s = jumps-ending i s _ _
effect_by-ending BEQ i s = branches-ending i s _
effect_by-ending BNE i s = branches-ending i s _
effect_by-ending BLT i s = branches-ending i s _
effect_by-ending BGE i s = branches-ending i s _
effect_by-ending BLTU i s = branches-ending i s _
effect_by-ending BGEU i s = branches-ending i s _
effect_by-ending LB i s = loads-ending i s 1 _
effect_by-ending LH i s = loads-ending i s 2 _
effect_by-ending LW i s = loads-ending i s 4 _
effect_by-ending LBU i s = loads-ending i s 1 _
effect_by-ending LHU i s = loads-ending i s 2 _
effect_by-ending SB i s = stores-ending i s 1
effect_by-ending SH i s = stores-ending i s 2
effect_by-ending SW i s = stores-ending i s 4
effect_by-ending ADDI i s = computes-ending i s _
effect_by-ending SLTI i s = computes-ending i s _
effect_by-ending SLTIU i s = computes-ending i s _
effect_by-ending XORI i s = computes-ending i s _
effect_by-ending ORI i s = computes-ending i s _
effect_by-ending ANDI i s = computes-ending i s _
effect_by-ending SLLI i s = computes-ending i s _
effect_by-ending SRLI i s = computes-ending i s _
effect_by-ending SRAI i s = computes-ending i s _
effect_by-ending ADD i s = computes-ending i s _
effect_by-ending SUB i s = computes-ending i s _
effect_by-ending SLL i s = computes-ending i s _
effect_by-ending SLT i s = computes-ending i s _
effect_by-ending SLTU i s = computes-ending i s _
effect_by-ending XOR i s = computes-ending i s _
effect_by-ending SRL i s = computes-ending i s _
effect_by-ending SRA i s = computes-ending i s _
effect_by-ending OR i s = computes-ending i s _
effect_by-ending AND i s = computes-ending i s _
effect_by-ending MUL i s = computes-ending i s _
effect_by-ending MULH i s = computes-ending i s _
effect_by-ending MULHSU i s = computes-ending i s _
effect_by-ending MULHU i s = computes-ending i s _
effect_by-ending DIV i s = computes-ending i s _
effect_by-ending DIVU i s = computes-ending i s _
effect_by-ending REM i s = computes-ending i s _
effect_by-ending REMU i s = computes-ending i s _
effect_by-ending FENCE i s = passes-ending s
effect_by-ending ECALL i s = refl
effect_by-ending EBREAK i s = refl
effect_by-ending LR i s = reserves-ending i s
effect_by-ending SC i s = stores_held-ending i s
effect_by-ending AMOSWAP i s = swaps-ending i s _
effect_by-ending AMOADD i s = swaps-ending i s _
effect_by-ending AMOXOR i s = swaps-ending i s _
effect_by-ending AMOAND i s = swaps-ending i s _
effect_by-ending AMOOR i s = swaps-ending i s _
effect_by-ending AMOMIN i s = swaps-ending i s _
effect_by-ending AMOMAX i s = swaps-ending i s _
effect_by-ending AMOMINU i s = swaps-ending i s _
effect_by-ending AMOMAXU i s = swaps-ending i s _

word_effect-ending : (word : ℕ) (i : Option Instr) (s : HartState)
    → ending (word_effect word i s).stepped ≡ word_ending word i s
unfolding effect_of
word_effect-ending word None s = refl
word_effect-ending word (Some i) s = effect_by-ending i.op i s

fetched_effect-ending : (o : Option ℕ) (s : HartState) → ending (fetched_effect o s).stepped ≡ fetched_ending o s
fetched_effect-ending None s = refl
fetched_effect-ending (Some word) s = word_effect-ending word (decode word) s

step-ending : (s : HartState) → ending (step_of s).stepped ≡ ending_of s
unfolding step_of ending_of
step-ending s = fetched_effect-ending (load_at s.memory prot_exec s.regs.pc 4) s

-- the answer that a step gave
pub left-ending : (s : HartState) (o : Outcome) → o ≡ step_of s → ending o.stepped ≡ ending_of s
left-ending s o given = ap (λ (q : Outcome). ending q.stepped) given ∙ step-ending s
