-- When an instruction doesn't retire, and with which answer: by a table of causes, apart from the instructions'
-- effects.
use Rattle.std.specs.Prelude.{ℕ, ◌-◌, ◌%◌, ◌==◌, Bool, true, false, not, if◌then◌else◌, List, [], ◌∷◌, Option, Some}
use Rattle.std.specs.Prelude.{None, nat_lt, nat_le, int_lt, int_le}
use Rattle.std.specs.List.{list_all}
use Rattle.std.specs.Option.{option_and_then, option_map_or}
use Rattle.event_costs.specs.declared.event.Flow.{Flow}
use Rattle.event_costs.specs.declared.event.Flow.TheVariants.{Plain}
use Rattle.rv_decode.specs.Decoded.{decode}
use Rattle.rv_decode.specs.FlowOf.{flow_of}
use Rattle.rv_decode.specs.declared.instr.Instr.{Instr}
use Rattle.rv_decode.specs.declared.instr.Op.{Op}
use Rattle.rv_decode.specs.declared.instr.Op.TheVariants.{JAL, JALR, BEQ, BNE, BLT, BGE, BLTU, BGEU, LB, LH, LW, LBU}
use Rattle.rv_decode.specs.declared.instr.Op.TheVariants.{LHU, SB, SH, SW, ECALL, EBREAK, LR, SC, AMOSWAP, AMOADD}
use Rattle.rv_decode.specs.declared.instr.Op.TheVariants.{AMOXOR, AMOAND, AMOOR, AMOMIN, AMOMAX, AMOMINU, AMOMAXU}
use Rattle.guest_mem.specs.Memory.{prot_read, prot_write, prot_exec, load_at, may}
use Rattle.rv_step.specs.Forms.{HartState, address, offset, register, is_held}
use Rattle.rv_step.specs.Numbers.{signed}
use Rattle.rv_step.specs.declared.stepped.Stepped.{Stepped}
use Rattle.rv_step.specs.declared.stepped.Stepped.TheVariants.{Retired, Call, Trap, Unknown}

-- the word at the pc, which has to be executable, and its instruction
abbrev pub fetched_word : HartState → Option ℕ
fetched_word s = load_at s.memory prot_exec s.regs.pc 4

abbrev pub instruction : HartState → Option Instr
instruction s = option_and_then decode (fetched_word s)

-- the flow of the instruction at the pc
unfoldable pub flow_at : HartState → Flow
flow_at s = option_map_or flow_of (instruction s) Plain

-- where a jump or a taken branch goes
abbrev pub target_if : Bool → Instr → HartState → Option ℕ
target_if taken i s = if taken then Some (offset i s) else None

abbrev pub target_by : Op → Instr → HartState → Option ℕ
target_by JAL i s = Some (offset i s)
target_by JALR i s = Some (address i s - address i s % 2)
target_by BEQ i s = target_if (register i.rs1 s == register i.rs2 s) i s
target_by BNE i s = target_if (not (register i.rs1 s == register i.rs2 s)) i s
target_by BLT i s = target_if (int_lt (signed (register i.rs1 s)) (signed (register i.rs2 s))) i s
target_by BGE i s = target_if (int_le (signed (register i.rs2 s)) (signed (register i.rs1 s))) i s
target_by BLTU i s = target_if (nat_lt (register i.rs1 s) (register i.rs2 s)) i s
target_by BGEU i s = target_if (nat_le (register i.rs2 s) (register i.rs1 s)) i s
target_by _ i s = None

-- the address of an atomic
abbrev pub atomic_by : Op → Instr → HartState → Option ℕ
atomic_by LR i s = Some (register i.rs1 s)
atomic_by SC i s = Some (register i.rs1 s)
atomic_by AMOSWAP i s = Some (register i.rs1 s)
atomic_by AMOADD i s = Some (register i.rs1 s)
atomic_by AMOXOR i s = Some (register i.rs1 s)
atomic_by AMOAND i s = Some (register i.rs1 s)
atomic_by AMOOR i s = Some (register i.rs1 s)
atomic_by AMOMIN i s = Some (register i.rs1 s)
atomic_by AMOMAX i s = Some (register i.rs1 s)
atomic_by AMOMINU i s = Some (register i.rs1 s)
atomic_by AMOMAXU i s = Some (register i.rs1 s)
atomic_by _ i s = None

-- one access to memory: a permission that each of its bytes needs
pub record Access : Type 0 where
  pub permission : ℕ
  pub from : ℕ
  pub bytes : ℕ

abbrev pub reading : ℕ → ℕ → Access
reading a n = record { permission = prot_read; from = a; bytes = n }

abbrev pub writing : ℕ → ℕ → Access
writing a n = record { permission = prot_write; from = a; bytes = n }

abbrev pub amo_accesses : ℕ → List Access
amo_accesses a = reading a 4 ∷ writing a 4 ∷ []

-- what an instruction needs of memory; an SC whose address isn't held needs nothing
abbrev pub accesses_by : Op → Instr → HartState → List Access
accesses_by LB i s = reading (address i s) 1 ∷ []
accesses_by LH i s = reading (address i s) 2 ∷ []
accesses_by LW i s = reading (address i s) 4 ∷ []
accesses_by LBU i s = reading (address i s) 1 ∷ []
accesses_by LHU i s = reading (address i s) 2 ∷ []
accesses_by SB i s = writing (address i s) 1 ∷ []
accesses_by SH i s = writing (address i s) 2 ∷ []
accesses_by SW i s = writing (address i s) 4 ∷ []
accesses_by LR i s = reading (register i.rs1 s) 4 ∷ []
accesses_by SC i s = if is_held s.held (register i.rs1 s) then writing (register i.rs1 s) 4 ∷ [] else []
accesses_by AMOSWAP i s = amo_accesses (register i.rs1 s)
accesses_by AMOADD i s = amo_accesses (register i.rs1 s)
accesses_by AMOXOR i s = amo_accesses (register i.rs1 s)
accesses_by AMOAND i s = amo_accesses (register i.rs1 s)
accesses_by AMOOR i s = amo_accesses (register i.rs1 s)
accesses_by AMOMIN i s = amo_accesses (register i.rs1 s)
accesses_by AMOMAX i s = amo_accesses (register i.rs1 s)
accesses_by AMOMINU i s = amo_accesses (register i.rs1 s)
accesses_by AMOMAXU i s = amo_accesses (register i.rs1 s)
accesses_by _ i s = []

abbrev pub is_allowed : HartState → Access → Bool
is_allowed s access = may s.memory access.permission access.from access.bytes

-- whether an address, where there is one, is no multiple of 4
abbrev pub is_off : Option ℕ → Bool
is_off a = option_map_or (λ n. not (n % 4 == 0)) a false

abbrev pub is_ecall : Op → Bool
is_ecall ECALL = true
is_ecall _ = false

abbrev pub is_ebreak : Op → Bool
is_ebreak EBREAK = true
is_ebreak _ = false

-- the answer to an instruction that doesn't retire, by the first cause
abbrev pub ending_by : Op → Instr → HartState → Option Stepped
ending_by o i s =
    if is_ecall o then Some Call
    else (if is_ebreak o then Some (Trap 5)
    else (if is_off (target_by o i s) then Some (Trap 7)
    else (if is_off (atomic_by o i s) then Some (Trap 7)
    else (if list_all (is_allowed s) (accesses_by o i s) then None
    else Some (Trap 11)))))

abbrev pub word_ending : ℕ → Option Instr → HartState → Option Stepped
word_ending word None s = Some (Unknown word)
word_ending word (Some i) s = ending_by i.op i s

abbrev pub fetched_ending : Option ℕ → HartState → Option Stepped
fetched_ending None s = Some (Trap 11)
fetched_ending (Some word) s = word_ending word (decode word) s

-- the same for a step: a fetch that isn't allowed comes first, and then an unknown word
unfoldable pub ending_of : HartState → Option Stepped
ending_of s = fetched_ending (fetched_word s) s

-- an answer other than that an instruction retired
abbrev pub ending : Stepped → Option Stepped
ending (Retired done) = None
ending Call = Some Call
ending (Trap signal) = Some (Trap signal)
ending (Unknown word) = Some (Unknown word)
