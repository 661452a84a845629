-- What a step answers and leaves, and the forms of effect that instructions share.
use Rattle.std.specs.Prelude.{ℕ, ◌+◌, ◌%◌, ◌^◌, ◌==◌, Bool, false, if◌then◌else◌, List, slice_index, slice_set, Option}
use Rattle.std.specs.Prelude.{Some, None}
use Rattle.std.specs.Option.{option_map, option_map_or}
use Rattle.event_costs.specs.declared.event.Regs.{Regs}
use Rattle.event_costs.specs.declared.event.Flow.{Flow}
use Rattle.event_costs.specs.declared.event.Flow.TheVariants.{Plain}
use Rattle.event_costs.specs.declared.event.Touch.{Touch}
use Rattle.event_costs.specs.declared.event.Touch.TheVariants as touch
use Rattle.event_costs.specs.declared.event.Branch.{Branch}
use Rattle.event_costs.specs.declared.event.Branch.TheVariants as branch
use Rattle.rv_decode.specs.FlowOf.{flow_of}
use Rattle.rv_decode.specs.declared.instr.Instr.{Instr}
use Rattle.guest_mem.specs.Memory.{Memory, prot_read, prot_write, may, load_at, store_at, bytes_of}
use Rattle.rv_step.specs.Numbers.{wrapped}
use Rattle.rv_step.specs.declared.stepped.Stepped.{Stepped}
use Rattle.rv_step.specs.declared.stepped.Stepped.TheVariants.{Retired, Trap}

-- what instructions read and change. The reservation is the address that LR took, if one is held
pub record HartState : Type 0 where
  pub regs : Regs
  pub memory : Memory
  pub held : Option ℕ

-- a step's answer, and the state after it
pub record Outcome : Type 0 where
  pub stepped : Stepped
  pub after : HartState

abbrev pub hart_state : Regs → Memory → Option ℕ → HartState
hart_state r m h = record { regs = r; memory = m; held = h }

abbrev pub outcome : Stepped → Regs → Memory → Option ℕ → Outcome
outcome answer r m h = record { stepped = answer; after = hart_state r m h }

-- ---- registers

abbrev pub register : ℕ → HartState → ℕ
register k s = slice_index s.regs.x k

-- the immediate with its sign extended, as 32 bits
abbrev pub immediate : Instr → ℕ
immediate i = wrapped i.imm

-- where a load or a store, a jump by register and a jump by offset lead
abbrev pub address : Instr → HartState → ℕ
address i s = (register i.rs1 s + immediate i) % 2 ^ 32

abbrev pub offset : Instr → HartState → ℕ
offset i s = (s.regs.pc + immediate i) % 2 ^ 32

-- the address of the next instruction in memory
abbrev pub following : Regs → ℕ
following r = (r.pc + 4) % 2 ^ 32

-- the registers at another pc
abbrev pub at : Regs → ℕ → Regs
at r pc = record { pc = pc; x = r.x }

-- rd written, where it isn't x0, which stays 0, and control at another pc
abbrev pub with_register : Regs → ℕ → ℕ → ℕ → Regs
with_register r rd value pc = record { pc = pc; x = if rd == 0 then r.x else slice_set r.x rd value }

-- ---- answers

-- what a retired instruction did, from one state to the next
abbrev pub retirement : Regs → Regs → Flow → Touch → Branch → Stepped
retirement old new f t b =
    Retired (record { pc = old.pc; next = new.pc; sp = slice_index new.x 2; flow = f; touch = t; branch = b })

unfoldable pub retires : HartState → Flow → Touch → Branch → HartState → Outcome
retires s f t b new = record { stepped = retirement s.regs new.regs f t b; after = new }

-- nothing changes
abbrev pub stays : Stepped → HartState → Outcome
stays answer s = record { stepped = answer; after = s }

-- traps, with the numbers of SIGSEGV and SIGBUS in Linux's asm-generic/signal.h
abbrev pub faults : HartState → Outcome
faults s = stays (Trap 11) s

abbrev pub misaligned : HartState → Outcome
misaligned s = stays (Trap 7) s

-- ---- forms

-- an instruction without effect
unfoldable pub passes : HartState → Outcome
passes s = retires s Plain touch.Nothing branch.Nothing (hart_state (at s.regs (following s.regs)) s.memory s.held)

-- rd gets a value
unfoldable pub computes : Instr → HartState → ℕ → Outcome
computes i s value =
    retires s Plain touch.Nothing branch.Nothing (hart_state (with_register s.regs i.rd value (following s.regs)) s.memory s.held)

-- rd gets the address of the next instruction, and control goes to the target
unfoldable pub jumps : Instr → HartState → ℕ → Branch → Outcome
jumps i s target b =
    if target % 4 == 0
    then retires s (flow_of i) touch.Nothing b (hart_state (with_register s.regs i.rd (following s.regs) target) s.memory s.held)
    else misaligned s

-- control goes to the target where the branch is taken
unfoldable pub branches : Instr → HartState → Bool → Outcome
branches i s taken =
    if taken
    then (if offset i s % 4 == 0
    then retires s Plain touch.Nothing (branch.Cond taken) (hart_state (at s.regs (offset i s)) s.memory s.held)
    else misaligned s)
    else retires s Plain touch.Nothing (branch.Cond taken) (hart_state (at s.regs (following s.regs)) s.memory s.held)

-- rd gets what n bytes gave, where they may be read; then this reservation is held
abbrev pub reads : Instr → HartState → Option ℕ → ℕ → ℕ → Option ℕ → Outcome
reads i s h a n None = faults s
reads i s h a n (Some value) =
    retires s Plain (touch.Read a n) branch.Nothing (hart_state (with_register s.regs i.rd value (following s.regs)) s.memory h)

-- a load of n bytes, with a view of their number
unfoldable pub loads : Instr → HartState → ℕ → (ℕ → ℕ) → Outcome
loads i s n view = reads i s s.held (address i s) n (option_map view (load_at s.memory prot_read (address i s) n))

-- a store of the low n bytes of rs2
unfoldable pub stores : Instr → HartState → ℕ → Outcome
stores i s n =
    if may s.memory prot_write (address i s) n
    then retires s Plain (touch.Write (address i s) n) branch.Nothing
    (hart_state (at s.regs (following s.regs)) (store_at s.memory (address i s) (bytes_of n (register i.rs2 s))) s.held)
    else faults s

-- ---- atomics, on the word at the address in rs1

abbrev pub aligned : ℕ → HartState → Outcome → Outcome
aligned a s effect = if a % 4 == 0 then effect else misaligned s

-- load reserved: the address is held
unfoldable pub reserves : Instr → HartState → Outcome
reserves i s =
    aligned (register i.rs1 s) s
    (reads i s (Some (register i.rs1 s)) (register i.rs1 s) 4 (load_at s.memory prot_read (register i.rs1 s) 4))

-- whether the reservation is for this address
abbrev pub is_held : Option ℕ → ℕ → Bool
is_held h a = option_map_or (λ b. b == a) h false

-- store conditional: where the address is held the word is stored and rd gets 0, else rd gets 1 without an access.
-- Either way no reservation is left
abbrev pub conditional : Instr → HartState → ℕ → Outcome
conditional i s a =
    if is_held s.held a
    then (if may s.memory prot_write a 4
    then retires s Plain (touch.Write a 4) branch.Nothing
    (hart_state (with_register s.regs i.rd 0 (following s.regs)) (store_at s.memory a (bytes_of 4 (register i.rs2 s))) None)
    else faults s)
    else retires s Plain touch.Nothing branch.Nothing (hart_state (with_register s.regs i.rd 1 (following s.regs)) s.memory None)

unfoldable pub stores_held : Instr → HartState → Outcome
stores_held i s = aligned (register i.rs1 s) s (conditional i s (register i.rs1 s))

-- the word is replaced by what it and rs2 give, and rd gets the old one
abbrev pub replaces : Instr → HartState → ℕ → (ℕ → ℕ → ℕ) → Option ℕ → Outcome
replaces i s a combined None = faults s
replaces i s a combined (Some old) =
    if may s.memory prot_write a 4
    then retires s Plain (touch.Read a 4) branch.Nothing
    (hart_state (with_register s.regs i.rd old (following s.regs))
    (store_at s.memory a (bytes_of 4 (combined old (register i.rs2 s)))) s.held)
    else faults s

unfoldable pub swaps : Instr → HartState → (ℕ → ℕ → ℕ) → Outcome
swaps i s combined =
    aligned (register i.rs1 s) s
    (replaces i s (register i.rs1 s) combined (load_at s.memory prot_read (register i.rs1 s) 4))
