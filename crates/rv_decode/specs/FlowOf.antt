-- How an instruction hands control on (RISC-V unprivileged manual, 2.5: the link registers are x1 and x5).
use Rattle.std.specs.Prelude.{ℕ, Bool, ◌==◌, ◌||◌, ◌&&◌, not, if◌then◌else◌}
use Rattle.event_costs.specs.declared.event.Flow.{Flow}
use Rattle.event_costs.specs.declared.event.Flow.TheVariants.{Call, Jump, Swap, Plain}
use Rattle.rv_decode.specs.declared.instr.Instr.{Instr}
use Rattle.rv_decode.specs.declared.instr.Op.{Op}
use Rattle.rv_decode.specs.declared.instr.Op.TheVariants.{JAL, JALR}

-- whether a register holds return addresses
abbrev pub is_link : ℕ → Bool
is_link register = (register == 1) || (register == 5)

-- JALR: a jump without a link, a return and a call in one between two different links, and else a call
abbrev pub indirect_flow : ℕ → ℕ → Flow
indirect_flow rd rs1 = if is_link rd then (if is_link rs1 && not (rd == rs1) then Swap else Call) else Jump

-- JAL is a call where it keeps the return address in a link; all but these two go on, conditional branches among them
abbrev pub flow_by : Op → ℕ → ℕ → Flow
flow_by JAL rd rs1 = if is_link rd then Call else Jump
flow_by JALR rd rs1 = indirect_flow rd rs1
flow_by _ rd rs1 = Plain

unfoldable pub flow_of : Instr → Flow
flow_of i = flow_by i.op i.rd i.rs1
