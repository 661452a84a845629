-- Where each shape keeps the fields of an instruction; a field that it lacks is 0.
use Rattle.std.specs.Prelude.{ℕ, pos}
use Rattle.rv_decode.specs.Fields.{field, rd, rs1, rs2, imm_b, imm_i, imm_j, imm_s, imm_u}
use Rattle.rv_decode.specs.declared.instr.Op.{Op}
use Rattle.rv_decode.specs.declared.instr.Instr.{Instr}
use Rattle.rv_decode.specs.declared.row.Shape.{Shape}
use Rattle.rv_decode.specs.declared.row.Shape.TheVariants.{R, I, S, B, U, J, Shift, Fence, Whole, Atomic}

abbrev pub instr_of : Shape → Op → ℕ → Instr
instr_of R op w = record { op = op; rd = rd w; rs1 = rs1 w; rs2 = rs2 w; imm = pos 0; order = 0 }
instr_of I op w = record { op = op; rd = rd w; rs1 = rs1 w; rs2 = 0; imm = imm_i w; order = 0 }
instr_of S op w = record { op = op; rd = 0; rs1 = rs1 w; rs2 = rs2 w; imm = imm_s w; order = 0 }
instr_of B op w = record { op = op; rd = 0; rs1 = rs1 w; rs2 = rs2 w; imm = imm_b w; order = 0 }
instr_of U op w = record { op = op; rd = rd w; rs1 = 0; rs2 = 0; imm = imm_u w; order = 0 }
instr_of J op w = record { op = op; rd = rd w; rs1 = 0; rs2 = 0; imm = imm_j w; order = 0 }
instr_of Shift op w = record { op = op; rd = rd w; rs1 = rs1 w; rs2 = 0; imm = pos (rs2 w); order = 0 }
instr_of Fence op w = record { op = op; rd = rd w; rs1 = rs1 w; rs2 = 0; imm = imm_i w; order = 0 }
instr_of Whole op w = record { op = op; rd = 0; rs1 = 0; rs2 = 0; imm = pos 0; order = 0 }
instr_of Atomic op w = record { op = op; rd = rd w; rs1 = rs1 w; rs2 = rs2 w; imm = pos 0; order = field 25 2 w }
