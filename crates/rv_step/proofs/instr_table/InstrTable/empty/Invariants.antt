use Rattle.std.proofs.Common.{◌≡◌, drop}
use Rattle.std.specs.Vec.{vec_len}
use Rattle.rv_step.specs.inner.Places.{AreNoted}
use Rattle.rv_step.proofs.instr_table.InstrTable.empty.Given as goal

-- what is kept stands in the places of the addresses that are left
abbrev pub invariant-filled : goal.invariant-filled
invariant-filled l = record {
  end : l.at-end ≡ vec_len l.self.filled;
  rest : AreNoted (drop l.at l.self.filled.items) l.self.first l.self.last l.self.places.items;
}
