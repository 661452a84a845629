-- What costs are counted by. Functions and calling contexts have numbers alike here.
use Rattle.std.specs.Prelude.{ℕ}
use Rattle.event_costs.specs.declared.numbers.FileId.{FileId}
use Rattle.event_costs.specs.declared.numbers.FuncId.{FuncId}

-- where an instruction stands
pub record Place : Type 0 where
  pub func : FuncId
  pub file : FileId
  pub line : ℕ

-- the calling function, the file and line of the call, and the called function
pub record ArcKey : Type 0 where
  pub caller : FuncId
  pub file : FileId
  pub line : ℕ
  pub callee : FuncId
