-- Rows whose functions and files are those of a map.
use Rattle.std.specs.Prelude.{◌<◌, All, length}
use Rattle.sym_map.specs.SymbolMap.{IsFile, SymbolMap}
use Rattle.contexts.specs.Contexts.{Context}
use Rattle.ctx_rows.specs.Rows.{CtxListed}
use Rattle.ctx_rows.specs.declared.rows.CtxArc.{CtxArc}
use Rattle.ctx_rows.specs.declared.rows.CtxLine.{CtxLine}

-- a context with a function, of which each is one of the map
abbrev pub IsKnownContext : SymbolMap → Context → Type 0
IsKnownContext m c = (0 < length c) × All (λ f. f < length m.functions) c

pub record IsKnownLine (m : SymbolMap) (row : CtxLine) : Type 0 where
  pub ctx : IsKnownContext m row.ctx
  pub file : IsFile m row.file

pub record IsKnownArc (m : SymbolMap) (row : CtxArc) : Type 0 where
  pub caller : IsKnownContext m row.caller
  pub file : IsFile m row.file
  pub callee : IsKnownContext m row.callee

-- No context is empty, and each function and file of the rows is one of the map.
pub record AreKnown (m : SymbolMap) (rows : CtxListed) : Type 0 where
  pub lines : All (IsKnownLine m) rows.lines
  pub arcs : All (IsKnownArc m) rows.arcs
