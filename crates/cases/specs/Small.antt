-- Rows that are so small that none of their sums passes 64 bits.
use Rattle.std.specs.Prelude.{ℕ, ◌<◌, ◌^◌, All, List, length, slice_index}
use Rattle.ctx_rows.specs.Rows.{CtxListed}
use Rattle.ctx_rows.specs.declared.rows.CtxArc.{CtxArc}
use Rattle.ctx_rows.specs.declared.rows.CtxLine.{CtxLine}
use Rattle.addr_rows.specs.Rows.{AddrListed}
use Rattle.addr_rows.specs.declared.rows.AddrArc.{AddrArc}
use Rattle.addr_rows.specs.declared.rows.AddrLine.{AddrLine}

abbrev pub IsSmall : List ℕ → Type 0
IsSmall cost = (event : ℕ) → slice_index cost event < 2 ^ 32

-- rows by context
abbrev pub IsSmallLine : CtxLine → Type 0
IsSmallLine row = IsSmall row.cost

pub record IsSmallArc (row : CtxArc) : Type 0 where
  pub calls : row.calls < 2 ^ 32
  pub cost : IsSmall row.cost

pub record AreSmall (rows : CtxListed) : Type 0 where
  pub few_lines : length rows.lines < 2 ^ 31
  pub few_arcs : length rows.arcs < 2 ^ 31
  pub lines : All IsSmallLine rows.lines
  pub arcs : All IsSmallArc rows.arcs

-- rows by address
abbrev pub IsSmallAt : AddrLine → Type 0
IsSmallAt row = IsSmall row.cost

pub record IsSmallFrom (row : AddrArc) : Type 0 where
  pub calls : row.calls < 2 ^ 32
  pub cost : IsSmall row.cost

pub record AreSmallAt (rows : AddrListed) : Type 0 where
  pub few_lines : length rows.lines < 2 ^ 31
  pub few_arcs : length rows.arcs < 2 ^ 31
  pub lines : All IsSmallAt rows.lines
  pub arcs : All IsSmallFrom rows.arcs
