-- What relative positions count from, after the lines of a history, the newest first.
use Rattle.std.specs.Prelude.{ℕ, List, [], ◌∷◌, unwrap_or}
use Rattle.cg_lines.specs.Positions.{position_at}
use Rattle.cg_lines.specs.declared.line.Line.{Line}
use Rattle.cg_lines.specs.declared.line.Line.TheVariants.{Cost}

-- the position of the last cost line
abbrev pub position : List Line → ℕ
position [] = 0
position (Cost place costs ∷ before) = unwrap_or (position_at (position before) place) 0
position (_ ∷ before) = position before
