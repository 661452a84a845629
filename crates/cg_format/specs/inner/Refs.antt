-- Rows that stand elsewhere.
use Rattle.cg_format.specs.declared.row.AnyRow.{AnyRow}
use Rattle.cg_format.specs.declared.row.AnyRow.TheVariants as refs
use Rattle.cg_format.specs.declared.row.Row.{Row}
use Rattle.cg_format.specs.declared.row.Row.TheVariants.{Line, Arc}

abbrev pub row_of : {N : Type 0} → AnyRow N → Row
row_of (refs.Line row) = Line row.now
row_of (refs.Arc row) = Arc row.now
