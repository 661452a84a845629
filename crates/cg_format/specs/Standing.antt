-- What a writer has written.
use Rattle.std.specs.Prelude.{◌≡◌, List}
use Rattle.sym_map.specs.SymbolMap.{SymbolMap}
use Rattle.cg_format.specs.Marks.{Mark, files, functions, text_of}
use Rattle.cg_format.specs.Part.{IsKnownArc, IsKnownLine, current_file, current_function}
use Rattle.cg_format.specs.declared.row.Row.{Row}
use Rattle.cg_format.specs.declared.row.Row.TheVariants.{Line, Arc}
use Rattle.cg_format.specs.declared.writer.Writer.{Writer}

-- the functions and files of a row are those of the map
abbrev pub IsKnown : SymbolMap → Row → Type 0
IsKnown m (Line row) = IsKnownLine m row
IsKnown m (Arc row) = IsKnownArc m row

-- a writer has written these lines
pub record WriterState (m : SymbolMap) (lines : List Mark) (w : Writer) : Type 0 where
  pub text : w.text ≡ text_of m lines
  pub files : w.files ≡ files lines
  pub functions : w.functions ≡ functions lines
  pub file : w.file ≡ current_file lines
  pub function : w.function ≡ current_function lines
