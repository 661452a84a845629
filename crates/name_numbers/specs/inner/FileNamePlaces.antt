-- Names in files by the places where they stand.
use Rattle.std.specs.Prelude.{ℕ, List}
use Rattle.name_numbers.specs.declared.file_names.FileName.{FileName}
use Rattle.name_numbers.specs.declared.file_names.FileNameAt.{FileNameAt}
use Rattle.name_numbers.specs.Texts.{text_at}

-- the name that stands at a place of these bytes
abbrev pub name_at : List ℕ → FileNameAt → FileName
name_at bytes item = record { file = item.file; name = text_at bytes item.name }
