-- Where paths stand, and the entries that are read of them.
use Rattle.std.specs.Prelude.{ℕ, List, [], drop}
use Rattle.std.specs.Option.{option_map_or}
use Rattle.dwarf_line.specs.declared.form.TextForm.{TextForm}
use Rattle.dwarf_line.specs.declared.form.TextForm.TheVariants.{Inline, LineStrp, Strp}
use Rattle.dwarf_line.specs.Bytes.{text_at}
use Rattle.dwarf_line.specs.Entry.{TableEntry, StringSections}

-- a path in place, or at an offset in one of the two sections
pub record PlacedPath : Type 0 where
  pub form : TextForm
  pub inline : List ℕ
  pub offset : ℕ

-- the text that begins at an offset, which is empty where there is none
abbrev pub text_from : List ℕ → ℕ → List ℕ
text_from section offset = option_map_or (λ read. read.0) (text_at (drop offset section)) []

abbrev pub path_by : StringSections → TextForm → List ℕ → ℕ → List ℕ
path_by sections Inline inline offset = inline
path_by sections LineStrp inline offset = text_from sections.line_str offset
path_by sections Strp inline offset = text_from sections.strings offset

abbrev pub path_in : StringSections → PlacedPath → List ℕ
path_in sections path = path_by sections path.form path.inline path.offset

-- an entry whose path is only placed
pub record PlacedEntry : Type 0 where
  pub path : PlacedPath
  pub directory : ℕ

abbrev pub entry_in : StringSections → PlacedEntry → TableEntry
entry_in sections entry = record { path = path_in sections entry.path; directory = entry.directory }
