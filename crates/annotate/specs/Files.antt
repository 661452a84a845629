-- The files whose source texts a report shows.
use Rattle.std.specs.Prelude.{◌≡◌, ℕ, Bool, not, ◌&&◌, List}
use Rattle.std.specs.List.{list_any}
use Rattle.std.specs.List.Sorted.{IsStrictlySortedBy}
use Rattle.std.specs.Str.{bytes_eq}
use Rattle.cg_read.specs.Profiles.{Contents, file_at, has_text, unknown}
use Rattle.cg_read.specs.declared.rows.SelfRow.{SelfRow}
use Rattle.report_rows.specs.Orders.{text_order}

-- the row stands in the file
abbrev pub is_in_file : Contents → List ℕ → SelfRow → Bool
is_in_file p name row = bytes_eq (file_at p.files row.file) name

-- a self row stands in the file, and the file is known
abbrev pub is_file_shown : Contents → List ℕ → Bool
is_file_shown p name = list_any (is_in_file p name) p.self_rows && not (bytes_eq name unknown)

-- these files, each once, in the order of their bytes
pub record AreFilesShown (p : Contents) (names : List (List ℕ)) : Type 0 where
  pub rising : IsStrictlySortedBy text_order names
  pub exact : (name : List ℕ) → has_text names name ≡ is_file_shown p name
