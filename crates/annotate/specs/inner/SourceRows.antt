-- The self rows of files, by their lines.
use Rattle.std.specs.Prelude.{◌≡◌, ◌<◌, ℕ, Bool, true, false, ◌||◌, nat_lt, List, ◌++◌, length, map, filter, codes}
use Rattle.std.specs.Prelude.{decimal, Option, None, Some}
use Rattle.std.specs.BTreeMap.{BTreeMap, get}
use Rattle.std.specs.Str.{bytes_eq}
use Rattle.std.specs.Borrow.{Bor}
use Rattle.cg_read.specs.Profiles.{Contents, file_at, has_text}
use Rattle.annotate.specs.Names.{costs_text}
use Rattle.annotate.specs.Files.{is_in_file}
use Rattle.report_rows.specs.Entries.{EntryValue, costs_of, self_entry}
use Rattle.report_rows.specs.Orders.{text_order}
use Rattle.report_rows.specs.declared.entries.By.TheVariants as by

-- the texts behind references
abbrev pub pieces : List (Bor (List ℕ)) → List (List ℕ)
pieces lines = map (λ line. line.now) lines

-- each number is that of the file with the name, and a name that has none is no file's
pub record AreNumbersOf (files : List (List ℕ)) (numbers : BTreeMap (List ℕ) ℕ) : Type 0 where
  pub there : (n : ℕ) (name : List ℕ) → get text_order numbers name ≡ Some n
      → (n < length files) × (bytes_eq name (file_at files n) ≡ true)
  pub absent : (name : List ℕ) → get text_order numbers name ≡ None → has_text files name ≡ false

-- the self rows of the file with a name
abbrev pub AreRowsOfFile : Contents → List ℕ → List EntryValue → Type 0
AreRowsOfFile p name ks = ks ≡ map (self_entry by.File) (filter (is_in_file p name) p.self_rows)

-- what was counted in these rows, where there are any
abbrev pub costs_or_dot : ℕ → Option (List EntryValue) → List ℕ
costs_or_dot events None = codes "."
costs_or_dot events (Some ks) = costs_text (costs_of events ks)

-- a line that a text of so many lines doesn't have
abbrev pub is_outside : ℕ → ℕ → Bool
is_outside count line = nat_lt line 1 || nat_lt count line

abbrev pub other_with : ℕ → ℕ → List EntryValue → List ℕ
other_with events line ks = costs_text (costs_of events ks) ++ codes " | <line " ++ decimal line ++ codes ">\n"
