-- The tables of directories and of files in a unit's header (DWARF 5, 6.2.4, fields 13 to 20).
use Rattle.std.specs.Prelude.{ℕ, ◌==◌, ◌&&◌, nat_lt, if◌then◌else◌, List, [], ◌∷◌, drop, Option, Some, None}
use Rattle.dwarf_line.specs.declared.form.Form.{Form}
use Rattle.dwarf_line.specs.declared.form.Form.TheVariants.{Text, Index, Data4, Data8, Data16, Block}
use Rattle.dwarf_line.specs.declared.form.TextForm.{TextForm}
use Rattle.dwarf_line.specs.declared.form.TextForm.TheVariants.{Inline, LineStrp, Strp}
use Rattle.dwarf_line.specs.declared.form.IndexForm.{IndexForm}
use Rattle.dwarf_line.specs.declared.form.IndexForm.TheVariants.{Data1, Data2, Udata}
use Rattle.dwarf_line.specs.declared.form.Field.{Field}
use Rattle.dwarf_line.specs.declared.form.Field.TheVariants.{Path, Directory, Other}
use Rattle.dwarf_line.specs.Bytes.{◌>>=◌, many_at, bytes_at, number_at, text_at}
use Rattle.dwarf_line.specs.Leb128.{uleb128_at}
use Rattle.dwarf_line.specs.Form.{form_of, field_of}
use Rattle.dwarf_line.specs.Entry.{TableEntry, StringSections}

-- a text that stands in another section, at the offset in front
unfoldable pub pointed_at : List ℕ → List ℕ → Option (List ℕ × List ℕ)
pointed_at section bytes = do
  offset ← number_at 4 bytes
  text ← text_at (drop offset.0 section)
  Some (text.0, offset.1)

-- a text in place or in one of the two sections
abbrev pub string_at : StringSections → TextForm → List ℕ → Option (List ℕ × List ℕ)
string_at sections Inline bytes = text_at bytes
string_at sections LineStrp bytes = pointed_at sections.line_str bytes
string_at sections Strp bytes = pointed_at sections.strings bytes

-- the number of a directory
abbrev pub index_at : IndexForm → List ℕ → Option (ℕ × List ℕ)
index_at Data1 bytes = number_at 1 bytes
index_at Data2 bytes = number_at 2 bytes
index_at Udata bytes = uleb128_at bytes

-- the bytes behind a value of a form: a text has to be there, and a block has its length in front
abbrev pub behind : StringSections → Form → List ℕ → Option (List ℕ)
behind sections (Text form) bytes = string_at sections form bytes >>= λ read. Some read.1
behind sections (Index form) bytes = index_at form bytes >>= λ read. Some read.1
behind sections Data4 bytes = bytes_at 4 bytes >>= λ read. Some read.1
behind sections Data8 bytes = bytes_at 8 bytes >>= λ read. Some read.1
behind sections Data16 bytes = bytes_at 16 bytes >>= λ read. Some read.1
behind sections Block bytes = uleb128_at bytes >>= λ count. bytes_at count.0 count.1 >>= λ read. Some read.1

-- one field more of an entry
unfoldable pub field_at : StringSections → Field → TableEntry → List ℕ → Option (TableEntry × List ℕ)
field_at sections (Path form) entry bytes = string_at sections form bytes >>=
    λ read. Some (record { path = read.0; directory = entry.directory }, read.1)
field_at sections (Directory form) entry bytes = index_at form bytes >>=
    λ read. Some (record { path = entry.path; directory = read.0 }, read.1)
field_at sections (Other form) entry bytes = behind sections form bytes >>= λ rest. Some (entry, rest)

-- an entry's fields in the order of the format; of two paths, or two numbers, the last counts
abbrev pub fields_at : StringSections → List Field → TableEntry → List ℕ → Option (TableEntry × List ℕ)
fields_at sections [] entry bytes = Some (entry, bytes)
fields_at sections (field ∷ fields) entry bytes = field_at sections field entry bytes >>=
    λ read. fields_at sections fields read.0 read.1

-- an entry: a path that is absent is empty, and a directory's number that is absent is 0
unfoldable pub entry_at : StringSections → List Field → List ℕ → Option (TableEntry × List ℕ)
entry_at sections fields bytes = fields_at sections fields (record { path = []; directory = 0 }) bytes

-- a content code and a form code
unfoldable pub pair_at : List ℕ → Option (Field × List ℕ)
pair_at bytes = do
  content ← uleb128_at bytes
  code ← uleb128_at content.1
  form ← form_of code.0
  field ← field_of content.0 form
  Some (field, code.1)

-- A table: its format behind a count of one byte, and its entries behind a count. Entries without a
-- format are damage.
unfoldable pub table_at : StringSections → List ℕ → Option (List TableEntry × List ℕ)
table_at sections bytes = do
  pairs ← number_at 1 bytes
  format ← many_at pair_at pairs.0 pairs.1
  count ← uleb128_at format.1
  if pairs.0 == 0 && nat_lt 0 count.0 then None else many_at (entry_at sections format.0) count.0 count.1
