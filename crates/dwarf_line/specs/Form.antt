-- Content type codes (DWARF 5, 6.2.4.1) and form codes (7.5.6) of the tables' formats.
use Rattle.std.specs.Prelude.{ℕ, ◌==◌, if◌then◌else◌, Option, Some, None}
use Rattle.dwarf_line.specs.declared.form.Form.{Form}
use Rattle.dwarf_line.specs.declared.form.Form.TheVariants.{Text, Index, Data4, Data8, Data16, Block}
use Rattle.dwarf_line.specs.declared.form.TextForm.TheVariants.{Inline, LineStrp, Strp}
use Rattle.dwarf_line.specs.declared.form.IndexForm.TheVariants.{Data1, Data2, Udata}
use Rattle.dwarf_line.specs.declared.form.Field.{Field}
use Rattle.dwarf_line.specs.declared.form.Field.TheVariants.{Path, Directory, Other}

-- the form of a code; other codes are damage
unfoldable pub form_of : ℕ → Option Form
form_of code =
    -- DW_FORM_string, strp, line_strp, data1, data2, udata, data4, data8, data16 and block
    if code == 0x08 then Some (Text Inline) else (
    if code == 0x0e then Some (Text Strp) else (
    if code == 0x1f then Some (Text LineStrp) else (
    if code == 0x0b then Some (Index Data1) else (
    if code == 0x05 then Some (Index Data2) else (
    if code == 0x0f then Some (Index Udata) else (
    if code == 0x06 then Some Data4 else (
    if code == 0x07 then Some Data8 else (
    if code == 0x1e then Some Data16 else (
    if code == 0x09 then Some Block else None)))))))))

-- a path has to be a text
abbrev pub path_of : Form → Option Field
path_of (Text form) = Some (Path form)
path_of _ = None

-- the number of a directory has to be a number of a form that is allowed for it
abbrev pub directory_of : Form → Option Field
directory_of (Index form) = Some (Directory form)
directory_of _ = None

-- the field of a content code (DW_LNCT_path 1, DW_LNCT_directory_index 2) and a form; other contents are passed over
abbrev pub field_of : ℕ → Form → Option Field
field_of content form =
    if content == 0x1 then path_of form else (
    if content == 0x2 then directory_of form else Some (Other form))
