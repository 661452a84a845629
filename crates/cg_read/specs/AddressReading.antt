-- What a whole file says whose positions have addresses: the profile that its lines say without them, and the addresses
-- of its rows; or its first bad line.
use Rattle.std.specs.Prelude.{◌≡◌, ℕ, Bool, false, List, [], ◌∷◌, length, map, reverse, Option, None, Some}
use Rattle.std.specs.Prelude.{if◌then◌else◌}
use Rattle.cg_lines.specs.Lines.{lines, words}
use Rattle.cg_lines.specs.Shapes.{line_of}
use Rattle.cg_read.specs.Meaning.{or_else}
use Rattle.cg_lines.specs.Names.{same_names}
use Rattle.cg_read.specs.Profiles.{Contents}
use Rattle.cg_read.specs.Profiles as profiles
use Rattle.cg_read.specs.Reading as reading
use Rattle.cg_read.specs.Reading.{end_fault, first_fault}
use Rattle.cg_read.specs.Addresses as addresses
use Rattle.cg_lines.specs.Addressed.{addressed_of}
use Rattle.cg_read.specs.Addresses.{without_addresses, fault}
use Rattle.cg_lines.specs.Positions.{two_parts}
use Rattle.cg_lines.specs.declared.line.Line.{Line}
use Rattle.cg_lines.specs.declared.line.Line.TheVariants.{Positions}
use Rattle.cg_lines.specs.declared.addressed.AddressedLine.{AddressedLine}
use Rattle.cg_read.specs.declared.error.FormatError.{FormatError}

-- Which files have addresses

-- the words of a line on positions
abbrev pub positions_in : Line → Option (List (List ℕ))
positions_in (Positions text) = Some (words text)
positions_in _ = None

-- those of the first such line, where the lines stand in their order
abbrev pub first_positions : List Line → Option (List (List ℕ))
first_positions [] = None
first_positions (line ∷ rest) = or_else (positions_in line) (first_positions rest)

abbrev pub are_two_parts : Option (List (List ℕ)) → Bool
are_two_parts None = false
are_two_parts (Some names) = same_names names two_parts

-- the first line on positions says that they have two parts
abbrev pub is_addr_file : List ℕ → Bool
is_addr_file bytes = are_two_parts (first_positions (map line_of (lines bytes)))

-- What such a file says

-- the history that lines leave: what each says, the newest first
abbrev pub history_of : List (List ℕ) → List AddressedLine
history_of texts = reverse (map addressed_of texts)

-- the history of a whole file
abbrev pub history : List ℕ → List AddressedLine
history bytes = history_of (lines bytes)

-- the first line with a fault, by its number
abbrev pub bad_line : List AddressedLine → Option FormatError
bad_line before = first_fault fault before

-- the first bad line of a file, and its kind
abbrev pub first_bad : List ℕ → Option FormatError
first_bad bytes = or_else (bad_line (history bytes)) (end_fault (without_addresses (history bytes)))

-- A profile whose rows have addresses: the profile without them, and the addresses of its rows in their order.
pub record AddrContents : Type 0 where
  pub lines : Contents
  pub self_addresses : List ℕ
  pub call_addresses : List ℕ

-- each row has its address
pub record AreAddressed (p : AddrContents) : Type 0 where
  pub self_rows : length p.self_addresses ≡ length p.lines.self_rows
  pub call_rows : length p.call_addresses ≡ length p.lines.call_rows

-- The lines of a history say this profile.
pub record Says (before : List AddressedLine) (p : AddrContents) : Type 0 where
  -- without their addresses they say it as any lines do
  pub lines : reading.Says (without_addresses before) p.lines
  pub self_addresses : p.self_addresses ≡ addresses.self_addresses before
  pub call_addresses : p.call_addresses ≡ addresses.call_addresses before

-- The bytes read as this profile: no line is bad, and the lines say it.
pub record Reads (bytes : List ℕ) (p : AddrContents) : Type 0 where
  pub sound : first_bad bytes ≡ None
  pub says : Says (history bytes) p

-- Two profiles that say the same: they differ at most in the order in which functions and files are numbered.
pub record SaysTheSame (p q : AddrContents) : Type 0 where
  pub lines : profiles.SaysTheSame p.lines q.lines
  pub self_addresses : p.self_addresses ≡ q.self_addresses
  pub call_addresses : p.call_addresses ≡ q.call_addresses

-- Any file, with addresses or without

-- the lines that a file says, without addresses
abbrev pub lines_said : List ℕ → List Line
lines_said bytes = if is_addr_file bytes then without_addresses (history bytes) else reading.history bytes

-- its first bad line, and the kind of it
abbrev pub first_bad_of : List ℕ → Option FormatError
first_bad_of bytes = if is_addr_file bytes then first_bad bytes else reading.first_bad bytes

-- Without addresses, the bytes read as this profile.
pub record ReadsLines (bytes : List ℕ) (p : Contents) : Type 0 where
  pub sound : first_bad_of bytes ≡ None
  pub says : reading.Says (lines_said bytes) p
