-- The parts of a run, joined.
use Rattle.std.specs.Prelude.{◌≡◌, ◌<◌, ℕ, ◌++◌, List, [], ◌∷◌, All, length, map, flat_map, Option, None}
use Rattle.event_costs.specs.Costs.{IsWhole, event_names, events_shown}
use Rattle.arc_costs.specs.Contents.{Listed}
use Rattle.sym_map.specs.SymbolMap.{SymbolMap}
use Rattle.cg_format.specs.Part.{part_text}
use Rattle.cg_format.specs.declared.head.PartHead.{PartHead}
use Rattle.cg_read.specs.Profiles.{Contents}
use Rattle.once_each.specs.Parts.{ThreadRows, all_arcs, all_lines}
use Rattle.profile_files.specs.Joined as files
use Rattle.reads_back.specs.Rows.{AreWritable, command_of, naming}

-- the events that a part shows
abbrev pub events_in : PartHead → List (List ℕ)
events_in head = events_shown head.branch event_names

-- a profile of these events, without a row
abbrev pub no_rows_of : PartHead → Contents
no_rows_of head = files.no_rows (events_in head)

abbrev pub no_rows : Listed
no_rows = record { lines = []; arcs = [] }

-- rows, and then others
abbrev pub together : Listed → Listed → Listed
together rows more = record { lines = rows.lines ++ more.lines; arcs = rows.arcs ++ more.arcs }

-- the rows of all threads in all segments
abbrev pub rows_of_parts : List (List ThreadRows) → Listed
rows_of_parts parts = record { lines = all_lines parts; arcs = all_arcs parts }

-- each row has a number for each kind of event
pub record AreWhole (rows : Listed) : Type 0 where
  pub lines : All (λ row. IsWhole row.cost) rows.lines
  pub arcs : All (λ row. IsWhole row.cost) rows.arcs

-- The heads of two parts are of one run: they name the same object, and show the same events.
pub record AreOfOneRun (head part : PartHead) : Type 0 where
  pub object : part.object ≡ head.object
  pub branch : part.branch ≡ head.branch

-- each function of the map has a text of its own, and so has each file
pub record HaveOwnTexts (head : PartHead) (m : SymbolMap) : Type 0 where
  pub functions : (f g : ℕ) → f < length m.functions → g < length m.functions
      → (naming head m).func f ≡ (naming head m).func g → f ≡ g
  pub files : (f g : ℕ) → f < length m.files → g < length m.files
      → (naming head m).file f ≡ (naming head m).file g → f ≡ g

-- a part that a run writes: what stands before its rows, and its rows
pub record WrittenPart : Type 0 where
  pub head : PartHead
  pub rows : Listed

-- The parts of a run with this map: their heads are of one run with this one, and their rows can be written.
pub record ArePartsOfRun (head : PartHead) (m : SymbolMap) (parts : List WrittenPart) : Type 0 where
  pub one_run : All (λ part. AreOfOneRun head part.head) parts
  pub writable : All (λ part. AreWritable m part.rows) parts

-- their texts, in order
abbrev pub texts_of : SymbolMap → List WrittenPart → List (List ℕ)
texts_of m parts = map (λ part. part_text part.head part.rows m) parts

-- the rows of all parts, in order
abbrev pub rows_of_all : List WrittenPart → Listed
rows_of_all parts = record {
  lines = flat_map (λ part. part.rows.lines) parts;
  arcs = flat_map (λ part. part.rows.arcs) parts;
}

-- the command of the first part
abbrev pub first_command : List WrittenPart → Option (List ℕ)
first_command [] = None
first_command (part ∷ parts) = command_of part.head
