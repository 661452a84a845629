-- What a table of instructions keeps, and the map that it makes.
use Rattle.std.specs.Prelude.{ℕ, ◌+◌, ◌==◌, if◌then◌else◌, List, [], ◌∷◌, Option, Some, None, slice_get}
use Rattle.std.specs.FinMap as map
use Rattle.std.specs.Option.{option_and_then}
use Rattle.std.specs.Ordering.{nat_cmp}
use Rattle.rv_decode.specs.declared.instr.Instr.{Instr}
use Rattle.rv_step.specs.Place.{place_of}
use Rattle.rv_step.specs.declared.instr_table.InstrTable.{InstrTable}
use Rattle.rv_step.specs.declared.kept_instr.KeptInstr.{KeptInstr}

-- what was found, where it is of this address
abbrev pub found_at : ℕ → KeptInstr → Option Instr
found_at pc f = if f.pc == pc then Some f.instr else None

-- the instruction that is kept for an address, if one is
unfoldable pub kept_instruction : InstrTable → ℕ → Option Instr
kept_instruction table pc = option_and_then (found_at pc) (slice_get table.places.items (place_of pc))

-- what the places from this one on hold, where its own address finds it
abbrev pub entries_from : ℕ → List KeptInstr → List (ℕ × Instr)
entries_from place [] = []
entries_from place (f ∷ fs) =
    if place_of f.pc == place then (f.pc, f.instr) ∷ entries_from (place + 1) fs else entries_from (place + 1) fs

-- the map from each address to what is kept for it
unfoldable pub code_of : InstrTable → map.FinMap nat_cmp Instr
code_of table = map.from_entries (entries_from 0 table.places.items)
