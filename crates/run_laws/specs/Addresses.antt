-- The parts of a run that is watched by address, as files, and rows by address that can be folded back.
use Rattle.std.specs.Prelude.{◌<◌, ◌^◌, ℕ}
use Rattle.event_costs.specs.Keys.{ArcKey, Place}
use Rattle.arc_costs.specs.Arcs.{arc_sum, call_sum}
use Rattle.arc_costs.specs.Lines.{line_sum}
use Rattle.part_dump.specs.Cuts.{cuts}
use Rattle.sym_map.specs.AddressMap.{address_map}
use Rattle.addr_rows.specs.Plain.{plain}
use Rattle.addr_rows.specs.Rows.{AddrListed}
use Rattle.addr_rows.specs.Files.{addr_files, closed_files}
use Rattle.profile_run.specs.Program.{Program, head_of_run}
use Rattle.profile_run.specs.Parts.{Writing}

-- the guest, with the map that tells code by its addresses
abbrev pub addressed : Program → Program
addressed guest = record guest { syms = address_map guest.syms }

-- The files have the texts of the rows by address.
abbrev pub addr_parts : Program → Writing
addr_parts guest = record {
  at_cuts = λ steps. closed_files (head_of_run guest) guest.syms guest.options.base
      (cuts guest.syms guest.options.dump_points steps).closed;
  whole = λ steps tried. addr_files (head_of_run guest) guest.syms guest.options.base guest.options.dump_points steps;
}

-- Rows meet the conditions of `fold`: no sum over the addresses of a line or of an arc passes 64 bits.
pub record MayBeFolded (rows : AddrListed) : Type 0 where
  pub lines : (kind : ℕ) (place : Place) → line_sum kind place (plain rows).lines < 2 ^ 64
  pub arcs : (kind : ℕ) (arc : ArcKey) → arc_sum kind arc (plain rows).arcs < 2 ^ 64
  pub calls : (arc : ArcKey) → call_sum arc (plain rows).arcs < 2 ^ 64
