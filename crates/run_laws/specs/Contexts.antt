-- The parts of a run that is watched by calling context, as files, and rows by context that can be folded back.
use Rattle.std.specs.Prelude.{◌<◌, ◌^◌, ℕ}
use Rattle.event_costs.specs.Keys.{ArcKey, Place}
use Rattle.arc_costs.specs.Arcs.{arc_sum, call_sum}
use Rattle.arc_costs.specs.Lines.{line_sum}
use Rattle.part_dump.specs.Cuts.{cuts}
use Rattle.ctx_rows.specs.Folding.{HaveContexts, plain}
use Rattle.ctx_rows.specs.Rows.{CtxListed}
use Rattle.ctx_rows.specs.Files.{closed_files, ctx_files}
use Rattle.profile_run.specs.Program.{Program, head_of_run}
use Rattle.profile_run.specs.Parts.{Writing}

-- The files have the texts of the rows by contexts of so many callers.
abbrev pub ctx_parts : ℕ → Program → Writing
ctx_parts callers guest = record {
  at_cuts = λ steps. closed_files callers (head_of_run guest) guest.syms guest.options.base
      (cuts guest.syms guest.options.dump_points steps).closed;
  whole = λ steps tried. ctx_files callers (head_of_run guest) guest.syms guest.options.base guest.options.dump_points steps;
}

-- Rows meet the conditions of `fold`: no sum over the contexts of a function passes 64 bits. No context is empty, too.
pub record MayBeFolded (rows : CtxListed) : Type 0 where
  pub contexts : HaveContexts rows
  pub lines : (kind : ℕ) (place : Place) → line_sum kind place (plain rows).lines < 2 ^ 64
  pub arcs : (kind : ℕ) (arc : ArcKey) → arc_sum kind arc (plain rows).arcs < 2 ^ 64
  pub calls : (arc : ArcKey) → call_sum arc (plain rows).arcs < 2 ^ 64
