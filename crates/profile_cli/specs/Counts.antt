-- What the numbers of a report count, as events of its run.
use Rattle.std.specs.Prelude.{◌≡◌, ℕ, ◌<◌, ◌==◌, ◌&&◌, Bool, false, List, length, slice_index, sum_by, if◌then◌else◌}
use Rattle.std.specs.Option.{option_map_or}
use Rattle.sym_map.specs.SymbolMap.{place_of}
use Rattle.shadow_stack.specs.Changes.{change}
use Rattle.shadow_stack.specs.Stacks.{Activation}
use Rattle.cg_read.specs.Profiles.{Contents}
use Rattle.cycles.specs.Limits.{pair_calls}
use Rattle.once_each.specs.Profiles.{Numbering}
use Rattle.once_each.specs.Texts.{numbers_in}
use Rattle.profile_run.specs.Program.{CanRun, Program, head_of_run}
use Rattle.profile_run.specs.Trace.{RunStep}
use Rattle.reads_back.specs.Rows.{naming}
use Rattle.run_laws.specs.Runs.{events_with_stacks}
use Rattle.report_laws.specs.Reports.{CallsCount}
use Rattle.outside.specs.Outside.{Outside}
use Rattle.command_words.specs.Request.{Job, View}
use Rattle.command_status.specs.declared.status.Status.{Status}
use Rattle.profile_cli.specs.HasRun.{RunFiles}
use Rattle.profile_cli.specs.Headline.{IsExactReport, ReportOn}

-- the numbers that a profile has for the functions and files of the guest
abbrev pub numbers_of : Program → Contents → Numbering
numbers_of guest p = numbers_in p (naming (head_of_run guest) guest.syms)

-- a test of the function, the file and the line of an instruction
abbrev pub passes : Program → Contents → (ℕ → ℕ → ℕ → Bool) → ℕ → Bool
passes guest p test pc =
    test ((numbers_of guest p).func (place_of guest.syms pc).func.0)
    ((numbers_of guest p).file (place_of guest.syms pc).file.0) (place_of guest.syms pc).line

-- what the events cost whose instruction passes
abbrev pub cost_where : Program → List RunStep → Contents → (ℕ → ℕ → ℕ → Bool) → ℕ → ℕ
cost_where guest trace p test kind =
    sum_by (λ x. if passes guest p test x.event.done.pc then slice_index x.cost kind else 0) (events_with_stacks trace)

-- a frame that was entered by a call of the one function by the other
abbrev pub is_of_pair : Program → Contents → ℕ → ℕ → Activation → Bool
is_of_pair guest p caller callee frame =
    option_map_or (λ arc. (numbers_of guest p).func arc.caller.0 == caller
    && (numbers_of guest p).func arc.callee.0 == callee) frame.arc false

-- how many such frames the events push
abbrev pub frames_pushed : Program → List RunStep → Contents → ℕ → ℕ → ℕ
frames_pushed guest trace p caller callee =
    sum_by (λ x. option_map_or (λ frame. if is_of_pair guest p caller callee frame then 1 else 0)
    (change guest.syms x.event x.stack).pushed 0) (events_with_stacks trace)

-- Whatever is told of places is what the events there cost: of a function by itself, of the functions of a cycle, of a
-- line of a source, and of all places (the totals). The number of calls of a pair is that of the frames they pushed.
pub record CountEvents (guest : Program) (trace : List RunStep) (p : Contents) : Type 0 where
  pub costs : (test : ℕ → ℕ → ℕ → Bool) (kind : ℕ) → kind < length p.events
      → sum_by (λ row. if test row.func row.file row.line then slice_index row.cost kind else 0) p.self_rows
      ≡ cost_where guest trace p test kind
  pub calls : (caller callee : ℕ) → pair_calls caller callee p.call_rows ≡ frames_pushed guest trace p caller callee

-- Every other number of a report: the cost of each pair of functions of different groups counts every event once; every
-- cost of functions by themselves and of lines, and the totals, the events there; and the number of calls of a pair the
-- frames that they pushed.
pub record Counts (guest : Program) (trace : List RunStep) (view : View) (shown : ReportOn guest trace view) : Type 0
  where
    pub calls : CallsCount guest trace shown.report.profile shown.report.groups
    pub events : CountEvents guest trace shown.report.profile

-- what is so of an exact report besides: its guest can be run, and its numbers count
pub record IsCounted (old : Outside) (job : Job) (put : RunFiles) (view : View) (status : Status) (new : Outside)
    (exact : IsExactReport old job put view status new) : Type 0 where
  pub can : CanRun exact.run.run.guest
  pub counts : Counts exact.run.run.guest exact.run.run.trace view exact.report_on
