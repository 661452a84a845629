-- What a command met on its way. Where it did not come to something, or it is not known how that went, memory was
-- wanting there, which has no cause to show.
use Rattle.std.specs.Prelude.{ℕ, Bool, true, List, Option, None, Result, Err}
use Rattle.outside.specs.Outside.{Output}
use Rattle.outside.specs.declared.folder.LoadError.TheVariants as load
use Rattle.outside.specs.declared.folder.PutError.{PutError}
use Rattle.sym_map.specs.SymbolMap.{SymbolMap}
use Rattle.cg_read.specs.Profiles.{Contents}
use Rattle.outside.specs.Load.{Load}
use Rattle.profile_files.specs.declared.fault.ReadFault.{ReadFault}
use Rattle.profile_files.specs.declared.fault.ReadFault.TheVariants as read
use Rattle.profile_run.specs.Runs.{RunEnd}
use Rattle.profile_run.specs.declared.run_fault.RunFault.{RunFault}
use Rattle.byte_text.specs.Memory.{memory}
use Rattle.command_steps.specs.Annotate.{ReportOutcome}
use Rattle.command_steps.specs.Summary.{SummaryOutcome}

-- a run: the map of the program's symbols, how it stopped, and what it has put out
pub record RunOutcome : Type 0 where
  pub syms : SymbolMap
  pub stop : Result RunEnd RunFault
  pub output : Output

-- The report on waiting: its text, and how the put of it went.
pub record WaitsOutcome : Type 0 where
  pub text : List ℕ
  pub put : Result (Unit {0}) PutError

pub record Course : Type 0 where
  -- the words were read; else memory was wanting there
  pub words_read : Bool
  pub program : Load
  pub input : Load
  pub run : Option RunOutcome
  -- what waiting cost in it
  pub waits : Option WaitsOutcome
  -- what profile files read as, joined
  pub profile : Result Contents ReadFault
  -- the report on that
  pub report : Option ReportOutcome
  -- the summary of it
  pub summary : Option SummaryOutcome

-- nothing is known but that the words were read
abbrev pub no_course : Course
no_course = record {
  words_read = true;
  program = Err (load.OutOfMemory memory);
  input = Err (load.OutOfMemory memory);
  run = None;
  waits = None;
  profile = Err (read.OutOfMemory memory);
  report = None;
  summary = None;
}
