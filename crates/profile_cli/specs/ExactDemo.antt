-- What `demo` shows of the run of its program, and what it leaves.
use Rattle.std.specs.Prelude.{◌≡◌, ℕ, ◌++◌, false, List, [], length, map, option_map, slice_index, sum_by}
use Rattle.std.specs.List.{range_with_len}
use Rattle.event_costs.specs.Costs.{event_names, events_shown}
use Rattle.outside.specs.Outside.{Outside, with_files}
use Rattle.outside.specs.Write.{taken_more}
use Rattle.event_costs.specs.declared.outcome.End.{End}
use Rattle.event_costs.specs.declared.outcome.End.TheVariants as end
use Rattle.profile_run.specs.Trace.{RunStep, sent_bytes}
use Rattle.demo_make.specs.Program.{IsFileOf, demo}
use Rattle.run_laws.specs.Runs.{events_with_stacks}
use Rattle.command_status.specs.Ends.{end_status}
use Rattle.command_status.specs.declared.status.Status.{Status}
use Rattle.command_status.specs.declared.status.Status.TheVariants.{Done}
use Rattle.command_words.specs.Request.{Line}
use Rattle.profile_cli.specs.Demo.{demo_job}
use Rattle.command_steps.specs.Summary.{summary}
use Rattle.profile_cli.specs.HasRun.{RunOf, run_files}
use Rattle.profile_cli.specs.Watching.{files_at}

-- An exit is what the program is to come to. Any other end of it is the status.
abbrev pub demo_status : End → Status
demo_status (end.Exited code) = Done
demo_status stop = end_status stop

-- for each event that is shown, what all events of a trace cost
abbrev pub totals_of : List RunStep → List ℕ
totals_of trace =
    map (λ kind. sum_by (λ x. slice_index x.cost kind) (events_with_stacks trace))
    (range_with_len 0 (length (events_shown false event_names)))

-- What is shown of a trace of the program of a size, whose file has so many bytes: the summary, where it exited. There
-- were so many threads then, and so many files were put.
abbrev pub summary_of_trace : ℕ → ℕ → List RunStep → ℕ → ℕ → End → List ℕ
summary_of_trace size len trace threads files (end.Exited code) =
    summary (record {
      size = size;
      len = len;
      code = code;
      steps = length trace;
      threads = threads;
      files = files;
    })
    (totals_of trace)
summary_of_trace size len trace threads files stop = []

-- The program of the size ran to its end. The folder holds its part files besides, and nothing else has changed; `out`
-- has taken the guest's bytes and then the summary of its trace, if it exited, and `err` the guest's bytes and then
-- this line.
pub record IsExactDemo (old : Outside) (size : ℕ) (status : Status) (line : List ℕ) (new : Outside) : Type 0 where
  pub file : List ℕ
  pub made : IsFileOf (demo size) file
  pub run : RunOf demo_job file []
  pub status_is : status ≡ demo_status run.stop.end
  pub files : new.files ≡ option_map (with_files (run_files (files_at Line) run)) old.files
  pub out : new.out.taken
      ≡ taken_more old.out.taken
      (sent_bytes 1 run.trace
      ++ summary_of_trace size (length file) run.trace run.is.last.0.kernel.guest.made (length (run_files (files_at Line) run))
      run.stop.end)
  pub err : new.err.taken ≡ taken_more old.err.taken (sent_bytes 2 run.trace ++ line)
