-- The profile of a run, and what its sums are in the run's own words.
use Rattle.std.specs.Prelude.{◌≡◌, ℕ, ◌<◌, ◌==◌, List, [], length, slice_index, slice_index_or}
use Rattle.std.specs.List.{position_or_len}
use Rattle.call_graph.specs.Groups.{Grouping, is_member}
use Rattle.call_graph.specs.declared.arc.CallArc.{CallArc}
use Rattle.cg_read.specs.Profiles.{Contents, IsProfile, same_function}
use Rattle.once_each.specs.Graphs.{graph}
use Rattle.once_each.specs.Once.{once, once_pair}
use Rattle.profile_run.specs.Program.{Program, head_of_run}
use Rattle.profile_run.specs.Trace.{RunStep}
use Rattle.reads_back.specs.Rows.{IsOfRows, key_of}
use Rattle.run_laws.specs.Runs.{command_of_run, events_with_costs, events_with_stacks, rows_of_run}

-- a profile of all rows of a run, and of their command
pub record IsProfileOfRun (guest : Program) (trace : List RunStep) (p : Contents) : Type 0 where
  pub profile : IsProfile p
  pub rows : IsOfRows (head_of_run guest) (command_of_run guest trace) (rows_of_run guest trace) guest.syms p

-- the number that a profile has for a function of the map, by its texts
abbrev pub number_in : Program → Contents → ℕ → ℕ
number_in guest p f =
    position_or_len (same_function (key_of (head_of_run guest) guest.syms (record { 0 = f }))) p.functions

-- the call graph of a run
abbrev pub graph_of_run : Program → List RunStep → List CallArc
graph_of_run guest trace = graph guest.syms (events_with_costs trace)

-- what the events of a run cost on whose thread's stack one of these functions of the profile stands directly on the
-- other, each counted once
abbrev pub pair_once : Program → List RunStep → Contents → ℕ → ℕ → ℕ → ℕ
pair_once guest trace p caller callee kind =
    once_pair (λ f. number_in guest p f == caller) (λ f. number_in guest p f == callee) kind (events_with_stacks trace)

-- for each group what the events cost on whose thread's stack one of its functions stands, each counted once
pub record CountOnce (guest : Program) (trace : List RunStep) (p : Contents) (groups : Grouping)
    (costs : List (List ℕ)) : Type 0 where
  pub count : length costs ≡ length groups.cyclic
  pub width : (group : ℕ) → group < length costs → length (slice_index_or costs group []) ≡ length p.events
  pub exact : (group kind : ℕ) → group < length costs → kind < length p.events
      → slice_index (slice_index_or costs group []) kind
      ≡ once (λ f. is_member groups group (number_in guest p f)) kind (events_with_stacks trace)
