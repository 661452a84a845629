use Rattle.profile_run.specs.Trace.{steps_of}
use Rattle.run_laws.proofs.AnswerLemmas.{cut_files, order_of, run_files}
use Rattle.run_laws.proofs.by_context.files_of_a_run_are_those_of_its_contexts.Goals as goal

pub returns : goal.returns
returns c = record {
  whole = λ guest trace stop first can fresh is.
      run_files guest can (steps_of trace) (order_of guest can trace (record { last = is.last; run = is.run }))
      first fresh
      stop.tried;
  so_far = λ guest past first can fresh makes.
      cut_files guest can (steps_of past) (order_of guest can past makes) first fresh;
}
