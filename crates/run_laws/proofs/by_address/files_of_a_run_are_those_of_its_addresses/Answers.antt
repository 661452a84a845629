use Rattle.profile_run.specs.Trace.{steps_of}
use Rattle.run_laws.proofs.AnswerLemmas.{order_of}
use Rattle.run_laws.proofs.AddrAnswerLemmas.{cut_files, run_files}
use Rattle.run_laws.proofs.by_address.files_of_a_run_are_those_of_its_addresses.Goals as goal

pub returns : goal.returns
returns c = record {
  whole = λ guest trace stop first can fresh is.
      run_files guest can (steps_of trace) (order_of guest can trace (record { last = is.last; run = is.run }))
      first fresh
      stop.tried;
  so_far = λ guest past first can fresh makes.
      cut_files guest can (steps_of past) (order_of guest can past makes) first fresh;
}
