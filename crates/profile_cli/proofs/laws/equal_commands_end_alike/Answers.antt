use Rattle.profile_cli.specs.Watching.{files_asked}
use Rattle.profile_cli.proofs.OneRunLemmas.{files_same, folder_same, loads_same, run, status_same}
use Rattle.profile_cli.proofs.laws.equal_commands_end_alike.Goals as goal

pub returns-clause-loads : goal.returns-clause-loads
returns-clause-loads c = loads_same

pub returns-clause-status : goal.returns-clause-status
returns-clause-status c = status_same

pub returns-clause-files : goal.returns-clause-files
returns-clause-files c = λ old other job watching status end new left first second one_can other_can same equal.
    let asked = files_asked watching in
    folder_same old other job asked asked status end new left first second one_can other_can same equal
    (files_same job second.program second.input
    (run old other job asked asked status end new left first second one_can other_can same equal) second.run one_can
    other_can watching)
