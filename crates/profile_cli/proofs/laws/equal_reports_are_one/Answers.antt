use Rattle.std.proofs.Common.{◌≡◌, ◌++◌, ◌∙◌, ℕ, Bool, true, false, [], Option, sym, true≢false}
use Rattle.outside.specs.Files.{Files}
use Rattle.cg_read.specs.Profiles.{Contents}
use Rattle.annotate.specs.Report.{SourceTexts}
use Rattle.command_steps.specs.Annotate.{AreTextsFor}
use Rattle.outside.specs.Write.{taken_more}
use Rattle.command_status.specs.Ends.{end_line}
use Rattle.profile_run.specs.Trace.{sent_bytes}
use Rattle.profile_cli.specs.Watching.{files_at}
use Rattle.profile_cli.proofs.OneRunLemmas.{files_at_same, folder_same, moved, reports_same, stops_same, traces_same}
use Rattle.profile_cli.proofs.laws.equal_reports_are_one.Goals as goal

pub returns-clause-files : goal.returns-clause-files
returns-clause-files c = λ old other job positions view status end new left first second one_can other_can same equal.
    let at = files_at positions in
    folder_same old other job at at status end new left first.run second.run one_can other_can same equal
    (files_at_same job second.run.program second.run.input (moved same equal first.run.run) second.run.run one_can
    other_can positions)

pub returns-clause-out : goal.returns-clause-out
returns-clause-out c = λ old other job put more view status end new left first second one_can other_can same equal texts taken.
    let run = moved same equal first.run.run in
    let trace = traces_same job second.run.program second.run.input run second.run.run one_can other_can in
    let text = reports_same job second.run.program second.run.input run second.run.run one_can other_can view
    first.report_on second.report_on texts in
    first.out ∙ (λ i. taken_more (taken i) (sent_bytes 1 (trace i) ++ text i)) ∙ sym second.out

no_texts : (auto : Bool) (files : Option Files) (before now : ℕ) (p : Contents) (texts : SourceTexts)
    → AreTextsFor auto files before now p texts → auto ≡ false → texts ≡ []
no_texts true files before now p texts are is = absurd (true≢false is)
no_texts false files before now p texts are is = are

pub returns-clause-bare : goal.returns-clause-bare
returns-clause-bare c = λ old other job put more view status end new left first second one_can other_can same equal bare.
    returns-clause-out c old other job put more view status end new left first second one_can other_can same equal
    (no_texts view.auto new.files old.load_faults new.load_faults first.report_on.report.profile first.report_on.texts
    first.sources bare
    ∙ sym (no_texts view.auto left.files other.load_faults left.load_faults second.report_on.report.profile
    second.report_on.texts second.sources bare))

pub returns-clause-err : goal.returns-clause-err
returns-clause-err c = λ old other job put more view status end new left first second one_can other_can same equal taken.
    let run = moved same equal first.run.run in
    let trace = traces_same job second.run.program second.run.input run second.run.run one_can other_can in
    let stop = stops_same job second.run.program second.run.input run second.run.run one_can other_can in
    first.err ∙ (λ i. taken_more (taken i) (sent_bytes 2 (trace i) ++ end_line (stop i).end)) ∙ sym second.err
