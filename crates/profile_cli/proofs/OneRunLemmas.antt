-- A job has one run and one report.
use Rattle.std.proofs.Common.{◌≡◌, ℕ, ◌∙◌, List, [], ◌∷◌, ◌++◌, Ok, Option, None, Some, ap, subst, sym}
use Rattle.std.specs.List.{slice_get}
use Rattle.std.proofs.lemmas.Option.{get_or_from_slice_get, slice_get_within}
use Rattle.std.specs.Option.{option_map}
use Rattle.outside.specs.Files.{Files}
use Rattle.outside.specs.Outside.{Outside, with_files}
use Rattle.profile_files.specs.Loads.{IsLoad}
use Rattle.outside.specs.Limits.{text_limit, file_limit}
use Rattle.command_steps.specs.Loading.{IsLoadIf}
use Rattle.command_status.specs.Ends.{end_status}
use Rattle.command_status.specs.declared.status.Status.{Status}
use Rattle.elf_read.specs.Image.{image_of}
use Rattle.cg_read.specs.Profiles.{Contents, IsProfile}
use Rattle.profile_run.specs.Program.{CanRun, Program, head_of_run}
use Rattle.reads_back.specs.Joined.{events_in}
use Rattle.profile_run.specs.Trace.{IsTraceOf, Makes, Stop, sent_bytes}
use Rattle.run_laws.specs.Maps.{TellTheSame}
use Rattle.run_laws.proofs.SameRunLemmas.{one_trace}
use Rattle.report_laws.specs.Reports.{IsReportOfRun}
use Rattle.report_laws.proofs.SameAddressLemmas.{addr_files_same}
use Rattle.report_laws.proofs.SameContextLemmas.{ctx_files_same}
use Rattle.report_laws.proofs.SameFileLemmas.{plain_files, same_report}
use Rattle.command_words.specs.Request.{AddressAndLine, Addresses, Contexts, Job, Line, Nothing, Positions, View, Waits, Watching}
use Rattle.command_steps.specs.Annotate.{IsSortPlace, report_options}
use Rattle.profile_cli.specs.HasRun.{HasRun, RunFiles, RunOf, run_files}
use Rattle.profile_cli.specs.Headline.{ReportOn}
use Rattle.profile_cli.specs.Words.{program_of}
use Rattle.profile_cli.specs.Program.{IsMapOf, guest_of}
use Rattle.profile_cli.specs.Watching.{files_asked, files_at, output_asked, waits_file}
use Rattle.profile_cli.proofs.LoadLemmas.{one_input, one_load}
use Rattle.profile_cli.proofs.OneMapLemmas.{one_number, tell_the_same}

-- the event to sort by has one place
one_place : (event : Option (List ℕ)) (p q : Contents) (a b : ℕ) → IsProfile p → p.events ≡ q.events
    → IsSortPlace event p a → IsSortPlace event q b → a ≡ b
one_place None p q a b profile same first second = first ∙ sym second
one_place (Some event) p q a b profile same first second =
    let also = ap (λ events. slice_get events b) same ∙ second in
    one_number p.events event profile.events_differ a b (slice_get_within p.events a event first)
    (slice_get_within p.events b event also)
    (get_or_from_slice_get p.events a event event first ∙ sym (get_or_from_slice_get p.events b event event also))

-- the run is one of the same bytes
abbrev pub moved : {job : Job} {program input file fed : List ℕ} → program ≡ file → input ≡ fed → RunOf job program input
    → RunOf job file fed
moved {job} {program} {input} {file} {fed} same equal run = record {
  syms = run.syms;
  symbols = subst (λ bytes. IsMapOf (image_of bytes) run.syms) same run.symbols;
  guest = run.guest;
  guest_is = run.guest_is ∙ (λ i. guest_of job (image_of (same i)) (equal i) run.syms);
  trace = run.trace;
  stop = run.stop;
  is = run.is;
}

module _ (job : Job) (program input : List ℕ) (one other : RunOf job program input) (one_can : CanRun one.guest)
    (other_can : CanRun other.guest) where
  abbrev guest : Program
  guest = guest_of job (image_of program) input one.syms

  abbrev again : Program
  again = guest_of job (image_of program) input other.syms

  can : CanRun guest
  can = subst CanRun one.guest_is one_can

  could : CanRun again
  could = subst CanRun other.guest_is other_can

  is : IsTraceOf guest one.trace one.stop
  is = subst (λ g. IsTraceOf g one.trace one.stop) one.guest_is one.is

  makes : Makes guest one.trace
  makes = record { last = is.last; run = is.run }

  same : TellTheSame guest.syms other.syms
  same = tell_the_same (image_of program) one.syms other.syms one.symbols other.symbols can.sound could.sound

  both : (one.trace ≡ other.trace) × (one.stop ≡ other.stop)
  both =
      one_trace guest can other.syms same one.trace other.trace one.stop other.stop is
      (subst (λ g. IsTraceOf g other.trace other.stop) other.guest_is other.is)

  pub traces_same : one.trace ≡ other.trace
  traces_same = both.0

  pub stops_same : one.stop ≡ other.stop
  stops_same = both.1

  -- files that the other map makes the same of the steps
  files_by : (files : RunFiles) → files guest one.trace one.stop ≡ files again one.trace one.stop
      → run_files files one ≡ run_files files other
  files_by files are =
      (λ i. files (one.guest_is i) one.trace one.stop) ∙ are
      ∙ (λ i. files (sym other.guest_is i) (traces_same i) (stops_same i))

  plain_same : run_files (files_at Line) one ≡ run_files (files_at Line) other
  plain_same = files_by (files_at Line) (plain_files guest can other.syms same one.trace makes one.stop)

  pub files_same : (watching : Watching) → run_files (files_asked watching) one ≡ run_files (files_asked watching) other
  files_same Nothing = plain_same
  files_same Waits = λ i.
      plain_same i
      ++ ((λ i. waits_file (one.guest_is i) one.trace) ∙ (λ i. waits_file (sym other.guest_is i) (traces_same i))) i ∷ []
  files_same (Contexts callers) =
      files_by (files_asked (Contexts callers)) (ctx_files_same guest can other.syms same one.trace makes callers one.stop)
  files_same Addresses =
      files_by (files_at AddressAndLine) (addr_files_same guest can other.syms same one.trace makes one.stop)

  pub files_at_same : (positions : Positions) → run_files (files_at positions) one ≡ run_files (files_at positions) other
  files_at_same Line = plain_same
  files_at_same AddressAndLine = files_same Addresses

  pub output_same : (watching : Watching) → output_asked watching one.guest one.trace one.stop
      ≡ output_asked watching other.guest other.trace other.stop
  output_same watching = λ i. record {
    files = files_same watching i;
    refused = None;
    out = sent_bytes 1 (traces_same i);
    err = sent_bytes 2 (traces_same i);
  }

  pub reports_same : (view : View) (first : ReportOn one.guest one.trace view)
      (second : ReportOn other.guest other.trace view) → first.texts ≡ second.texts → first.text ≡ second.text
  reports_same view first second equal =
      let p = first.report.profile in
      let q = second.report.profile in
      let events = first.report.of_run.rows.events ∙ (λ i. events_in (head_of_run (one.guest_is i)))
      ∙ (λ i. events_in (head_of_run (sym other.guest_is i))) ∙ sym second.report.of_run.rows.events in
      let sort = one_place view.sort p q first.sort second.sort first.report.of_run.profile events first.sorted second.sorted in
      let options = report_options view first.sort in
      same_report guest can other.syms same one.trace makes could options first.texts first.text second.text
      (subst (λ g. IsReportOfRun g one.trace options first.texts first.text) one.guest_is first.report)
      (subst (λ g. IsReportOfRun g one.trace options first.texts second.text) other.guest_is
      (subst (λ t. IsReportOfRun other.guest one.trace options t second.text) (sym equal)
      (subst (λ s. IsReportOfRun other.guest one.trace (report_options view s) second.texts second.text) (sym sort)
      (subst (λ xs. IsReportOfRun other.guest xs (report_options view second.sort) second.texts second.text)
      (sym traces_same) second.report))))

-- ---- commands

-- what two commands of one job loaded, over folders that tell the same
pub loads_same : (old other : Outside) (contents : Files) (job : Job) (put more : RunFiles) (status end : Status)
    (new left : Outside) (first : HasRun old job put status new) (second : HasRun other job more end left)
    → old.files ≡ Some contents → other.files ≡ Some contents
    → (first.program ≡ second.program) × (first.input ≡ second.input)
loads_same old other contents job put more status end new left first second told also = (
  one_load contents (program_of job.args) file_limit old.load_faults new.load_faults other.load_faults
      left.load_faults first.program second.program
      (subst (λ files. IsLoad files (program_of job.args) file_limit old.load_faults new.load_faults
      (Ok first.program)) told first.loaded)
      (subst (λ files. IsLoad files (program_of job.args) file_limit other.load_faults left.load_faults
      (Ok second.program)) also second.loaded),
  one_input contents job.input text_limit old.load_faults new.load_faults other.load_faults left.load_faults first.input
      second.input
      (subst (λ files. IsLoadIf files job.input text_limit old.load_faults new.load_faults (Ok first.input)) told first.fed)
      (subst (λ files. IsLoadIf files job.input text_limit other.load_faults left.load_faults (Ok second.input)) also
      second.fed),
)

module _ (old other : Outside) (job : Job) (put more : RunFiles) (status end : Status) (new left : Outside)
    (first : HasRun old job put status new) (second : HasRun other job more end left)
    (one_can : CanRun first.run.guest) (other_can : CanRun second.run.guest)
    (same : first.program ≡ second.program) (equal : first.input ≡ second.input) where
  abbrev pub run : RunOf job second.program second.input
  run = moved same equal first.run

  pub status_same : status ≡ end
  status_same =
      first.status_is
      ∙ ap (λ (s : Stop). end_status s.end) (stops_same job second.program second.input run second.run one_can other_can)
      ∙ sym second.status_is

  pub folder_same : run_files put run ≡ run_files more second.run → old.files ≡ other.files → new.files ≡ left.files
  folder_same files folders =
      first.files ∙ (λ i. option_map (with_files (files i)) (folders i)) ∙ sym second.files
