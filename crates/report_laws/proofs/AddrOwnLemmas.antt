-- The parts of a run by address, read again from the folder into which they were put.
use Rattle.std.proofs.Common.{◌≡◌, ℕ, List, [], ◌∷◌, length, map, Some, Ok, Err, refl, sym, ap, subst}
use Rattle.std.proofs.Common.{◌∙◌}
use Rattle.std.specs.List.{AllByRecursion}
use Rattle.std.proofs.lemmas.List.{length-map}
use Rattle.event_costs.specs.Costs.{event_names, events_shown}
use Rattle.outside.specs.Files.{Files}
use Rattle.outside.specs.Outside.{Named, with_files}
use Rattle.sym_map.specs.SymbolMap.{SymbolMap}
use Rattle.arc_costs.specs.Contents.{Listed}
use Rattle.cg_format.specs.declared.head.PartHead.{PartHead}
use Rattle.cg_read.specs.Profiles.{Contents, IsProfile}
use Rattle.profile_files.specs.Joined.{Joins}
use Rattle.profile_files.specs.Reading.{IsReading, reading_fault}
use Rattle.profile_files.specs.declared.fault.ReadFault.{ReadFault}
use Rattle.profile_run.specs.Program.{Program, head_of_run, CanRun}
use Rattle.recorder.specs.Rows.{rows_of}
use Rattle.profile_run.specs.Trace.{Makes, Stop, RunStep, steps_of}
use Rattle.reads_back.specs.Joined.{AreOfOneRun, events_in, first_command, no_rows_of, rows_of_all}
use Rattle.reads_back.specs.Rows.{IsOfRows}
use Rattle.report_laws.proofs.Others.{IsPartText, ReadAs, read_joined, AreApart, IsHeld, IsOwn, all_held, all_loaded}
use Rattle.report_laws.proofs.Others.{names_differ, stop_is, stops_own, command_is, rows_same, map_map}
use Rattle.run_laws.specs.OwnParts.{IsOwnFault, texts_of_files, with_their_lengths}
use Rattle.run_laws.specs.Runs.{command_of_run, parts_written, rows_of_run}
use Rattle.addr_rows.specs.Texts.{addr_text}
use Rattle.run_laws.specs.Addresses.{addr_parts}
use Rattle.report_laws.specs.Rows.{AreEntriesSmall, AreWritable}
use Rattle.report_laws.proofs.AddrPartLemmas.{events_are, no_bad, only_lines}
use Rattle.report_laws.proofs.RunRowLemmas.{rows_equal_sums, rows_writable}
use Rattle.report_laws.specs.Sums.{HaveEqualSums, StandsFor}
use Rattle.report_laws.proofs.StandLemmas.{stands_for}
use Rattle.report_laws.proofs.AddrOwnPartLemmas.{AddrPart, addr_files_are, apart_as, each_part}
use Rattle.report_laws.proofs.AddrOwnPartLemmas.{parts_by_address, plain_parts_are}
use Rattle.report_laws.proofs.AddrOwnPartLemmas.{same_names}
use Rattle.report_laws.proofs.SumLemmas.{HasEqualSums, all_equal, as_plain}

first_same : (parts : List AddrPart)
    → first_command (map as_plain parts) ≡ first_command (map (λ (p : AddrPart). p.part) parts)
first_same [] = refl
first_same (p ∷ parts) = refl

-- ---- of every run

module _ (guest : Program) (can : CanRun guest) (trace : List RunStep) (makes : Makes guest trace) (stop : Stop)
    (entries : AreEntriesSmall guest.syms) where
  abbrev pub head : PartHead
  head = head_of_run guest

  abbrev pub m : SymbolMap
  m = guest.syms

  abbrev parts : List AddrPart
  parts = parts_by_address (rows_of m) head m guest.options.base guest.options.dump_points (steps_of trace)

  abbrev text : AddrPart → List ℕ
  text p = addr_text p.part.head p.rows m

  abbrev pub put : List Named
  put = (addr_parts guest).whole (steps_of trace) stop.tried

  -- ---- each part

  record IsGood (p : AddrPart) : Type 0 where
    run : AreOfOneRun head p.part.head
    fits : AreWritable m p.rows
    sums : HasEqualSums p

  all_good : AllByRecursion IsGood parts
  all_good =
      each_part (rows_of m) head m guest.options.base IsGood (steps_of trace)
      (λ number trigger thread segment piece. record {
        run = record { object = refl; branch = refl };
        fits = rows_writable guest trace thread segment can makes piece;
        sums = rows_equal_sums guest trace thread segment can makes piece;
      }) guest.options.dump_points

  each_weaker : {X : Type 0} (P Q : X → Type 0) → ((x : X) → P x → Q x) → (xs : List X) → AllByRecursion P xs
      → AllByRecursion Q xs
  each_weaker P Q weaker [] all = tt
  each_weaker P Q weaker (x ∷ xs) all = (weaker x all.0, each_weaker P Q weaker xs all.1)

  -- ---- what they read as together

  read_as : (ps : List AddrPart) → AllByRecursion IsGood ps → ReadAs head m can.sound (map as_plain ps) (map text ps)
  read_as [] good = tt
  read_as (p ∷ ps) good = (
    record {
      run = good.0.run;
      whole = good.0.sums.others_counted.whole;
      rows = λ read reads. only_lines p.part.head p.rows m can.sound entries good.0.fits read reads;
    },
    read_as ps good.1,
  )

  part_texts : (ps : List AddrPart) → AllByRecursion IsGood ps → AllByRecursion (IsPartText head) (map text ps)
  part_texts [] good = tt
  part_texts (p ∷ ps) good = (
    (
      no_bad p.part.head p.rows m can.sound entries good.0.fits,
      events_are p.part.head p.rows m can.sound entries good.0.fits
          ∙ ap (λ b. events_shown b event_names) good.0.run.branch,
    ),
    part_texts ps good.1,
  )

  abbrev all : Listed
  all = rows_of_all (map as_plain parts)

  plain_are : map (λ (p : AddrPart). p.part) parts ≡ parts_written guest trace
  plain_are = plain_parts_are (rows_of m) head m guest.options.base guest.options.dump_points (steps_of trace)

  sums_are : HaveEqualSums (rows_of_run guest trace) all
  sums_are =
      subst (λ (rows : Listed). HaveEqualSums rows all)
      (ap rows_of_all plain_are ∙ rows_same guest trace)
      (all_equal parts (each_weaker IsGood HasEqualSums (λ p good. good.sums) parts all_good))

  texts_are : texts_of_files put ≡ map text parts
  texts_are =
      ap (map (λ (f : Named). f.1))
      (sym (addr_files_are (rows_of m) head m guest.options.base guest.options.dump_points (steps_of trace)))
      ∙ map_map (λ (f : Named). f.1) _ parts

  pub texts_again : AllByRecursion (IsPartText head) (texts_of_files put)
  texts_again = subst (AllByRecursion (IsPartText head)) (sym texts_are) (part_texts parts all_good)

  joined_are : (q : Contents) → Joins (no_rows_of head) (texts_of_files put) q
      → IsOfRows head (command_of_run guest trace) all m q
  joined_are q joins =
      subst (λ command. IsOfRows head command all m q)
      (first_same parts ∙ ap first_command plain_are ∙ command_is guest can trace makes)
      (read_joined head m can.sound (map as_plain parts) (map text parts) q (read_as parts all_good)
      (subst (λ (texts : List (List ℕ)). Joins (no_rows_of head) texts q) texts_are joins))

  pub joined_stands : (q : Contents) → IsProfile q → Joins (no_rows_of head) (texts_of_files put) q
      → StandsFor head (command_of_run guest trace) (rows_of_run guest trace) m q
  joined_stands q profile joins =
      stands_for head (command_of_run guest trace) (rows_of_run guest trace) all m q sums_are profile
      (joined_are q joins)

  -- ---- from the folder

  apart : AreApart put
  apart =
      apart_as _ put (same_names (rows_of m) head m guest.options.base guest.options.dump_points (steps_of trace))
      (names_differ guest can trace makes stop)

  module _ (old : Files) (before now : ℕ) where
    abbrev pub contents : Files
    contents = with_files put old

    own_from : (fs : List Named) → AllByRecursion (IsPartText head) (texts_of_files fs)
        → AllByRecursion (IsHeld contents) fs → AllByRecursion (IsOwn contents before now head) fs
    own_from [] texts held = tt
    own_from (f ∷ fs) texts held = ((texts.0.0, texts.0.1, held.0), own_from fs texts.1 held.1)

    all_own : AllByRecursion (IsOwn contents before now head) put
    all_own = own_from put texts_again (all_held put old apart)

    pub read_stands : (q : Contents) → IsProfile q
        → IsReading (Some contents) before now (no_rows_of head) (with_their_lengths put) (Ok q)
        → StandsFor head (command_of_run guest trace) (rows_of_run guest trace) m q
    read_stands q profile reading =
        let long : length reading.loads ≡ length put
        = reading.answers.1 ∙ length-map put (λ (f : Named). record { name = f.0; limit = length f.1 }) in
        joined_stands q profile
        (subst (λ (texts : List (List ℕ)). Joins (no_rows_of head) texts q)
        (all_loaded contents before now head put reading.loads all_own reading.met reading.answers.0 long)
        reading.answers.2)

    pub refused_is_own : (fault : ReadFault)
        → IsReading (Some contents) before now (no_rows_of head) (with_their_lengths put) (Err fault)
        → IsOwnFault before now fault
    refused_is_own fault reading =
        subst (IsOwnFault before now) (sym reading.answers)
        (stop_is contents before now (reading_fault (events_in head) (with_their_lengths put) reading.loads)
        (stops_own contents before now head put reading.loads all_own reading.met))
