-- The parts of a run, loaded again from the folder into which they were put.
use Rattle.std.proofs.Common.{◌≡◌, ◌≢◌, ◌⊎◌, ℕ, zero, suc, ◌<◌, ◌≤◌, ◌^◌, Bool, true}
use Rattle.std.proofs.Common.{false, cond, List, [], ◌∷◌, length, map}
use Rattle.std.proofs.Common.{Option, None, Some, unwrap_or, Result, Ok, Err, Vec, refl, sym, ap, subst, ◌∙◌}
use Rattle.std.proofs.Common.{arith, All, AllPairs, inl, inr}
use Rattle.std.specs.List.{AllByRecursion}
use Rattle.std.specs.FinMap.{get-insert}
use Rattle.std.specs.Ordering.{nat_cmp, eq_by_cmp}
use Rattle.std.specs.Cmp.Lexicographic.{texts_ties, nat_list_cmp_total, slice_cmp}
use Rattle.std.specs.Str.{bytes_eq}
use Rattle.std.proofs.lemmas.List.{length-map}
use Rattle.std.proofs.lemmas.List.Elements.{All-from_recursion, All-weaker}
use Rattle.std.proofs.lemmas.Slice.Eq.{bytes_eq-Decides}
use Rattle.std.specs.declared.alloc.Global.{Global}
use Rattle.outside.specs.Files.{Files, Rose, file, with_file}
use Rattle.outside.specs.Load.{Load, ToldLoad, bytes_of, load_of}
use Rattle.outside.specs.Outside.{Named, with_files}
use Rattle.outside.specs.declared.folder.LoadError.{LoadError}
use Rattle.outside.specs.declared.folder.LoadError.TheVariants as load
use Rattle.cg_read.specs.Meaning.{or_else}
use Rattle.cg_read.specs.Merge.{longer}
use Rattle.cg_read.specs.Profiles.{Contents, IsProfile, SaysTheSame}
use Rattle.cg_read.specs.AddressReading.{first_bad_of}
use Rattle.cg_format.specs.declared.head.PartHead.{PartHead}
use Rattle.arc_costs.specs.Contents.{Listed}
use Rattle.part_dump.specs.Steps.{Step, thread_of}
use Rattle.part_dump.proofs.ApartLemmas.{files_apart}
use Rattle.profile_files.specs.Joined.{Joins}
use Rattle.profile_files.specs.Loads.{AreLoads, IsLoad}
use Rattle.profile_files.specs.Reading.{IsReading, events_fault, events_of, format_fault, load_fault, reading_fault}
use Rattle.profile_files.specs.declared.fault.ReadFault.{ReadFault}
use Rattle.profile_files.specs.declared.fault.ReadFault.TheVariants.{LoadFault, OutOfMemory}
use Rattle.profile_run.specs.Program.{Program, head_of_run, CanRun}
use Rattle.recorder.specs.Rows.{rows_of}
use Rattle.profile_run.specs.Trace.{Makes, Stop, RunStep, steps_of}
use Rattle.reads_back.specs.Joined.{events_in, first_command, no_rows_of}
use Rattle.reads_back.specs.Rows.{IsOfRows}
use Rattle.reads_back.proofs.AllPartsLemmas.{IsPartText, all_joined, events_agree, each_text, joins_exist, read_on}
use Rattle.reads_back.proofs.ExistsLemmas.{no_rows_profile}
use Rattle.run_laws.proofs.Others.{longer_same}
use Rattle.reads_back.proofs.PartLemmas.{alike}
use Rattle.run_laws.specs.OwnParts.{IsOwnFault, files_of_run, texts_of_files, with_their_lengths}
use Rattle.run_laws.specs.Profiles.{IsProfileOfRun}
use Rattle.run_laws.specs.Runs.{command_of_run, parts_written, rows_of_run}
use Rattle.run_laws.proofs.EventLemmas.{small_numbers}
use Rattle.run_laws.proofs.PartLemmas.{are_parts, command_is, rows_same, texts_same}
use Rattle.byte_text.specs.Memory.{memory}

-- ---- what a folder holds after puts

same_name : (name other : List ℕ) → other ≢ name → eq_by_cmp (slice_cmp nat_cmp) other name ≡ false
same_name name other differ = sym (texts_ties other name) ∙ by (bytes_eq other name) refl
  where
    by : (b : Bool) → bytes_eq other name ≡ b → b ≡ false
    by true is = absurd (differ ((bytes_eq-Decides other name).0 is))
    by false is = refl

own_name : (name : List ℕ) → eq_by_cmp (slice_cmp nat_cmp) name name ≡ true
own_name name = sym (texts_ties name name) ∙ (bytes_eq-Decides name name).1 refl

put_there : (files : Files) (name bytes : List ℕ) → file (with_file files name bytes) name ≡ Some bytes
put_there files name bytes =
    get-insert nat_list_cmp_total files name bytes name
    ∙ ap (λ b. cond b (Some bytes) (file files name)) (own_name name)

put_beside : (files : Files) (name bytes other : List ℕ) → other ≢ name
    → file (with_file files name bytes) other ≡ file files other
put_beside files name bytes other differ =
    get-insert nat_list_cmp_total files name bytes other
    ∙ ap (λ b. cond b (Some bytes) (file files other)) (same_name name other differ)

all_beside : (put : List Named) (files : Files) (name : List ℕ) → AllByRecursion (λ (f : Named). name ≢ f.0) put
    → file (with_files put files) name ≡ file files name
all_beside [] files name differ = refl
all_beside (f ∷ put) files name differ =
    all_beside put (with_file files f.0 f.1) name differ.1 ∙ put_beside files f.0 f.1 name differ.0

abbrev pub AreApart : List Named → Type 0
AreApart files = AllPairs (λ f g. f.0 ≢ g.0) files

later_differ : (f : Named) (files : List Named) → AreApart (f ∷ files)
    → AllByRecursion (λ (g : Named). f.0 ≢ g.0) files
later_differ f [] apart = tt
later_differ f (g ∷ files) apart = (
  apart 0 1 f (omega arith) (omega arith),
  later_differ f files (without_second apart),
)
  where
    without_second : AreApart (f ∷ (g ∷ files)) → AreApart (f ∷ files)
    without_second all zero zero d lt within = absurd (omega (arith, lt))
    without_second all zero (suc j) d lt within = all 0 (suc (suc j)) d (omega arith) (omega (arith, within))
    without_second all (suc i) zero d lt within = absurd (omega (arith, lt))
    without_second all (suc i) (suc j) d lt within =
        all (suc (suc i)) (suc (suc j)) d (omega (arith, lt)) (omega (arith, within))

rest_apart : (f : Named) (files : List Named) → AreApart (f ∷ files) → AreApart files
rest_apart f files apart i j d lt within = apart (suc i) (suc j) d (omega (arith, lt)) (omega (arith, within))

abbrev pub IsHeld : Files → Named → Type 0
IsHeld contents f = file contents f.0 ≡ Some f.1

pub all_held : (put : List Named) (files : Files) → AreApart put → AllByRecursion (IsHeld (with_files put files)) put
all_held [] files apart = tt
all_held (f ∷ put) files apart = (
  all_beside put (with_file files f.0 f.1) f.0 (later_differ f put apart) ∙ put_there files f.0 f.1,
  all_held put (with_file files f.0 f.1) (rest_apart f put apart),
)

-- ---- loads of what is held

module _ (contents : Files) (before now : ℕ) where
  -- the whole text, or a fault that isn't the text's
  abbrev IsFound : List ℕ → List ℕ → Load → Type 0
  IsFound name text found =
      (found ≡ Ok text)
      ⊎ ((load_fault name found ≡ Some (OutOfMemory memory))
      ⊎ ((load_fault name found ≡ Some (LoadFault name)) × Rose before now))

  answer_found : (name text : List ℕ) (answer : Result (Vec ℕ Global) LoadError) → file contents name ≡ Some text
      → ToldLoad contents name (length text) before now answer → IsFound name text (load_of answer)
  answer_found name text (Ok bytes) folder_holds told =
      let same : bytes.items ≡ text = some_same bytes.items text (sym told.0 ∙ folder_holds) in
      inl (ap (λ (items : List ℕ). let l : Load = Ok items in l) same)
    where
      some_same : (a b : List ℕ) → Some a ≡ Some b → a ≡ b
      some_same a b e = cc
  answer_found name text (Err load.Failed) folder_holds (inl none) = absurd (none_some (sym none ∙ folder_holds))
    where
      none_some : None ≡ Some text → ⊥
      none_some e = cc
  answer_found name text (Err load.Failed) folder_holds (inr rose) = inr (inr (refl, rose))
  answer_found name text (Err (load.TooLong len)) folder_holds told =
      let same : told.0 ≡ text = some_same told.0 text (sym told.1 ∙ folder_holds) in
      let long : length told.0 ≡ length text = ap length same in
      absurd (omega (arith, long, told.2, told.3))
    where
      some_same : (a b : List ℕ) → Some a ≡ Some b → a ≡ b
      some_same a b e = cc
  answer_found name text (Err (load.OutOfMemory _)) folder_holds told = inr (inl refl)

  load_found : (name text : List ℕ) (found : Load) → file contents name ≡ Some text
      → IsLoad (Some contents) name (length text) before now found → IsFound name text found
  load_found name text found folder_holds is =
      subst (IsFound name text) (sym is.is) (answer_found name text is.answer folder_holds is.answers)

  abbrev pub IsOwnStop : Option ReadFault → Type 0
  IsOwnStop None = Unit {0}
  IsOwnStop (Some fault) = IsOwnFault before now fault

  pub stop_is : (o : Option ReadFault) → IsOwnStop o → IsOwnFault before now (unwrap_or o (OutOfMemory memory))
  stop_is None is = inl refl
  stop_is (Some fault) is = is

  module _ (head : PartHead) where
    abbrev pub names : List (List ℕ)
    names = events_in head

    -- a file that is held, whose text is that of a part
    abbrev pub IsOwn : Named → Type 0
    IsOwn f = (first_bad_of f.1 ≡ None) × (events_of f.1 ≡ names) × IsHeld contents f

    goes_on : (f : Named) (files : List Named) (loads : List Load) → IsOwn f
        → reading_fault names (with_their_lengths (f ∷ files)) (Ok f.1 ∷ loads)
        ≡ reading_fault names (with_their_lengths files) loads
    goes_on f files loads own =
        read_on names names f.1 (record { name = f.0; limit = length f.1 }) (with_their_lengths files) loads
        (events_agree head) (longer_same names) own.0 own.1

    load_stops : (f : Named) (files : List Named) (found : Load) (loads : List Load) (fault : ReadFault)
        → load_fault f.0 found ≡ Some fault
        → reading_fault names (with_their_lengths (f ∷ files)) (found ∷ loads) ≡ Some fault
    load_stops f files found loads fault is =
        let rest = reading_fault (longer names (events_of (bytes_of found))) (with_their_lengths files) loads in
        let other = or_else (format_fault f.0 (bytes_of found)) (events_fault f.0 names (events_of (bytes_of found))) in
        λ i. or_else (or_else (is i) other) rest

    pub stops_own : (files : List Named) (loads : List Load) → AllByRecursion IsOwn files
        → AreLoads (Some contents) before now (with_their_lengths files) loads
        → IsOwnStop (reading_fault names (with_their_lengths files) loads)
    stops_own [] loads own met = tt
    stops_own (f ∷ files) [] own met = inl refl
    stops_own (f ∷ files) (found ∷ loads) own met =
        by (load_found f.0 f.1 found own.0.2 met.0) (stops_own files loads own.1 met.1)
      where
        by : IsFound f.0 f.1 found → IsOwnStop (reading_fault names (with_their_lengths files) loads)
            → IsOwnStop (reading_fault names (with_their_lengths (f ∷ files)) (found ∷ loads))
        by (inl is) rest =
            subst (λ (l : Load). IsOwnStop (reading_fault names (with_their_lengths (f ∷ files)) (l ∷ loads))) (sym is)
            (subst IsOwnStop (sym (goes_on f files loads own.0)) rest)
        by (inr (inl wanting)) rest =
            subst IsOwnStop (sym (load_stops f files found loads (OutOfMemory memory) wanting)) (inl refl)
        by (inr (inr failed)) rest =
            subst IsOwnStop (sym (load_stops f files found loads (LoadFault f.0) failed.0))
            (inr (f.0, refl, failed.1))

    pub all_loaded : (files : List Named) (loads : List Load) → AllByRecursion IsOwn files
        → AreLoads (Some contents) before now (with_their_lengths files) loads
        → reading_fault names (with_their_lengths files) loads ≡ None → length loads ≡ length files
        → map bytes_of loads ≡ texts_of_files files
    all_loaded [] [] own met none long = refl
    all_loaded [] (found ∷ loads) own met none long = absurd (omega (arith, long))
    all_loaded (f ∷ files) [] own met none long = absurd (omega (arith, long))
    all_loaded (f ∷ files) (found ∷ loads) own met none long =
        by (load_found f.0 f.1 found own.0.2 met.0)
        (λ more. all_loaded files loads own.1 met.1 more (omega (arith, long)))
      where
        stopped : (fault : ReadFault) → load_fault f.0 found ≡ Some fault → ⊥
        stopped fault is = none_some (sym none ∙ load_stops f files found loads fault is)
          where
            none_some : None ≡ Some fault → ⊥
            none_some e = cc

        by : IsFound f.0 f.1 found
            → (reading_fault names (with_their_lengths files) loads ≡ None → map bytes_of loads ≡ texts_of_files files)
            → map bytes_of (found ∷ loads) ≡ texts_of_files (f ∷ files)
        by (inl is) later =
            let rest =
            later (sym (goes_on f files loads own.0)
            ∙ ap (λ (l : Load). reading_fault names (with_their_lengths (f ∷ files)) (l ∷ loads)) (sym is) ∙ none) in
            λ i. bytes_of (is i) ∷ rest i
        by (inr (inl wanting)) later = absurd (stopped (OutOfMemory memory) wanting)
        by (inr (inr failed)) later = absurd (stopped (LoadFault f.0) failed.0)

-- ---- the parts of a run

module _ (guest : Program) (can : CanRun guest) (trace : List RunStep) (makes : Makes guest trace) (stop : Stop) where
  abbrev head : PartHead
  head = head_of_run guest

  abbrev put : List Named
  put = files_of_run guest trace stop

  pub names_differ : AreApart put
  names_differ =
      files_apart (rows_of guest.syms) head guest.syms guest.options.base guest.options.dump_points (steps_of trace)
      (All-weaker (λ (x : Step). thread_of x ≤ 65535) (λ (x : Step). thread_of x < 2 ^ 32)
      (λ x small. omega (arith, small)) (steps_of trace) (small_numbers guest can trace makes))

  pub folder_holds : (old : Files) → All (IsHeld (with_files put old)) put
  folder_holds old = All-from_recursion (IsHeld (with_files put old)) put (all_held put old names_differ)

  pub joined_is : (p : Contents) → IsProfile p → Joins (no_rows_of head) (texts_of_files put) p
      → IsProfileOfRun guest trace p
  joined_is p profile joins = record {
    profile = profile;
    rows = subst (λ (command : Option (List ℕ)). IsOfRows head command (rows_of_run guest trace) guest.syms p)
        (command_is guest can trace makes)
        (subst (λ (rows : Listed). IsOfRows head (first_command (parts_written guest trace)) rows guest.syms p)
        (rows_same guest trace)
        (all_joined head guest.syms can.sound (parts_written guest trace) p (are_parts guest can trace makes)
        (subst (λ (texts : List (List ℕ)). Joins (no_rows_of head) texts p) (texts_same guest trace stop) joins)));
  }

  pub exists : (p : Contents) × IsProfile p × Joins (no_rows_of head) (texts_of_files put) p
  exists =
      subst (λ (texts : List (List ℕ)). (p : Contents) × IsProfile p × Joins (no_rows_of head) texts p)
      (sym (texts_same guest trace stop))
      (joins_exist head guest.syms can.sound (no_rows_of head) (parts_written guest trace) (no_rows_profile head) refl
      (are_parts guest can trace makes))

  own_texts : AllByRecursion (IsPartText head) (texts_of_files put)
  own_texts =
      subst (AllByRecursion (IsPartText head)) (sym (texts_same guest trace stop))
      (each_text head guest.syms can.sound (parts_written guest trace) (are_parts guest can trace makes))

  module _ (old : Files) (before now : ℕ) where
    abbrev contents : Files
    contents = with_files put old

    both : (files : List Named) → AllByRecursion (IsPartText head) (texts_of_files files)
        → AllByRecursion (IsHeld contents) files → AllByRecursion (IsOwn contents before now head) files
    both [] texts there = tt
    both (f ∷ files) texts there = ((texts.0.0, texts.0.1, there.0), both files texts.1 there.1)

    all_own : AllByRecursion (IsOwn contents before now head) put
    all_own = both put own_texts (all_held put old names_differ)

    pub read_is_run : (p : Contents) → IsProfile p
        → IsReading (Some contents) before now (no_rows_of head) (with_their_lengths put) (Ok p)
        → IsProfileOfRun guest trace p
    read_is_run p profile reading =
        let long : length reading.loads ≡ length put
        = reading.answers.1 ∙ length-map put (λ (f : Named). record { name = f.0; limit = length f.1 }) in
        joined_is p profile
        (subst (λ (texts : List (List ℕ)). Joins (no_rows_of head) texts p)
        (all_loaded contents before now head put reading.loads all_own reading.met reading.answers.0 long)
        reading.answers.2)

    pub refused_is_own : (fault : ReadFault)
        → IsReading (Some contents) before now (no_rows_of head) (with_their_lengths put) (Err fault)
        → IsOwnFault before now fault
    refused_is_own fault reading =
        subst (IsOwnFault before now) (sym reading.answers)
        (stop_is contents before now (reading_fault (events_in head) (with_their_lengths put) reading.loads)
        (stops_own contents before now head put reading.loads all_own reading.met))

pub one_profile : (guest : Program) (trace : List RunStep) (p q : Contents) → IsProfileOfRun guest trace p
    → IsProfileOfRun guest trace q → SaysTheSame p q
one_profile guest trace p q is other =
    alike (head_of_run guest) (command_of_run guest trace) (rows_of_run guest trace) guest.syms p q is.rows other.rows
