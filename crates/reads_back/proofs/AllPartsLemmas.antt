-- The parts of a run, read and joined one after another.
use Rattle.std.proofs.Common.{◌≡◌, ℕ, ◌<◌, Bool, true, false, List, [], ◌∷◌, length, map}
use Rattle.std.proofs.Common.{Option, None, Some, option_map, Ok, refl, sym, ap, ◌∙◌, subst, arith}
use Rattle.std.proofs.Common.{append-nil, append_assoc, if◌then◌else◌}
use Rattle.std.specs.List.{AllByRecursion}
use Rattle.std.specs.Option.{unwrap_or}
use Rattle.std.proofs.lemmas.Bool.{lt-ltb}
use Rattle.std.proofs.lemmas.List.Elements.{All-head, All-tail}
use Rattle.event_costs.specs.Costs.{event_names, events_shown}
use Rattle.arc_costs.specs.Contents.{Listed}
use Rattle.sym_map.specs.SymbolMap.{SymbolMap, IsSound}
use Rattle.cg_format.specs.Part.{part_text}
use Rattle.cg_format.specs.declared.head.PartHead.{PartHead}
use Rattle.cg_read.specs.Meaning.{or_else}
use Rattle.cg_read.specs.Merge.{agree, longer}
use Rattle.cg_read.specs.Profiles.{Contents, IsProfile, SaysTheSame}
use Rattle.cg_read.specs.Reading.{Reads}
use Rattle.cg_read.specs.AddressReading.{ReadsLines, first_bad_of}
use Rattle.cg_read.proofs.PlainLemmas.{lines_read, plain_sound, reads_lines}
use Rattle.profile_files.specs.Joined as files
use Rattle.profile_files.specs.Joined.{Joins}
use Rattle.outside.specs.Load.{Load}
use Rattle.profile_files.specs.Reading.{events_fault, events_of, reading_fault, refusal_of}
use Rattle.profile_files.specs.WantedFile.{WantedFile}
use Rattle.profile_files.specs.declared.fault.ReadFault.TheVariants.{EventsDiffer}
use Rattle.profile_files.proofs.BlankLemmas.{blank_agrees}
use Rattle.reads_back.specs.Joined.{AreOfOneRun, ArePartsOfRun, AreWhole, WrittenPart, events_in, first_command}
use Rattle.reads_back.specs.Joined.{no_rows, no_rows_of, rows_of_all, texts_of, together}
use Rattle.reads_back.specs.Rows.{AreWritable, IsOfRows, command_of}
use Rattle.reads_back.proofs.BothLemmas.{there_is_joined}
use Rattle.reads_back.proofs.ExistsLemmas.{there_is}
use Rattle.reads_back.proofs.JoinedLemmas.{both_whole, longer_same, nothing_joined, one_more_profile, whole_rows}
use Rattle.reads_back.proofs.PartLemmas.{alike, only_part, reads_part, sound_part}

-- Lists of parts

first_of : (head : PartHead) (m : SymbolMap) (part : WrittenPart) (parts : List WrittenPart)
    → ArePartsOfRun head m (part ∷ parts) → AreOfOneRun head part.head × AreWritable m part.rows
first_of head m part parts are = (
  All-head (λ (p : WrittenPart). AreOfOneRun head p.head) part parts are.one_run,
  All-head (λ (p : WrittenPart). AreWritable m p.rows) part parts are.writable,
)

rest_of : (head : PartHead) (m : SymbolMap) (part : WrittenPart) (parts : List WrittenPart)
    → ArePartsOfRun head m (part ∷ parts) → ArePartsOfRun head m parts
rest_of head m part parts are = record {
  one_run = All-tail (λ (p : WrittenPart). AreOfOneRun head p.head) part parts are.one_run;
  writable = All-tail (λ (p : WrittenPart). AreWritable m p.rows) part parts are.writable;
}

command_then : (command : Option (List ℕ)) (first : List ℕ) (later : Option (List ℕ))
    → or_else (or_else command (Some first)) later ≡ or_else command (Some first)
command_then None first later = refl
command_then (Some given) first later = refl

command_alone : (command : Option (List ℕ)) → command ≡ or_else command None
command_alone None = refl
command_alone (Some given) = refl

rows_alone : (rows : Listed) → rows ≡ together rows (rows_of_all [])
rows_alone rows i = record { lines = sym (append-nil rows.lines) i; arcs = sym (append-nil rows.arcs) i }

rows_after : (earlier : Listed) (part : WrittenPart) (parts : List WrittenPart)
    → together (together earlier part.rows) (rows_of_all parts) ≡ together earlier (rows_of_all (part ∷ parts))
rows_after earlier part parts i = record {
  lines = append_assoc earlier.lines part.rows.lines (rows_of_all parts).lines i;
  arcs = append_assoc earlier.arcs part.rows.arcs (rows_of_all parts).arcs i;
}

longer_of_none : (names : List (List ℕ)) → longer [] names ≡ names
longer_of_none [] = refl
longer_of_none (name ∷ names) =
    ap (λ (b : Bool). if b then name ∷ names else []) (lt-ltb 0 (length (name ∷ names)) (omega arith))

-- A file without a bad line, whose events agree with those before it, doesn't stop the reading
pub read_on : (before own : List (List ℕ)) (text : List ℕ) (w : WantedFile) (wanted : List WantedFile) (loads : List Load)
    → agree before own ≡ true → longer before own ≡ own → first_bad_of text ≡ None → events_of text ≡ own
    → reading_fault before (w ∷ wanted) (Ok text ∷ loads) ≡ reading_fault own wanted loads
read_on before own text w wanted loads agreed same sound named =
    (λ i. or_else (or_else (option_map (refusal_of w.name) (sound i)) (events_fault w.name before (named i)))
    (reading_fault (longer before (named i)) wanted loads))
    ∙ (λ i. or_else (if agreed i then None else Some (EventsDiffer w.name)) (reading_fault (same i) wanted loads))

pub events_agree : (head : PartHead) → agree (events_in head) (events_in head) ≡ true
unfolding event_names
events_agree head = go head.branch
  where
    go : (b : Bool) → agree (events_shown b event_names) (events_shown b event_names) ≡ true
    go true = refl
    go false = refl

-- a text is read without a fault, and has the events of the run
abbrev pub IsPartText : PartHead → List ℕ → Type 0
IsPartText head text = (first_bad_of text ≡ None) × (events_of text ≡ events_in head)

-- The profile that joins parts to one of earlier rows

module _ (head : PartHead) (m : SymbolMap) (sound : IsSound m) where
  restated : (c d : Option (List ℕ)) (xs ys : Listed) (p : Contents) → c ≡ d → xs ≡ ys
      → IsOfRows head c xs m p → IsOfRows head d ys m p
  restated c d xs ys p e f is =
      subst (λ (o : Option (List ℕ)). IsOfRows head o ys m p) e
      (subst (λ (rows : Listed). IsOfRows head c rows m p) f is)

  -- a part is a file without addresses
  without_fault : (part : WrittenPart) → AreWritable m part.rows
      → first_bad_of (part_text part.head part.rows m) ≡ None
  without_fault part fits =
      plain_sound (part_text part.head part.rows m) (sound_part part.head part.rows m sound fits)

  without_addresses : (part : WrittenPart) (read : Contents) → AreWritable m part.rows
      → ReadsLines (part_text part.head part.rows m) read → Reads (part_text part.head part.rows m) read
  without_addresses part read fits reads =
      lines_read (part_text part.head part.rows m) read (sound_part part.head part.rows m sound fits) reads

  -- Whatever the text reads as is of the rows of the part.
  pub record ReadsAs (part : WrittenPart) (text : List ℕ) : Type 0 where
    pub run : AreOfOneRun head part.head
    pub whole : AreWhole part.rows
    pub rows : (read : Contents) → ReadsLines text read
        → IsOfRows part.head (command_of part.head) part.rows m read

  abbrev pub ReadAs : List WrittenPart → List (List ℕ) → Type 0
  ReadAs [] [] = Unit {0}
  ReadAs (part ∷ parts) (text ∷ texts) = ReadsAs part text × ReadAs parts texts
  ReadAs _ _ = ⊥

  pub texts_joined : (command : Option (List ℕ)) (earlier : Listed) (before : Contents) (parts : List WrittenPart)
      (texts : List (List ℕ)) (p : Contents) → AreWhole earlier → IsOfRows head command earlier m before
      → ReadAs parts texts → Joins before texts p
      → IsOfRows head (or_else command (first_command parts)) (together earlier (rows_of_all parts)) m p
  texts_joined command earlier before [] [] p whole old are joins =
      restated command (or_else command None) earlier (together earlier (rows_of_all [])) p (command_alone command)
      (rows_alone earlier) (subst (λ (q : Contents). IsOfRows head command earlier m q) (sym joins) old)
  texts_joined command earlier before [] (text ∷ texts) p whole old are joins = absurd are
  texts_joined command earlier before (part ∷ parts) [] p whole old are joins = absurd are
  texts_joined command earlier before (part ∷ parts) (text ∷ texts) p whole old are joins =
      let here = are.0 in
      let next =
      one_more_profile head part.head command earlier part.rows m before joins.0 joins.1 here.run whole here.whole old
      (here.rows joins.0 joins.2) joins.3
      in
      let rest =
      texts_joined (or_else command (command_of part.head)) (together earlier part.rows) joins.1 parts texts p
      (both_whole earlier part.rows whole here.whole) next are.1 joins.4
      in
      restated (or_else (or_else command (command_of part.head)) (first_command parts))
      (or_else command (command_of part.head)) (together (together earlier part.rows) (rows_of_all parts))
      (together earlier (rows_of_all (part ∷ parts))) p
      (command_then command _ (first_command parts)) (rows_after earlier part parts) rest

  all_read : (parts : List WrittenPart) → ArePartsOfRun head m parts → ReadAs parts (texts_of m parts)
  all_read [] are = tt
  all_read (part ∷ parts) are =
      let here = first_of head m part parts are in (
        record {
          run = here.0;
          whole = whole_rows m part.rows here.1;
          rows = λ read reads.
              only_part part.head part.rows m sound here.1 read (without_addresses part read here.1 reads);
        },
        all_read parts (rest_of head m part parts are),
      )

  none_whole : AreWhole no_rows
  none_whole = record { lines = λ k d lt. absurd (omega arith); arcs = λ k d lt. absurd (omega arith) }

  pub read_joined : (parts : List WrittenPart) (texts : List (List ℕ)) (p : Contents) → ReadAs parts texts
      → Joins (no_rows_of head) texts p
      → IsOfRows head (first_command parts) (rows_of_all parts) m p
  read_joined parts texts p are joins =
      texts_joined None no_rows (no_rows_of head) parts texts p none_whole (nothing_joined head m) are joins

  pub all_joined : (parts : List WrittenPart) (p : Contents) → ArePartsOfRun head m parts
      → Joins (no_rows_of head) (texts_of m parts) p
      → IsOfRows head (first_command parts) (rows_of_all parts) m p
  all_joined parts p are joins = read_joined parts (texts_of m parts) p (all_read parts are) joins

  pub all_alike : (parts : List WrittenPart) (p q : Contents) → ArePartsOfRun head m parts
      → Joins (no_rows_of head) (texts_of m parts) p → Joins (no_rows_of head) (texts_of m parts) q → SaysTheSame p q
  all_alike parts p q are joins others =
      alike head (first_command parts) (rows_of_all parts) m p q (all_joined parts p are joins)
      (all_joined parts q are others)

  -- Where no events are given before the first part, its own are those of the run

  part_events : (part : PartHead) → AreOfOneRun head part → events_in part ≡ events_in head
  part_events part run = ap (λ (b : Bool). events_shown b event_names) run.branch

  from_unnamed : (part : WrittenPart) (parts : List WrittenPart) (p : Contents) → ArePartsOfRun head m (part ∷ parts)
      → Joins (files.no_rows []) (texts_of m (part ∷ parts)) p → Joins (no_rows_of head) (texts_of m (part ∷ parts)) p
  from_unnamed part parts p are joins =
      let here = first_of head m part parts are in
      let own : joins.0.events ≡ events_in head
      = (only_part part.head part.rows m sound here.1 joins.0 (without_addresses part joins.0 here.1 joins.2)).events
      ∙ part_events part.head here.0 in
      let joined = joins.3 in (
        joins.0,
        joins.1,
        joins.2,
        record {
          events = joined.events ∙ longer_of_none joins.0.events ∙ own
              ∙ sym (longer_same (events_in head)) ∙ ap (λ (e : List (List ℕ)). longer (events_in head) e) (sym own);
          command = joined.command;
          functions = joined.functions;
          files = joined.files;
          self_rows = joined.self_rows;
          call_rows = joined.call_rows;
        },
        joins.4,
      )

  pub all_joined_unnamed : (parts : List WrittenPart) (p : Contents) → 0 < length parts → ArePartsOfRun head m parts
      → Joins (files.no_rows []) (texts_of m parts) p
      → IsOfRows head (first_command parts) (rows_of_all parts) m p
  all_joined_unnamed [] p some are joins = absurd (omega arith)
  all_joined_unnamed (part ∷ parts) p some are joins =
      all_joined (part ∷ parts) p are (from_unnamed part parts p are joins)

  -- There is one

  pub joins_exist : (before : Contents) (parts : List WrittenPart) → IsProfile before → before.events ≡ events_in head
      → ArePartsOfRun head m parts → (p : Contents) × IsProfile p × Joins before (texts_of m parts) p
  joins_exist before [] is named are = (before, is, refl)
  joins_exist before (part ∷ parts) is named are =
      let here = first_of head m part parts are in
      let read = there_is part.head (command_of part.head) part.rows m (whole_rows m part.rows here.1) in
      let same : read.0.events ≡ before.events = read.2.events ∙ part_events part.head here.0 ∙ sym named in
      let next = there_is_joined before read.0 is read.1 same in
      let still : next.0.events ≡ events_in head
      = next.2.events ∙ (λ i. longer (named i) ((same ∙ named) i)) ∙ longer_same (events_in head) in
      let rest = joins_exist next.0 parts next.1 still (rest_of head m part parts are) in (
        rest.0,
        rest.1,
        (
          read.0,
          next.0,
          reads_lines (part_text part.head part.rows m) read.0
              (reads_part part.head part.rows m sound here.1 read.0 read.1 read.2),
          next.2,
          rest.2,
        ),
      )

  -- No part is refused

  pub own_events : (part : WrittenPart) → AreOfOneRun head part.head → AreWritable m part.rows
      → events_of (part_text part.head part.rows m) ≡ events_in head
  own_events part run fits =
      let read = there_is part.head (command_of part.head) part.rows m (whole_rows m part.rows fits) in
      let reads =
      reads_lines (part_text part.head part.rows m) read.0
      (reads_part part.head part.rows m sound fits read.0 read.1 read.2) in
      ap (λ (o : Option (List (List ℕ))). unwrap_or o []) reads.says.events
      ∙ read.2.events ∙ part_events part.head run

  pub each_text : (parts : List WrittenPart) → ArePartsOfRun head m parts
      → AllByRecursion (IsPartText head) (texts_of m parts)
  each_text [] are = tt
  each_text (part ∷ parts) are =
      let here = first_of head m part parts are in (
        (without_fault part here.1, own_events part here.0 here.1),
        each_text parts (rest_of head m part parts are),
      )

  -- after events with which a part's own agree, the reading goes on with its own
  go_on : (before : List (List ℕ)) (part : WrittenPart) (parts : List WrittenPart) (w : WantedFile) (wanted : List WantedFile)
      → agree before (events_in head) ≡ true → longer before (events_in head) ≡ events_in head
      → AreOfOneRun head part.head → AreWritable m part.rows
      → reading_fault before (w ∷ wanted) (map {B = Load} (λ text. Ok text) (texts_of m (part ∷ parts)))
      ≡ reading_fault (events_in head) wanted (map {B = Load} (λ text. Ok text) (texts_of m parts))
  go_on before part parts w wanted agreed same run fits =
      read_on before (events_in head) (part_text part.head part.rows m) w wanted
      (map {B = Load} (λ text. Ok text) (texts_of m parts)) agreed same (without_fault part fits)
      (own_events part run fits)

  pub none_refused : (parts : List WrittenPart) (wanted : List WantedFile) → length wanted ≡ length parts
      → ArePartsOfRun head m parts
      → reading_fault (events_in head) wanted (map {B = Load} (λ text. Ok text) (texts_of m parts)) ≡ None
  none_refused parts [] long are = refl
  none_refused [] (w ∷ wanted) long are = absurd (omega (arith, long))
  none_refused (part ∷ parts) (w ∷ wanted) long are =
      let here = first_of head m part parts are in
      go_on (events_in head) part parts w wanted (events_agree head) (longer_same (events_in head)) here.0 here.1
      ∙ none_refused parts wanted (omega (arith, long)) (rest_of head m part parts are)

  pub none_refused_unnamed : (parts : List WrittenPart) (wanted : List WantedFile) → length wanted ≡ length parts
      → ArePartsOfRun head m parts
      → reading_fault [] wanted (map {B = Load} (λ text. Ok text) (texts_of m parts)) ≡ None
  none_refused_unnamed parts [] long are = refl
  none_refused_unnamed [] (w ∷ wanted) long are = absurd (omega (arith, long))
  none_refused_unnamed (part ∷ parts) (w ∷ wanted) long are =
      let here = first_of head m part parts are in
      go_on [] part parts w wanted (blank_agrees (events_in head)) (longer_of_none (events_in head)) here.0 here.1
      ∙ none_refused parts wanted (omega (arith, long)) (rest_of head m part parts are)
