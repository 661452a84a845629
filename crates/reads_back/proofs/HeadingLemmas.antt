-- The lines of a heading, read again.
use Rattle.std.proofs.Common.{get_or, length, subst, sym, ◌-◌}
use Rattle.reads_back.proofs.TextLemmas.{is_seen}
use Rattle.cg_lines.specs.Lines.{trim}
use Rattle.std.proofs.Common.{◌≡◌, ℕ, ◌<◌, Bool, true, false, List, [], ◌∷◌, ◌++◌, map, reverse, codes, Some, None}
use Rattle.std.proofs.Common.{refl, ap}
use Rattle.std.proofs.Common.{◌∙◌, arith}
use Rattle.std.specs.Fmt.{decimal}
use Rattle.std.specs.List.{list_all}
use Rattle.cache_lru.specs.Shape.{Shape}
use Rattle.event_costs.specs.Costs.{event_names, events_shown}
use Rattle.byte_text.specs.Names.{clean_name, is_printable}
use Rattle.cg_format.specs.declared.trigger.Trigger.{Trigger}
use Rattle.cg_format.specs.declared.trigger.Trigger.TheVariants.{Every, Before, After, Termination}
use Rattle.sym_map.specs.SymbolMap.{SymbolMap}
use Rattle.cg_format.specs.Heading.{cache_text, description_lines, heading, identity_lines, object_line, summary_lines}
use Rattle.cg_format.specs.Heading.{trigger_text}
use Rattle.cg_format.specs.Marks.{Plain, cost_text, words_text}
use Rattle.cg_format.specs.declared.head.PartHead.{PartHead}
use Rattle.cg_lines.specs.Lines.{is_blank, words}
use Rattle.cg_read.specs.Reading.{bad_line}
use Rattle.cg_lines.specs.Shapes.{shape}
use Rattle.cg_lines.specs.declared.line.Line.{Line}
use Rattle.cg_lines.specs.declared.line.Line.TheVariants.{Blank, Command, Events, Header, Object, Positions}
use Rattle.cg_lines.specs.declared.name.Name.TheVariants.{Named}
use Rattle.reads_back.proofs.TextLemmas.{IsText, clear-append, seen_no_blank, stripped_kept, text-append, trimmed_space}
use Rattle.reads_back.proofs.CleanLemmas.{IsName, cleaned_name, name-text}
use Rattle.reads_back.proofs.IdLemmas.{no_ids}
use Rattle.reads_back.proofs.NumberLemmas.{text-decimal}
use Rattle.reads_back.proofs.LineLemmas.{AreClear, lines_of_marks}
use Rattle.reads_back.proofs.ShapeLemmas.{Spells, costs_after, new_name}
use Rattle.reads_back.proofs.StandingLemmas.{Stands, file_name, function_name}

pub says : (first : ℕ) (rest : List ℕ) (l : Line) → is_blank first ≡ false → IsText (first ∷ rest)
    → shape (first ∷ rest) ≡ l → Spells (first ∷ rest) l
says first rest l front whole is =
    record { clear = whole.clear; said = ap shape (stripped_kept first rest front whole) ∙ is }

pub literal : (text : List ℕ) → list_all is_printable text ≡ true → 0 < length text
    → is_seen
    (get_or text (length text - 1) 0) ≡ true
    → IsText text
literal text clear some last = record { clear = clear; some = some; last = last }

says_format : Spells (codes "# callgrind format") Blank
says_format = says 35 (codes " callgrind format") Blank refl
    (literal (codes "# callgrind format") refl (omega arith) refl) refl

says_version : Spells (codes "version: 1") Header
says_version = says 118 (codes "ersion: 1") Header refl (literal (codes "version: 1") refl (omega arith) refl) refl

says_creator : Spells (codes "creator: cgprof-1") Header
says_creator = says 99 (codes "reator: cgprof-1") Header refl
    (literal (codes "creator: cgprof-1") refl (omega arith) refl) refl

says_pid : Spells (codes "pid: 1") Header
says_pid = says 112 (codes "id: 1") Header refl (literal (codes "pid: 1") refl (omega arith) refl) refl

says_thread : (n : ℕ) → Spells (codes "thread: " ++ decimal n) Header
says_thread n =
    says 116 (codes "hread: " ++ decimal n) Header refl
    (text-append (codes "thread: ") (decimal n) refl (text-decimal n)) refl

says_part : (n : ℕ) → Spells (codes "part: " ++ decimal n) Header
says_part n =
    says 112 (codes "art: " ++ decimal n) Header refl
    (text-append (codes "part: ") (decimal n) refl (text-decimal n)) refl

name_after_space : (text : List ℕ) → IsName text
    → trim (32 ∷ text) ≡ text
name_after_space text n =
    subst (λ (t : List ℕ). trim (32 ∷ t) ≡ t)
    (sym n.is) (trimmed_space n.first n.rest (seen_no_blank n.first n.seen) n.whole)

says_command : (cmd : List ℕ) → Spells (codes "cmd: " ++ clean_name cmd) (Command (clean_name cmd))
says_command cmd =
    says 99 (codes "md: " ++ clean_name cmd) (Command (clean_name cmd)) refl
    (text-append (codes "cmd: ") (clean_name cmd) refl (name-text (clean_name cmd) (cleaned_name cmd)))
    (ap Command (name_after_space (clean_name cmd) (cleaned_name cmd)))

cache_is_text : (name : List ℕ) (s : Shape) → list_all is_printable name ≡ true → IsText (cache_text name s)
cache_is_text name s clear =
    let one = clear-append name (codes " cache: ") clear refl in
    let two = clear-append (name ++ codes " cache: ") (decimal s.size) one (text-decimal s.size).clear in
    let three = clear-append (name ++ codes " cache: " ++ decimal s.size) (codes " B, ") two refl in
    let four = clear-append (name ++ codes " cache: " ++ decimal s.size ++ codes " B, ") (decimal s.line) three
    (text-decimal s.line).clear in
    let five = clear-append (name ++ codes " cache: " ++ decimal s.size ++ codes " B, " ++ decimal s.line)
    (codes " B, ") four refl in
    let six = clear-append
    (name ++ codes " cache: " ++ decimal s.size ++ codes " B, " ++ decimal s.line ++ codes " B, ")
    (decimal s.assoc) five (text-decimal s.assoc).clear in
    text-append
    (name ++ codes " cache: " ++ decimal s.size ++ codes " B, " ++ decimal s.line ++ codes " B, " ++ decimal s.assoc)
    (codes "-way associative") six (literal (codes "-way associative") refl (omega arith) refl)

says_cache : (name : List ℕ) (s : Shape) → list_all is_printable name ≡ true
    → Spells (codes "desc: " ++ cache_text name s) Header
says_cache name s clear =
    says 100 (codes "esc: " ++ cache_text name s) Header refl
    (text-append (codes "desc: ") (cache_text name s) refl (cache_is_text name s clear)) refl

trigger_is_text : (t : Trigger) → IsText (trigger_text t)
trigger_is_text (Every steps) = text-append (codes "--dump-every=") (decimal steps) refl (text-decimal steps)
trigger_is_text (Before name) =
    text-append (codes "--dump-before=") (clean_name name) refl (name-text (clean_name name) (cleaned_name name))
trigger_is_text (After name) =
    text-append (codes "--dump-after=") (clean_name name) refl (name-text (clean_name name) (cleaned_name name))
trigger_is_text Termination = literal (codes "Program termination") refl (omega arith) refl

says_trigger : (t : Trigger) → Spells (codes "desc: Trigger: " ++ trigger_text t) Header
says_trigger t =
    says 100 (codes "esc: Trigger: " ++ trigger_text t) Header refl
    (text-append (codes "desc: Trigger: ") (trigger_text t) refl (trigger_is_text t)) refl

says_positions : Spells (codes "positions: line") (Positions (codes " line"))
says_positions = says 112 (codes "ositions: line") (Positions (codes " line")) refl
    (literal (codes "positions: line") refl (omega arith) refl) refl

events_are_text : (branch : Bool) → IsText (codes "events:" ++ words_text (events_shown branch event_names))
unfolding event_names
events_are_text true = record { clear = refl; some = omega arith; last = refl }
events_are_text false = record { clear = refl; some = omega arith; last = refl }

says_events : (branch : Bool) → Spells (codes "events:" ++ words_text (events_shown branch event_names))
    (Events (words_text (events_shown branch event_names)))
says_events branch =
    says 101 (codes "vents:" ++ words_text (events_shown branch event_names))
    (Events (words_text (events_shown branch event_names))) refl (events_are_text branch) refl

pub says_summary : (costs : List ℕ) → Spells (codes "summary:" ++ cost_text costs) Header
says_summary costs =
    says 115 (codes "ummary:" ++ cost_text costs) Header refl
    (costs_after (codes "summary:") costs (literal (codes "summary:") refl (omega arith) refl)) refl

pub says_totals : (costs : List ℕ) → Spells (codes "totals:" ++ cost_text costs) Header
says_totals costs =
    says 116 (codes "otals:" ++ cost_text costs) Header refl
    (costs_after (codes "totals:") costs (literal (codes "totals:") refl (omega arith) refl)) refl

pub says_object : (head : PartHead) → Spells (object_line head) (Object (Named (49 ∷ []) (clean_name head.object)))
says_object head =
    says 111 (codes "b=(1) " ++ clean_name head.object) (Object (Named (49 ∷ []) (clean_name head.object))) refl
    (text-append (codes "ob=(1) ") (clean_name head.object) refl
    (name-text (clean_name head.object) (cleaned_name head.object)))
    (ap Object (new_name (49 ∷ []) (clean_name head.object) (cleaned_name head.object)))

-- What is known after the heading

-- the lines of a heading, where this one says what a position is
abbrev pub heading_at : PartHead → List ℕ → List ℕ → List (List ℕ)
heading_at head place sum = identity_lines head ++ description_lines head ++ place ∷ summary_lines head sum

-- what they say, the last line first
abbrev pub heading_read : Bool → List ℕ → List ℕ → List Line
heading_read branch cmd shown =
    Header ∷ Events (words_text (events_shown branch event_names)) ∷ Positions shown ∷ Header ∷ Header ∷ Header
    ∷ Header ∷ Command (clean_name cmd) ∷ Header ∷ Header ∷ Header ∷ Header ∷ Header ∷ Blank ∷ []

heading_fine : (branch : Bool) (cmd shown : List ℕ) → words shown ≡ codes "line" ∷ []
    → bad_line (heading_read branch cmd shown) ≡ None
unfolding event_names
heading_fine true cmd shown is = rw is refl
heading_fine false cmd shown is = rw is refl

events_read : (branch : Bool) → words (words_text (events_shown branch event_names)) ≡ events_shown branch event_names
unfolding event_names
events_read true = refl
events_read false = refl

module _ (head : PartHead) (m : SymbolMap) (sum place shown : List ℕ) (spells : Spells place (Positions shown)) where
  pub heading_same : lines_of_marks m (reverse (map Plain (heading_at head place sum))) ≡ heading_read head.branch head.cmd shown
  heading_same =
      let costs : List ℕ = events_shown head.branch sum in
      λ i. (says_summary costs).said i ∷ (says_events head.branch).said i ∷ spells.said i
      ∷ (says_trigger head.trigger).said i ∷ (says_cache (codes "LL") head.ll refl).said i
      ∷ (says_cache (codes "D1") head.d1 refl).said i ∷ (says_cache (codes "I1") head.i1 refl).said i
      ∷ (says_command head.cmd).said i ∷ (says_part head.part).said i ∷ (says_thread head.thread.0).said i
      ∷ says_pid.said i ∷ says_creator.said i ∷ says_version.said i ∷ says_format.said i ∷ []

  pub heading_clear : AreClear m (reverse (map Plain (heading_at head place sum)))
  heading_clear =
      let costs : List ℕ = events_shown head.branch sum in (
        (
          (
            (
              (
                (
                  (
                    (
                      (
                        (
                          ((((tt, says_format.clear), says_version.clear), says_creator.clear), says_pid.clear),
                          (says_thread head.thread.0).clear,
                        ),
                        (says_part head.part).clear,
                      ),
                      (says_command head.cmd).clear,
                    ),
                    (says_cache (codes "I1") head.i1 refl).clear,
                  ),
                  (says_cache (codes "D1") head.d1 refl).clear,
                ),
                (says_cache (codes "LL") head.ll refl).clear,
              ),
              (says_trigger head.trigger).clear,
            ),
            spells.clear,
          ),
          (says_events head.branch).clear,
        ),
        (says_summary costs).clear,
      )

  pub after_heading_at : words shown ≡ codes "line" ∷ []
      → Stands head m false (reverse (map Plain (heading_at head place sum))) None [] []
  after_heading_at is =
      record {
        history = heading_read head.branch head.cmd shown;
        clear = heading_clear;
        same = heading_same;
        fine = heading_fine head.branch head.cmd shown is;
        no_call = refl;
        events = ap Some (events_read head.branch);
        command = refl;
        object = λ named. absurd (cc);
        written = λ some. absurd (cc);
        begun = λ f at. absurd (cc);
        file = λ f at. absurd (cc);
        function = λ f at. absurd (cc);
        callee_object = refl;
        callee_file = refl;
        file_ids = no_ids (length m.files) (file_name m) (λ q. None);
        function_ids = no_ids (length m.functions) (function_name m) (λ q. None);
        self_rows = refl;
        call_rows = refl;
      }

pub after_heading : (head : PartHead) (m : SymbolMap) (sum : List ℕ)
    → Stands head m false (reverse (map Plain (heading head sum))) None [] []
after_heading head m sum = after_heading_at head m sum (codes "positions: line") (codes " line") says_positions refl
