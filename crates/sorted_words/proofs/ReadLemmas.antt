-- `clap`'s walk over the words behind a command is the rule's reading of them.
use Rattle.std.proofs.Common.{◌≡◌, ◌∙◌, ◌&&◌, ◌||◌, Bool, true, false, cond, List, [], ◌∷◌, refl, sym, ap, subst, ℕ}
use Rattle.std.proofs.Common.{Option, Some, None, fold, length, drop}
use Rattle.std.specs.Prelude.{◌==◌, encode_utf8, nat_lt, option_map, slice_get}
use Rattle.std.specs.List.{after_first, list_any}
use Rattle.std.specs.Option.{option_map_or}
use Rattle.std.specs.Str.{IsUtf8, bytes_eq, chars}
use Rattle.clap.specs.Faults.{bundle_fault, bundle_step_fault, flag_word_fault, flags_fault, long_fault, option_fault}
use Rattle.clap.specs.Faults.{positional_fault, settle_fault, short_fault, step_fault, stray_fault, turn_fault}
use Rattle.clap.specs.Faults.{use_fault, walk_fault, word_fault}
use Rattle.clap.specs.Kinds.{Kinds, or_else}
use Rattle.clap.specs.Lexer.{long_of, name_and_value, short_of}
use Rattle.clap.specs.Simple.{Shape}
use Rattle.clap.specs.Walk.{Held, Row, Rule, Step, Waiting, Walk, after_flag, after_step, arg_by_long, idle, is_pending}
use Rattle.clap.specs.Walk.{long_met, long_or_other, long_word, next, option, option_met}
use Rattle.clap.specs.Walk.{option_word as option_word_met, plain_word, positional, pushed, settled, settled_rows}
use Rattle.clap.specs.Walk.{short_or_plain, subcommand_met, subcommand_or_other, to_positional, trailing, used_by_id}
use Rattle.clap.specs.Walk.{value, walked, with_values, word_met}
use Rattle.clap.specs.declared.builder.value_parser.Reading.{Reading}
use Rattle.clap.specs.declared.builder.value_parser.Reading.TheVariants.{AsWritten}
use Rattle.clap.specs.declared.error.kind.ErrorKind.TheVariants.{InvalidValue, UnknownArgument}
use Rattle.clap.specs.declared.parser.matches.ValueSource.TheVariants.{CommandLine}
use Rattle.sorted_words.specs.Sorting.{SortedCommand, Text, Word, apart, end, fault, is_among, is_value, joined}
use Rattle.sorted_words.specs.Sorting.{name_of, option_word, sort_words, sorted_word, with_option}
use Rattle.sorted_words.specs.Sorting.{word_of}
use Rattle.sorted_words.specs.Sorting.{value as value_word}
use Rattle.sorted_words.specs.inner.Builder.{values_id}
use Rattle.sorted_words.proofs.RowLemmas.{Adds, adds_nothing, adds_option, adds_value, text_is_itself}
use Rattle.sorted_words.proofs.RuleLemmas.{IsBuilt, built_option, built_values}
use Rattle.sorted_words.proofs.WordLemmas.{WordCase, dashes, flags_begin, ends, long, word_case, short, stands}

pub first_none : (a b : Kinds) → or_else a b ≡ [] → a ≡ []
first_none [] b none = refl
first_none (k ∷ ks) b none = none

and_false : (b : Bool) → (b && false) ≡ false
and_false true = refl
and_false false = refl

-- no subcommand stands below a command
no_subcommand : (w : Waiting) (word : Text) → subcommand_met [] w word ≡ None
no_subcommand idle word = refl
no_subcommand (option id) word = refl
no_subcommand positional word = refl

-- nothing waits for a VALUE
abbrev pub IsFree : Waiting → Type 0
IsFree idle = Unit {0}
IsFree (option id) = ⊥
IsFree positional = Unit {0}

plain_is_value : (c : List Rule) (w : Waiting) (word : Text) (h : Held) → IsFree w → plain_word c w word h ≡ (h, value)
plain_is_value c idle word h free = refl
plain_is_value c (option id) word h free = absurd free
plain_is_value c positional word h free = refl

-- each word is text
abbrev pub AreTexts : List Text → Type 0
AreTexts [] = Unit {0}
AreTexts (word ∷ words) = IsUtf8 word × AreTexts words

abbrev pub held : List Row → Option (Text × List Text) → Held
held r p = record { rows = r; pending = p; skip = 0 }

-- where the walk stands between two words
abbrev pub at : List Row → Option (Text × List Text) → Waiting → Bool → Walk
at r p w t = record { held = held r p; waiting = w; position = 1; is_trailing = t; stopped = None }

module _ (s : Shape) (names : List Text) (built : IsBuilt s.rules names) where
  -- the faults of the words, and then of what waits at their end
  abbrev pub faults : Walk → List Text → Kinds
  faults w words =
      or_else (walk_fault s [] w words)
      (settle_fault s.rules s.args_override_self (fold (walked s.rules []) w words).held)

  abbrev pub rows : Walk → List Text → List Row
  rows w words = (settled s.rules (fold (walked s.rules []) w words).held).rows

  faults_step : (w after : Walk) (word : Text) (words : List Text) → turn_fault s [] w word ≡ []
      → walked s.rules [] w word ≡ after
      → faults w (word ∷ words) ≡ faults after words
  unfolding walk_fault
  faults_step w after word words none is =
      ap (λ (k : Kinds). or_else (or_else k (walk_fault s [] (walked s.rules [] w word) words))
      (settle_fault s.rules s.args_override_self (fold (walked s.rules []) (walked s.rules [] w word) words).held)) none
      ∙ ap (λ (v : Walk). faults v words) is

  turn_fails : (w : Walk) (word : Text) (words : List Text) → (turn_fault s [] w word ≡ [] → ⊥)
      → faults w (word ∷ words) ≡ [] → ⊥
  unfolding walk_fault
  turn_fails w word words fails none =
      fails (first_none (turn_fault s [] w word) (walk_fault s [] (walked s.rules [] w word) words)
      (first_none (or_else (turn_fault s [] w word) (walk_fault s [] (walked s.rules [] w word) words))
      (settle_fault s.rules s.args_override_self
      (fold (walked s.rules []) (walked s.rules [] w word) words).held) none))

  -- the words were refused, or sorted so
  abbrev pub Agrees : List Row → Kinds → List Row → Option SortedCommand → Type 0
  Agrees before kinds after None = kinds ≡ [] → ⊥
  Agrees before kinds after (Some more) = (kinds ≡ []) × Adds names before after more

  agrees_value : (how : Reading) (before after : List Row) (kinds : Kinds) (word : Text) (rest : Option SortedCommand)
      → Agrees (with_values values_id how CommandLine (word ∷ []) before) kinds after rest
      → Agrees before kinds after
      (option_map {T = SortedCommand} (λ sorted. record sorted { values = word ∷ sorted.values }) rest)
  agrees_value how before after kinds word None h = h
  agrees_value how before after kinds word (Some more) h =
      (h.0, adds_value names built.unnamed how CommandLine before after word more h.1)

  agrees_option : (how : Reading) (before after : List Row) (kinds : Kinds) (name word : Text) (rest : Option SortedCommand)
      → is_among names name ≡ true
      → Agrees (with_values name how CommandLine (word ∷ []) before) kinds after rest
      → Agrees before kinds after (with_option name word rest)
  agrees_option how before after kinds name word None known h = h
  agrees_option how before after kinds name word (Some more) known h =
      (h.0, adds_option names built.unnamed how CommandLine before after name word more known h.1)

  stepped : (before : List Row) (w after : Walk) (word : Text) (words : List Text) (is : Option SortedCommand)
      → turn_fault s [] w word ≡ []
      → walked s.rules [] w word ≡ after → Agrees before (faults after words) (rows after words) is
      → Agrees before (faults w (word ∷ words)) (rows w (word ∷ words)) is
  stepped before w after word words is none moves h =
      let P : Kinds → Type 0 = λ k. Agrees before k (rows w (word ∷ words)) is in
      let Q : List Row → Type 0 = λ r. Agrees before (faults after words) r is in
      subst P (sym (faults_step w after word words none moves))
      (subst Q (sym (ap (λ (v : Walk). rows v words) moves)) h)

  -- ---- one word

  turn_none : (r : List Row) (p : Option (Text × List Text)) (w : Waiting) (t : Bool) (word : Text) (h : Held)
      (step : Step)
      → word_fault s [] t w word (held r p) ≡ [] → word_met s.rules [] t w 1 word (held r p) ≡ (h, step)
      → step_fault s 1 h step ≡ []
      → turn_fault s [] (at r p w t) word ≡ []
  turn_none r p w t word h step passes met takes =
      ap (λ (k : Kinds). or_else k (step_fault s 1 (word_met s.rules [] t w 1 word (held r p)).0
      (word_met s.rules [] t w 1 word (held r p)).1)) passes
      ∙ ap (λ (m : Held × Step). step_fault s 1 m.0 m.1) met ∙ takes

  turn_refused : (r : List Row) (p : Option (Text × List Text)) (w : Waiting) (t : Bool) (word : Text)
      → (word_fault s [] t w word (held r p) ≡ [] → ⊥) → turn_fault s [] (at r p w t) word ≡ [] → ⊥
  turn_refused r p w t word fails none =
      fails (first_none (word_fault s [] t w word (held r p))
      (step_fault s 1 (word_met s.rules [] t w 1 word (held r p)).0 (word_met s.rules [] t w 1 word (held r p)).1) none)

  walked_to : (r : List Row) (p : Option (Text × List Text)) (w : Waiting) (t : Bool) (word : Text) (h : Held)
      (step : Step)
      → word_met s.rules [] t w 1 word (held r p) ≡ (h, step)
      → walked s.rules [] (at r p w t) word ≡ after_step s.rules word (at r p w t) h step
  unfolding walked
  walked_to r p w t word h step met = ap (λ (m : Held × Step). after_step s.rules word (at r p w t) m.0 m.1) met

  met_other : (w : Waiting) (word : Text) (h : Held) → bytes_eq word dashes ≡ false
      → word_met s.rules [] false w 1 word h ≡ long_or_other s.rules w word (long_of word) h
  met_other w word h e =
      ap (λ (o : Option Text). subcommand_or_other s.rules o w 1 word h) (no_subcommand w word)
      ∙ ap (λ (b : Bool). cond b (h, trailing 1) (long_or_other s.rules w word (long_of word) h)) e

  met_end : (w : Waiting) (word : Text) (h : Held) → bytes_eq word dashes ≡ true
      → word_met s.rules [] false w 1 word h ≡ (h, trailing 1)
  met_end w word h e =
      ap (λ (o : Option Text). subcommand_or_other s.rules o w 1 word h) (no_subcommand w word)
      ∙ ap (λ (b : Bool). cond b (h, trailing 1) (long_or_other s.rules w word (long_of word) h)) e

  fault_other : (w : Waiting) (word : Text) (h : Held) → bytes_eq word dashes ≡ false
      → word_fault s [] false w word h ≡ flag_word_fault s.rules s.args_override_self (long_of word) word h
  fault_other w word h e = rw (no_subcommand w word) (rw e refl)

  fault_end : (w : Waiting) (word : Text) (h : Held) → bytes_eq word dashes ≡ true → word_fault s [] false w word h ≡ []
  fault_end w word h e = rw (no_subcommand w word) (rw e refl)

  -- ---- a word that goes to the values

  to_values : (r : List Row) (p : Option (Text × List Text)) (w : Waiting) (t : Bool) (word : Text)
      → (built_t : Bool) → (t || false) ≡ built_t
      → after_step s.rules word (at r p w t) (held r p) value
      ≡ at (settled_rows s.rules p r) (Some (values_id, word ∷ [])) positional built_t
  to_values r p w t word u same =
      ap (λ (a : Option Rule). to_positional s.rules a word (at r p w t) (held r p)) built.place
      ∙ ap (λ (b : Bool). to_there (pushed values_id word (cond b (held r p) (settled s.rules (held r p))))
      (t || false))
      (and_false (is_pending built_values p))
      ∙ ap (λ (b : Bool). to_there (held (settled_rows s.rules p r) (Some (values_id, word ∷ []))) b) same
    where
      to_there : Held → Bool → Walk
      to_there h b = record { held = h; waiting = positional; position = 1; is_trailing = b; stopped = None }

  values_take : (r : List Row) (p : Option (Text × List Text))
      → settle_fault s.rules s.args_override_self (held r p) ≡ []
      → step_fault s 1 (held r p) value ≡ []
  values_take r p none =
      ap (λ (a : Option Rule). option_map_or (λ a. positional_fault s.rules s.args_override_self a (held r p)) a
      (stray_fault s)) built.place
      ∙ ap (λ (b : Bool). cond b [] (settle_fault s.rules s.args_override_self (held r p)))
      (and_false (is_pending built_values p)) ∙ none

  values_settle : (r : List Row) (word : Text)
      → settle_fault s.rules s.args_override_self (held r (Some (values_id, word ∷ []))) ≡ []
  values_settle r word =
      ap (λ (a : Option Rule). option_map_or (λ a. use_fault s.args_override_self a (word ∷ []) r) a []) built.values

  values_stand : (r : List Row) (word : Text)
      → settled_rows s.rules (Some (values_id, word ∷ [])) r ≡ with_values values_id AsWritten CommandLine (word ∷ []) r
  values_stand r word = ap (λ (a : Option Rule). used_by_id a (word ∷ []) r) built.values

  option_settle : (r : List Row) (name word : Text) → is_among names name ≡ true
      → settle_fault s.rules s.args_override_self (held r (Some (name, word ∷ []))) ≡ []
  option_settle r name word known =
      ap (λ (a : Option Rule). option_map_or (λ a. use_fault s.args_override_self a (word ∷ []) r) a [])
      (built.option name known)

  option_stands : (r : List Row) (name word : Text) → is_among names name ≡ true
      → settled_rows s.rules (Some (name, word ∷ [])) r ≡ with_values name AsWritten CommandLine (word ∷ []) r
  option_stands r name word known = ap (λ (a : Option Rule). used_by_id a (word ∷ []) r) (built.option name known)

  -- an option without its VALUE is refused wherever it is settled
  option_lacks : (r : List Row) (name : Text) → is_among names name ≡ true
      → settle_fault s.rules s.args_override_self (held r (Some (name, []))) ≡ [] → ⊥
  option_lacks r name known none =
      let is : settle_fault s.rules s.args_override_self (held r (Some (name, []))) ≡ InvalidValue ∷ [] =
      ap (λ (a : Option Rule). option_map_or (λ a. use_fault s.args_override_self a [] r) a [])
      (built.option name known) in
      let bad : ◌≡◌ {A = Kinds} (InvalidValue ∷ []) [] = sym is ∙ none in
      cc

  -- ---- behind `--`

  pub behind : (words : List Text) (r : List Row) (p : Option (Text × List Text)) (w : Waiting)
      → settle_fault s.rules s.args_override_self (held r p) ≡ []
      → Agrees (settled_rows s.rules p r) (faults (at r p w true) words) (rows (at r p w true) words)
      (Some (record { options = []; values = words }))
  unfolding walk_fault
  behind [] r p w none = (none, adds_nothing names (settled_rows s.rules p r))
  behind (word ∷ words) r p w none =
      let there = settled_rows s.rules p r in
      let rest = behind words there (Some (values_id, word ∷ [])) positional (values_settle there word) in
      let more : Agrees (with_values values_id AsWritten CommandLine (word ∷ []) there)
      (faults (at there (Some (values_id, word ∷ [])) positional true) words)
      (rows (at there (Some (values_id, word ∷ [])) positional true) words)
      (Some (record { options = []; values = words })) =
      rw (← values_stand there word) rest in
      stepped there (at r p w true) (at there (Some (values_id, word ∷ [])) positional true) word words
      (Some (record { options = []; values = word ∷ words }))
      (turn_none r p w true word (held r p) value refl refl (values_take r p none))
      (walked_to r p w true word (held r p) value refl ∙ to_values r p w true word true refl)
      (agrees_value AsWritten there (rows (at there (Some (values_id, word ∷ [])) positional true) words)
      (faults (at there (Some (values_id, word ∷ [])) positional true) words) word
      (Some (record { options = []; values = words })) more)

  -- behind `--`, where an option lacks its VALUE
  pub behind_lacking : (words : List Text) (r : List Row) (name : Text) (w : Waiting) → is_among names name ≡ true
      → faults (at r (Some (name, [])) w true) words ≡ [] → ⊥
  unfolding walk_fault
  behind_lacking [] r name w known none = option_lacks r name known none
  behind_lacking (word ∷ words) r name w known none =
      turn_fails (at r (Some (name, [])) w true) word words
      (λ (e : turn_fault s [] (at r (Some (name, [])) w true) word ≡ []). option_lacks r name known (takes e)) none
    where
      takes : turn_fault s [] (at r (Some (name, [])) w true) word ≡ []
          → settle_fault s.rules s.args_override_self (held r (Some (name, []))) ≡ []
      takes e =
          let is : turn_fault s [] (at r (Some (name, [])) w true) word
          ≡ settle_fault s.rules s.args_override_self (held r (Some (name, []))) =
          ap (λ (a : Option Rule). option_map_or
          (λ a. positional_fault s.rules s.args_override_self a (held r (Some (name, [])))) a
          (stray_fault s)) built.place
          ∙ ap (λ (b : Bool). cond b [] (settle_fault s.rules s.args_override_self (held r (Some (name, [])))))
          (and_false (is_pending built_values (Some (name, [])))) in
          sym is ∙ e

  -- ---- a word with one dash

  abbrev again : Bool
  again = s.args_override_self

  bundle_refused : (r : List Row) (p : Option (Text × List Text)) (x : ℕ) (rest : Text) (y : ℕ) (ys : List ℕ)
      → chars (x ∷ rest) ≡ y ∷ ys
      → bundle_fault s.rules again (x ∷ rest) (held r p) ≡ UnknownArgument ∷ []
  unfolding flags_fault
  bundle_refused r p x rest y ys e =
      ap (λ (cs : List ℕ). bundle_step_fault s.rules again (slice_get cs 0) (x ∷ rest) 0 (held r p)
      (flags_fault s.rules again (length rest))) e
      ∙ ap (λ (a : Option Rule). short_fault s.rules again a (drop (length (encode_utf8 y)) (x ∷ rest)) (held r p)
      (flags_fault s.rules again (length rest) (drop (length (encode_utf8 y)) (x ∷ rest)) 0)) (built.short y)

  unknown_is_a_fault : (k : Kinds) → k ≡ UnknownArgument ∷ [] → k ≡ [] → ⊥
  unknown_is_a_fault k is none =
      let bad : ◌≡◌ {A = Kinds} (UnknownArgument ∷ []) [] = sym is ∙ none in
      cc

  short_refused : (r : List Row) (p : Option (Text × List Text)) (w : Waiting) (word flags : Text) (x : ℕ) (rest : Text)
      → bytes_eq word dashes ≡ false
      → long_of word ≡ None → short_of word ≡ Some flags → flags ≡ x ∷ rest → word ≡ 45 ∷ flags → IsUtf8 word
      → word_fault s [] false w word (held r p) ≡ [] → ⊥
  short_refused r p w word flags x rest e3 e4 e5 is whole utf8 none =
      let text : IsUtf8 (45 ∷ x ∷ rest) = subst IsUtf8 (whole ∙ ap (λ (f : Text). 45 ∷ f) is) utf8 in
      let first = flags_begin x rest text in
      let faults_are : word_fault s [] false w word (held r p) ≡ bundle_fault s.rules again (x ∷ rest) (held r p) =
      fault_other w word (held r p) e3
      ∙ ap (λ (o : Option (Text × Option Text)). flag_word_fault s.rules again o word (held r p)) e4
      ∙ ap (λ (o : Option Text). option_map_or (λ f. bundle_fault s.rules again f (held r p)) o [])
      (e5 ∙ ap (λ (f : Text). Some f) is) in
      unknown_is_a_fault (word_fault s [] false w word (held r p))
      (faults_are ∙ bundle_refused r p x rest first.0 first.1 first.2) none

  -- ---- a word with two dashes

  long_fault_is : (r : List Row) (p : Option (Text × List Text)) (w : Waiting) (word text : Text)
      → bytes_eq word dashes ≡ false
      → long_of word ≡ Some (name_and_value text)
      → word_fault s [] false w word (held r p) ≡ long_fault s.rules again (arg_by_long s.rules (name_of text))
      (name_and_value text).1 (held r p)
  long_fault_is r p w word text e3 e4 =
      fault_other w word (held r p) e3
      ∙ ap (λ (o : Option (Text × Option Text)). flag_word_fault s.rules again o word (held r p)) e4

  long_met_is : (r : List Row) (p : Option (Text × List Text)) (w : Waiting) (word text : Text)
      → bytes_eq word dashes ≡ false
      → long_of word ≡ Some (name_and_value text)
      → word_met s.rules [] false w 1 word (held r p)
      ≡ long_word s.rules w word (name_of text) (name_and_value text).1 (held r p)
  long_met_is r p w word text e3 e4 =
      met_other w word (held r p) e3
      ∙ ap (λ (o : Option (Text × Option Text)). long_or_other s.rules w word o (held r p)) e4

  unknown_refused : (r : List Row) (p : Option (Text × List Text)) (w : Waiting) (word text : Text)
      → bytes_eq word dashes ≡ false
      → long_of word ≡ Some (name_and_value text) → is_among names (name_of text) ≡ false
      → word_fault s [] false w word (held r p) ≡ [] → ⊥
  unknown_refused r p w word text e3 e4 off =
      unknown_is_a_fault (word_fault s [] false w word (held r p))
      (long_fault_is r p w word text e3 e4
      ∙ ap (λ (a : Option Rule). long_fault s.rules again a (name_and_value text).1 (held r p))
      (built.no_long (name_of text) off))

  abbrev value_if : Bool → Text → Option Text
  value_if b text = cond b (Some (after_first (λ byte. byte == 61) text)) None

  known_fault : (r : List Row) (p : Option (Text × List Text)) (w : Waiting) (word text : Text) (b : Bool)
      → bytes_eq word dashes ≡ false
      → long_of word ≡ Some (name_and_value text) → is_among names (name_of text) ≡ true
      → list_any (λ byte. byte == 61) text ≡ b
      → word_fault s [] false w word (held r p)
      ≡ option_fault s.rules again (built_option (name_of text)) (value_if b text) (held r p)
  known_fault r p w word text b e3 e4 known e =
      long_fault_is r p w word text e3 e4
      ∙ ap (λ (a : Option Rule). long_fault s.rules again a (name_and_value text).1 (held r p))
      (built.long (name_of text) known)
      ∙ ap (λ (v : Bool). option_fault s.rules again (built_option (name_of text)) (value_if v text) (held r p)) e

  known_met : (r : List Row) (p : Option (Text × List Text)) (w : Waiting) (word text : Text) (b : Bool)
      → bytes_eq word dashes ≡ false
      → long_of word ≡ Some (name_and_value text) → is_among names (name_of text) ≡ true
      → list_any (λ byte. byte == 61) text ≡ b
      → word_met s.rules [] false w 1 word (held r p)
      ≡ after_flag s.rules w word (option_met s.rules (built_option (name_of text)) (value_if b text) (held r p)).0
      (option_met s.rules (built_option (name_of text)) (value_if b text) (held r p)).1
  known_met r p w word text b e3 e4 known e =
      long_met_is r p w word text e3 e4
      ∙ ap (λ (a : Option Rule). after_flag s.rules w word (long_met s.rules a (name_and_value text).1 (held r p)).0
      (long_met s.rules a (name_and_value text).1 (held r p)).1) (built.long (name_of text) known)
      ∙ ap (λ (v : Bool). after_flag s.rules w word
      (option_met s.rules (built_option (name_of text)) (value_if v text) (held r p)).0
      (option_met s.rules (built_option (name_of text)) (value_if v text) (held r p)).1) e

  -- ---- the words, one after another

  pub record Reads (words : List Text) : Type 0 where
    pub free : (r : List Row) (p : Option (Text × List Text)) (w : Waiting) → IsFree w
        → settle_fault s.rules again (held r p) ≡ []
        → Agrees (settled_rows s.rules p r) (faults (at r p w false) words) (rows (at r p w false) words)
        (sort_words names words None)
    pub lacking : (r : List Row) (name : Text) → is_among names name ≡ true
        → Agrees r (faults (at r (Some (name, [])) (option name) false) words)
        (rows (at r (Some (name, [])) (option name) false) words)
        (sort_words names words (Some name))

  module _ (word : Text) (words : List Text) (utf8 : IsUtf8 word) (rest : Reads words) where
    sorted_as : (r : List Row) (w : Walk) (k : Word) → word_of names word ≡ k
        → Agrees r (faults w (word ∷ words)) (rows w (word ∷ words)) (sorted_word k word words (sort_words names words))
        → Agrees r (faults w (word ∷ words)) (rows w (word ∷ words)) (sort_words names (word ∷ words) None)
    sorted_as r w k is h =
        let P : Word → Type 0
        = λ v. Agrees r (faults w (word ∷ words)) (rows w (word ∷ words))
        (sorted_word v word words (sort_words names words)) in
        subst P (sym is) h

    free_long : (r : List Row) (p : Option (Text × List Text)) (w : Waiting) (text : Text)
        → settle_fault s.rules again (held r p) ≡ []
        → bytes_eq word dashes ≡ false → long_of word ≡ Some (name_and_value text)
        → (known : Bool) → is_among names (name_of text) ≡ known → (b : Bool) → list_any (λ byte. byte == 61) text ≡ b
        → Agrees (settled_rows s.rules p r) (faults (at r p w false) (word ∷ words))
        (rows (at r p w false) (word ∷ words))
        (sorted_word
        (cond known (cond b (joined (name_of text) (after_first (λ byte. byte == 61) text)) (apart (name_of text))) fault)
        word words
        (sort_words names words))
    free_long r p w text none e3 e4 false off b e =
        turn_fails (at r p w false) word words
        (turn_refused r p w false word (unknown_refused r p w word text e3 e4 off))
    free_long r p w text none e3 e4 true known true e =
        let there = settled_rows s.rules p r in
        let now = with_values (name_of text) AsWritten CommandLine (after_first (λ byte. byte == 61) text ∷ []) there in
        let met = known_met r p w word text true e3 e4 known e in
        stepped there (at r p w false) (at now None idle false) word words
        (with_option (name_of text) (after_first (λ byte. byte == 61) text) (sort_words names words None))
        (turn_none r p w false word (held now None) (next idle)
        (known_fault r p w word text true e3 e4 known e
        ∙ ap (λ (k : Kinds). or_else k
        (use_fault again (built_option (name_of text)) (after_first (λ byte. byte == 61) text ∷ []) there)) none) met
        refl)
        (walked_to r p w false word (held now None) (next idle) met)
        (agrees_option AsWritten there (rows (at now None idle false) words) (faults (at now None idle false) words)
        (name_of text) (after_first (λ byte. byte == 61) text)
        (sort_words names words None) known (rest.free now None idle tt refl))
    free_long r p w text none e3 e4 true known false e =
        let there = settled_rows s.rules p r in
        let met = known_met r p w word text false e3 e4 known e in
        stepped there (at r p w false) (at there (Some (name_of text, [])) (option (name_of text)) false) word words
        (sort_words names words (Some (name_of text)))
        (turn_none r p w false word (held there (Some (name_of text, []))) (next (option (name_of text)))
        (known_fault r p w word text false e3 e4 known e ∙ none) met refl)
        (walked_to r p w false word (held there (Some (name_of text, []))) (next (option (name_of text))) met)
        (rest.lacking there (name_of text) known)

    free_word : (r : List Row) (p : Option (Text × List Text)) (w : Waiting) → IsFree w
        → settle_fault s.rules again (held r p) ≡ []
        → WordCase names word
        → Agrees (settled_rows s.rules p r) (faults (at r p w false) (word ∷ words))
        (rows (at r p w false) (word ∷ words))
        (sort_words names (word ∷ words) None)
    free_word r p w free none (ends e1 e2 e3) =
        let there = settled_rows s.rules p r in
        sorted_as there (at r p w false) end e1
        (stepped there (at r p w false) (at r p w true) word words (Some (record { options = []; values = words }))
        (turn_none r p w false word (held r p) (trailing 1) (fault_end w word (held r p) e3)
        (met_end w word (held r p) e3) refl)
        (walked_to r p w false word (held r p) (trailing 1) (met_end w word (held r p) e3))
        (behind words r p w none))
    free_word r p w free none (stands e1 e2 e3 e4 e5) =
        let there = settled_rows s.rules p r in
        let now = at there (Some (values_id, word ∷ [])) positional false in
        let met : word_met s.rules [] false w 1 word (held r p) ≡ (held r p, value) =
        met_other w word (held r p) e3
        ∙ ap (λ (o : Option (Text × Option Text)). long_or_other s.rules w word o (held r p)) e4
        ∙ ap (λ (o : Option Text). short_or_plain s.rules w word o (held r p)) e5
        ∙ plain_is_value s.rules w word (held r p) free in
        let passes : word_fault s [] false w word (held r p) ≡ [] =
        fault_other w word (held r p) e3
        ∙ ap (λ (o : Option (Text × Option Text)). flag_word_fault s.rules again o word (held r p)) e4
        ∙ ap (λ (o : Option Text). option_map_or (λ f. bundle_fault s.rules again f (held r p)) o []) e5 in
        let next_read = rest.free there (Some (values_id, word ∷ [])) positional tt (values_settle there word) in
        let more : Agrees (with_values values_id AsWritten CommandLine (word ∷ []) there) (faults now words)
        (rows now words) (sort_words names words None) =
        rw (← values_stand there word) next_read in
        sorted_as there (at r p w false) value_word e1
        (stepped there (at r p w false) now word words
        (option_map {T = SortedCommand} (λ sorted. record sorted { values = word ∷ sorted.values })
        (sort_words names words None))
        (turn_none r p w false word (held r p) value passes met (values_take r p none))
        (walked_to r p w false word (held r p) value met ∙ to_values r p w false word false refl)
        (agrees_value AsWritten there (rows now words) (faults now words) word (sort_words names words None) more))
    free_word r p w free none (long text e1 e2 e3 e4) =
        let there = settled_rows s.rules p r in
        sorted_as there (at r p w false) (option_word names text) e1
        (free_long r p w text none e3 e4 (is_among names (name_of text)) refl (list_any (λ byte. byte == 61) text) refl)
    free_word r p w free none (short flags e1 e2 e3 e4 e5 x more is whole) =
        let there = settled_rows s.rules p r in
        sorted_as there (at r p w false) fault e1
        (turn_fails (at r p w false) word words
        (turn_refused r p w false word (short_refused r p w word flags x more e3 e4 e5 is whole utf8)))

    -- ---- the VALUE of a NAME is wanted

    lacking_as : (r : List Row) (w : Walk) (name : Text) (b : Bool) → is_value word ≡ b
        → Agrees r (faults w (word ∷ words)) (rows w (word ∷ words))
        (cond b (with_option name word (sort_words names words None)) None)
        → Agrees r (faults w (word ∷ words)) (rows w (word ∷ words)) (sort_words names (word ∷ words) (Some name))
    lacking_as r w name b is h =
        let P : Bool → Type 0
        = λ v. Agrees r (faults w (word ∷ words)) (rows w (word ∷ words))
        (cond v (with_option name word (sort_words names words None)) None) in
        subst P (sym is) h

    -- an option is no VALUE
    lacking_long : (r : List Row) (name text : Text) → is_among names name ≡ true → bytes_eq word dashes ≡ false
        → long_of word ≡ Some (name_and_value text)
        → (known : Bool) → is_among names (name_of text) ≡ known → (b : Bool) → list_any (λ byte. byte == 61) text ≡ b
        → word_fault s [] false (option name) word (held r (Some (name, []))) ≡ [] → ⊥
    lacking_long r name text among e3 e4 false off b e none =
        unknown_refused r (Some (name, [])) (option name) word text e3 e4 off none
    lacking_long r name text among e3 e4 true known true e none =
        option_lacks r name among
        (first_none (settle_fault s.rules again (held r (Some (name, []))))
        (use_fault again (built_option (name_of text)) (after_first (λ byte. byte == 61) text ∷ [])
        (settled_rows s.rules (Some (name, [])) r))
        (sym (known_fault r (Some (name, [])) (option name) word text true e3 e4 known e) ∙ none))
    lacking_long r name text among e3 e4 true known false e none =
        option_lacks r name among
        (sym (known_fault r (Some (name, [])) (option name) word text false e3 e4 known e) ∙ none)

    lacking_word : (r : List Row) (name : Text) → is_among names name ≡ true → WordCase names word
        → Agrees r (faults (at r (Some (name, [])) (option name) false) (word ∷ words))
        (rows (at r (Some (name, [])) (option name) false) (word ∷ words)) (sort_words names (word ∷ words) (Some name))
    lacking_word r name known (ends e1 e2 e3) =
        let here = at r (Some (name, [])) (option name) false in
        let met = met_end (option name) word (held r (Some (name, []))) e3 in
        lacking_as r here name false e2
        (λ (none : faults here (word ∷ words) ≡ []). behind_lacking words r name (option name) known
        (sym (faults_step here (at r (Some (name, [])) (option name) true) word words
        (turn_none r (Some (name, [])) (option name) false word (held r (Some (name, []))) (trailing 1)
        (fault_end (option name) word (held r (Some (name, []))) e3) met refl)
        (walked_to r (Some (name, [])) (option name) false word (held r (Some (name, []))) (trailing 1) met)) ∙ none))
    lacking_word r name known (stands e1 e2 e3 e4 e5) =
        let p : Option (Text × List Text) = Some (name, []) in
        let h = held r p in
        let now = at r (Some (name, word ∷ [])) idle false in
        let met : word_met s.rules [] false (option name) 1 word h ≡ (held r (Some (name, word ∷ [])), next idle) =
        met_other (option name) word h e3
        ∙ ap (λ (o : Option (Text × Option Text)). long_or_other s.rules (option name) word o h) e4
        ∙ ap (λ (o : Option Text). short_or_plain s.rules (option name) word o h) e5 ∙ taken r name known in
        let passes : word_fault s [] false (option name) word h ≡ [] =
        fault_other (option name) word h e3
        ∙ ap (λ (o : Option (Text × Option Text)). flag_word_fault s.rules again o word h) e4
        ∙ ap (λ (o : Option Text). option_map_or (λ f. bundle_fault s.rules again f h) o []) e5 in
        let next_read = rest.free r (Some (name, word ∷ [])) idle tt (option_settle r name word known) in
        let more : Agrees (with_values name AsWritten CommandLine (word ∷ []) r) (faults now words) (rows now words)
        (sort_words names words None) =
        rw (← option_stands r name word known) next_read in
        lacking_as r (at r p (option name) false) name true e2
        (stepped r (at r p (option name) false) now word words (with_option name word (sort_words names words None))
        (turn_none r p (option name) false word (held r (Some (name, word ∷ []))) (next idle) passes met refl)
        (walked_to r p (option name) false word (held r (Some (name, word ∷ []))) (next idle) met)
        (agrees_option AsWritten r (rows now words) (faults now words) name word (sort_words names words None) known more))
      where
        taken : (r : List Row) (name : Text) → is_among names name ≡ true
            → plain_word s.rules (option name) word (held r (Some (name, [])))
            ≡ (held r (Some (name, word ∷ [])), next idle)
        taken r name known =
            ap (λ (a : Option Rule). (
              (option_word_met a name word (held r (Some (name, [])))).0,
              next (option_word_met a name word (held r (Some (name, [])))).1,
            ))
            (built.option name known)
            ∙ ap (λ (b : Bool).
            (held r (Some (name, word ∷ [])), next (cond (nat_lt (cond b 1 0) 1) (option name) idle)))
            (text_is_itself name)
    lacking_word r name known (long text e1 e2 e3 e4) =
        lacking_as r (at r (Some (name, [])) (option name) false) name false e2
        (turn_fails (at r (Some (name, [])) (option name) false) word words
        (turn_refused r (Some (name, [])) (option name) false word
        (lacking_long r name text known e3 e4 (is_among names (name_of text)) refl (list_any (λ byte. byte == 61) text)
        refl)))
    lacking_word r name known (short flags e1 e2 e3 e4 e5 x more is whole) =
        lacking_as r (at r (Some (name, [])) (option name) false) name false e2
        (turn_fails (at r (Some (name, [])) (option name) false) word words
        (turn_refused r (Some (name, [])) (option name) false word
        (short_refused r (Some (name, [])) (option name) word flags x more e3 e4 e5 is whole utf8)))

  reading_none : Reads []
  unfolding walk_fault
  reading_none = record {
    free = λ r p w free none. (none, adds_nothing names (settled_rows s.rules p r));
    lacking = λ r name known. option_lacks r name known;
  }

  pub reading : (words : List Text) → AreTexts words → Reads words
  reading [] texts = reading_none
  reading (word ∷ words) texts = record {
    free = λ r p w free none. free_word word words texts.0 (reading words texts.1) r p w free none (word_case names word);
    lacking = λ r name known. lacking_word word words texts.0 (reading words texts.1) r name known (word_case names word);
  }
