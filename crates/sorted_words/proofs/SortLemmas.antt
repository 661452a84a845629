-- What `clap` finds in the words, and refuses, is the rule's reading of them.
use Rattle.std.proofs.Common.{◌≡◌, ◌∙◌, ◌&&◌, not, Bool, true, false, cond, List, [], ◌∷◌, ◌++◌, refl, sym, ap, subst}
use Rattle.std.proofs.Common.{ℕ, Option, Some, None, fold, map, find, codes, option_map, is_some, length, drop, ◌==◌}
use Rattle.std.proofs.Common.{◌⊎◌, inl, inr, true≢false, String, Global, string_bytes}
use Rattle.std.specs.Prelude.{option_and_then, slice_get}
use Rattle.std.proofs.lemmas.Str.{IsUtf8-string_bytes}
use Rattle.std.specs.List.{list_all}
use Rattle.std.specs.Option.{option_map_or}
use Rattle.std.specs.Str.{IsUtf8, bytes_eq}
use Rattle.clap.specs.Faults.{built_fault, bundle_fault, bundle_step_fault, check_fault, defaults_fault, entered_fault}
use Rattle.clap.specs.Faults.{fault_of, flag_word_fault, is_free_app, is_simple_and_free, flags_fault, level_fault}
use Rattle.clap.specs.Faults.{other_fault, settle_fault, step_fault, stray_fault, turn_fault, walk_fault, word_fault}
use Rattle.clap.specs.Kinds.{HasKind, IsAmong, Kinds, check_kinds, or_else}
use Rattle.clap.specs.Lexer.{long_of}
use Rattle.clap.specs.Simple.{App, Shape, built as built_by, entered, is_simple, label_of, names_of, rows_at}
use Rattle.clap.specs.Simple.{subcommand_of}
use Rattle.clap.specs.Walk.{Held, Names, Row, Step, Walk, after_step, answers_to, finished, idle, long_or_other}
use Rattle.clap.specs.Walk.{nothing_held, rows_after, settled, short_or_plain, stop_after, subcommand, trailing}
use Rattle.clap.specs.Walk.{subcommand_met, subcommand_or_other, value, walk, walk_from, walked, word_met}
use Rattle.clap.specs.declared.error.kind.ErrorKind.TheVariants.{DisplayHelp, InvalidSubcommand, MissingSubcommand}
use Rattle.clap.specs.declared.error.kind.ErrorKind.TheVariants.{OutOfMemory, UnknownArgument}
use Rattle.clap.specs.Values.{kind_of}
use Rattle.clap.specs.declared.error.Error.{Error}
use Rattle.clap.specs.declared.error.kind.ErrorKind.{ErrorKind}
use Rattle.clap.proofs.WalkLemmas.{both, walk_stopped}
use Rattle.sorted_words.specs.Sorting.{SortedCommand, Syntax, Text, is_among, sort_words, sorting, syntax_named}
use Rattle.sorted_words.specs.SortedWords.{IsSorting, has_named_options}
use Rattle.sorted_words.specs.Syntaxes.{syntax_of}
use Rattle.sorted_words.specs.declared.syntax.Syntax as code
use Rattle.sorted_words.specs.inner.Builder.{app, has_none, values_id}
use Rattle.sorted_words.specs.inner.Matches.{sorted_words_of}
use Rattle.sorted_words.proofs.AppLemmas.{app_built, app_simple, built_app, built_sub, built_top, has_that_name}
use Rattle.sorted_words.proofs.AppLemmas.{labels_found, subs_found}
use Rattle.sorted_words.proofs.ReadLemmas.{Agrees, AreTexts, at, faults, first_none, reading, rows}
use Rattle.sorted_words.proofs.RowLemmas.{Adds}
use Rattle.sorted_words.proofs.RuleLemmas.{IsBuilt, is_built}
use Rattle.sorted_words.proofs.WordLemmas.{WordCase, dashes, ends, flags_begin, long, word_case, short, stands}

nothing_else : (k : Kinds) → or_else k [] ≡ k
nothing_else [] = refl
nothing_else (x ∷ xs) = refl

never : (b : Bool) → (b && false) ≡ false
never true = refl
never false = refl

-- ---- the words behind a command

module _ (command : Syntax) (unnamed : is_among command.options values_id ≡ false) where
  pub built : IsBuilt (built_sub command).rules command.options
  built = is_built command.options unnamed

  checks : (found : List Row) → check_fault (built_sub command) found false ≡ []
  checks found = ap (λ (b : Bool). check_kinds false false b) (built.none_required found)

  level_is : (words : List Text)
      → level_fault (built_sub command) [] nothing_held words false []
      ≡ faults (built_sub command) command.options built (at [] None idle false) words
  level_is words =
      let end = (walk (built_sub command).rules [] nothing_held words).held in
      let W = walk_fault (built_sub command) [] (walk_from nothing_held) words in
      let S = settle_fault (built_sub command).rules false end in
      ap (λ (k : Kinds). or_else W
      (or_else S (or_else k (check_fault (built_sub command) (finished (built_sub command).rules end) false))))
      (built.no_defaults (settled (built_sub command).rules end).rows)
      ∙ ap (λ (k : Kinds). or_else W (or_else S k)) (checks (finished (built_sub command).rules end))
      ∙ ap (λ (k : Kinds). or_else W k) (nothing_else S)

  rows_are : (words : List Text)
      → rows_after (built_sub command).rules [] words
      ≡ rows (built_sub command) command.options built (at [] None idle false) words
  rows_are words =
      built.defaults
      (settled (built_sub command).rules (walk (built_sub command).rules [] nothing_held words).held).rows

  pub command_reads : (words : List Text) → AreTexts words
      → Agrees (built_sub command) command.options built []
      (level_fault (built_sub command) [] nothing_held words false [])
      (rows_after (built_sub command).rules [] words) (sort_words command.options words None)
  command_reads words texts =
      let read = (reading (built_sub command) command.options built words texts).free [] None idle tt refl in
      let P : Kinds → Type 0 = λ k. Agrees (built_sub command) command.options built [] k
      (rows_after (built_sub command).rules [] words) (sort_words command.options words None) in
      let Q : List Row → Type 0 = λ r. Agrees (built_sub command) command.options built []
      (faults (built_sub command) command.options built (at [] None idle false) words) r
      (sort_words command.options words None) in
      subst P (sym (level_is words)) (subst Q (sym (rows_are words)) read)

-- ---- the word that names a command

-- the walk stopped at a command, before these words
abbrev stopped : Text → List Text → Walk
stopped name words = record {
  held = nothing_held;
  waiting = idle;
  position = 1;
  is_trailing = false;
  stopped = Some (name, words);
}

module _ (none : Bool) (names : Names) where
  no_more_faults : (name : Text) (words word_case : List Text)
      → walk_fault (built_top none) names (stopped name word_case) words ≡ []
  unfolding walk_fault walked
  no_more_faults name [] word_case = refl
  no_more_faults name (word ∷ words) word_case = no_more_faults name words (word_case ++ word ∷ [])

  module _ (word name : Text) (found : subcommand_met names idle word ≡ Some name) where
    met_command : word_met [] names false idle 1 word nothing_held ≡ (nothing_held, subcommand name)
    met_command = ap (λ (o : Option Text). subcommand_or_other [] o idle 1 word nothing_held) found

    walked_to_command : walked [] names (walk_from nothing_held) word ≡ stopped name []
    unfolding walked
    walked_to_command = ap (λ (m : Held × Step). after_step [] word (walk_from nothing_held) m.0 m.1) met_command

    no_fault : turn_fault (built_top none) names (walk_from nothing_held) word ≡ []
    no_fault =
        ap (λ (o : Option Text). or_else (other_fault (built_top none) o word nothing_held)
        (step_fault (built_top none) 1 (word_met [] names false idle 1 word nothing_held).0
        (word_met [] names false idle 1 word nothing_held).1)) found
        ∙ ap (λ (m : Held × Step). or_else (other_fault (built_top none) (Some name) word nothing_held)
        (step_fault (built_top none) 1 m.0 m.1)) met_command
        ∙ ap (λ (b : Bool). or_else (cond b (DisplayHelp ∷ InvalidSubcommand ∷ []) []) [])
        (never (bytes_eq name (codes "help")))

    walk_is : (words : List Text) → walk [] names nothing_held (word ∷ words) ≡ stopped name words
    walk_is words =
        ap (λ (w : Walk). fold (walked [] names) w words) walked_to_command
        ∙ sym (walk_stopped [] names (stopped name []) name [] words)

    walk_passes : (words : List Text) → walk_fault (built_top none) names (walk_from nothing_held) (word ∷ words) ≡ []
    unfolding walk_fault
    walk_passes words =
        ap (λ (k : Kinds). or_else k
        (walk_fault (built_top none) names (walked [] names (walk_from nothing_held) word) words)) no_fault
        ∙ ap (λ (w : Walk). walk_fault (built_top none) names w words) walked_to_command ∙ no_more_faults name words []

-- the faults of the program are those of its command
program_fault : (none : Bool) (names : Names) (words : List Text) (below : Kinds) (end : Walk)
    → walk_fault (built_top none) names (walk_from nothing_held) words ≡ [] → walk [] names nothing_held words ≡ end
    → end.held ≡ nothing_held
    → level_fault (built_top none) names nothing_held words true below ≡ below
unfolding defaults_fault
program_fault none names words below end passes is empty =
    ap (λ (k : Kinds). or_else k (or_else below (rest (walk [] names nothing_held words).held))) passes
    ∙ ap (λ (w : Walk). or_else below (rest w.held)) is
    ∙ ap (λ (h : Held). or_else below (rest h)) empty
    ∙ nothing_else below
  where
    rest : Held → Kinds
    rest h =
        or_else (settle_fault [] false h)
        (or_else (defaults_fault (settled [] h).rows []) (check_fault (built_top none) (finished [] h) true))

-- ---- the words behind the program's own name

module _ (commands : List Syntax) where
  abbrev names : Names
  names = names_of (built_app commands)

  abbrev top : Shape
  top = built_top (has_none commands)

  module _ (name : Text) (words : List Text) (c : Syntax) (e : syntax_named commands name ≡ Some c) where
    met : subcommand_met names idle name ≡ Some c.name
    met =
        ap (option_map (λ (s : Text × List Text). s.0)) (labels_found commands name)
        ∙ ap (λ (o : Option Syntax). option_map (λ (s : Text × List Text). s.0)
        (option_map (λ (x : Syntax). (x.name, [])) o)) e

    stop_is : stop_after [] names (name ∷ words) ≡ Some (c.name, words)
    stop_is = ap (λ (w : Walk). w.stopped) (walk_is (has_none commands) names name c.name met words)

    sub_found : find (λ s. answers_to c.name (label_of s)) (map built_sub commands) ≡ Some (built_sub c)
    sub_found =
        ap (λ (n : Text). find (λ s. answers_to n (label_of s)) (map built_sub commands))
        (has_that_name commands name c e)
        ∙ subs_found commands name ∙ ap (option_map built_sub) e

    named_found : entered (built_app commands) (stop_after [] names (name ∷ words)) ≡ Some (rows_at (built_sub c) words)
    named_found =
        ap (λ (o : Option (Text × List Text)). entered (built_app commands) o) stop_is
        ∙ ap (λ (o : Option Shape). option_map (λ s. rows_at s words) o) sub_found

    named_fault : built_fault (built_app commands) nothing_held (name ∷ words)
        ≡ level_fault (built_sub c) [] nothing_held words false []
    named_fault =
        ap (λ (o : Option (Text × List Text)). level_fault top names nothing_held (name ∷ words)
        (is_some (entered (built_app commands) o))
        (entered_fault (built_app commands) o)) stop_is
        ∙ ap (λ (o : Option Shape). level_fault top names nothing_held (name ∷ words)
        (is_some (option_map (λ s. rows_at s words) o))
        (option_map_or (λ s. level_fault s [] nothing_held words false []) o [])) sub_found
        ∙ program_fault (has_none commands) names (name ∷ words)
        (level_fault (built_sub c) [] nothing_held words false []) (stopped c.name words)
        (walk_passes (has_none commands) names name c.name met words)
        (walk_is (has_none commands) names name c.name met words) refl

  second_none : (a b : Kinds) → or_else a b ≡ [] → b ≡ []
  second_none [] b none = none
  second_none (k ∷ ks) b none = cc

  -- without a command the words are refused
  no_command : (words : List Text) → stop_after [] names words ≡ None
      → built_fault (built_app commands) nothing_held words ≡ [] → ⊥
  no_command words stop none =
      let end = (walk [] names nothing_held words).held in
      let W = walk_fault top names (walk_from nothing_held) words in
      let last : check_fault top (finished [] end) (is_some (entered (built_app commands) (stop_after [] names words)))
      ≡ [] =
      second_none (defaults_fault (settled [] end).rows [])
      (check_fault top (finished [] end) (is_some (entered (built_app commands) (stop_after [] names words))))
      (second_none (settle_fault [] false end) (or_else (defaults_fault (settled [] end).rows [])
      (check_fault top (finished [] end) (is_some (entered (built_app commands) (stop_after [] names words)))))
      (second_none (entered_fault (built_app commands) (stop_after [] names words)) (or_else (settle_fault [] false end)
      (or_else (defaults_fault (settled [] end).rows [])
      (check_fault top (finished [] end) (is_some (entered (built_app commands) (stop_after [] names words))))))
      (second_none W
      (or_else (entered_fault (built_app commands) (stop_after [] names words)) (or_else (settle_fault [] false end)
      (or_else (defaults_fault (settled [] end).rows [])
      (check_fault top (finished [] end) (is_some (entered (built_app commands) (stop_after [] names words)))))))
      none))) in
      let is : check_fault top (finished [] end) (is_some (entered (built_app commands) (stop_after [] names words)))
      ≡ MissingSubcommand ∷ [] =
      ap (λ (o : Option (Text × List Text)). check_fault top (finished [] end)
      (is_some (entered (built_app commands) o))) stop in
      let bad : ◌≡◌ {A = Kinds} (MissingSubcommand ∷ []) [] = sym is ∙ last in
      cc

  module _ (name : Text) (words : List Text) (unmet : subcommand_met names idle name ≡ None) where
    turn_fails : (turn_fault top names (walk_from nothing_held) name ≡ [] → ⊥)
        → built_fault (built_app commands) nothing_held (name ∷ words) ≡ [] → ⊥
    unfolding walk_fault
    turn_fails fails none =
        let stop = stop_after [] names (name ∷ words) in
        let end = (walk [] names nothing_held (name ∷ words)).held in
        fails (first_none (turn_fault top names (walk_from nothing_held) name)
        (walk_fault top names (walked [] names (walk_from nothing_held) name) words)
        (first_none (walk_fault top names (walk_from nothing_held) (name ∷ words))
        (or_else (entered_fault (built_app commands) stop) (or_else (settle_fault [] false end)
        (or_else (defaults_fault (settled [] end).rows [])
        (check_fault top (finished [] end) (is_some (entered (built_app commands) stop)))))) none))

    met_other : bytes_eq name dashes ≡ false
        → word_met [] names false idle 1 name nothing_held ≡ long_or_other [] idle name (long_of name) nothing_held
    met_other e =
        ap (λ (o : Option Text). subcommand_or_other [] o idle 1 name nothing_held) unmet
        ∙ ap (λ (b : Bool). cond b (nothing_held, trailing 1)
        (long_or_other [] idle name (long_of name) nothing_held)) e

    fault_other : bytes_eq name dashes ≡ false
        → word_fault top names false idle name nothing_held ≡ flag_word_fault [] false (long_of name) name nothing_held
    fault_other e = rw unmet (rw e refl)

    unknown_fails : word_fault top names false idle name nothing_held ≡ UnknownArgument ∷ []
        → turn_fault top names (walk_from nothing_held) name ≡ [] → ⊥
    unknown_fails is none =
        let bad : ◌≡◌ {A = Kinds} (UnknownArgument ∷ []) [] =
        sym is ∙ first_none (word_fault top names false idle name nothing_held)
        (step_fault top 1 (word_met [] names false idle 1 name nothing_held).0
        (word_met [] names false idle 1 name nothing_held).1) none in
        cc

    strays : (none : Bool) → stray_fault (built_top none) ≡ [] → ⊥
    strays true e = cc
    strays false e = cc

    behind : (rest : List Text) → fold (walked [] names) (at [] None idle true) rest ≡ at [] None idle true
    unfolding walked
    behind [] = refl
    behind (word ∷ rest) = behind rest

    unnamed_fails : IsUtf8 name → WordCase [] name → built_fault (built_app commands) nothing_held (name ∷ words) ≡ [] → ⊥
    unfolding walked flags_fault
    unnamed_fails utf8 (ends e1 e2 e3) =
        let met : word_met [] names false idle 1 name nothing_held ≡ (nothing_held, trailing 1) =
        ap (λ (o : Option Text). subcommand_or_other [] o idle 1 name nothing_held) unmet
        ∙ ap (λ (b : Bool). cond b (nothing_held, trailing 1)
        (long_or_other [] idle name (long_of name) nothing_held)) e3 in
        let moves : walked [] names (walk_from nothing_held) name ≡ at [] None idle true =
        ap (λ (m : Held × Step). after_step [] name (walk_from nothing_held) m.0 m.1) met in
        no_command (name ∷ words)
        (ap (λ (w : Walk). (fold (walked [] names) w words).stopped) moves
        ∙ ap (λ (w : Walk). w.stopped) (behind words))
    unnamed_fails utf8 (stands e1 e2 e3 e4 e5) =
        let met : word_met [] names false idle 1 name nothing_held ≡ (nothing_held, value) =
        met_other e3 ∙ ap (λ (o : Option (Text × Option Text)). long_or_other [] idle name o nothing_held) e4
        ∙ ap (λ (o : Option Text). short_or_plain [] idle name o nothing_held) e5 in
        let passes : word_fault top names false idle name nothing_held ≡ [] =
        fault_other e3 ∙ ap (λ (o : Option (Text × Option Text)). flag_word_fault [] false o name nothing_held) e4
        ∙ ap (λ (o : Option Text). option_map_or (λ f. bundle_fault [] false f nothing_held) o []) e5 in
        let is : turn_fault top names (walk_from nothing_held) name ≡ stray_fault top =
        ap (λ (k : Kinds). or_else k
        (step_fault top 1 (word_met [] names false idle 1 name nothing_held).0
        (word_met [] names false idle 1 name nothing_held).1)) passes
        ∙ ap (λ (m : Held × Step). step_fault top 1 m.0 m.1) met in
        turn_fails
        (λ (none : turn_fault top names (walk_from nothing_held) name ≡ []). strays (has_none commands)
        (sym is ∙ none))
    unnamed_fails utf8 (long text e1 e2 e3 e4) =
        turn_fails
        (unknown_fails
        (fault_other e3
        ∙ ap (λ (o : Option (Text × Option Text)). flag_word_fault [] false o name nothing_held) e4))
    unnamed_fails utf8 (short flags e1 e2 e3 e4 e5 x rest is whole) =
        let first = flags_begin x rest (subst IsUtf8 (whole ∙ ap (λ (f : Text). 45 ∷ f) is) utf8) in
        turn_fails (unknown_fails (fault_other e3
        ∙ ap (λ (o : Option (Text × Option Text)). flag_word_fault [] false o name nothing_held) e4
        ∙ ap (λ (o : Option Text). option_map_or (λ f. bundle_fault [] false f nothing_held) o [])
        (e5 ∙ ap (λ (f : Text). Some f) is)
        ∙ ap (λ (cs : List ℕ). bundle_step_fault [] false (slice_get cs 0) (x ∷ rest) 0 nothing_held
        (flags_fault [] false (length rest))) first.2))

-- ---- all the words

-- no command has an option without a name
abbrev pub AreNamed : List Syntax → Type 0
AreNamed [] = Unit {0}
AreNamed (command ∷ commands) = (is_among command.options values_id ≡ false) × AreNamed commands

named_one : (commands : List Syntax) → AreNamed commands → (name : Text) (c : Syntax)
    → syntax_named commands name ≡ Some c
    → is_among c.options values_id ≡ false
named_one [] named name c e = cc
named_one (command ∷ commands) named name c e =
    go (bytes_eq command.name name) refl
    (λ (f : syntax_named commands name ≡ Some c). named_one commands named.1 name c f)
  where
    go : (b : Bool) → bytes_eq command.name name ≡ b
        → (syntax_named commands name ≡ Some c → is_among c.options values_id ≡ false)
        → is_among c.options values_id ≡ false
    go true same more =
        let is : ◌≡◌ {A = Option Syntax} (Some command) (Some c) = rw same at e in
        let it : command ≡ c = cc in
        subst (λ (x : Syntax). is_among x.options values_id ≡ false) it named.0
    go false other more = more (rw other at e)

-- the words were refused, or sorted so
abbrev pub Sorts : Kinds → Option (Text × List Row) → Option (Syntax × SortedCommand) → Type 0
Sorts kinds found None = kinds ≡ [] → ⊥
Sorts kinds found (Some p) = (kinds ≡ []) × (after : List Row) × (found ≡ Some (p.0.name, after))
    × Adds p.0.options [] after p.1

sorts_command : (c : Syntax) (unnamed : is_among c.options values_id ≡ false) (words : List Text) (read : Option SortedCommand)
    → Agrees (built_sub c) c.options (built c unnamed) [] (level_fault (built_sub c) [] nothing_held words false [])
    (rows_after (built_sub c).rules [] words) read
    → Sorts (level_fault (built_sub c) [] nothing_held words false []) (Some (rows_at (built_sub c) words))
    (option_map (λ (r : SortedCommand). (c, r)) read)
sorts_command c unnamed words None h = h
sorts_command c unnamed words (Some more) h = (h.0, rows_after (built_sub c).rules [] words, refl, h.1)

sorts_behind : (commands : List Syntax) → AreNamed commands → (name : Text) (words : List Text) → IsUtf8 name
    → AreTexts words
    → (o : Option Syntax) → syntax_named commands name ≡ o
    → Sorts (built_fault (built_app commands) nothing_held (name ∷ words))
    (entered (built_app commands) (stop_after [] (names_of (built_app commands)) (name ∷ words)))
    (option_and_then (λ (c : Syntax). option_map (λ (r : SortedCommand). (c, r)) (sort_words c.options words None)) o)
sorts_behind commands named name words utf8 texts None e =
    unnamed_fails commands name words
    (ap (option_map (λ (s : Text × List Text). s.0)) (labels_found commands name)
    ∙ ap (λ (o : Option Syntax). option_map (λ (s : Text × List Text). s.0)
    (option_map (λ (x : Syntax). (x.name, [])) o)) e)
    utf8 (word_case [] name)
sorts_behind commands named name words utf8 texts (Some c) e =
    let unnamed = named_one commands named name c e in
    let read = sorts_command c unnamed words (sort_words c.options words None) (command_reads c unnamed words texts) in
    let result = option_map (λ (r : SortedCommand). (c, r)) (sort_words c.options words None) in
    let P : Kinds → Type 0
    = λ k. Sorts k
    (entered (built_app commands) (stop_after [] (names_of (built_app commands)) (name ∷ words))) result in
    let Q : Option (Text × List Row) → Type 0
    = λ f. Sorts (level_fault (built_sub c) [] nothing_held words false []) f result in
    subst P (sym (named_fault commands name words c e)) (subst Q (sym (named_found commands name words c e)) read)

sorts_built : (commands : List Syntax) → AreNamed commands → (words : List Text) → AreTexts words
    → Sorts (built_fault (built_app commands) nothing_held (drop 1 words))
    (entered (built_app commands) (stop_after [] (names_of (built_app commands)) (drop 1 words)))
    (sorting commands words)
sorts_built commands named [] texts = no_command commands [] refl
sorts_built commands named (own ∷ []) texts = no_command commands [] refl
sorts_built commands named (own ∷ name ∷ words) texts =
    sorts_behind commands named name words texts.1.0 texts.1.1 (syntax_named commands name) refl

pub sorts : (commands : List Syntax) → AreNamed commands → (words : List Text) → AreTexts words
    → Sorts (fault_of (app commands) words) (subcommand_of (app commands) words) (sorting commands words)
sorts commands named words texts =
    let P : App → Type 0 = λ a. Sorts (built_fault a nothing_held (drop 1 words))
    (entered a (stop_after a.top.rules (names_of a) (drop 1 words))) (sorting commands words) in
    subst P (sym (app_built commands)) (sorts_built commands named words texts)

-- ---- what the code has at hand

each_named : (all : List Text) → list_all (λ (name : Text). not (length name == 0)) all ≡ true
    → is_among all values_id ≡ false
each_named [] named = refl
each_named ([] ∷ more) named = absurd (true≢false (sym named))
each_named ((x ∷ xs) ∷ more) named =
    each_named more
    (both (not (length (x ∷ xs) == 0)) (list_all (λ (name : Text). not (length name == 0)) more) named).1

are_named : (commands : List code.Syntax) → list_all (λ command. has_named_options (syntax_of command)) commands ≡ true
    → AreNamed (map syntax_of commands)
are_named [] named = tt
are_named (command ∷ commands) named =
    let parts =
    both (has_named_options (syntax_of command)) (list_all (λ c. has_named_options (syntax_of c)) commands) named in
    (each_named (syntax_of command).options parts.0, are_named commands parts.1)

are_texts : (words : List (String Global)) → AreTexts (map (λ word. string_bytes word) words)
are_texts [] = tt
are_texts (word ∷ words) = (IsUtf8-string_bytes word, are_texts words)

-- the words that the code has
pub words_sort : (commands : List code.Syntax) (words : List (String Global))
    → list_all (λ command. has_named_options (syntax_of command)) commands ≡ true
    → Sorts (fault_of (app (map syntax_of commands)) (map (λ word. string_bytes word) words))
    (subcommand_of (app (map syntax_of commands)) (map (λ word. string_bytes word) words))
    (sorting (map syntax_of commands) (map (λ word. string_bytes word) words))
words_sort commands words named =
    sorts (map syntax_of commands) (are_named commands named) (map (λ word. string_bytes word) words) (are_texts words)

-- words that `clap` took
pub taken : (kinds : Kinds) (found : Option (Text × List Row)) (sorting : Option (Syntax × SortedCommand))
    → Sorts kinds found sorting → kinds ≡ []
    → IsSorting sorting (option_map (λ (f : Text × List Row). sorted_words_of f.0 f.1) found)
taken kinds found None refused none = absurd (refused none)
taken kinds found (Some (syntax, sorted)) h none =
    let P : Option (Text × List Row) → Type 0
    = λ f. IsSorting (Some (syntax, sorted)) (option_map (λ (x : Text × List Row). sorted_words_of x.0 x.1) f) in
    subst P (sym h.2) (refl, record { options = h.3.options; values = h.3.values })

-- words that it refused
pub refused : (kinds : Kinds) (found : Option (Text × List Row)) (sorting : Option (Syntax × SortedCommand)) (k : ErrorKind)
    → Sorts kinds found sorting
    → (k ≡ OutOfMemory → ⊥) → (k ≡ OutOfMemory) ⊎ IsAmong k kinds → IsSorting sorting None
refused kinds found None k h memory among = tt
refused kinds found (Some p) k h memory among = elim among [
  | inl is ↦ absurd (memory is)
  | inr is ↦ absurd (subst (IsAmong k) h.0 is)
]

abbrev texts_of : List (String Global) → List Text
texts_of words = map (λ word. string_bytes word) words

-- `clap` found something
pub took : (commands : List code.Syntax) (words : List (String Global)) (told : App) (found : Option (Text × List Row))
    → list_all (λ command. has_named_options (syntax_of command)) commands ≡ true → told ≡ app (map syntax_of commands)
    → (is_simple_and_free told ≡ true → fault_of told (texts_of words) ≡ [])
    → (is_simple told ≡ true → found ≡ subcommand_of told (texts_of words))
    → IsSorting (sorting (map syntax_of commands) (texts_of words))
    (option_map (λ (f : Text × List Row). sorted_words_of f.0 f.1) found)
took commands words told found named is none finds =
    let simple : is_simple_and_free told ≡ true = ap is_simple_and_free is ∙ app_simple (map syntax_of commands) in
    let S = sorting (map syntax_of commands) (texts_of words) in
    let P : Option (Text × List Row) → Type 0
    = λ f. IsSorting S (option_map (λ (x : Text × List Row). sorted_words_of x.0 x.1) f) in
    subst P
    (sym (finds (both (is_simple told) (is_free_app (built_by told)) simple).0
    ∙ ap (λ (a : App). subcommand_of a (texts_of words)) is))
    (taken (fault_of (app (map syntax_of commands)) (texts_of words))
    (subcommand_of (app (map syntax_of commands)) (texts_of words)) S
    (words_sort commands words named) (sym (ap (λ (a : App). fault_of a (texts_of words)) is) ∙ none simple))

-- `clap` refused the words
pub gave_up : (commands : List code.Syntax) (words : List (String Global)) (told : App) (e : Error)
    → list_all (λ command. has_named_options (syntax_of command)) commands ≡ true → told ≡ app (map syntax_of commands)
    → (is_simple_and_free told ≡ true → HasKind (fault_of told (texts_of words)) e)
    → (kind_of e ≡ OutOfMemory → ⊥) → IsSorting (sorting (map syntax_of commands) (texts_of words)) None
gave_up commands words told e named is fails memory =
    let simple : is_simple_and_free told ≡ true = ap is_simple_and_free is ∙ app_simple (map syntax_of commands) in
    refused (fault_of told (texts_of words)) (subcommand_of (app (map syntax_of commands)) (texts_of words))
    (sorting (map syntax_of commands) (texts_of words)) (kind_of e)
    (subst
    (λ (a : App). Sorts (fault_of a (texts_of words))
    (subcommand_of (app (map syntax_of commands)) (texts_of words))
    (sorting (map syntax_of commands) (texts_of words))) (sym is) (words_sort commands words named))
    memory (fails simple)
