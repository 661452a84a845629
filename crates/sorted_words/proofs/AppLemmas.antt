-- The commands as `clap` builds them.
use Rattle.std.proofs.Common.{◌≡◌, ◌∙◌, ◌&&◌, ◌||◌, not, Bool, true, false, List, [], ◌∷◌, refl, sym, ap, ap₂, ℕ}
use Rattle.std.proofs.Common.{Option, Some, map, find, fold, cond, ◌+◌, codes, option_map}
use Rattle.std.specs.Prelude.{is_some}
use Rattle.std.specs.List.{list_all, list_any}
use Rattle.std.specs.Str.{bytes_eq}
use Rattle.clap.specs.Faults.{is_free_app, is_simple_and_free, has_free_rules}
use Rattle.clap.specs.Simple.{App, Shape, built, built_leaf, inherited, is_buildable, is_in_order, is_ready}
use Rattle.clap.specs.Simple.{is_ready_leaf, is_simple_leaf, label_of, new_shape}
use Rattle.clap.specs.Walk.{Rule, answers_to, is_early_multiple}
use Rattle.sorted_words.specs.Sorting.{Syntax, Text, syntax_named}
use Rattle.sorted_words.specs.inner.Builder.{app, has_none, leaf, option_rule}
use Rattle.sorted_words.proofs.RowLemmas.{same_text}
use Rattle.sorted_words.proofs.RuleLemmas.{built_option, built_rules, rules_built}

abbrev pub built_top : Bool → Shape
built_top none = record (new_shape (codes "program")) {
  is_leaf = none;
  disable_help_flag = true;
  disable_help_subcommand = true;
  subcommand_required = true;
  is_built = true;
}

abbrev pub built_sub : Syntax → Shape
built_sub command = record (new_shape command.name) {
  rules = built_rules command.options;
  disable_help_flag = true;
  disable_help_subcommand = true;
  is_built = true;
}

abbrev pub built_app : List Syntax → App
built_app commands = record { top = built_top (has_none commands); subs = map built_sub commands }

-- what a command takes from the program above it
abbrev above : Bool → Shape
above none = record (new_shape (codes "program")) {
  is_leaf = none;
  disable_help_flag = true;
  disable_help_subcommand = none || true;
  subcommand_required = true;
  is_built = true;
}

one_built : (none : Bool) (command : Syntax) → built_leaf (inherited (above none) (leaf command)) ≡ built_sub command
one_built none command =
    ap (λ (rs : List Rule). record (built_sub command) { rules = rs }) (rules_built command.options)

subs_built : (none : Bool) (commands : List Syntax) → map built_leaf (map (inherited (above none)) (map leaf commands))
    ≡ map built_sub commands
subs_built none [] = refl
subs_built none (command ∷ commands) =
    ap₂ (λ (s : Shape) (ss : List Shape). s ∷ ss) (one_built none command) (subs_built none commands)

pub app_built : (commands : List Syntax) → built (app commands) ≡ built_app commands
app_built [] = refl
app_built (command ∷ commands) =
    ap (λ (ss : List Shape). record (built_app (command ∷ commands)) { subs = ss })
    (subs_built false (command ∷ commands))

-- ---- `clap` says exactly what it makes of such a command

options_simple : (names : List Text) → list_all (λ (a : Rule). a.is_simple) (map option_rule names) ≡ true
options_simple [] = refl
options_simple (name ∷ names) = options_simple names

built_simple : (names : List Text) → list_all (λ (a : Rule). a.is_simple) (map built_option names) ≡ true
built_simple [] = refl
built_simple (name ∷ names) = built_simple names

built_free : (names : List Text) → list_all (λ (a : Rule). a.is_free) (map built_option names) ≡ true
built_free [] = refl
built_free (name ∷ names) = built_free names

none_early : (n : ℕ) (names : List Text) → list_any (is_early_multiple n) (map built_option names) ≡ false
none_early n [] = refl
none_early n (name ∷ names) = none_early n names

one_place : (names : List Text)
    → fold (λ (n : ℕ) (a : Rule). n + cond (is_some a.index) 1 0) 1 (map built_option names) ≡ 1
one_place [] = refl
one_place (name ∷ names) = one_place names

in_order : (names : List Text) → is_in_order (built_rules names) ≡ true
in_order names =
    ap (λ (n : ℕ). not (list_any (is_early_multiple n) (built_rules names))) (one_place names)
    ∙ ap not (none_early 1 names)

leaves_simple : (commands : List Syntax) → list_all is_simple_leaf (map leaf commands) ≡ true
leaves_simple [] = refl
leaves_simple (command ∷ commands) = rw (options_simple command.options) (leaves_simple commands)

subs_ready : (commands : List Syntax) → list_all is_ready_leaf (map built_sub commands) ≡ true
subs_ready [] = refl
subs_ready (command ∷ commands) =
    rw (built_simple command.options, in_order command.options) (subs_ready commands)

subs_free : (commands : List Syntax) → list_all has_free_rules (map built_sub commands) ≡ true
subs_free [] = refl
subs_free (command ∷ commands) = rw (built_free command.options) (subs_free commands)

pub app_simple : (commands : List Syntax) → is_simple_and_free (app commands) ≡ true
app_simple commands =
    ap (λ (a : App). (is_buildable (app commands) && (is_ready a.top && list_all is_ready_leaf a.subs))
    && is_free_app a) (app_built commands)
    ∙ rw (leaves_simple commands, subs_ready commands, subs_free commands) refl

-- ---- the command that a word names

pub labels_found : (commands : List Syntax) (name : Text)
    → find (answers_to name) (map label_of (map built_sub commands))
    ≡ option_map (λ (c : Syntax). (c.name, [])) (syntax_named commands name)
labels_found [] name = refl
labels_found (command ∷ commands) name = go (bytes_eq command.name name) refl (labels_found commands name)
  where
    go : (b : Bool) → bytes_eq command.name name ≡ b
        → find (answers_to name) (map label_of (map built_sub commands))
        ≡ option_map (λ (c : Syntax). (c.name, [])) (syntax_named commands name)
        → find (answers_to name) (map label_of (map built_sub (command ∷ commands)))
        ≡ option_map (λ (c : Syntax). (c.name, [])) (syntax_named (command ∷ commands) name)
    go true e more = rw e refl
    go false e more = rw e more

pub subs_found : (commands : List Syntax) (name : Text)
    → find (λ s. answers_to name (label_of s)) (map built_sub commands)
    ≡ option_map built_sub (syntax_named commands name)
subs_found [] name = refl
subs_found (command ∷ commands) name = go (bytes_eq command.name name) refl (subs_found commands name)
  where
    go : (b : Bool) → bytes_eq command.name name ≡ b
        → find (λ s. answers_to name (label_of s)) (map built_sub commands)
        ≡ option_map built_sub (syntax_named commands name)
        → find (λ s. answers_to name (label_of s)) (map built_sub (command ∷ commands))
        ≡ option_map built_sub (syntax_named (command ∷ commands) name)
    go true e more = rw e refl
    go false e more = rw e more

pub has_that_name : (commands : List Syntax) (name : Text) (c : Syntax) → syntax_named commands name ≡ Some c
    → c.name ≡ name
has_that_name [] name c e = cc
has_that_name (command ∷ commands) name c e =
    go (bytes_eq command.name name) refl (λ (f : syntax_named commands name ≡ Some c). has_that_name commands name c f)
  where
    go : (b : Bool) → bytes_eq command.name name ≡ b → (syntax_named commands name ≡ Some c → c.name ≡ name)
        → c.name ≡ name
    go true same more =
        let is : ◌≡◌ {A = Option Syntax} (Some command) (Some c) = rw same at e in
        let it : command ≡ c = cc in
        ap (λ (x : Syntax). x.name) (sym it) ∙ same_text command.name name same
    go false other more = more (rw other at e)
