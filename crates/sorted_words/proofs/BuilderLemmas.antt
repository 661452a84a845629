-- What the builder has told `clap` so far.
use Rattle.std.proofs.Common.{◌≡◌, ◌∙◌, ◌<◌, ◌+◌, ◌||◌, Bool, false, List, [], ◌∷◌, ◌++◌, refl, sym, ap, ap₂, ℕ, map}
use Rattle.std.proofs.Common.{take, length, Bor}
use Rattle.std.specs.List.{slice_index_or}
use Rattle.std.proofs.lemmas.List.{take_more}
use Rattle.clap.specs.Built.{AddsArg, AddsSubcommand}
use Rattle.clap.specs.Simple.{App, Shape, app_of, shape_of, with_subcommand}
use Rattle.clap.specs.Walk.{Rule, rule_of}
use Rattle.clap.specs.declared.builder.arg.Arg.{Arg}
use Rattle.clap.specs.declared.builder.command.Command.{Command}
use Rattle.clap.specs.declared.builder.command.Command.TheViews.{out-Command as fields_of}
use Rattle.sorted_words.specs.Sorting.{Syntax, Text}
use Rattle.sorted_words.specs.Syntaxes.{syntax_of}
use Rattle.sorted_words.specs.declared.syntax.Syntax as code
use Rattle.sorted_words.specs.inner.Builder.{app, has_none, leaf, option_rule, rules, values_rule}

-- the command stands for this syntax
pub record IsLeaf (syntax : Syntax) (command : Command) : Type 0 where
  pub shape : shape_of command ≡ leaf syntax
  pub local : (fields_of command).has_globals ≡ false

options_more : (names : List (Bor Text)) (x : Bor Text)
    → map option_rule (map (λ name. name.now) names) ++ option_rule x.now ∷ []
    ≡ map option_rule (map (λ name. name.now) (names ++ x ∷ []))
options_more [] x = refl
options_more (name ∷ names) x = ap (λ (rs : List Rule). option_rule name.now ∷ rs) (options_more names x)

abbrev syntax_with : Text → List (Bor Text) → Syntax
syntax_with name names = record { name = name; options = map (λ x. x.now) names }

rules_more : (name : Text) (names : List (Bor Text)) (x : Bor Text)
    → ◌≡◌ {A = Shape}
    (record (leaf (syntax_with name names)) { rules = rules (map (λ n. n.now) names) ++ option_rule x.now ∷ [] })
    (leaf (syntax_with name (names ++ x ∷ [])))
rules_more name names x =
    ap (λ (rs : List Rule). record (leaf (syntax_with name names)) { rules = values_first rs }) (options_more names x)
  where
    values_first : List Rule → List Rule
    values_first rs = values_rule ∷ rs

-- one more option
pub option_added : (name : Text) (names : List (Bor Text)) (i : ℕ) (d : Bor Text) (old new : Command) (a : Arg)
    → i < length names
    → AddsArg old a new → a.global ≡ false → rule_of a ≡ option_rule (slice_index_or names i d).now
    → IsLeaf (syntax_with name (take i names)) old → IsLeaf (syntax_with name (take (i + 1) names)) new
option_added name names i d old new a lt added local rule is = record {
  shape =
      ap (λ (x : App). x.top) (added.shape local)
      ∙ ap₂ (λ (s : Shape) (r : Rule). record s { rules = s.rules ++ r ∷ [] }) is.shape rule
      ∙ rules_more name (take i names) (slice_index_or names i d)
      ∙ ap (λ (xs : List (Bor Text)). leaf (syntax_with name xs)) (sym (take_more names i d lt));
  local = added.globals ∙ ap₂ (λ (x y : Bool). x || y) is.local local;
}

none_more : (commands : List Syntax) (command : Syntax) → false ≡ has_none (commands ++ command ∷ [])
none_more [] command = refl
none_more (c ∷ commands) command = refl

leaves_more : (commands : List Syntax) (command : Syntax)
    → map leaf commands ++ leaf command ∷ [] ≡ map leaf (commands ++ command ∷ [])
leaves_more [] command = refl
leaves_more (c ∷ commands) command = ap (λ (ss : List Shape). leaf c ∷ ss) (leaves_more commands command)

app_more : (commands : List Syntax) (command : Syntax)
    → with_subcommand (app commands) (leaf command) ≡ app (commands ++ command ∷ [])
app_more commands command =
    ap₂ (λ (none : Bool) (ss : List Shape). record { top = record (app commands).top { is_leaf = none }; subs = ss })
    (none_more commands command) (leaves_more commands command)

syntaxes_more : (commands : List code.Syntax) (command : code.Syntax)
    → map syntax_of commands ++ syntax_of command ∷ [] ≡ map syntax_of (commands ++ command ∷ [])
syntaxes_more [] command = refl
syntaxes_more (c ∷ commands) command = ap (λ (ss : List Syntax). syntax_of c ∷ ss) (syntaxes_more commands command)

-- one more command
pub command_added : (commands : List code.Syntax) (i : ℕ) (x : code.Syntax) (old sub new : Command)
    → i < length commands
    → x ≡ slice_index_or commands i x → AddsSubcommand old sub new → (fields_of sub).has_globals ≡ false
    → shape_of sub ≡ leaf (syntax_of x) → app_of old ≡ app (map syntax_of (take i commands))
    → app_of new ≡ app (map syntax_of (take (i + 1) commands))
command_added commands i x old sub new lt here added local shape is =
    added.shape local
    ∙ ap₂ with_subcommand is shape
    ∙ app_more (map syntax_of (take i commands)) (syntax_of x)
    ∙ ap app (syntaxes_more (take i commands) x)
    ∙ ap (λ (xs : List code.Syntax). app (map syntax_of xs))
    (ap (λ (y : code.Syntax). take i commands ++ y ∷ []) here ∙ sym (take_more commands i x lt))
