-- What was given is what is asked for.
use Rattle.std.proofs.Common.{◌≡◌, ◌∙◌, Bool, true, false, cond, List, [], ◌∷◌, refl, sym, ap, subst, Option, Some}
use Rattle.std.proofs.Common.{None, map}
use Rattle.std.specs.Prelude.{find, option_and_then, option_map}
use Rattle.std.proofs.lemmas.List.Folds.{list_all-map}
use Rattle.std.specs.List.{list_all}
use Rattle.std.specs.Str.{bytes_eq}
use Rattle.sorted_words.specs.SortedWords.{SortedWords, IsSorting, has_named_options}
use Rattle.sorted_words.specs.Sorting.{SortedCommand, Syntax, Text, is_among, sort_words, sorting, syntax_named, uses}
use Rattle.sorted_words.specs.Syntaxes.{syntax_of as code_syntax_of}
use Rattle.sorted_words.specs.declared.syntax.Syntax as code
use Rattle.command_words.specs.Request.{Uses, read_request, request_of, command_named, request}
use Rattle.command_words.specs.Meaning.{uses_of}
use Rattle.command_words.specs.Table.{Command, Run, Report, Annotate, Demo, commands, name_of, rows_of, syntax_of}

-- a command with its options
pub syntax_is : (taker : Command) (name : Text) (names : List Text) → name ≡ name_of taker
    → names ≡ map (λ row. row.name) (rows_of taker)
    → ◌≡◌ {A = Syntax} (record { name = name; options = names }) (syntax_of taker)
syntax_is taker name names e1 e2 = λ i. record { name = e1 i; options = e2 i }

pub all_named : (syntaxes : List code.Syntax) → map code_syntax_of syntaxes ≡ map syntax_of commands
    → list_all (λ command. has_named_options (code_syntax_of command)) syntaxes ≡ true
all_named syntaxes is = sym (list_all-map has_named_options code_syntax_of syntaxes)
    ∙ ap (list_all has_named_options) is

-- ---- only the options of the command are looked at

abbrev among : List Text → Uses → Uses
among names given = λ name. cond (is_among names name) (given name) []

among_same : (names : List Text) (f g : Uses) → ((name : Text) → is_among names name ≡ true → f name ≡ g name)
    → among names f ≡ among names g
among_same names f g same = λ i name. go name (is_among names name) refl i
  where
    go : (name : Text) (b : Bool) → is_among names name ≡ b → among names f name ≡ among names g name
    go name true e = rw e (same name e)
    go name false e = rw e refl

only_its_own : (c : Command) (given : Uses) (values : List Text)
    → request (Some c) given values ≡ request (Some c) (among (syntax_of c).options given) values
only_its_own Run given values = refl
only_its_own Report given values = refl
only_its_own Annotate given values = refl
only_its_own Demo given values = refl

request_same : (c : Command) (f g : Uses) (values : List Text)
    → ((name : Text) → is_among (syntax_of c).options name ≡ true → f name ≡ g name)
    → request (Some c) f values ≡ request (Some c) g values
request_same c f g values same =
    only_its_own c f values ∙ ap (λ (u : Uses). request (Some c) u values) (among_same (syntax_of c).options f g same)
    ∙ sym (only_its_own c g values)

-- ---- a command that was sorted is one of the table

named_again : (c : Command) → command_named (name_of c) ≡ Some c
named_again Run = refl
named_again Report = refl
named_again Annotate = refl
named_again Demo = refl

find_syntax : (name : Text) (cs : List Command)
    → syntax_named (map syntax_of cs) name ≡ option_map syntax_of (find (λ c. bytes_eq (name_of c) name) cs)
find_syntax name [] = refl
find_syntax name (c ∷ cs) = go (bytes_eq (name_of c) name) (find_syntax name cs)
  where
    go : (b : Bool)
        → syntax_named (map syntax_of cs) name ≡ option_map syntax_of (find (λ x. bytes_eq (name_of x) name) cs)
        → cond b (Some (syntax_of c)) (syntax_named (map syntax_of cs) name)
        ≡ option_map syntax_of (cond b (Some c) (find (λ x. bytes_eq (name_of x) name) cs))
    go true more = refl
    go false more = more

Found : Option Syntax → Type 0
Found None = Unit {0}
Found (Some s) = (c : Command) × (s ≡ syntax_of c)

all_found : (o : Option Command) → Found (option_map syntax_of o)
unfolding Found
all_found None = tt
all_found (Some c) = (c, refl)

abbrev paired : Syntax → SortedCommand → Syntax × SortedCommand
paired syntax rest = (syntax, rest)

sorted_found : (words : List Text) (o : Option Syntax) → Found o → (s : Syntax) (r : SortedCommand)
    → option_and_then (λ (command : Syntax). option_map (paired command) (sort_words command.options words None)) o
    ≡ Some (s, r)
    → (c : Command) × (s ≡ syntax_of c)
unfolding Found
sorted_found words None found s r e = cc
sorted_found words (Some t) found s r e = go (sort_words t.options words None) e
  where
    go : (o : Option SortedCommand) → option_map (paired t) o ≡ Some (s, r) → (c : Command) × (s ≡ syntax_of c)
    go None e = cc
    go (Some rest) e =
        let pair : ◌≡◌ {A = Syntax × SortedCommand} (t, rest) (s, r) = cc in
        (found.0, sym (ap (λ (p : Syntax × SortedCommand). p.0) pair) ∙ found.1)

from_table : (words : List Text) (s : Syntax) (r : SortedCommand) → sorting (map syntax_of commands) words ≡ Some (s, r)
    → (c : Command) × (s ≡ syntax_of c)
from_table [] s r e = cc
from_table (own ∷ []) s r e = cc
from_table (own ∷ name ∷ words) s r e =
    sorted_found words (syntax_named (map syntax_of commands) name)
    (subst Found (sym (find_syntax name commands)) (all_found (find (λ c. bytes_eq (name_of c) name) commands))) s r e

-- ---- what is asked for

asked_given : (words : List Text) (o : Option (Syntax × SortedCommand)) → sorting (map syntax_of commands) words ≡ o
    → (given : SortedWords) → IsSorting o (Some given) → request (command_named given.command) (uses_of given) given.values
    ≡ request_of o
asked_given words None e given h = absurd h
asked_given words (Some (s, r)) e given h =
    let c = from_table words s r e in
    let name : given.command ≡ name_of c.0 = h.0 ∙ ap (λ (x : Syntax). x.name) c.1 in
    let asked_name : s.name ≡ name_of c.0 = ap (λ (x : Syntax). x.name) c.1 in
    ap (λ (n : Text). request (command_named n) (uses_of given) given.values) name
    ∙ ap (λ (o : Option Command). request o (uses_of given) given.values) (named_again c.0)
    ∙ request_same c.0 (uses_of given) (λ n. uses n r.options) given.values
    (λ n known. h.1.options n (ap (λ (x : Syntax). is_among x.options n) c.1 ∙ known))
    ∙ ap (λ (values : List Text). request (Some c.0) (λ n. uses n r.options) values) h.1.values
    ∙ sym (ap (λ (n : Text). request (command_named n) (λ m. uses m r.options) r.values) asked_name
    ∙ ap (λ (o : Option Command). request o (λ m. uses m r.options) r.values) (named_again c.0))

pub asked_is : (words : List Text) (given : SortedWords) → IsSorting (sorting (map syntax_of commands) words) (Some given)
    → request (command_named given.command) (uses_of given) given.values ≡ read_request words
asked_is words given h = asked_given words (sorting (map syntax_of commands) words) refl given h
