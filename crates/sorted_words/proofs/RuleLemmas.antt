-- The rules of a command's options and values, once `clap` has built them.
use Rattle.std.proofs.Common.{◌≡◌, ◌∙◌, ◌&&◌, ◌||◌, not, Bool, true, false, true≢false, cond, List, [], ◌∷◌, refl, sym}
use Rattle.std.proofs.Common.{ap, ℕ, map, Option, Some, None, find, is_some, fold}
use Rattle.std.specs.List.{list_any}
use Rattle.std.specs.Str.{bytes_eq}
use Rattle.clap.specs.Faults.{default_fault, defaults_fault, given_default_fault}
use Rattle.clap.specs.Kinds.{Kinds, or_else}
use Rattle.clap.specs.Simple.{filled_from, new_rule}
use Rattle.clap.specs.Takes.{is_given}
use Rattle.clap.specs.Walk.{Row, Rule, arg_by_id, arg_by_index, arg_by_long, arg_by_short, has_long, has_row, has_short}
use Rattle.clap.specs.Walk.{with_default}
use Rattle.clap.specs.declared.builder.action.ArgAction.TheVariants.{Append}
use Rattle.clap.specs.declared.builder.value_parser.ValueParser.TheVariants as parser
use Rattle.sorted_words.specs.Sorting.{Text, is_among}
use Rattle.sorted_words.specs.inner.Builder.{option_rule, rules, values_id}
use Rattle.sorted_words.proofs.RowLemmas.{same_text, texts_apart_too}

abbrev pub built_rule : Text → Option Text → Option ℕ → Rule
built_rule id long index = record (new_rule id) {
  long = long;
  index = index;
  action = Some Append;
  range = Some (record { start_inclusive = 1; end_inclusive = 1 });
  parser = Some parser.String;
}

abbrev pub built_option : Text → Rule
built_option name = built_rule name (Some name) None

abbrev pub built_values : Rule
built_values = built_rule values_id None (Some 1)

abbrev pub built_rules : List Text → List Rule
built_rules names = built_values ∷ map built_option names

options_built : (i : ℕ) (names : List Text) → filled_from i (map option_rule names) ≡ map built_option names
options_built i [] = refl
options_built i (name ∷ names) = ap (λ (xs : List Rule). built_option name ∷ xs) (options_built i names)

pub rules_built : (names : List Text) → filled_from 1 (rules names) ≡ built_rules names
rules_built names = ap (λ (xs : List Rule). built_values ∷ xs) (options_built 2 names)

-- what the walk over the words asks of the rules
pub record IsBuilt (c : List Rule) (names : List Text) : Type 0 where
  pub unnamed : is_among names values_id ≡ false
  pub long : (name : Text) → is_among names name ≡ true → arg_by_long c name ≡ Some (built_option name)
  pub no_long : (name : Text) → is_among names name ≡ false → arg_by_long c name ≡ None
  pub option : (name : Text) → is_among names name ≡ true → arg_by_id c name ≡ Some (built_option name)
  pub values : arg_by_id c values_id ≡ Some built_values
  pub short : (x : ℕ) → arg_by_short c x ≡ None
  pub place : arg_by_index c 1 ≡ Some built_values
  pub defaults : (rows : List Row) → fold with_default rows c ≡ rows
  pub no_defaults : (rows : List Row) → defaults_fault rows c ≡ []
  pub none_required : (rows : List Row) → list_any (λ a. a.required && not (is_given a.id rows)) c ≡ false

long_found : (name : Text) (names : List Text) → is_among names name ≡ true
    → find (λ a. not (is_some a.index) && has_long a name) (map built_option names) ≡ Some (built_option name)
long_found name [] known = absurd (true≢false (sym known))
long_found name (n ∷ ns) known = go (bytes_eq n name) refl (λ (k : is_among ns name ≡ true). long_found name ns k)
  where
    go : (b : Bool) → bytes_eq n name ≡ b
        → (is_among ns name ≡ true → find (λ a. not (is_some a.index) && has_long a name) (map built_option ns)
        ≡ Some (built_option name))
        → find (λ a. not (is_some a.index) && has_long a name) (map built_option (n ∷ ns)) ≡ Some (built_option name)
    go true e more = rw e (ap (λ (x : Text). Some (built_option x)) (same_text n name e))
    go false e more = rw e (more (rw e at known))

long_not_found : (name : Text) (names : List Text) → is_among names name ≡ false
    → find (λ a. not (is_some a.index) && has_long a name) (map built_option names) ≡ None
long_not_found name [] off = refl
long_not_found name (n ∷ ns) off =
    go (bytes_eq n name) refl (λ (k : is_among ns name ≡ false). long_not_found name ns k)
  where
    go : (b : Bool) → bytes_eq n name ≡ b
        → (is_among ns name ≡ false → find (λ a. not (is_some a.index) && has_long a name) (map built_option ns) ≡ None)
        → find (λ a. not (is_some a.index) && has_long a name) (map built_option (n ∷ ns)) ≡ None
    go true e more = absurd (true≢false (rw e at off))
    go false e more = rw e (more (rw e at off))

id_found : (name : Text) (names : List Text) → is_among names name ≡ true
    → find (λ a. bytes_eq a.id name) (map built_option names) ≡ Some (built_option name)
id_found name [] known = absurd (true≢false (sym known))
id_found name (n ∷ ns) known = go (bytes_eq n name) refl (λ (k : is_among ns name ≡ true). id_found name ns k)
  where
    go : (b : Bool) → bytes_eq n name ≡ b
        → (is_among ns name ≡ true → find (λ a. bytes_eq a.id name) (map built_option ns) ≡ Some (built_option name))
        → find (λ a. bytes_eq a.id name) (map built_option (n ∷ ns)) ≡ Some (built_option name)
    go true e more = rw e (ap (λ (x : Text). Some (built_option x)) (same_text n name e))
    go false e more = rw e (more (rw e at known))

no_short : (x : ℕ) (names : List Text)
    → find (λ a. not (is_some a.index) && has_short a x) (map built_option names) ≡ None
no_short x [] = refl
no_short x (n ∷ ns) = no_short x ns

cond_same : {A : Type 0} (b : Bool) (x : A) → cond b x x ≡ x
cond_same true x = refl
cond_same false x = refl

one_kept : (rows : List Row) (id : Text) (long : Option Text) (index : Option ℕ)
    → with_default rows (built_rule id long index) ≡ rows
one_kept rows id long index = cond_same (has_row id rows) rows

kept : (rows : List Row) (names : List Text) → fold with_default rows (map built_option names) ≡ rows
kept rows [] = refl
kept rows (n ∷ ns) =
    ap (λ (r : List Row). fold with_default r (map built_option ns)) (one_kept rows n (Some n) None) ∙ kept rows ns

no_default : (rows : List Row) (id : Text) (long : Option Text) (index : Option ℕ)
    → default_fault rows (built_rule id long index) ≡ []
no_default rows id long index = go (has_row id rows)
  where
    go : (b : Bool) → cond (b || true) [] (given_default_fault (built_rule id long index) []) ≡ []
    go true = refl
    go false = refl

default_step : (rows : List Row) (id : Text) (long : Option Text) (index : Option ℕ) (rest : List Rule)
    → defaults_fault rows rest ≡ []
    → defaults_fault rows (built_rule id long index ∷ rest) ≡ []
unfolding defaults_fault
default_step rows id long index rest none =
    ap (λ (k : Kinds). or_else k (defaults_fault (with_default rows (built_rule id long index)) rest))
    (no_default rows id long index)
    ∙ ap (λ (r : List Row). defaults_fault r rest) (one_kept rows id long index) ∙ none

no_faults : (rows : List Row) (names : List Text) → defaults_fault rows (map built_option names) ≡ []
unfolding defaults_fault
no_faults rows [] = refl
no_faults rows (n ∷ ns) = default_step rows n (Some n) None (map built_option ns) (no_faults rows ns)

none_asked : (rows : List Row) (names : List Text)
    → list_any (λ a. a.required && not (is_given a.id rows)) (map built_option names) ≡ false
none_asked rows [] = refl
none_asked rows (n ∷ ns) = none_asked rows ns

pub is_built : (names : List Text) → is_among names values_id ≡ false → IsBuilt (built_rules names) names
is_built names unnamed = record {
  unnamed = unnamed;
  long = λ name known. long_found name names known;
  no_long = λ name off. long_not_found name names off;
  option = λ name known. rw (texts_apart_too names name values_id known unnamed) (id_found name names known);
  values = refl;
  short = λ x. no_short x names;
  place = refl;
  defaults = λ rows.
      ap (λ (r : List Row). fold with_default r (map built_option names)) (one_kept rows values_id None (Some 1))
      ∙ kept rows names;
  no_defaults = λ rows. default_step rows values_id None (Some 1) (map built_option names) (no_faults rows names);
  none_required = λ rows. none_asked rows names;
}
