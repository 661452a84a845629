-- What a use adds to the rows that `clap` keeps.
use Rattle.std.proofs.Common.{◌≡◌, ◌∙◌, Bool, true, false, true≢false, List, [], ◌∷◌, ◌++◌, append_assoc, refl, sym, ap}
use Rattle.std.proofs.Common.{subst, option_map}
use Rattle.std.proofs.lemmas.List.{append-nil}
use Rattle.std.proofs.lemmas.Slice.Eq.{bytes_eq-Decides}
use Rattle.std.specs.Str.{bytes_eq}
use Rattle.clap.specs.Matches.{matched_of, raw_values}
use Rattle.clap.specs.Walk.{Row, all_of, rows_of, with_values}
use Rattle.clap.specs.declared.parser.matches.Found.{Found}
use Rattle.clap.proofs.WalkLemmas.{raw_values-rows}
use Rattle.clap.specs.declared.builder.value_parser.Reading.{Reading}
use Rattle.clap.specs.declared.parser.matches.ValueSource.{ValueSource}
use Rattle.sorted_words.specs.SortedWords.{find_values, under}
use Rattle.sorted_words.specs.Sorting.{SortedCommand, Text, is_among, uses}
use Rattle.sorted_words.specs.inner.Builder.{values_id}
use Rattle.sorted_words.specs.inner.Matches.{entries}

pub same_text : (a b : Text) → bytes_eq a b ≡ true → a ≡ b
same_text a b = (bytes_eq-Decides a b).0

pub text_is_itself : (a : Text) → bytes_eq a a ≡ true
text_is_itself a = (bytes_eq-Decides a a).1 refl

-- the values of a use stand at the end of those under its id
pub under_same : (id : Text) (how : Reading) (s : ValueSource) (vs : List Text) (rows : List Row)
    → under id (entries (with_values id how s vs rows)) ≡ under id (entries rows) ++ vs
under_same id how s vs [] = rw (text_is_itself id) refl
under_same id how s vs (r ∷ rs) = go (bytes_eq r.id id) refl (under_same id how s vs rs)
  where
    go : (b : Bool) → bytes_eq r.id id ≡ b
        → under id (entries (with_values id how s vs rs)) ≡ under id (entries rs) ++ vs
        → under id (entries (with_values id how s vs (r ∷ rs))) ≡ under id (entries (r ∷ rs)) ++ vs
    go true e more = rw (e, e) refl
    go false e more = rw (e, e) more

-- nothing changes under another id
pub under_other : (id other : Text) (how : Reading) (s : ValueSource) (vs : List Text) (rows : List Row)
    → bytes_eq id other ≡ false
    → under other (entries (with_values id how s vs rows)) ≡ under other (entries rows)
under_other id other how s vs [] apart = rw apart refl
under_other id other how s vs (r ∷ rs) apart =
    go (bytes_eq r.id id) refl (bytes_eq r.id other) refl (under_other id other how s vs rs apart)
  where
    go : (b : Bool) → bytes_eq r.id id ≡ b → (c : Bool) → bytes_eq r.id other ≡ c
        → under other (entries (with_values id how s vs rs)) ≡ under other (entries rs)
        → under other (entries (with_values id how s vs (r ∷ rs))) ≡ under other (entries (r ∷ rs))
    go true e c f more =
        let here : bytes_eq r.id other ≡ false = ap (λ (x : Text). bytes_eq x other) (same_text r.id id e) ∙ apart in
        rw (e, here) refl
    go false e true f more = rw (e, f) refl
    go false e false f more = rw (e, f) more

-- `after` has what `before` has, and then what was sorted
pub record Adds (names : List Text) (before after : List Row) (more : SortedCommand) : Type 0 where
  pub options : (name : Text) → is_among names name ≡ true
      → under name (entries after) ≡ under name (entries before) ++ uses name more.options
  pub values : under values_id (entries after) ≡ under values_id (entries before) ++ more.values

pub adds_nothing : (names : List Text) (rows : List Row) → Adds names rows rows (record { options = []; values = [] })
adds_nothing names rows = record {
  options = λ name known. sym (append-nil (under name (entries rows)));
  values = sym (append-nil (under values_id (entries rows)));
}

-- a test that holds of one text and not of another tells them apart
pub texts_apart : (names : List Text) (a b : Text) → is_among names a ≡ true → is_among names b ≡ false
    → bytes_eq a b ≡ false
texts_apart names a b among off = go (bytes_eq a b) refl
  where
    go : (c : Bool) → bytes_eq a b ≡ c → c ≡ false
    go false e = refl
    go true e = absurd (true≢false (sym among ∙ ap (λ (x : Text). is_among names x) (same_text a b e) ∙ off))

pub texts_apart_too : (names : List Text) (a b : Text) → is_among names a ≡ true → is_among names b ≡ false
    → bytes_eq b a ≡ false
texts_apart_too names a b among off = go (bytes_eq b a) refl
  where
    go : (c : Bool) → bytes_eq b a ≡ c → c ≡ false
    go false e = refl
    go true e = absurd (true≢false (sym among ∙ ap (λ (x : Text). is_among names x) (sym (same_text b a e)) ∙ off))

module _ (names : List Text) (unnamed : is_among names values_id ≡ false) (how : Reading) (s : ValueSource) where
  pub adds_value : (before after : List Row) (word : Text) (more : SortedCommand)
      → Adds names (with_values values_id how s (word ∷ []) before) after more
      → Adds names before after (record more { values = word ∷ more.values })
  adds_value before after word more h = record {
    options = λ name known.
        h.options name known
        ∙ ap (λ (xs : List Text). xs ++ uses name more.options)
        (under_other values_id name how s (word ∷ []) before (texts_apart_too names name values_id known unnamed));
    values = h.values ∙ ap (λ (xs : List Text). xs ++ more.values) (under_same values_id how s (word ∷ []) before)
        ∙ append_assoc (under values_id (entries before)) (word ∷ []) more.values;
  }

  pub adds_option : (before after : List Row) (name word : Text) (more : SortedCommand) → is_among names name ≡ true
      → Adds names (with_values name how s (word ∷ []) before) after more
      → Adds names before after (record more { options = (name, word) ∷ more.options })
  adds_option before after name word more known h = record {
    options = λ other among. go other among (bytes_eq name other) refl;
    values = h.values
        ∙ ap (λ (xs : List Text). xs ++ more.values)
        (under_other name values_id how s (word ∷ []) before (texts_apart names name values_id known unnamed));
  }
    where
      go : (other : Text) → is_among names other ≡ true → (b : Bool) → bytes_eq name other ≡ b
          → under other (entries after) ≡ under other (entries before) ++ uses other ((name, word) ∷ more.options)
      go other among true e =
          let is : name ≡ other = same_text name other e in
          let here : under other (entries (with_values name how s (word ∷ []) before))
          ≡ under other (entries before) ++ (word ∷ []) =
          subst (λ (x : Text). under x (entries (with_values name how s (word ∷ []) before))
          ≡ under x (entries before) ++ (word ∷ [])) is
          (under_same name how s (word ∷ []) before) in
          rw e (h.options other among ∙ ap (λ (xs : List Text). xs ++ uses other more.options) here
          ∙ append_assoc (under other (entries before)) (word ∷ []) (uses other more.options))
      go other among false e =
          rw e (h.options other among
          ∙ ap (λ (xs : List Text). xs ++ uses other more.options) (under_other name other how s (word ∷ []) before e))

-- what `clap` has under an id
all_found : (id : Text) (rows : List Row) → all_of id rows ≡ find_values id (entries rows)
all_found id [] = refl
all_found id (r ∷ rs) = go (bytes_eq r.id id) refl (all_found id rs)
  where
    go : (b : Bool) → bytes_eq r.id id ≡ b → all_of id rs ≡ find_values id (entries rs)
        → all_of id (r ∷ rs) ≡ find_values id (entries (r ∷ rs))
    go true e more = rw e refl
    go false e more = rw e more

pub strs_found : (f : Found) (id : Text) → option_map raw_values (matched_of f id) ≡ find_values id (entries (rows_of f))
strs_found f id = raw_values-rows f id ∙ all_found id (rows_of f)
