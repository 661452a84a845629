-- Functions that are joined by the numbers of their texts.
use Rattle.std.proofs.Common.{◌≡◌, ◌==◌, ℕ, ◌<◌, Bool, true, false, not, cond, List, [], ◌∷◌, ◌++◌, length, map, refl, sym}
use Rattle.std.proofs.Common.{◌∙◌, ap, arith, length-append, Ordering}
use Rattle.std.specs.Bool.{Decides}
use Rattle.std.specs.List.{All, AllByRecursion, list_any}
use Rattle.std.specs.Str.{bytes_eq}
use Rattle.std.proofs.lemmas.Bool.Decides.{Decides-eqb}
use Rattle.std.proofs.lemmas.List.{get_or-map, length-map, map-append, take-append-le}
use Rattle.std.proofs.lemmas.List.Elements.{All-filter}
use Rattle.std.proofs.lemmas.Slice.Eq.{bytes_eq-Decides}
use Rattle.key_tables.specs.Indexes.{Knows}
use Rattle.key_tables.specs.declared.index.Index.{Index}
use Rattle.cg_read.specs.Merge.{missing}
use Rattle.cg_read.specs.Profiles.{AreApart, same_function}
use Rattle.cg_read.specs.inner.Gains.{NumberEach, renumber}
use Rattle.cg_read.specs.inner.Texts.{AreOfTexts, IsOfTexts, Keeps, function_in, numbers_eq, text_in}
use Rattle.cg_read.proofs.JoinLemmas.{at_number, each_append, each_from, length_numbers}
use Rattle.cg_read.proofs.NumberLemmas.{at_seen}
use Rattle.cg_read.proofs.ProfileLemmas.{apart_numbered, each_at, number_is}
use Rattle.cg_read.proofs.TextLemmas.{functions_kept}
use Rattle.cg_read.specs.declared.rows.FuncKey.{FuncKey}
use Rattle.cg_read.specs.declared.function_numbers.FunctionNumbers.{FunctionNumbers}

same_test : {A B : Type 0} (p q : Bool) → Decides p A → Decides q B → (A → B) → (B → A) → p ≡ q
same_test true true d e f g = refl
same_test true false d e f g = sym (e.1 (f (d.0 refl)))
same_test false true d e f g = d.1 (g (e.0 refl))
same_test false false d e f g = refl

-- Functions of texts that differ are compared by the numbers of their texts.
module _ (texts : List (List ℕ)) (apart : AreApart texts) where
  abbrev see : FunctionNumbers → FuncKey
  see = function_in texts

  abbrev IsKnown : FunctionNumbers → Type 0
  IsKnown = IsOfTexts (length texts)

  same_number : (a b : ℕ) → a < length texts → b < length texts
      → (a == b) ≡ bytes_eq (text_in texts a) (text_in texts b)
  same_number a b in_a in_b =
      same_test (a == b) (bytes_eq (text_in texts a) (text_in texts b)) (Decides-eqb a b)
      (bytes_eq-Decides (text_in texts a) (text_in texts b)) (λ e. ap (text_in texts) e)
      (λ e. number_is texts a b apart in_a in_b e)

  any_seen : (x : FunctionNumbers) (xs : List FunctionNumbers) → IsKnown x → AllByRecursion IsKnown xs
      → list_any (numbers_eq x) xs ≡ list_any (same_function (see x)) (map see xs)
  any_seen x [] h k = refl
  any_seen x (y ∷ ys) h k =
      rw (
        same_number x.object y.object h.object k.0.object,
        same_number x.file y.file h.file k.0.file,
        same_number x.name y.name h.name k.0.name,
        any_seen x ys h k.1,
      ) refl

  seen-missing : (xs ys : List FunctionNumbers) → AllByRecursion IsKnown xs → AllByRecursion IsKnown ys
      → map see (missing numbers_eq xs ys) ≡ missing same_function (map see xs) (map see ys)
  seen-missing xs [] h k = refl
  seen-missing xs (y ∷ ys) h k =
      let rest = seen-missing xs ys h k.1 in
      let go : (b : Bool) → map see (cond (not b) (y ∷ missing numbers_eq xs ys) (missing numbers_eq xs ys))
      ≡ cond (not b) (see y ∷ missing same_function (map see xs) (map see ys))
      (missing same_function (map see xs) (map see ys))
      = elim [ true ↦ rest | false ↦ ap (λ (l : List FuncKey). see y ∷ l) rest ]
      in rw (any_seen y xs k.0 h) (go (list_any (same_function (see y)) (map see xs)))

-- numbers of keys are those of what the keys are seen as
number_seen : {K V : Type 0} (see : K → V) (table : List K) (ns : List ℕ) (ks : List K) → NumberEach table ns ks
    → NumberEach (map see table) ns (map see ks)
number_seen see table [] [] h = tt
number_seen see table [] (k ∷ ks) h = absurd h
number_seen see table (n ∷ ns) [] h = absurd h
number_seen see table (n ∷ ns) (k ∷ ks) h = (at_seen see table n k (see k) h.0 refl, number_seen see table ns ks h.1)

pub known_numbers : (table texts : List (List ℕ)) (numbers : List ℕ) (fs : List FunctionNumbers)
    → NumberEach table numbers texts → All (IsOfTexts (length texts)) fs → All (IsOfTexts (length numbers)) fs
known_numbers table texts numbers fs at known = rw (length_numbers table numbers texts at) known

moved_seen : (table texts : List (List ℕ)) (numbers : List ℕ) → NumberEach table numbers texts
    → (fs : List FunctionNumbers) → AllByRecursion (IsOfTexts (length texts)) fs
    → (map (function_in table) (map (renumber numbers) fs) ≡ map (function_in texts) fs)
    × AllByRecursion (IsOfTexts (length table)) (map (renumber numbers) fs)
moved_seen table texts numbers at [] h = (refl, tt)
moved_seen table texts numbers at (f ∷ fs) h =
    let object = at_number table numbers texts [] f.object at h.0.object in
    let file = at_number table numbers texts [] f.file at h.0.file in
    let name = at_number table numbers texts [] f.name at h.0.name in
    let rest = moved_seen table texts numbers at fs h.1 in (
      rw (object.0, file.0, name.0, rest.0) refl,
      (record { object = object.1; file = file.1; name = name.1 }, rest.1),
    )

-- what differs where it is seen differs itself
seen_apart : {K V : Type 0} (see : K → V) (xs : List K) → AreApart (map see xs) → AreApart xs
seen_apart see xs apart i j d less lt same =
    let inside : j < length (map see xs) = omega (arith, lt, length-map xs see) in
    apart i j (see d) less inside
    (get_or-map see xs i d (see d) (omega (arith, less, lt)) ∙ ap see same ∙ sym (get_or-map see xs j d (see d) lt))

-- functions whose texts have other numbers, and those to which they are joined
module _ (own others table : List (List ℕ)) (xs ys : List FunctionNumbers) (numbers : List ℕ)
    (holds_y : AreOfTexts others ys) (at : NumberEach table numbers others)
    (apart_x : AreApart (map (function_in own) xs)) (apart_y : AreApart (map (function_in others) ys)) where
  pub own_apart : AreApart xs
  own_apart = seen_apart (function_in own) xs apart_x

  pub others_apart : AreApart (map (renumber numbers) ys)
  others_apart =
      let moved = moved_seen table others numbers at ys (each_from (IsOfTexts (length others)) ys holds_y.of_texts) in
      seen_apart (function_in table) (map (renumber numbers) ys) (rw moved.0 apart_y)

-- functions and behind them those that they gain, once the texts that they gain stand behind theirs
module _ (own others table : List (List ℕ)) (xs ys more : List FunctionNumbers) (numbers : List ℕ)
    (holds_x : AreOfTexts own xs) (holds_y : AreOfTexts others ys) (keeps : Keeps own table)
    (at : NumberEach table numbers others) (apart : AreApart table)
    (is_more : more ≡ missing numbers_eq xs (map (renumber numbers) ys)) where
  own_seen : (map (function_in table) xs ≡ map (function_in own) xs) × AllByRecursion (IsOfTexts (length table)) xs
  own_seen = functions_kept own table keeps xs (each_from (IsOfTexts (length own)) xs holds_x.of_texts)

  others_seen : (map (function_in table) (map (renumber numbers) ys) ≡ map (function_in others) ys)
      × AllByRecursion (IsOfTexts (length table)) (map (renumber numbers) ys)
  others_seen = moved_seen table others numbers at ys (each_from (IsOfTexts (length others)) ys holds_y.of_texts)

  more_known : All (IsOfTexts (length table)) more
  more_known =
      rw is_more
      (All-filter (λ y. not (list_any (numbers_eq y) xs)) (IsOfTexts (length table)) (map (renumber numbers) ys)
      (each_at (IsOfTexts (length table)) (map (renumber numbers) ys) others_seen.1))

  pub keys_known : All (IsOfTexts (length table)) (xs ++ more)
  keys_known =
      each_at (IsOfTexts (length table)) (xs ++ more)
      (each_append (IsOfTexts (length table)) xs more own_seen.1
      (each_from (IsOfTexts (length table)) more more_known))

  pub functions_joined : map (function_in table) (xs ++ more)
      ≡ map (function_in own) xs ++ missing same_function (map (function_in own) xs) (map (function_in others) ys)
  functions_joined =
      map-append (function_in table) xs more
      ∙ ap (λ (l : List FunctionNumbers). map (function_in table) xs ++ map (function_in table) l) is_more
      ∙ ap (λ (l : List FuncKey). map (function_in table) xs ++ l)
      (seen-missing table apart xs (map (renumber numbers) ys) own_seen.1 others_seen.1)
      ∙ ap (λ (l : List FuncKey). l ++ missing same_function l (map (function_in table) (map (renumber numbers) ys)))
      own_seen.0
      ∙ ap (λ (l : List FuncKey). map (function_in own) xs ++ missing same_function (map (function_in own) xs) l)
      others_seen.0

  pub functions_numbered : (ns : List ℕ) → NumberEach (xs ++ more) ns (map (renumber numbers) ys)
      → NumberEach (map (function_in table) (xs ++ more)) ns (map (function_in others) ys)
  functions_numbered ns h =
      rw (← others_seen.0) (number_seen (function_in table) (xs ++ more) ns (map (renumber numbers) ys) h)

  pub functions_apart : AreApart (xs ++ more) → AreApart (map (function_in table) (xs ++ more))
  functions_apart apart_k = apart_numbered table (xs ++ more) apart apart_k keys_known

-- an index finds the first keys of a list that has more behind them
pub knows_more : {K : Type 0} (cmp : K → K → Ordering) (keys more : List K) (index : Index K) → Knows cmp keys index
    → Knows cmp (keys ++ more) index
knows_more cmp keys more index h = record {
  within = omega (arith, h.within, length-append keys more);
  found = rw (take-append-le index.count keys more h.within) h.found;
}
