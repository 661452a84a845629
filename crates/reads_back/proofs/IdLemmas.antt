-- Ids stand for the texts that they were written with.
use Rattle.std.proofs.Common.{◌≡◌, ℕ, suc, ◌+◌, ◌<◌, ◌≤◌, ◌^◌, Bool, true, false, not, ◌==◌, ◌||◌, nat_eq, cond}
use Rattle.std.proofs.Common.{if◌then◌else◌}
use Rattle.std.proofs.Common.{List, [], ◌∷◌, ◌++◌, length, Option, Some, refl, sym, ap, ◌∙◌, arith}
use Rattle.std.specs.List.{IsDistinct, list_any, position_or_len}
use Rattle.std.specs.Fmt.{decimal}
use Rattle.std.specs.Str.{bytes_eq}
use Rattle.std.proofs.lemmas.Bool.Decides.{nat_tests}
use Rattle.std.proofs.lemmas.Cmp.{nat_eq_equiv}
use Rattle.std.proofs.lemmas.List.Folds.{list_any-append}
use Rattle.std.proofs.lemmas.Map.Keys.{IsDistinct-push}
use Rattle.std.proofs.lemmas.Map.Steps.{length-le_from_distinct_below}
use Rattle.std.proofs.lemmas.Slice.Eq.{bytes_eq-Decides}
use Rattle.cg_format.specs.Marks.{add_number, id, is_in}
use Rattle.cg_read.specs.Meaning.{ids_after, text_of}
use Rattle.cg_lines.specs.Shapes.{id_of}
use Rattle.cg_lines.specs.declared.name.Name.TheVariants.{Id, Named}
use Rattle.reads_back.proofs.NumberLemmas.{same_id}
use Rattle.reads_back.proofs.ShapeLemmas.{id_read, name_read}

-- These numbers are written: they differ, are below the count, and the id of each stands for its text.
pub record AreIds (count : ℕ) (text : ℕ → List ℕ) (written : List ℕ) (known : List ℕ → Option (List ℕ)) : Type 0 where
  pub distinct : IsDistinct nat_eq written
  pub below : (n : ℕ) → is_in written n ≡ true → n < count
  pub stands : (n : ℕ) → is_in written n ≡ true → known (id_read written n) ≡ Some (text n)

-- Places

one_more : (n : ℕ) → 1 + n ≡ suc n
one_more n = omega arith

absent : (p : ℕ → Bool) (xs : List ℕ) → list_any p xs ≡ false → position_or_len p xs ≡ length xs
absent p [] none = refl
absent p (x ∷ xs) none = go (p x) none (absent p xs)
  where
    go : (b : Bool) → (b || list_any p xs) ≡ false → (list_any p xs ≡ false → position_or_len p xs ≡ length xs)
        → cond (not b) (1 + position_or_len p xs) 0 ≡ suc (length xs)
    go true none rest = absurd (cc)
    go false none rest = ap (λ n. 1 + n) (rest none) ∙ one_more (length xs)

present : (p : ℕ → Bool) (xs : List ℕ) → list_any p xs ≡ true → position_or_len p xs < length xs
present p [] some = absurd (cc)
present p (x ∷ xs) some = go (p x) some (present p xs)
  where
    go : (b : Bool) → (b || list_any p xs) ≡ true → (list_any p xs ≡ true → position_or_len p xs < length xs)
        → cond (not b) (1 + position_or_len p xs) 0 < suc (length xs)
    go true some rest = omega arith
    go false some rest = omega (arith, rest some)

place_kept : (p : ℕ → Bool) (xs : List ℕ) (y : ℕ) → list_any p xs ≡ true
    → position_or_len p (xs ++ y ∷ []) ≡ position_or_len p xs
place_kept p [] y some = absurd (cc)
place_kept p (x ∷ xs) y some = go (p x) some (place_kept p xs y)
  where
    go : (b : Bool) → (b || list_any p xs) ≡ true
        → (list_any p xs ≡ true → position_or_len p (xs ++ y ∷ []) ≡ position_or_len p xs)
        → cond (not b) (1 + position_or_len p (xs ++ y ∷ [])) 0 ≡ cond (not b) (1 + position_or_len p xs) 0
    go true some rest = refl
    go false some rest = ap (λ n. 1 + n) (rest some)

place_last : (p : ℕ → Bool) (xs : List ℕ) (y : ℕ) → list_any p xs ≡ false → p y ≡ true
    → position_or_len p (xs ++ y ∷ []) ≡ length xs
place_last p [] y none passes = ap (λ b. cond (not b) (1 + 0) 0) passes
place_last p (x ∷ xs) y none passes = go (p x) none (λ rest_none. place_last p xs y rest_none passes)
  where
    go : (b : Bool) → (b || list_any p xs) ≡ false
        → (list_any p xs ≡ false → position_or_len p (xs ++ y ∷ []) ≡ length xs)
        → cond (not b) (1 + position_or_len p (xs ++ y ∷ [])) 0 ≡ suc (length xs)
    go true none rest = absurd (cc)
    go false none rest = ap (λ n. 1 + n) (rest none) ∙ one_more (length xs)

-- One number more

same_number : (m n : ℕ) → nat_eq m n ≡ true → m ≡ n
same_number m n e = grind (arith, nat_tests)

in_pushed : (xs : List ℕ) (y q : ℕ) → is_in (xs ++ y ∷ []) q ≡ (is_in xs q || nat_eq q y)
in_pushed xs y q = list_any-append (nat_eq q) xs (y ∷ []) ∙ go (nat_eq q y)
  where
    go : (b : Bool) → (is_in xs q || (b || false)) ≡ (is_in xs q || b)
    go true = refl
    go false = refl

small_id : (n : ℕ) → n ≤ 2 ^ 32 → n < 10 ^ 64
small_id n small = omega arith

module _ (count : ℕ) (text : ℕ → List ℕ) (few : count < 2 ^ 32) (written : List ℕ) (known : List ℕ → Option (List ℕ))
    (ids : AreIds count text written known) where
  short : length written ≤ count
  short = length-le_from_distinct_below written count ids.distinct ids.below

  -- a name that is written stands for its text
  pub named_known : (n : ℕ) → text_of known (name_read written n (text n)) ≡ Some (text n)
  named_known n = go (is_in written n) refl
    where
      go : (b : Bool) → is_in written n ≡ b
          → text_of known (cond b (Id (id_read written n)) (Named (id_read written n) (text n))) ≡ Some (text n)
      go true is = ids.stands n is
      go false is = refl

  pub ids_named : (n : ℕ) → n < count
      → AreIds count text (add_number written n) (λ q. ids_after known (name_read written n (text n)) q)
  ids_named n within = go (is_in written n) refl
    where
      q_below : (q : ℕ) → is_in written n ≡ false → is_in (written ++ n ∷ []) q ≡ true → q < count
      q_below q new is = by (is_in written q) refl (sym (in_pushed written n q) ∙ is)
        where
          by : (b : Bool) → is_in written q ≡ b → (b || nat_eq q n) ≡ true → q < count
          by true old is = ids.below q old
          by false old is = let same : q ≡ n = same_number q n is in omega (arith, same, within)

      ids_differ : (q : ℕ) → is_in written n ≡ false → is_in written q ≡ true
          → bytes_eq (id_read written n) (id_read written q) ≡ false
      ids_differ q new old = by (bytes_eq (id_read written n) (id_read written q)) refl
        where
          by : (b : Bool) → bytes_eq (id_read written n) (id_read written q) ≡ b → b ≡ false
          by false is = refl
          by true is =
              let mine : position_or_len (λ x. n == x) written ≡ length written = absent (λ x. n == x) written new in
              let other : position_or_len (λ x. q == x) written < length written = present (λ x. q == x) written old in
              let same : id written n ≡ id written q =
              same_id (id written n) (id written q) (small_id (id written n) (omega (arith, mine, short, few)))
              (small_id (id written q) (omega (arith, other, short, few)))
              ((bytes_eq-Decides (id_read written n) (id_read written q)).0 is) in
              absurd (omega (arith, same, mine, other))

      q_stands : (q : ℕ) → is_in written n ≡ false → is_in (written ++ n ∷ []) q ≡ true
          → (if bytes_eq (id_read written n) (id_read (written ++ n ∷ []) q) then Some (text n)
          else known (id_read (written ++ n ∷ []) q)) ≡ Some (text q)
      q_stands q new is = by (is_in written q) refl (sym (in_pushed written n q) ∙ is)
        where
          kept : is_in written q ≡ true → id_read (written ++ n ∷ []) q ≡ id_read written q
          kept old = ap (λ p. id_of (decimal (p + 1))) (place_kept (λ x. q == x) written n old)

          by : (b : Bool) → is_in written q ≡ b → (b || nat_eq q n) ≡ true
              → (if bytes_eq (id_read written n) (id_read (written ++ n ∷ []) q) then Some (text n)
              else known (id_read (written ++ n ∷ []) q)) ≡ Some (text q)
          by true old is =
              ap (λ (i : List ℕ). if bytes_eq (id_read written n) i then Some (text n) else known i) (kept old)
              ∙ ap (λ b. if b then Some (text n) else known (id_read written q)) (ids_differ q new old)
              ∙ ids.stands q old
          by false old is =
              let same : q ≡ n = same_number q n is in
              let places : position_or_len (λ x. q == x) (written ++ n ∷ []) ≡ position_or_len (λ x. n == x) written =
              place_last (λ x. q == x) written n old is ∙ sym (absent (λ x. n == x) written new) in
              let one : id_read (written ++ n ∷ []) q ≡ id_read written n =
              ap (λ p. id_of (decimal (p + 1))) places in
              ap (λ (i : List ℕ). if bytes_eq (id_read written n) i then Some (text n) else known i) one
              ∙ ap (λ b. if b then Some (text n) else known (id_read written n))
              ((bytes_eq-Decides (id_read written n) (id_read written n)).1 refl)
              ∙ ap (λ p. Some (text p)) (sym same)

      go : (b : Bool) → is_in written n ≡ b
          → AreIds count text (cond b written (written ++ n ∷ []))
          (λ q. ids_after known (cond b (Id (id_read written n)) (Named (id_read written n) (text n))) q)
      go true is = record { distinct = ids.distinct; below = ids.below; stands = ids.stands }
      go false is = record {
        distinct = IsDistinct-push nat_eq_equiv written n ids.distinct is;
        below = λ q in_it. q_below q is in_it;
        stands = λ q in_it. q_stands q is in_it;
      }

pub no_ids : (count : ℕ) (text : ℕ → List ℕ) (known : List ℕ → Option (List ℕ)) → AreIds count text [] known
unfolding IsDistinct
no_ids count text known = record {
  distinct = tt;
  below = λ n is. absurd (cc);
  stands = λ n is. absurd (cc);
}
