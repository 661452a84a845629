-- Decimal numbers, read again.
use Rattle.std.proofs.Common.{None, get_or}
use Rattle.std.proofs.lemmas.List.{get_or_default}
use Rattle.std.proofs.Common.{◌≡◌, ℕ, zero, suc, ◌+◌, ◌-◌, ◌/◌, ◌%◌, ◌<◌, ◌≤◌, ◌^◌, Bool, true, false, not, ◌&&◌}
use Rattle.std.proofs.Common.{◌==◌, nat_eq, nat_lt, cond, List, [], ◌∷◌, ◌++◌, length, map, codes, drop, Some, refl}
use Rattle.std.proofs.Common.{sym}
use Rattle.std.proofs.Common.{ap, ◌∙◌, subst, arith}
use Rattle.std.specs.Char.{digit_value, is_ascii_digit, is_digit}
use Rattle.std.specs.Fmt.{decimal, digit_glyph, digits, digits_onto}
use Rattle.std.specs.List.{filter, list_all, prefix_len, slice_split, starts_with, All}
use Rattle.std.specs.Str.Parse.{digits_value}
use Rattle.std.proofs.lemmas.Bool.Decides.{nat_tests}
use Rattle.std.proofs.lemmas.Fmt.{decimal_is_IsNumeral, decimal_is_IsNumeral_wide}
use Rattle.std.proofs.lemmas.List.{append-nil}
use Rattle.std.proofs.lemmas.List.Splits.{slice_split_at, slice_split_none}
use Rattle.std.proofs.lemmas.Str.{digit_value_digit}
use Rattle.byte_text.specs.Names.{is_printable}
use Rattle.cg_format.specs.Marks.{cost_text}
use Rattle.cg_lines.specs.Lines.{is_some_word, words}
use Rattle.cg_lines.specs.Numbers.{checked_number, number_of, numeral}
use Rattle.cg_lines.specs.Shapes.{id_of}
use Rattle.cg_lines.specs.declared.number.Number.TheVariants.{Fits, TooLarge}
use Rattle.key_tables.specs.Same.{both_true}
use Rattle.reads_back.proofs.TextLemmas.{IsText, is_seen}
use Rattle.std.proofs.lemmas.Bool.{and_from}

-- Digits

glyph_digit : (d : ℕ) → d < 10 → is_ascii_digit (digit_glyph false d) ≡ true
glyph_digit d small = grind (arith, nat_tests)

onto_digits : (k n : ℕ) (acc : List ℕ) → list_all is_ascii_digit acc ≡ true
    → list_all is_ascii_digit (digits_onto k 10 false n acc) ≡ true
onto_digits zero n acc all = all
onto_digits (suc k) n acc all = go (n / 10 == 0) (onto_digits k (n / 10) (digit_glyph false (n % 10) ∷ acc))
  where
    last : list_all is_ascii_digit (digit_glyph false (n % 10) ∷ acc) ≡ true
    last = and_from (is_ascii_digit (digit_glyph false (n % 10))) (list_all is_ascii_digit acc)
        (glyph_digit (n % 10) (omega arith)) all

    go : (b : Bool)
        → (list_all is_ascii_digit (digit_glyph false (n % 10) ∷ acc) ≡ true
        → list_all is_ascii_digit (digits_onto k 10 false (n / 10) (digit_glyph false (n % 10) ∷ acc)) ≡ true)
        → list_all is_ascii_digit
        (cond b (digit_glyph false (n % 10) ∷ acc) (digits_onto k 10 false (n / 10) (digit_glyph false (n % 10) ∷ acc)))
        ≡ true
    go true more = last
    go false more = more last

onto_long : (k n : ℕ) (acc : List ℕ) → length acc ≤ length (digits_onto k 10 false n acc)
onto_long zero n acc = omega arith
onto_long (suc k) n acc = go (n / 10 == 0) (onto_long k (n / 10) (digit_glyph false (n % 10) ∷ acc))
  where
    go : (b : Bool)
        → suc (length acc) ≤ length (digits_onto k 10 false (n / 10) (digit_glyph false (n % 10) ∷ acc))
        → length acc ≤ length
        (cond b (digit_glyph false (n % 10) ∷ acc) (digits_onto k 10 false (n / 10) (digit_glyph false (n % 10) ∷ acc)))
    go true more = omega arith
    go false more = omega arith

onto_some : (k n : ℕ) (acc : List ℕ) → 0 < length (digits_onto (suc k) 10 false n acc)
onto_some k n acc = go (n / 10 == 0)
  where
    go : (b : Bool) → 0 < length
        (cond b (digit_glyph false (n % 10) ∷ acc) (digits_onto k 10 false (n / 10) (digit_glyph false (n % 10) ∷ acc)))
    go true = omega arith
    go false = omega (arith, onto_long k (n / 10) (digit_glyph false (n % 10) ∷ acc))

pub decimal_digits : (n : ℕ) → list_all is_ascii_digit (decimal n) ≡ true
unfolding digits
decimal_digits n = onto_digits 64 n [] refl

pub decimal_some : (n : ℕ) → 0 < length (decimal n)
unfolding digits
decimal_some n = onto_some 63 n []

-- a list of digits by its first one
pub record IsNumber (ds : List ℕ) : Type 0 where
  pub first : ℕ
  pub rest : List ℕ
  pub is : ds ≡ first ∷ rest
  pub digit : is_ascii_digit first ≡ true
  pub digits : list_all is_ascii_digit rest ≡ true

number_parts : (ds : List ℕ) → list_all is_ascii_digit ds ≡ true → 0 < length ds → IsNumber ds
number_parts [] all some = absurd (omega arith)
number_parts (d ∷ ds) all some =
    let parts = both_true (is_ascii_digit d) (list_all is_ascii_digit ds) all in
    record { first = d; rest = ds; is = refl; digit = parts.0; digits = parts.1 }

pub decimal_parts : (n : ℕ) → IsNumber (decimal n)
decimal_parts n = number_parts (decimal n) (decimal_digits n) (decimal_some n)

-- Digits are printable, and the last one is seen.

digit_printable : (d : ℕ) → is_ascii_digit d ≡ true → is_printable d ≡ true
digit_printable d e = grind (arith, nat_tests)

digit_seen : (d : ℕ) → is_ascii_digit d ≡ true → is_seen d ≡ true
digit_seen d e = grind (arith, nat_tests)

digits_clear : (ds : List ℕ) → list_all is_ascii_digit ds ≡ true → list_all is_printable ds ≡ true
digits_clear [] all = refl
digits_clear (d ∷ ds) all =
    let parts = both_true (is_ascii_digit d) (list_all is_ascii_digit ds) all in
    and_from (is_printable d) (list_all is_printable ds) (digit_printable d parts.0) (digits_clear ds parts.1)

digits_at : (ds : List ℕ) (k : ℕ) → list_all is_ascii_digit ds ≡ true → k < length ds
    → is_ascii_digit (get_or ds k 0) ≡ true
digits_at [] k all lt = absurd (omega arith)
digits_at (d ∷ ds) zero all lt = (both_true (is_ascii_digit d) (list_all is_ascii_digit ds) all).0
digits_at (d ∷ ds) (suc k) all lt =
    digits_at ds k (both_true (is_ascii_digit d) (list_all is_ascii_digit ds) all).1 (omega arith)

pub text-decimal : (n : ℕ) → IsText (decimal n)
text-decimal n =
    let some : 0 < length (decimal n) = decimal_some n in
    record {
      clear = digits_clear (decimal n) (decimal_digits n);
      some = some;
      last = digit_seen (get_or (decimal n) (length (decimal n) - 1) 0)
          (digits_at (decimal n) (length (decimal n) - 1) (decimal_digits n) (omega arith));
    }

-- Numbers

and-false : (b : Bool) → (b && false) ≡ false
and-false true = refl
and-false false = refl

digit_no_x : (d : ℕ) → is_ascii_digit d ≡ true → nat_eq 120 d ≡ false
digit_no_x d e = grind (arith, nat_tests)

no_prefix : (ds : List ℕ) → list_all is_ascii_digit ds ≡ true → starts_with nat_eq ds (codes "0x") ≡ false
no_prefix [] all = refl
no_prefix (d ∷ []) all = and-false (nat_eq 48 d)
no_prefix (d ∷ e ∷ ds) all =
    let parts = both_true (is_ascii_digit d) (list_all is_ascii_digit (e ∷ ds)) all in
    let more = both_true (is_ascii_digit e) (list_all is_ascii_digit ds) parts.1 in
    ap (λ b. nat_eq 48 d && (b && true)) (digit_no_x e more.0) ∙ and-false (nat_eq 48 d)

digit_range : (d : ℕ) → is_ascii_digit d ≡ true → (48 ≤ d) × (d ≤ 57)
digit_range d e = (grind (arith, nat_tests), grind (arith, nat_tests))

is_value : (v : ℕ) → v < 10 → nat_lt v 10 ≡ true
is_value v small = grind (arith, nat_tests)

digit_fits : (d : ℕ) → is_ascii_digit d ≡ true → is_digit d 10 ≡ true
digit_fits d e =
    let range = digit_range d e in
    let worth : digit_value d + 48 ≡ d = digit_value_digit d range in
    is_value (digit_value d) (omega (arith, worth, range.0, range.1))

digits_fit : (ds : List ℕ) → list_all is_ascii_digit ds ≡ true → list_all (λ c. is_digit c 10) ds ≡ true
digits_fit [] all = refl
digits_fit (d ∷ ds) all =
    let parts = both_true (is_ascii_digit d) (list_all is_ascii_digit ds) all in
    and_from (is_digit d 10) (list_all (λ c. is_digit c 10) ds) (digit_fits d parts.0) (digits_fit ds parts.1)

not_empty : (n : ℕ) → 0 < n → not (n == 0) ≡ true
not_empty n some = grind (arith, nat_tests)

number_digits : (ds : List ℕ) → list_all is_ascii_digit ds ≡ true → 0 < length ds
    → number_of ds ≡ Some (checked_number (digits_value 10 ds))
number_digits ds all some =
    ap (λ b. cond b (numeral 16 (drop 2 ds)) (numeral 10 ds)) (no_prefix ds all)
    ∙ ap (λ b. cond b (Some (checked_number (digits_value 10 ds))) None)
    (and_from (not (length ds == 0)) (list_all (λ c. is_digit c 10) ds) (not_empty (length ds) some)
    (digits_fit ds all))

in_limit : (n : ℕ) → n < 2 ^ 64 → nat_lt n (2 ^ 64) ≡ true
in_limit n small = grind (arith, nat_tests)

pub number_decimal : (n : ℕ) → n < 2 ^ 64 → number_of (decimal n) ≡ Some (Fits n)
number_decimal n small =
    number_digits (decimal n) (decimal_digits n) (decimal_some n)
    ∙ ap (λ v. Some (checked_number v)) (decimal_is_IsNumeral n small).1
    ∙ ap (λ b. Some (cond b (Fits n) TooLarge)) (in_limit n small)

-- Ids: leading zeros say nothing

one_more : (n : ℕ) → 1 + n ≡ suc n
one_more n = omega arith

is_zero : (d : ℕ) → (d == 48) ≡ true → 48 ≡ d
is_zero d e = grind (arith, nat_tests)

id_worth : (ds : List ℕ) → digits_value 10 (id_of ds) ≡ digits_value 10 ds
id_worth [] = refl
id_worth (d ∷ ds) = go (d == 48) refl (id_worth ds)
  where
    go : (b : Bool) → (d == 48) ≡ b → digits_value 10 (id_of ds) ≡ digits_value 10 ds
        → digits_value 10 (drop (cond b (1 + prefix_len (λ x. x == 48) ds) 0) (d ∷ ds)) ≡ digits_value 10 (d ∷ ds)
    go true is rest =
        ap (λ n. digits_value 10 (drop n (d ∷ ds))) (one_more (prefix_len (λ x. x == 48) ds)) ∙ rest
        ∙ subst (λ x. digits_value 10 ds ≡ digits_value 10 (x ∷ ds)) (is_zero d is) refl
    go false is rest = refl

-- different numbers have different ids
pub same_id : (m n : ℕ) → m < 10 ^ 64 → n < 10 ^ 64 → id_of (decimal m) ≡ id_of (decimal n) → m ≡ n
same_id m n m_small n_small same =
    sym (id_worth (decimal m) ∙ (decimal_is_IsNumeral_wide m m_small).1) ∙ ap (digits_value 10) same
    ∙ id_worth (decimal n) ∙ (decimal_is_IsNumeral_wide n n_small).1

-- Words

digit_no_space : (d : ℕ) → is_ascii_digit d ≡ true → (d == 32) ≡ false
digit_no_space d e = grind (arith, nat_tests)

pub no_space : (n : ℕ) → All (λ x. (x == 32) ≡ false) (decimal n)
no_space n k d lt =
    subst (λ x. (x == 32) ≡ false) (get_or_default (decimal n) k 0 d lt)
    (digit_no_space (get_or (decimal n) k 0) (digits_at (decimal n) k (decimal_digits n) lt))

is_word : (n : ℕ) → is_some_word (decimal n) ≡ true
is_word n = let parts = decimal_parts n in ap is_some_word parts.is

word_kept : (n : ℕ) (rest : List (List ℕ)) → filter is_some_word (decimal n ∷ rest)
    ≡ decimal n ∷ filter is_some_word rest
word_kept n rest = ap (λ b. cond b (decimal n ∷ filter is_some_word rest) (filter is_some_word rest)) (is_word n)

pub words_one : (n : ℕ) → words (decimal n) ≡ decimal n ∷ []
words_one n = ap (filter is_some_word) (slice_split_none (λ byte. byte == 32) (decimal n) (no_space n))
    ∙ word_kept n []

pub words_more : (n : ℕ) (rest : List ℕ) → words (decimal n ++ 32 ∷ rest) ≡ decimal n ∷ words rest
words_more n rest =
    ap (filter is_some_word) (slice_split_at (λ byte. byte == 32) (decimal n) 32 rest (no_space n) refl)
    ∙ word_kept n (slice_split (λ byte. byte == 32) rest)

pub words_costs : (cost : ℕ) (costs : List ℕ) → words (decimal cost ++ cost_text costs) ≡ map decimal (cost ∷ costs)
words_costs cost [] = ap words (append-nil (decimal cost)) ∙ words_one cost
words_costs cost (next ∷ costs) =
    words_more cost (decimal next ++ cost_text costs) ∙ ap (λ ws. decimal cost ∷ ws) (words_costs next costs)
