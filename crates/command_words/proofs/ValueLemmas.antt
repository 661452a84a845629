-- Numbers and the shapes of caches, as texts write them.
use Rattle.std.proofs.Common.{◌≡◌, ◌∙◌, ◌+◌, ◌*◌, ◌^◌, ◌<◌, ◌≤◌, ◌==◌, ◌&&◌, ◌||◌, ◌↔◌, ℕ, zero, suc, Bool, true, false}
use Rattle.std.proofs.Common.{true≢false, cond, nat_lt, List, [], ◌∷◌, length, refl, sym, ap, arith, Option, Some, None}
use Rattle.std.proofs.Common.{Result, Ok, Err, IfSome, IsSome, map, Bor, lit<}
use Rattle.std.proofs.lemmas.Bool.{and_parts, eq-eqb, eqb-true, le-leb, leb-true, lt-ltb, ltb-true, or_right}
use Rattle.std.proofs.lemmas.Str.Parse.{digit_from_value}
use Rattle.std.proofs.lemmas.List.{drop_all}
use Rattle.std.proofs.lemmas.Str.Pattern.{IsSplitOnceResult, split_once_first}
use Rattle.std.proofs.Math.Nat.{le-mul_of_pos_right, mul_comm, one-le-mul}
use Rattle.std.proofs.Math.Pow.{pow_mono}
use Rattle.std.specs.Char.{digit_value}
use Rattle.std.specs.List.{list_all, list_any, position_or_len}
use Rattle.std.specs.Result.{result_ok}
use Rattle.std.specs.Str.{bytes_eq}
use Rattle.std.specs.Str.Parse.{AllDigits, ParsesUnsigned, without_leading_plus}
use Rattle.cache_lru.specs.Shape.{IsGeometry, Shape}
use Rattle.sorted_words.specs.Sorting.{Text, is_among}
use Rattle.command_words.specs.Values.{any_below, is_digit, is_geometry, is_numeral, number_below, others, part}
use Rattle.command_words.specs.Values.{shape_if, shape_of, shape_with, small_number, value_of}

-- ---- numbers

digit_small : (c : ℕ) → is_digit c ≡ true → digit_value c < 10
digit_small c is = grind (arith)

small_digit : (c : ℕ) → digit_value c < 10 → is_digit c ≡ true
small_digit c lt =
    let range = digit_from_value c lt in
    rw (le-leb 48 c range.0, le-leb c 57 range.1) refl

all_digits : (bs : List ℕ) → list_all is_digit bs ≡ true → AllDigits 10 bs
all_digits [] is = tt
all_digits (b ∷ bs) is =
    let parts = and_parts (is_digit b) (list_all is_digit bs) is in (digit_small b parts.0, all_digits bs parts.1)

digits_all : (bs : List ℕ) → AllDigits 10 bs → list_all is_digit bs ≡ true
digits_all [] are = refl
digits_all (b ∷ bs) are = rw (small_digit b are.0) (digits_all bs are.1)

-- what std's `parse` gives for a number of k bits
pub parsed : {E : Type 0} (k : ℕ) (text : Text) (r : Result ℕ E) → ParsesUnsigned k 10 text r
    → result_ok r ≡ number_below (2 ^ k) text
parsed k text (Ok n) h =
    rw (
      lt-ltb 0 (length (without_leading_plus text)) h.0.0.0,
      digits_all (without_leading_plus text) h.0.0.1,
      lt-ltb (value_of text) (2 ^ k) h.0.1,
    )
    (ap (λ (v : ℕ). Some v) h.1)
parsed k text (Err e) h = go (is_numeral text && nat_lt (value_of text) (2 ^ k)) refl
  where
    go : (b : Bool) → (is_numeral text && nat_lt (value_of text) (2 ^ k)) ≡ b → None ≡ number_below (2 ^ k) text
    go false e = rw e refl
    go true e =
        let outer = and_parts (is_numeral text) (nat_lt (value_of text) (2 ^ k)) e in
        let inner = and_parts (nat_lt 0 (length (without_leading_plus text)))
        (list_all is_digit (without_leading_plus text)) outer.0 in
        absurd (h ((ltb-true _ _ inner.0, all_digits (without_leading_plus text) inner.1), ltb-true _ _ outer.1))

-- ---- shapes

some_below : (n : ℕ) (test : ℕ → Bool) (k : ℕ) → k < n → test k ≡ true → any_below n test ≡ true
unfolding any_below
some_below zero test k lt passes = absurd (omega arith)
some_below (suc n) test k lt passes = go (k == n) refl (λ (l : k < n). some_below n test k l passes)
  where
    go : (b : Bool) → (k == n) ≡ b → (k < n → any_below n test ≡ true) → (test n || any_below n test) ≡ true
    go true e more = rw (ap test (sym (eqb-true k n e)) ∙ passes) refl
    go false e more = or_right (test n) (any_below n test) (more (below e))
      where
        below : (k == n) ≡ false → k < n
        below e = grind (arith)

below_some : (n : ℕ) (test : ℕ → Bool) → any_below n test ≡ true → (k : ℕ) × (test k ≡ true)
unfolding any_below
below_some zero test passes = absurd (true≢false (sym passes))
below_some (suc n) test passes = go (test n) refl (λ (l : any_below n test ≡ true). below_some n test l)
  where
    go : (b : Bool) → test n ≡ b → (any_below n test ≡ true → (k : ℕ) × (test k ≡ true)) → (k : ℕ) × (test k ≡ true)
    go true e more = (n, e)
    go false e more = more (rw e at passes)

-- 2 to a power above 26 is above 2^26
exponent_small : (k : ℕ) → 2 ^ k ≤ 67108864 → k < 27
exponent_small k le = go (nat_lt k 27) refl
  where
    go : (b : Bool) → nat_lt k 27 ≡ b → k < 27
    go true e = ltb-true k 27 e
    go false e =
        let over : 27 ≤ k = grind (arith) in
        let power : 2 ^ 27 ≤ 2 ^ k = pow_mono over in
        absurd (omega arith)

power_test : (n k : ℕ) → n ≡ 2 ^ k → n ≤ 67108864 → any_below 27 (λ j. n == 2 ^ j) ≡ true
power_test n k is le =
    let small : 2 ^ k ≤ 67108864 = rw (← is) le in
    some_below 27 (λ j. n == 2 ^ j) k (exponent_small k small) (eq-eqb n (2 ^ k) is)

-- a product is no less than its second part, where the first is above 0
le_product : (a b : ℕ) → 1 ≤ a → b ≤ a * b
le_product a b le = rw (mul_comm a b) (le-mul_of_pos_right {m = a} b le)

sets_test : (size each k : ℕ) → 1 ≤ each → size ≤ 67108864 → size ≡ each * 2 ^ k
    → any_below 27 (λ j. size == each * 2 ^ j) ≡ true
sets_test size each k positive le is =
    let power : 2 ^ k ≤ each * 2 ^ k = le_product each (2 ^ k) positive in
    let small : 2 ^ k ≤ 67108864 = omega arith in
    some_below 27 (λ j. size == each * 2 ^ j) k (exponent_small k small) (eq-eqb size (each * 2 ^ k) is)

geometry_passes : (shape : Shape) → IsGeometry shape → is_geometry shape ≡ true
unfolding is_geometry
geometry_passes shape g =
    let line_le : shape.line ≤ 67108864 = omega (arith, g.line_most) in
    let each : 1 ≤ shape.assoc * shape.line = one-le-mul g.assoc_least (omega (arith, g.line_least)) in
    let sets : shape.size ≡ shape.assoc * shape.line * 2 ^ g.size_is.1.0 =
    g.size_is.2 ∙ ap (λ (n : ℕ). shape.assoc * shape.line * n) g.size_is.1.1 in
    rw (
      power_test shape.line g.line_is_power.0 g.line_is_power.1 line_le,
      le-leb 16 shape.line g.line_least,
      le-leb shape.line 1024 g.line_most,
      le-leb 1 shape.assoc g.assoc_least,
      le-leb shape.assoc 64 g.assoc_most,
      le-leb shape.size 67108864 g.size_most,
      sets_test shape.size (shape.assoc * shape.line) g.size_is.1.0 each g.size_most sets,
    ) refl

passes_geometry : (shape : Shape) → is_geometry shape ≡ true → IsGeometry shape
unfolding is_geometry
passes_geometry shape passes =
    let seven = and_parts _ _ passes in
    let six = and_parts _ _ seven.0 in
    let five = and_parts _ _ six.0 in
    let four = and_parts _ _ five.0 in
    let three = and_parts _ _ four.0 in
    let two = and_parts _ _ three.0 in
    let line = below_some 27 (λ j. shape.line == 2 ^ j) two.0 in
    let sets = below_some 27 (λ j. shape.size == shape.assoc * shape.line * 2 ^ j) seven.1 in
    record {
      line_is_power = (line.0, eqb-true shape.line (2 ^ line.0) line.1);
      line_least = leb-true 16 shape.line two.1;
      line_most = leb-true shape.line 1024 three.1;
      assoc_least = leb-true 1 shape.assoc four.1;
      assoc_most = leb-true shape.assoc 64 five.1;
      size_most = leb-true shape.size 67108864 six.1;
      size_is = (2 ^ sets.0, (sets.0, refl), eqb-true shape.size (shape.assoc * shape.line * 2 ^ sets.0) sets.1);
    }

not_some : IsSome {T = Shape} None → ⊥
not_some h = true≢false (sym h)

-- what the constructor of a geometry answers
new_shape : (o : Option Shape) (shape : Shape) → (IsSome o ↔ IsGeometry shape) → IfSome o (λ g. g ≡ shape)
    → o ≡ shape_if shape
new_shape (Some g) shape accepted is = rw (geometry_passes shape (accepted.0 refl)) (ap (λ (s : Shape). Some s) is)
new_shape None shape accepted is = go (is_geometry shape) refl
  where
    go : (b : Bool) → is_geometry shape ≡ b → ◌≡◌ {A = Option Shape} None (cond b (Some shape) None)
    go false e = refl
    go true e = absurd (not_some (accepted.1 (passes_geometry shape e)))

no_line : (size assoc : Option ℕ) → shape_with size assoc None ≡ None
no_line None assoc = refl
no_line (Some size) None = refl
no_line (Some size) (Some assoc) = refl

-- behind the first comma, where there is one
cut : (text : Text) (first rest : Bor Text) → IsSplitOnceResult 44 text (Some (first, rest))
    → (first.now ≡ part text) × (rest.now ≡ others text)
cut text first rest h =
    let parts = split_once_first 44 text (Some (first, rest)) h (lit< tt) in
    (parts.1, parts.2)

uncut : (text : Text) → IsSplitOnceResult 44 text None → others text ≡ []
uncut text h =
    let none : position_or_len (λ (b : ℕ). b == 44) text ≡ length text = split_once_first 44 text None h (lit< tt) in
    drop_all (position_or_len (λ (b : ℕ). b == 44) text + 1) text (omega arith)

-- a text without a second comma writes no shape
pub one_comma : (text : Text) (size rest : Bor Text) → IsSplitOnceResult 44 text (Some (size, rest))
    → IsSplitOnceResult 44 rest.now None
    → None ≡ shape_of text
one_comma text size rest first second =
    let is : others (others text) ≡ [] = ap others (sym (cut text size rest first).1) ∙ uncut rest.now second in
    sym (ap
    (λ (line : Text). shape_with (small_number (part text)) (small_number (part (others text)))
    (small_number line)) is
    ∙ no_line (small_number (part text)) (small_number (part (others text))))

-- two commas
pub two_commas : (text : Text) (size rest assoc line : Bor Text) (a b d : ℕ) (o : Option Shape)
    → IsSplitOnceResult 44 text (Some (size, rest)) → IsSplitOnceResult 44 rest.now (Some (assoc, line))
    → small_number size.now ≡ Some a → small_number assoc.now ≡ Some b → small_number line.now ≡ Some d
    → (IsSome o ↔ IsGeometry (record { size = a; assoc = b; line = d }))
    → IfSome o (λ g. g ≡ record { size = a; assoc = b; line = d })
    → o ≡ shape_of text
two_commas text size rest assoc line a b d o first second size_is assoc_is line_is accepted value =
    let outer = cut text size rest first in
    let inner = cut rest.now assoc line second in
    let e1 : Some a ≡ small_number (part text) = sym size_is ∙ ap small_number outer.0 in
    let e2 : Some b ≡ small_number (part (others text)) = sym assoc_is ∙ ap small_number (inner.0 ∙ ap part outer.1) in
    let e3 : Some d ≡ small_number (others (others text)) = sym line_is
    ∙ ap small_number (inner.1 ∙ ap others outer.1) in
    new_shape o (record { size = a; assoc = b; line = d }) accepted value ∙ (λ i. shape_with (e1 i) (e2 i) (e3 i))

pub any_mapped : (words : List (Bor Text)) (text : Text)
    → list_any (λ word. bytes_eq word.now text) words ≡ is_among (map (λ word. word.now) words) text
any_mapped [] text = refl
any_mapped (w ∷ ws) text = ap (λ (b : Bool). bytes_eq w.now text || b) (any_mapped ws text)
