-- Addresses in hexadecimal digits, read again.
use Rattle.std.proofs.Common.{◌≡◌, ℕ, zero, suc, ◌-◌, ◌<◌, ◌≤◌, ◌^◌, Bool, true, false, not, ◌==◌, nat_lt, cond, List}
use Rattle.std.proofs.Common.{[], ◌∷◌, ◌++◌, length, get_or, codes, None, Some, option_map, refl, ap, ◌∙◌, arith}
use Rattle.std.specs.Char.{digit_value, is_digit}
use Rattle.std.specs.Fmt.{digits}
use Rattle.std.specs.List.{list_all}
use Rattle.std.specs.Str.Parse.{AllDigits, IsNumeral, digits_value}
use Rattle.std.proofs.lemmas.Bool.Decides.{nat_tests}
use Rattle.std.proofs.lemmas.Fmt.{digits_is_IsNumeral}
use Rattle.byte_text.specs.Names.{is_printable}
use Rattle.cg_lines.specs.Lines.{is_space}
use Rattle.cg_lines.specs.Numbers.{checked_number, numeral}
use Rattle.cg_lines.specs.Shapes.{sub_position_of}
use Rattle.cg_lines.specs.declared.number.Number.TheVariants.{Fits, TooLarge}
use Rattle.cg_lines.specs.declared.sub_position.SubPosition.TheVariants.{At}
use Rattle.report_laws.proofs.Others.{IsText, is_seen, text-append}
use Rattle.std.proofs.lemmas.Bool.{and_from}

-- an address as it is written
abbrev pub hex : ℕ → List ℕ
hex n = codes "0x" ++ digits 16 false n

numeral_is : (n : ℕ) → n < 2 ^ 64 → IsNumeral 16 (digits 16 false n) × (digits_value 16 (digits 16 false n) ≡ n)
numeral_is n small = digits_is_IsNumeral 16 false (omega arith) (omega arith) n (omega arith)

-- a digit is between the character of 0 and that of f
seen_digit : (c : ℕ) → digit_value c < 16 → (48 ≤ c) × (c ≤ 102)
seen_digit c less = by (nat_lt c 48) (nat_lt c 123) refl refl
  where
    by : (low high : Bool) → nat_lt c 48 ≡ low → nat_lt c 123 ≡ high → (48 ≤ c) × (c ≤ 102)
    by true high is high_is =
        let value : digit_value c ≡ 36 = ap (λ b. cond b 36 (cond (nat_lt c 58) (c - 48) (cond (nat_lt c 65) 36
        (cond (nat_lt c 91) (c - 55) (cond (nat_lt c 97) 36 (cond (nat_lt c 123) (c - 87) 36)))))) is in
        absurd (omega (arith, less, value))
    by false high is high_is = grind (arith, nat_tests)

each_digit : (P : ℕ → Bool) → ((c : ℕ) → digit_value c < 16 → P c ≡ true) → (ds : List ℕ) → AllDigits 16 ds
    → list_all P ds ≡ true
each_digit P each [] all = refl
each_digit P each (d ∷ ds) all = and_from (P d) (list_all P ds) (each d all.0) (each_digit P each ds all.1)

digit_at : (ds : List ℕ) (k : ℕ) → AllDigits 16 ds → k < length ds → digit_value (get_or ds k 0) < 16
digit_at [] k all lt = absurd (omega arith)
digit_at (d ∷ ds) zero all lt = all.0
digit_at (d ∷ ds) (suc k) all lt = digit_at ds k all.1 (omega arith)

digit_clear : (c : ℕ) → digit_value c < 16 → is_printable c ≡ true
digit_clear c less = let range = seen_digit c less in grind (arith, nat_tests)

digit_seen : (c : ℕ) → digit_value c < 16 → is_seen c ≡ true
digit_seen c less = let range = seen_digit c less in grind (arith, nat_tests)

digit_no_space : (c : ℕ) → digit_value c < 16 → not (is_space c) ≡ true
digit_no_space c less = let range = seen_digit c less in grind (arith, nat_tests)

digit_fits : (c : ℕ) → digit_value c < 16 → is_digit c 16 ≡ true
digit_fits c less = grind (arith, nat_tests)

pub text-hex : (n : ℕ) → n < 2 ^ 64 → IsText (hex n)
text-hex n small =
    let is = numeral_is n small in
    text-append (codes "0x") (digits 16 false n) refl
    (record {
      clear = each_digit is_printable digit_clear (digits 16 false n) is.0.1;
      some = is.0.0;
      last = digit_seen (get_or (digits 16 false n) (length (digits 16 false n) - 1) 0)
          (digit_at (digits 16 false n) (length (digits 16 false n) - 1) is.0.1 (omega (arith, is.0.0)));
    })

-- no space stands in it
pub hex_no_space : (n : ℕ) → n < 2 ^ 64 → list_all (λ x. not (is_space x)) (hex n) ≡ true
hex_no_space n small = each_digit (λ x. not (is_space x)) digit_no_space (digits 16 false n) (numeral_is n small).0.1

not_empty : (n : ℕ) → 0 < n → not (n == 0) ≡ true
not_empty n some = grind (arith, nat_tests)

in_limit : (n : ℕ) → n < 2 ^ 64 → nat_lt n (2 ^ 64) ≡ true
in_limit n small = grind (arith, nat_tests)

pub place_hex : (n : ℕ) → n < 2 ^ 64 → sub_position_of (hex n) ≡ Some (At (Fits n))
place_hex n small =
    let is = numeral_is n small in
    let ds : List ℕ = digits 16 false n in
    let read : numeral 16 ds ≡ Some (checked_number (digits_value 16 ds)) =
    ap (λ b. cond b (Some (checked_number (digits_value 16 ds))) None)
    (and_from (not (length ds == 0)) (list_all (λ c. is_digit c 16) ds) (not_empty (length ds) is.0.0)
    (each_digit (λ c. is_digit c 16) digit_fits ds is.0.1)) in
    ap (option_map At) (read ∙ ap (λ v. Some (checked_number v)) is.1
    ∙ ap (λ b. Some (cond b (Fits n) TooLarge)) (in_limit n small))
