use Rattle.std.proofs.Common.{◌≡◌, ℕ, ◌+◌, ◌<◌, true, take, get_or, arith, ◌∙◌, ap, sym, nat_lt, List, length}
use Rattle.std.specs.List.{list_all}
use Rattle.std.specs.Char.{is_digit, digit_value}
use Rattle.std.proofs.lemmas.Bool.Decides.{nat_tests}
use Rattle.std.proofs.lemmas.List.Folds.{list_all_more}
use Rattle.std.proofs.lemmas.Int.Digits.{digits_value_more}
use Rattle.cg_lines.specs.Numbers.{checked_number}
use Rattle.cg_lines.proofs.number.numeral.Goals as goal

-- one more digit of the radix
one_more : (radix : ℕ) (digits : List ℕ) (i d : ℕ) → i < length digits → d ≡ digit_value (get_or digits i 0) → d < radix
    → list_all (λ c. is_digit c radix) (take i digits) ≡ true
    → list_all (λ c. is_digit c radix) (take (i + 1) digits) ≡ true
one_more radix digits i d lt is small before =
    let here : nat_lt (digit_value (get_or digits i 0)) radix ≡ true = rw (← is) (grind (arith, nat_tests)) in
    rw (list_all_more (λ c. is_digit c radix) digits i 0 lt, before) here

pub digits-preserved : goal.digits-preserved
digits-preserved c = record {
  digits =
      one_more _ _ _ _ c.digits-test.true c.digit_value-digit.ensures c.if-digit-radix.false c.digits.invariant.digits;
  value = c.with_digit-number.ensures _ c.digits.invariant.value
      ∙ ap checked_number (rw (c.digit_value-digit.ensures) (sym (digits_value_more _ _ _ c.digits-test.true)));
}
