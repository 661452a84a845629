-- What ties in an order is the same.
use Rattle.std.specs.Prelude.{◌≡◌, ℕ, List, true, refl}
use Rattle.std.proofs.Common.{rules, arith}
use Rattle.std.specs.Ordering.{nat_cmp, is_eq, ordering_then}
use Rattle.std.specs.declared.cmp.Ordering.{Ordering}
use Rattle.std.specs.declared.cmp.Ordering.TheVariants.{Less, Equal, Greater}
use Rattle.std.specs.Cmp.Lexicographic.{slice_cmp}
use Rattle.std.proofs.lemmas.Bool.Decides.{nat_tests}
use Rattle.std.proofs.lemmas.Slice.Eq.{bytes_eq-Decides}
use Rattle.std.proofs.lemmas.Map.Text.{is_eq-slice_cmp}

pub same_texts : (x y : List ℕ) → is_eq (slice_cmp nat_cmp x y) ≡ true → x ≡ y
same_texts x y e = search (rules, bytes_eq-Decides, is_eq-slice_cmp)

pub same_numbers : (x y : ℕ) → is_eq (nat_cmp x y) ≡ true → x ≡ y
same_numbers x y e = grind (arith, nat_tests)

-- what ties by one order and then another ties by both
pub then_both : (r s : Ordering) → is_eq (ordering_then r s) ≡ true → (is_eq r ≡ true) × (is_eq s ≡ true)
then_both Less s e = (e, absurd (cc))
then_both Equal s e = (refl, e)
then_both Greater s e = (e, absurd (cc))
