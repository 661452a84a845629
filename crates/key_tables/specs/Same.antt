-- Keys that are equal are the same. These are laws that implementations of a trait give.
use Rattle.std.specs.Prelude.{◌≡◌, ◌==◌, ℕ, List, Bool, true, false, ◌&&◌, refl}
use Rattle.std.specs.Str.{bytes_eq}
use Rattle.std.proofs.lemmas.Bool.Decides.{Decides-eqb}
use Rattle.std.proofs.lemmas.Slice.Eq.{bytes_eq-Decides}

pub same_texts : (x y : List ℕ) → bytes_eq x y ≡ true → x ≡ y
same_texts x y = (bytes_eq-Decides x y).0

pub both_true : (a b : Bool) → (a && b) ≡ true → (a ≡ true) × (b ≡ true)
both_true true b e = (refl, e)
both_true false b e = absurd (cc)

pub same_numbers : (x y : ℕ) → (x == y) ≡ true → x ≡ y
same_numbers x y = (Decides-eqb x y).0
