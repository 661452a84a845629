-- What ties in an order is the same: laws that implementations of traits give.
use Rattle.std.specs.Prelude.{◌≡◌, ℕ, true, Option, Some, None, refl}
use Rattle.std.specs.Ordering.{nat_cmp, is_eq}
use Rattle.std.specs.Option.{option_cmp}
use Rattle.byte_text.specs.Ties.{same_numbers, then_both}
use Rattle.name_numbers.specs.declared.file_names.RankInFile.{RankInFile}
use Rattle.name_numbers.specs.declared.text_place.TextPlace.{TextPlace}
use Rattle.name_numbers.specs.inner.FileNameKeys.{by_rank_in_file}
use Rattle.name_numbers.specs.declared.tails.Halves.{Halves}
use Rattle.name_numbers.specs.inner.Places.{by_place}
use Rattle.name_numbers.specs.inner.Tails.{by_halves}

pub same_places : (x y : TextPlace) → is_eq (by_place x y) ≡ true → x ≡ y
same_places x y e =
    let both = then_both (nat_cmp x.start y.start) (nat_cmp x.end y.end) e in
    λ i. record { start = same_numbers x.start y.start both.0 i; end = same_numbers x.end y.end both.1 i }

pub same_ranks : (x y : RankInFile) → is_eq (by_rank_in_file x y) ≡ true → x ≡ y
same_ranks x y e =
    let both = then_both (nat_cmp x.file y.file) (nat_cmp x.rank y.rank) e in
    λ i. record { file = same_numbers x.file y.file both.0 i; rank = same_numbers x.rank y.rank both.1 i }

pub same_options : (x y : Option ℕ) → is_eq (option_cmp nat_cmp x y) ≡ true → x ≡ y
same_options None None e = refl
same_options None (Some y) e = absurd (cc)
same_options (Some x) None e = absurd (cc)
same_options (Some x) (Some y) e = λ i. Some (same_numbers x y e i)

pub same_halves : (x y : Halves) → is_eq (by_halves x y) ≡ true → x ≡ y
same_halves x y e =
    let both = then_both (nat_cmp x.front y.front) (option_cmp nat_cmp x.back y.back) e in
    λ i. record { front = same_numbers x.front y.front both.0 i; back = same_options x.back y.back both.1 i }
