-- Ranges that are looked for by their numbers.
use Rattle.std.proofs.Common.{◌≡◌, ◌+◌, ◌<◌, ◌≤◌, ◌&&◌, ◌||◌, Bool, true, false}
use Rattle.std.proofs.Common.{leb, ltb, eqb, List, length, refl, ap, sym}
use Rattle.std.proofs.Common.{get_or, ◌∙◌, ◌⊎◌, ⊎_elim, inl, inr, ℕ, arith, Option}
use Rattle.std.specs.Option.{option_map_or}
use Rattle.std.specs.List.Sorted.{IsPartitionPoint}
use Rattle.std.proofs.lemmas.List.{get_or_default}
use Rattle.std.proofs.lemmas.Option.{slice_get-get_or, slice_get_past}
use Rattle.std.proofs.lemmas.Bool.{and_parts, eqb-true, le-leb, leb-true, lt-leb, ltb-true}
use Rattle.sym_map.specs.declared.range.Range.{Range}
use Rattle.sym_map.specs.declared.range.Cover.TheVariants as what
use Rattle.sym_map.specs.inner.Ranges.{cover_at}
use Rattle.sym_map.specs.inner.Rising.{Rise}
use Rattle.sym_map.specs.inner.Nearby.{is_held, no_range, cover_by_number}
use Rattle.sym_map.proofs.Ranges.{far_starts, found, last_of-take}

either : (x y : Bool) → (x || y) ≡ true → (x ≡ true) ⊎ (y ≡ true)
either true y e = inl refl
either false y e = inr e

-- an address between the starts of a range and of the next one
between : (xs : List Range) (k a : ℕ) → Rise xs → k < length xs → (get_or xs k no_range).start ≤ a
    → (k + 1 ≡ length xs) ⊎ (a < (get_or xs (k + 1) no_range).start)
    → IsPartitionPoint (λ (r : Range). leb r.start a ≡ true) (λ (r : Range). leb r.start a ≡ false) xs (k + 1)
between xs k a rise lt from ends =
    let at : (j : ℕ) (e : Range) → j < length xs → (get_or xs j e).start ≡ (get_or xs j no_range).start =
    λ j e within. ap (λ (r : Range). r.start) (get_or_default xs j e no_range within) in (
      (λ j e low below. let same = at j e (omega arith) in let le = far_starts xs rise j k no_range (omega arith) lt in
          le-leb (get_or xs j e).start a (omega arith)),
      (λ j e above within.
          let same = at j e within in
          let le = far_starts xs rise (k + 1) j no_range above within in
          ⊎_elim
          (λ (last : k + 1 ≡ length xs). absurd (omega arith))
          (λ (next : a < (get_or xs (k + 1) no_range).start). lt-leb (get_or xs j e).start a (omega arith))
          ends),
    )

pub said_is : (xs : List Range) (k : ℕ) (d : Range) → k < length xs → cover_by_number xs k ≡ (get_or xs k d).cover
said_is xs k d lt = ap (λ (o : Option Range). option_map_or (λ (r : Range). r.cover) o what.Nothing)
    (slice_get-get_or xs k d lt)

-- the range that an address lies in says what is known of it
pub held : (xs : List Range) (k a : ℕ) → Rise xs → is_held xs k a ≡ true → cover_by_number xs k ≡ cover_at xs a
held xs k a rise is =
    let start : ℕ = (get_or xs k no_range).start in
    let next : ℕ = (get_or xs (k + 1) no_range).start in
    let parts = and_parts (ltb k (length xs) && leb start a) (eqb (k + 1) (length xs) || ltb a next) is in
    let begun = and_parts (ltb k (length xs)) (leb start a) parts.0 in
    let lt : k < length xs = ltb-true k (length xs) begun.0 in
    let from : start ≤ a = leb-true start a begun.1 in
    let ends : (k + 1 ≡ length xs) ⊎ (a < next) =
    ⊎_elim (λ (e : eqb (k + 1) (length xs) ≡ true). inl (eqb-true (k + 1) (length xs) e))
    (λ (e : ltb a next ≡ true). inr (ltb-true a next e))
    (either (eqb (k + 1) (length xs)) (ltb a next) parts.1) in
    said_is xs k no_range lt
    ∙ sym (found xs a (k + 1) (omega arith) (between xs k a rise lt from ends)
    ∙ last_of-take xs (k + 1) k no_range (omega arith) refl)

pub said_is_nothing : (xs : List Range) → cover_by_number xs (length xs) ≡ what.Nothing
said_is_nothing xs = ap (λ (o : Option Range). option_map_or (λ (r : Range). r.cover) o what.Nothing)
    (slice_get_past xs (length xs) (omega arith))
