-- The ends of texts, in a place's block and behind it.
use Rattle.std.proofs.Common.{◌≡◌, ◌≢◌, ℕ, ◌+◌, ◌-◌, ◌*◌, ◌/◌, ◌<◌, ◌≤◌, Bool, true, false, cond, ltb}
use Rattle.std.proofs.Common.{eqb, List, length, get_or, take, drop, sym, ap, subst, ◌∙◌, ◌⊎◌, ⊎_elim, arith, min, refl}
use Rattle.std.proofs.Common.{length-drop, get_or-drop, Some, None}
use Rattle.std.proofs.Math.Nat.{div-mul-le_self, lt-div-mul-add}
use Rattle.std.proofs.lemmas.Nat.{le-div}
use Rattle.std.proofs.lemmas.Bool.{eq-eqb, eqb-true, eqb-false, ltb-false}
use Rattle.std.proofs.lemmas.Bool.Decides.{eqb_tells}
use Rattle.std.proofs.lemmas.List.{get_or-take, length-take-le}
use Rattle.std.proofs.lemmas.List.Quantifiers.{position-Some}
use Rattle.std.proofs.lemmas.List.Sums.{position_or_len_is, fails_before_first}
use Rattle.std.specs.List.{position, position_or_len}
use Rattle.text_ends.specs.inner.Ends.{AreEnds, IsEndFrom}

abbrev pub is_zero : ℕ → Bool
is_zero byte = eqb byte 0

split : (a b : ℕ) → (a < b) ⊎ (b ≤ a)
split a b = grind arith

other : (b : ℕ) → b ≢ 0 → is_zero b ≡ false
other b ne = ⊎_elim
    (λ (zero : (is_zero b ≡ true) × (b ≡ 0)). absurd (ne zero.1))
    (λ (not : (is_zero b ≡ false) × (b ≢ 0)). not.0)
    (eqb_tells b 0)

-- an end isn't in front of a place of the section
pub place_le_end : (bytes : List ℕ) (place end : ℕ) → IsEndFrom bytes place end → place ≤ length bytes → place ≤ end
place_le_end bytes place end so within = ⊎_elim
    (λ (inside : end < length bytes). (so.zero inside).0)
    (λ (outside : length bytes ≤ end). omega arith)
    (split end (length bytes))

-- so many bytes on stands the next zero byte, or the end
pub len_to_end : (bytes : List ℕ) (place end : ℕ) → IsEndFrom bytes place end → place ≤ length bytes
    → end - place ≡ position_or_len is_zero (drop place bytes)
len_to_end bytes place end so within =
    let long : length (drop place bytes) ≡ length bytes - place = length-drop place bytes in
    let at : place ≤ end = place_le_end bytes place end so within in
    let in_bytes : end ≤ length bytes = so.within in
    sym (position_or_len_is is_zero (drop place bytes) (end - place) 1 (omega arith)
    (λ k lt. ap is_zero (get_or-drop place bytes k 1) ∙ other _ (so.before (place + k) (omega arith) (omega arith)))
    (λ lt. ap is_zero (get_or-drop place bytes (end - place) 1)
    ∙ ap (λ n. is_zero (get_or bytes n 1)) (let e : place + (end - place) ≡ end = omega arith in e)
    ∙ eq-eqb _ 0 (so.zero (omega arith)).1))

-- the end from a block's start on is that from each place up to it
pub end_from_start : (bytes : List ℕ) (start place end : ℕ) → IsEndFrom bytes start end → start ≤ place → place ≤ end
    → IsEndFrom bytes place end
end_from_start bytes start place end so from upto = record {
  within = so.within;
  before = λ k le lt. so.before k (omega arith) lt;
  zero = λ inside. (upto, (so.zero inside).1);
}

-- ---- in a place's block and behind it

-- the part of a block from a place on, up to an end
abbrev pub part : List ℕ → ℕ → ℕ → List ℕ
part bytes place end = take (end - place) (drop place bytes)

in_part : (bytes : List ℕ) (place end k : ℕ) → k < end - place
    → get_or (part bytes place end) k 1 ≡ get_or bytes (place + k) 1
in_part bytes place end k lt =
    get_or-take (end - place) (drop place bytes) k 1 lt ∙ get_or-drop place bytes k 1

part_len : (bytes : List ℕ) (place end : ℕ) → end ≤ length bytes → length (part bytes place end) ≡ end - place
part_len bytes place end le =
    length-take-le (end - place) (drop place bytes)
    (let long : length (drop place bytes) ≡ length bytes - place = length-drop place bytes in omega arith)

-- a zero byte in the block
pub end_in_block : (bytes : List ℕ) (place end len : ℕ) → end ≤ length bytes
    → position is_zero (part bytes place end) ≡ Some len → IsEndFrom bytes place (place + len)
end_in_block bytes place end len le found =
    let is = position-Some is_zero (part bytes place end) len 1 found in
    let long = part_len bytes place end le in
    let near : len < end - place = subst (λ n. len < n) long is.0 in record {
      within = omega arith;
      before = λ k from lt zero.
          eqb-false _ 0 (is.2 (k - place) (omega arith))
          (in_part bytes place end (k - place) (omega arith)
          ∙ ap (λ n. get_or bytes n 1) (let e : place + (k - place) ≡ k = omega arith in e) ∙ zero);
      zero = λ _. (omega arith, sym (in_part bytes place end len near) ∙ eqb-true _ 0 is.1);
    }

none_pass : (p : ℕ → Bool) (xs : List ℕ) → position p xs ≡ None → (k d : ℕ) → k < length xs
    → p (get_or xs k d) ≡ false
none_pass p xs none k d lt = go (ltb (position_or_len p xs) (length xs)) refl none
  where
    go : (b : Bool) → ltb (position_or_len p xs) (length xs) ≡ b → cond b (Some (position_or_len p xs)) None ≡ None
        → p (get_or xs k d) ≡ false
    go true is some = absurd (cc some)
    go false is some =
        let none_passes = ltb-false (position_or_len p xs) (length xs) is in
        fails_before_first p xs k d (omega arith)

-- none in the block
pub end_behind : (bytes : List ℕ) (place next end behind : ℕ) → place ≤ next → end ≡ min (length bytes) next
    → position is_zero (part bytes place end) ≡ None → IsEndFrom bytes next behind → IsEndFrom bytes place behind
end_behind bytes place next end behind le is none so =
    let long = part_len bytes place end (let e : end ≡ min (length bytes) next = is in grind arith) in
    record {
      within = so.within;
      before = λ k from lt. ⊎_elim
          (λ (near : k < next) zero. let inside : k < length bytes = let w = so.within in omega arith in
          let lower : k < end = grind arith in
          eqb-false _ 0 (none_pass is_zero (part bytes place end) none (k - place) 1 (omega arith))
          (in_part bytes place end (k - place) (omega arith)
          ∙ ap (λ n. get_or bytes n 1) (let e : place + (k - place) ≡ k = omega arith in e) ∙ zero))
          (λ (far : next ≤ k). so.before k far lt)
          (split k next);
      zero = λ inside. let z = so.zero inside in (let zl : next ≤ behind = z.0 in omega arith, z.1);
    }

-- a place is in front of the next block's start
pub place_le_next : (place : ℕ) → place ≤ (place / 32 + 1) * 32
place_le_next place =
    let lt : place < place / 32 * 32 + 32 = lt-div-mul-add {a = place} {b = 32} (omega arith) in
    omega arith

-- what is kept for a place's block
pub kept_end : (bytes ends : List ℕ) (place end : ℕ) → AreEnds bytes ends → place ≤ length bytes
    → end ≡ get_or ends (place / 32) end → IsEndFrom bytes (place / 32 * 32) end
kept_end bytes ends place end so within is =
    subst (IsEndFrom bytes (place / 32 * 32)) (sym is)
    (so.each (place / 32) end (omega arith)
    (let long : length ends ≡ length bytes / 32 + 2 = so.blocks in
    let le : place / 32 ≤ length bytes / 32 = le-div (place / 32) (length bytes) 32 (omega arith)
    (let low : place / 32 * 32 ≤ place = div-mul-le_self place 32 in omega arith) in
    omega arith))
