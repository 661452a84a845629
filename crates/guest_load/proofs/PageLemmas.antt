-- The permission of a page, segment by segment.
use Rattle.std.proofs.Common.{◌≡◌, ℕ, ◌+◌, ◌<◌, ◌≤◌, Bool, true, false, cond, refl, sym, ◌∙◌, ap, arith, List, [], ◌∷◌}
use Rattle.std.proofs.Common.{length, take, get_or}
use Rattle.std.specs.Prelude.{Option, Some, None, ◌||◌, ◌&&◌, bit_or, unwrap_or, nat_eq, slice_index_or}
use Rattle.std.proofs.Math.Bool.{or-false}
use Rattle.std.proofs.lemmas.Bool.{eqb-true, and_parts}
use Rattle.std.proofs.lemmas.List.Folds.{list_any_more}
use Rattle.elf_read.specs.Standard.{pf_r, pf_w, pf_x, has_flag}
use Rattle.elf_read.specs.declared.program.Segment.{Segment}
use Rattle.guest_load.specs.Segments.{touches, is_touched, gives, permission_bits}
use Rattle.guest_load.specs.inner.Stages.{permission_with, page_plan, IsTable}

-- ---- permissions as bits

one_at_most : (b : Bool) (n : ℕ) → cond b n 0 ≤ n
one_at_most true n = omega arith
one_at_most false n = omega arith

-- a test passes at both truth values
abbrev both : (Bool → Bool) → Bool
both f = f true && f false

both_at : (f : Bool → Bool) → both f ≡ true → (b : Bool) → f b ≡ true
both_at f h true = (and_parts (f true) (f false) h).0
both_at f h false = (and_parts (f true) (f false) h).1

abbrev unites : Bool → Bool → Bool → Bool → Bool → Bool → Bool
unites r w x a b c = nat_eq (bit_or (permission_bits r w x) (permission_bits a b c))
    (permission_bits (r || a) (w || b) (x || c))

-- the union of two permissions has the bits of both
pub bit_or-permission_bits : (r w x a b c : Bool)
    → bit_or (permission_bits r w x) (permission_bits a b c) ≡ permission_bits (r || a) (w || b) (x || c)
bit_or-permission_bits r w x a b c =
    let each : both (λ r. both (λ w. both (λ x. both (λ a. both (λ b. both (λ c. unites r w x a b c)))))) ≡ true =
    refl in
    eqb-true _ _
    (both_at (unites r w x a b)
    (both_at (λ b. both (unites r w x a b))
    (both_at (λ a. both (λ b. both (unites r w x a b)))
    (both_at (λ x. both (λ a. both (λ b. both (unites r w x a b))))
    (both_at (λ w. both (λ x. both (λ a. both (λ b. both (unites r w x a b)))))
    (both_at (λ r. both (λ w. both (λ x. both (λ a. both (λ b. both (unites r w x a b)))))) each r) w) x) a) b) c)

-- ---- one segment more

-- what a page has where a segment touches it
abbrev plan_of : Bool → Bool → Bool → Bool → Option ℕ
plan_of touched r w x = cond touched (Some (permission_bits r w x)) None

permitted_plan : (t touched r w x a b c : Bool) → (touched ≡ false → (r ≡ false) × (w ≡ false) × (x ≡ false))
    → cond t (Some (bit_or (unwrap_or (plan_of touched r w x) 0) (permission_bits a b c))) (plan_of touched r w x)
    ≡ plan_of (touched || t) (r || (t && a)) (w || (t && b)) (x || (t && c))
permitted_plan true true r w x a b c none = ap Some (bit_or-permission_bits r w x a b c)
permitted_plan true false r w x a b c none =
    let all = none refl in
    ap Some (bit_or-permission_bits false false false a b c)
    ∙ (λ i. Some (permission_bits (sym all.0 i || a) (sym all.1 i || b) (sym all.2 i || c)))
permitted_plan false true r w x a b c none =
    λ i. Some (permission_bits (sym (or-false r) i) (sym (or-false w) i) (sym (or-false x) i))
permitted_plan false false r w x a b c none = refl

untouched : (flag : ℕ) (segments : List Segment) (page : ℕ) → is_touched segments page ≡ false
    → gives flag segments page ≡ false
unfolding is_touched gives
untouched flag [] page h = refl
untouched flag (s ∷ segments) page h = split (touches page s) refl h (untouched flag segments page)
  where
    split : (t : Bool) → touches page s ≡ t → (t || is_touched segments page) ≡ false
        → (is_touched segments page ≡ false → gives flag segments page ≡ false) → gives flag (s ∷ segments) page ≡ false
    split true is none rest = cc
    split false is none rest = (λ i. (is i && has_flag flag s.flags) || gives flag segments page) ∙ rest none

touched_more : (segments : List Segment) (i page : ℕ) (d : Segment) → i < length segments
    → is_touched (take (i + 1) segments) page
    ≡ (is_touched (take i segments) page || touches page (get_or segments i d))
unfolding is_touched
touched_more segments i page d h = list_any_more (touches page) segments i d h

gives_more : (flag : ℕ) (segments : List Segment) (i page : ℕ) (d : Segment) → i < length segments
    → gives flag (take (i + 1) segments) page
    ≡ (gives flag (take i segments) page ||
    (touches page (get_or segments i d) && has_flag flag (get_or segments i d).flags))
unfolding gives
gives_more flag segments i page d h = list_any_more _ segments i d h

page_plan_more : (segments : List Segment) (i page : ℕ) (d : Segment) → i < length segments
    → permission_with (get_or segments i d) page (page_plan (take i segments) page) ≡ page_plan (take (i + 1) segments) page
page_plan_more segments i page d h =
    let s : Segment = get_or segments i d in
    let front : List Segment = take i segments in
    permitted_plan (touches page s) (is_touched front page) (gives pf_r front page) (gives pf_w front page)
    (gives pf_x front page) (has_flag pf_r s.flags) (has_flag pf_w s.flags) (has_flag pf_x s.flags)
    (λ none. (untouched pf_r front page none, untouched pf_w front page none, untouched pf_x front page none))
    ∙ (λ j. plan_of (sym (touched_more segments i page d h) j) (sym (gives_more pf_r segments i page d h) j)
    (sym (gives_more pf_w segments i page d h) j) (sym (gives_more pf_x segments i page d h) j))

-- the table of a front of the segments, from the one before it
pub IsTable_more : (segments : List Segment) (i : ℕ) (d : Segment) (old lent new : List (Option ℕ))
    → i < length segments → IsTable old (page_plan (take i segments)) → lent ≡ old
    → IsTable new (λ page. permission_with (get_or segments i d) page (slice_index_or lent page None))
    → IsTable new (page_plan (take (i + 1) segments))
IsTable_more segments i d old lent new h before same after page =
    after page ∙ ap (λ t. permission_with (get_or segments i d) page (slice_index_or t page None)) same
    ∙ ap (permission_with (get_or segments i d) page) (before page) ∙ page_plan_more segments i page d h
