-- The lowest page from which so many pages are free.
use Rattle.std.proofs.Common.{◌≡◌, ℕ, zero, suc, ◌+◌, ◌*◌, ◌<◌, ◌≤◌, Bool, true, false, not, ◌&&◌, Some, None, refl}
use Rattle.std.proofs.Common.{sym, ◌∙◌, ap, inl, inr, arith, nat_le}
use Rattle.std.proofs.lemmas.Bool.{cases_lt, cases_Bool, cond-true, cond-false, and_right}
use Rattle.std.proofs.lemmas.Bool.Decides.{nat_tests}
use Rattle.guest_mem.specs.Memory.{Memory, page_mapped}
use Rattle.guest_sys.specs.Pages.{is_free, least, lowest_free}

pub free_from : (m : Memory) (page n : ℕ) → ((p : ℕ) → page ≤ p → p < page + n → page_mapped m (p * 4096) ≡ false)
    → is_free m page n ≡ true
unfolding is_free
free_from m page zero none = refl
free_from m page (suc n) none =
    ap (λ b. not b && is_free m (page + 1) n) (none page (omega arith) (omega arith))
    ∙ free_from m (page + 1) n (λ p low high. none p (omega arith) (omega arith))

pub not_free : (m : Memory) (page n p : ℕ) → page ≤ p → p < page + n → page_mapped m (p * 4096) ≡ true
    → is_free m page n ≡ false
unfolding is_free
not_free m page zero p low high there = absurd (omega arith)
not_free m page (suc n) p low high there = elim (cases_lt page p) [
  | inl past ↦ and_right (not (page_mapped m (page * 4096))) (is_free m (page + 1) n)
      (not_free m (page + 1) n p (omega arith) (omega arith) there)
  | inr here ↦
      let same : page ≡ p = omega arith in
      ap (λ b. not b && is_free m (page + 1) n) (ap (λ q. page_mapped m (q * 4096)) same ∙ there)
]

-- whether a mapping of n pages can begin at this one
abbrev pub fits : Memory → ℕ → ℕ → Bool
fits m n page = nat_le (page + n) 0x7f000 && is_free m page n

-- a mapping that fits nowhere below fits nowhere where one of its pages is mapped
pub no_fit : (m : Memory) (n page p : ℕ) → page ≤ p → p < page + n → page_mapped m (p * 4096) ≡ true
    → fits m n page ≡ false
no_fit m n page p low high there =
    and_right (nat_le (page + n) 0x7f000) (is_free m page n) (not_free m page n p low high there)

pub past_end : (m : Memory) (n page : ℕ) → 0x7f000 < page + n → fits m n page ≡ false
past_end m n page h = ap (λ b. b && is_free m page n) (le_false (page + n) h)
  where
    le_false : (a : ℕ) → 0x7f000 < a → nat_le a 0x7f000 ≡ false
    le_false a l = grind (arith, nat_tests)

pub does_fit : (m : Memory) (n page : ℕ) → page + n ≤ 0x7f000
    → ((p : ℕ) → page ≤ p → p < page + n → page_mapped m (p * 4096) ≡ false) → fits m n page ≡ true
does_fit m n page h none = ap (λ b. b && is_free m page n) (le_true (page + n) h) ∙ free_from m page n none
  where
    le_true : (a : ℕ) → a ≤ 0x7f000 → nat_le a 0x7f000 ≡ true
    le_true a l = grind (arith, nat_tests)

least_found : (test : ℕ → Bool) (start n p : ℕ) → start ≤ p → p < start + n
    → ((q : ℕ) → start ≤ q → q < p → test q ≡ false) → test p ≡ true → least test start n ≡ Some p
unfolding least
least_found test start zero p low high below here = absurd (omega arith)
least_found test start (suc n) p low high below here = elim (cases_lt start p) [
  | inl past ↦ cond-false (test start) (Some start) (least test (start + 1) n) (below start (omega arith) past)
      ∙ least_found test (start + 1) n p (omega arith) (omega arith) (λ q l h. below q (omega arith) h) here
  | inr at_start ↦
      let same : start ≡ p = omega arith in
      cond-true (test start) (Some start) (least test (start + 1) n) (ap test same ∙ here) ∙ ap (λ q. Some q) same
]

least_none : (test : ℕ → Bool) (start n : ℕ) → ((q : ℕ) → start ≤ q → q < start + n → test q ≡ false)
    → least test start n ≡ None
unfolding least
least_none test start zero none = refl
least_none test start (suc n) none =
    cond-false (test start) (Some start) (least test (start + 1) n) (none start (omega arith) (omega arith))
    ∙ least_none test (start + 1) n (λ q l h. none q (omega arith) (omega arith))

-- The search has come to a page: the mapping fits nowhere below it.
pub record IsSought (m : Memory) (n start : ℕ) : Type 0 where
  pub low : 0x40000 ≤ start
  pub top : start ≤ 0x7f000
  pub skipped : (q : ℕ) → 0x40000 ≤ q → q < start → fits m n q ≡ false

-- no range of so many free pages begins before the page
pub sought_past : (m : Memory) (n start : ℕ) → 0x40000 ≤ start → start ≤ 0x7f000
    → ((p : ℕ) → 0x40000 ≤ p → p < start → p + n ≤ 0x7f000
    → ((q : ℕ) → p ≤ q → q < p + n → page_mapped m (q * 4096) ≡ false) → ⊥) → IsSought m n start
sought_past m n start low top none = record {
  low = low;
  top = top;
  skipped = λ p l h. elim (cases_lt 0x7f000 (p + n)) [
    | inl over ↦ past_end m n p over
    | inr within ↦ elim (cases_Bool (is_free m p n)) [
      | inl free ↦ absurd (none p l h within (λ q a b. elim (cases_Bool (page_mapped m (q * 4096))) [
        | inl there ↦ absurd (both (is_free m p n) free (not_free m p n q a b there))
        | inr not ↦ not
      ]))
      | inr not ↦ and_right (nat_le (p + n) 0x7f000) (is_free m p n) not
    ]
  ];
}
  where
    both : (b : Bool) → b ≡ true → b ≡ false → ⊥
    both b is no_more = cc

-- all pages from there to the next one are mapped
pub sought_on : (m : Memory) (n start next : ℕ) → IsSought m n start → 1 ≤ n → start ≤ next → next ≤ 0x7f000
    → ((p : ℕ) → start ≤ p → p < next → page_mapped m (p * 4096) ≡ true) → IsSought m n next
sought_on m n start next s some past top mapped = record {
  low = omega (arith, s.low);
  top = top;
  skipped = λ q l h. elim (cases_lt q start) [
    | inl before ↦ s.skipped q l before
    | inr after ↦ no_fit m n q q (omega arith) (omega arith) (mapped q after h)
  ];
}

-- a page of the range from here on is mapped, and so are all from there to the next one
pub sought_next : (m : Memory) (n start taken next : ℕ) → IsSought m n start → taken < start + n
    → page_mapped m (taken * 4096) ≡ true → taken + 1 ≤ next → next ≤ 0x7f000 → 1 ≤ n
    → ((p : ℕ) → taken + 1 ≤ p → p < next → page_mapped m (p * 4096) ≡ true) → start ≤ taken → IsSought m n next
sought_next m n start taken next s near there past top some mapped order =
    sought_on m n (taken + 1) next over some past top mapped
  where
    over : IsSought m n (taken + 1)
    over = record {
      low = omega (arith, s.low);
      top = omega arith;
      skipped = λ q l h. elim (cases_lt q start) [
        | inl before ↦ s.skipped q l before
        | inr after ↦ no_fit m n q taken (omega arith) (omega arith) there
      ];
    }

pub sought_found : (m : Memory) (n start : ℕ) → IsSought m n start → start + n ≤ 0x7f000 → 1 ≤ n
    → ((p : ℕ) → start ≤ p → p < start + n → page_mapped m (p * 4096) ≡ false) → Some start ≡ lowest_free m n
unfolding lowest_free
sought_found m n start s within some free =
    sym (least_found (fits m n) 0x40000 0x3f000 start s.low (omega arith) s.skipped (does_fit m n start within free))

pub sought_none : (m : Memory) (n start : ℕ) → IsSought m n start → 0x7f000 < start + n → None ≡ lowest_free m n
unfolding lowest_free
sought_none m n start s over =
    sym (least_none (fits m n) 0x40000 0x3f000
    (λ q l h. elim (cases_lt q start) [ inl b ↦ s.skipped q l b | inr a ↦ past_end m n q (omega arith) ]))
