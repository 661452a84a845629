-- The first number at which a test answers as wanted: in a table, and over several tables.
use Rattle.std.proofs.Common.{◌≡◌, ℕ, ◌+◌, ◌-◌, ◌*◌, ◌/◌, ◌%◌, ◌<◌, ◌≤◌, ◌^◌, Bool, true, false, not, refl, sym, ◌∙◌}
use Rattle.std.proofs.Common.{ap, arith, inl, inr}
use Rattle.std.specs.Prelude.{Option, Some, None, is_some}
use Rattle.std.specs.Option.{option_and_then}
use Rattle.std.proofs.lemmas.Bool.{cases_lt}
use Rattle.guest_mem.specs.Memory.{page_mapped}
use Rattle.guest_mem.specs.inner.Page.{memory_of_pages}
use Rattle.guest_mem.specs.inner.Table.{at_place, IsFirst}
use Rattle.guest_mem.specs.inner.Directory.{page_at}
use Rattle.guest_mem.specs.declared.directory.Directory.{Directory}
use Rattle.guest_mem.specs.declared.table.Table.{Table}
use Rattle.guest_mem.proofs.Spans.{whole_pages}
use Rattle.guest_mem.proofs.Counts.{page_mapped-is}

-- ---- one table

-- the pages of one table are those at its places
pub page_in : (d : Directory) (t : Table) (from p : ℕ) → at_place d.tables.items (from / 1024) ≡ Some t → from ≤ p
    → p < from - from % 1024 + 1024
    → is_some (page_at d p) ≡ is_some (at_place t.places.items (p - (from - from % 1024)))
unfolding page_at
page_in d t from p there low high =
    let table : p / 1024 ≡ from / 1024 = omega arith in
    let place : p % 1024 ≡ p - (from - from % 1024) = omega arith in
    ap (λ k. is_some (option_and_then (λ u. at_place u.places.items (p % 1024)) (at_place d.tables.items k))) table
    ∙ ap (λ o. is_some (option_and_then (λ u. at_place u.places.items (p % 1024)) o)) there
    ∙ ap (λ k. is_some (at_place t.places.items k)) place

pub page_nowhere : (d : Directory) (from p : ℕ) → at_place d.tables.items (from / 1024) ≡ None → from ≤ p
    → p < from - from % 1024 + 1024 → is_some (page_at d p) ≡ false
unfolding page_at
page_nowhere d from p none low high =
    let table : p / 1024 ≡ from / 1024 = omega arith in
    ap (λ k. is_some (option_and_then (λ u. at_place u.places.items (p % 1024)) (at_place d.tables.items k))) table
    ∙ ap (λ o. is_some (option_and_then (λ u. at_place u.places.items (p % 1024)) o)) none

-- the same test, whose numbers begin elsewhere
pub first_moved : (f g : ℕ → Bool) (wanted : Bool) (start from end found : ℕ) → start ≤ from → from ≤ end
    → ((p : ℕ) → from ≤ p → p < end → g p ≡ f (p - start)) → IsFirst f wanted (from - start) (end - start) found
    → IsFirst g wanted from end (start + found)
first_moved f g wanted start from end found low order same first = record {
  low = omega (arith, first.low);
  high = omega (arith, first.high);
  passed = λ p l h. same p l (omega (arith, first.high)) ∙ first.passed (p - start) (omega arith) (omega arith);
  met = λ h. same (start + found) (omega (arith, first.low)) h
      ∙ ap f (let e : start + found - start ≡ found = omega arith in e) ∙ first.met (omega arith);
}

-- a test that holds nowhere
pub first_nowhere : (g : ℕ → Bool) (wanted : Bool) (from end : ℕ) → from ≤ end → wanted ≡ true
    → ((p : ℕ) → from ≤ p → p < end → g p ≡ false) → IsFirst g wanted from end end
first_nowhere g wanted from end order is none = record {
  low = order;
  high = omega arith;
  passed = λ p l h. none p l h ∙ sym (ap not is);
  met = λ h. absurd (omega arith);
}

pub first_at_once : (g : ℕ → Bool) (wanted : Bool) (from end : ℕ) → from < end → wanted ≡ false
    → ((p : ℕ) → from ≤ p → p < end → g p ≡ false) → IsFirst g wanted from end from
first_at_once g wanted from end order is none = record {
  low = omega arith;
  high = omega arith;
  passed = λ p l h. absurd (omega arith);
  met = λ h. none from (omega arith) h ∙ sym is;
}

-- ---- several tables

pub first_later : (g : ℕ → Bool) (wanted : Bool) (from at border end found : ℕ)
    → ((p : ℕ) → from ≤ p → p < at → g p ≡ not wanted) → from ≤ at → border ≤ end → found < border
    → IsFirst g wanted at border found → IsFirst g wanted from end found
first_later g wanted from at border end found before order within here first = record {
  low = omega (arith, first.low);
  high = omega arith;
  passed = λ p l h. elim (cases_lt p at) [ inl b ↦ before p l b | inr a ↦ first.passed p a h ];
  met = λ h. first.met here;
}

pub first_not_yet : (g : ℕ → Bool) (wanted : Bool) (from at border found : ℕ)
    → ((p : ℕ) → from ≤ p → p < at → g p ≡ not wanted) → border ≤ found → IsFirst g wanted at border found → (p : ℕ)
    → from ≤ p → p < border → g p ≡ not wanted
first_not_yet g wanted from at border found before none first p l h =
    elim (cases_lt p at) [ inl b ↦ before p l b | inr a ↦ first.passed p a (omega arith) ]

-- ---- in the memory

pub mapped_page : (d : Directory) (p : ℕ) → p < 2 ^ 20
    → page_mapped (memory_of_pages (page_at d)) (p * 4096) ≡ is_some (page_at d p)
mapped_page d p h = page_mapped-is (page_at d) p (whole_pages d) h
