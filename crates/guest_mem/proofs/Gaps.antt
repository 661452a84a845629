-- The gaps of tables: how they stay, how they are found, and which pages begin no range of free ones.
use Rattle.std.proofs.Common.{◌≡◌, ℕ, suc, ◌+◌, ◌-◌, ◌*◌, ◌/◌, ◌%◌, ◌<◌, ◌≤◌, Bool, true, false, List, length, max, refl, sym}
use Rattle.std.proofs.Common.{◌∙◌, ap, arith, inl, inr}
use Rattle.std.specs.Prelude.{Option, Some, None, IfSome, is_some, slice_set, slice_index_or}
use Rattle.std.proofs.lemmas.Bool.{cases_lt, cases_eq, cases_Bool, cond-true, cond-false, eq-eqb, ne_eqb}
use Rattle.guest_mem.specs.inner.Table.{at_place, AreFree, AreGaps}
use Rattle.guest_mem.specs.inner.Directory.{page_at}
use Rattle.guest_mem.specs.declared.directory.Directory.{Directory}
use Rattle.guest_mem.specs.declared.table.Gaps.{Gaps}
use Rattle.guest_mem.specs.declared.table.Table.{Table}
use Rattle.guest_mem.proofs.Counts.{at-set, read-at}
use Rattle.guest_mem.proofs.Firsts.{page_in}

both : (b : Bool) → b ≡ true → b ≡ false → ⊥
both b is not = cc

-- they stay where no answer falls
pub gaps-more : (f g : ℕ → Bool) (gaps : Gaps) → ((q : ℕ) → q < 1024 → f q ≡ true → g q ≡ true) → AreGaps f gaps
    → AreGaps g gaps
gaps-more f g gaps more are = record {
  begins = are.begins;
  ends = are.ends;
  met = more gaps.first are.begins are.met;
  none = λ a n low high wide free. are.none a n low high wide (λ q from to within.
      elim (cases_Bool (f q)) [
        | inl is ↦ absurd (both (g q) (more q (omega (arith, are.ends)) is) (free q from to within))
        | inr not ↦ not
      ]);
}

-- a place changed, and is no emptier than before
pub gaps-set : {X : Type 0} (xs : List (Option X)) (i : ℕ) (x y : Option X) (gaps : Gaps) → i < length xs
    → y ≡ slice_index_or xs i y → (is_some y ≡ true → is_some x ≡ true)
    → (gaps.first < 1024 → AreGaps (λ q. is_some (at_place xs q)) gaps) → gaps.first < 1024
    → AreGaps (λ q. is_some (at_place (slice_set xs i x) q)) gaps
gaps-set xs i x y gaps h is more seen known =
    gaps-more (λ q. is_some (at_place xs q)) (λ q. is_some (at_place (slice_set xs i x) q)) gaps
    (λ q l there. elim (cases_eq q i) [
      | inl here ↦ at-set xs i x q h ∙ cond-true _ _ _ (eq-eqb q i here)
          ∙ more (ap is_some (read-at xs i y h is) ∙ ap (λ k. is_some (at_place xs k)) (sym here) ∙ there)
      | inr other ↦ at-set xs i x q h ∙ cond-false _ _ _ (ne_eqb q i other) ∙ there
    ]) (seen known)

-- one more place looked at, with a page or without
pub gaps-next : (f : ℕ → Bool) (first place past widest later wider : ℕ)
    → ((a n : ℕ) → first < a → a < past → widest < n → AreFree f a n past → ⊥) → past ≤ place → f place ≡ true
    → later ≡ place + 1 → wider ≡ max widest (place - past) → (a n : ℕ) → first < a → a < later → wider < n
    → AreFree f a n later → ⊥
gaps-next f first place past widest later wider none order there is widens a n low high wide free =
    elim (cases_lt a past) [
      | inl before ↦ none a n low before (omega arith) (λ q from to within. free q from to (omega arith))
      | inr after ↦ both (f place) there (free place (omega arith) (omega arith) (omega arith))
    ]

pub gaps-still : (f : ℕ → Bool) (first past widest later wider : ℕ)
    → ((a n : ℕ) → first < a → a < past → widest < n → AreFree f a n past → ⊥) → later ≡ past → wider ≡ widest
    → (a n : ℕ) → first < a → a < later → wider < n → AreFree f a n later → ⊥
gaps-still f first past widest later wider none is same a n low high wide free =
    none a n low (omega arith) (omega arith) (λ q from to within. free q from to (omega arith))

pub if_some : {X : Type 0} (P Q : X → Type 0) (o : Option X) → ((x : X) → P x → Q x) → IfSome o P → IfSome o Q
if_some P Q None step given = given
if_some P Q (Some x) step given = step x given

-- the gaps of a table, as the directory has its pages
pub gaps-in : (d : Directory) (t : Table) (high : ℕ) (gaps : Gaps) → at_place d.tables.items high ≡ Some t
    → AreGaps (λ q. is_some (at_place t.places.items q)) gaps
    → AreGaps (λ q. is_some (page_at d (high * 1024 + q))) gaps
gaps-in d t high gaps there =
    gaps-more (λ q. is_some (at_place t.places.items q)) (λ q. is_some (page_at d (high * 1024 + q))) gaps
    (λ q l is.
    let number : high * 1024 / 1024 ≡ high = omega arith in
    let place : high * 1024 + q - (high * 1024 - high * 1024 % 1024) ≡ q = omega arith in
    page_in d t (high * 1024) (high * 1024 + q) (ap (at_place d.tables.items) number ∙ there) (omega arith) (omega arith)
    ∙ ap (λ k. is_some (at_place t.places.items k)) place ∙ is)

-- no range of free pages that is wider than its gaps begins before the last page of a table
pub gaps-passed : (g : ℕ → Bool) (from start at pages end : ℕ) (gaps : Gaps)
    → ((p : ℕ) → from ≤ p → p < start → AreFree g p pages end → ⊥) → start ≤ at → at + 1024 ≤ end
    → at + gaps.first < start + pages → gaps.widest < pages → AreGaps (λ q. g (at + q)) gaps → (p : ℕ) → from ≤ p
    → p < at + gaps.past → AreFree g p pages end → ⊥
gaps-passed g from start at pages end gaps before order within near wide are p low high free =
    elim (cases_lt p start) [
      | inl l ↦ before p low l free
      | inr after ↦
          elim (cases_lt (at + gaps.first) p) [
            | inl past ↦ are.none (p - at) pages (omega arith) (omega arith) wide
                (λ q x y z. free (at + q) (omega arith) (omega arith) (omega (arith, are.ends)))
            | inr over ↦ both (g (at + gaps.first)) are.met
                (free (at + gaps.first) over (omega arith) (omega (arith, are.begins)))
          ]
    ]
