-- The first fault of a table, step by step as a loop meets its entries.
use Rattle.std.proofs.Common.{◌≡◌, ℕ, zero, suc, ◌+◌, ◌<◌, List, [], ◌∷◌, ◌++◌, Option, Some, None, refl, sym, ap, ◌∙◌}
use Rattle.std.proofs.Common.{add-one, arith, inl, inr}
use Rattle.std.specs.Option.{option_or}
use Rattle.elf_read.specs.declared.error.ElfError.{ElfError}
use Rattle.elf_read.specs.declared.error.ElfError.TheVariants as errors
use Rattle.elf_read.proofs.TableLemmas.{last_or_below}
use Rattle.elf_read.specs.Checks.{table, first_fault, IsRefusal}

pub first_fault-append : (xs ys : List (Option ElfError))
    → first_fault (xs ++ ys) ≡ option_or (first_fault xs) (first_fault ys)
first_fault-append [] ys = refl
first_fault-append (None ∷ xs) ys = first_fault-append xs ys
first_fault-append (Some e ∷ xs) ys = refl

-- one more entry
table-suc : (f : ℕ → Option ElfError) (k : ℕ)
    → first_fault (table f (suc k)) ≡ option_or (first_fault (table f k)) (first_fault (f k ∷ []))
table-suc f k = first_fault-append (table f k) (f k ∷ [])

-- an entry without a fault
pub table_goes_on : (f : ℕ → Option ElfError) (k : ℕ) → first_fault (table f k) ≡ None → f k ≡ None
    → first_fault (table f (k + 1)) ≡ None
table_goes_on f k before here = rw add-one (table-suc f k ∙ rw (before, here) refl)

at_end : (f : ℕ → Option ElfError) (k : ℕ) (e : ElfError) → first_fault (table f k) ≡ None → f k ≡ Some e
    → first_fault (table f (suc k)) ≡ Some e
at_end f k e before here = table-suc f k ∙ rw (before, here) refl

-- the first entry with a fault, whatever follows it
pub table_ends : (f : ℕ → Option ElfError) (n k : ℕ) (e : ElfError) → k < n → first_fault (table f k) ≡ None
    → f k ≡ Some e → first_fault (table f n) ≡ Some e
table_ends f zero k e lt before here = absurd (omega arith)
table_ends f (suc n) k e lt before here =
    elim (last_or_below n k lt) [
      | inl less ↦ table-suc f n ∙ rw (table_ends f n k e less before here) refl
      | inr same ↦ rw (← same) (at_end f k e before here)
    ]

-- a fault that is known is a refusal, also beside want of memory
pub IsRefusal-known : (e : ElfError) (fault : Option ElfError) → fault ≡ Some e → IsRefusal e fault
IsRefusal-known (errors.OutOfMemory _) fault h = tt
IsRefusal-known (errors.Short n) fault h = h
IsRefusal-known errors.NotElf fault h = h
IsRefusal-known (errors.NotThisKind f n) fault h = h
IsRefusal-known errors.Interp fault h = h
IsRefusal-known (errors.BadSegment i) fault h = h
IsRefusal-known (errors.Overlap i j) fault h = h
IsRefusal-known errors.NoEntry fault h = h
IsRefusal-known (errors.Compressed i) fault h = h

-- a table without a fault has no entry with one
pub table_none : (f : ℕ → Option ElfError) (n k : ℕ) → k < n → first_fault (table f n) ≡ None → f k ≡ None
table_none f zero k lt none = absurd (omega arith)
table_none f (suc n) k lt none =
    let parts = both_none (first_fault (table f n)) (f n) (sym (table-suc f n) ∙ none) in
    elim (last_or_below n k lt) [
      | inl less ↦ table_none f n k less parts.0
      | inr same ↦ ap f same ∙ parts.1
    ]
  where
    both_none : (o p : Option ElfError) → option_or o (first_fault (p ∷ [])) ≡ None → (o ≡ None) × (p ≡ None)
    both_none None None e = (refl, refl)
    both_none None (Some x) e = absurd cc
    both_none (Some x) p e = absurd cc
