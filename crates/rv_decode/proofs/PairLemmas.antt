-- Rows that differ where both masks look share no word.
use Rattle.std.proofs.Common.{◌≡◌, ℕ, zero, suc, ◌<◌, ◌==◌, ◌&&◌, Bool, true, not, bit_and, List, [], ◌∷◌, length, get_or}
use Rattle.std.proofs.Common.{AllPairs, refl, sym, ap, ◌∙◌, arith}
use Rattle.std.specs.List.{list_all}
use Rattle.std.proofs.lemmas.Bool.{and_parts, eq-eqb, not-true}
use Rattle.std.proofs.lemmas.Nat.{and_assoc, and_comm}
use Rattle.rv_decode.specs.Matching.{Differ, Matches}
use Rattle.rv_decode.specs.Table.{listed_rows, row_of}
use Rattle.rv_decode.specs.declared.row.Row.{Row}

-- that two rows differ, as a test
abbrev differ : Row → Row → Bool
differ r s = not (bit_and r.bits s.mask == bit_and s.bits r.mask)

-- the test of each pair of rows
abbrev all_differ : List Row → Bool
all_differ [] = true
all_differ (r ∷ rows) = list_all (differ r) rows && all_differ rows

-- the test tells the fact
differ_tells : (r s : Row) → differ r s ≡ true → Differ r s
differ_tells r s e same =
    let unequal = not-true _ e in
    let equal = eq-eqb (bit_and r.bits s.mask) (bit_and s.bits r.mask) same in
    cc

from_each : (r : Row) (rows : List Row) → list_all (differ r) rows ≡ true → (j : ℕ) (d : Row) → j < length rows
    → Differ r (get_or rows j d)
from_each r [] e j d within = absurd (omega arith)
from_each r (s ∷ rows) e zero d within = differ_tells r s (and_parts (differ r s) (list_all (differ r) rows) e).0
from_each r (s ∷ rows) e (suc j) d within =
    from_each r rows (and_parts (differ r s) (list_all (differ r) rows) e).1 j d (omega arith)

from_all : (rows : List Row) → all_differ rows ≡ true → (i j : ℕ) (d : Row) → i < j → j < length rows
    → Differ (get_or rows i d) (get_or rows j d)
from_all [] e i j d before within = absurd (omega arith)
from_all (r ∷ rows) e i zero d before within = absurd (omega arith)
from_all (r ∷ rows) e zero (suc j) d before within =
    from_each r rows (and_parts (list_all (differ r) rows) (all_differ rows) e).0 j d (omega arith)
from_all (r ∷ rows) e (suc i) (suc j) d before within =
    from_all rows (and_parts (list_all (differ r) rows) (all_differ rows) e).1 i j d (omega arith) (omega arith)

-- a word in both would make the bits alike under both masks
apart : (w : ℕ) (r s : Row) → Differ r s → Matches w r → Matches w s → ⊥
apart w r s differs in_r in_s =
    differs
    (ap (λ x. bit_and x s.mask) (sym in_r)
    ∙ and_assoc s.mask w r.mask
    ∙ ap (λ x. bit_and w x) (and_comm r.mask s.mask)
    ∙ sym (and_assoc r.mask w s.mask)
    ∙ ap (λ x. bit_and x r.mask) in_s)

-- over the whole table
pub rows_differ : AllPairs Differ listed_rows
unfolding listed_rows row_of
rows_differ = from_all listed_rows refl

pub no_word_in_two : (w : ℕ) → AllPairs (λ r s. ¬ (Matches w r × Matches w s)) listed_rows
no_word_in_two w = λ i j d before within. λ both. apart w (get_or listed_rows i d) (get_or listed_rows j d)
    (rows_differ i j d before within) both.0 both.1
