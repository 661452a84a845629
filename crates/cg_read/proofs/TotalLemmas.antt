-- Sums of costs, as far as they are added.
use Rattle.std.proofs.Common.{◌≡◌, ℕ, ◌+◌, ◌^◌, ◌<◌, ◌≤◌, true, false, List, length, get_or, take, None, Some, refl}
use Rattle.std.proofs.Common.{sym, ◌∙◌, ap, arith, slice_index, nat_lt}
use Rattle.std.proofs.lemmas.Bool.Decides.{nat_tests}
use Rattle.std.proofs.lemmas.List.{take_all}
use Rattle.std.proofs.lemmas.List.Sums.{sum_by_more_le}
use Rattle.cg_lines.specs.Numbers.{in_range}
use Rattle.cg_read.specs.Totals.{column_sum}
use Rattle.cg_read.specs.declared.rows.SelfRow.{SelfRow}

out_of_range : (n : ℕ) → 2 ^ 64 ≤ n → None ≡ in_range n
out_of_range n le = let past : nat_lt n (2 ^ 64) ≡ false = grind (arith, nat_tests) in rw past refl

within_range : (n : ℕ) → n < 2 ^ 64 → Some n ≡ in_range n
within_range n lt = let fits : nat_lt n (2 ^ 64) ≡ true = grind (arith, nat_tests) in rw fits refl

pub too_much : (rows : List SelfRow) (i place : ℕ) (row : SelfRow) → i < length rows → row ≡ get_or rows i row
    → 2 ^ 64 ≤ column_sum (take i rows) place + slice_index row.cost place
    → None ≡ in_range (column_sum rows place)
too_much rows i place row lt is le =
    let more : column_sum (take i rows) place + slice_index (get_or rows i row).cost place ≤ column_sum rows place
    = sum_by_more_le (λ (r : SelfRow). slice_index r.cost place) rows i row lt in
    let same : slice_index (get_or rows i row).cost place ≡ slice_index row.cost place
    = ap (λ (r : SelfRow). slice_index r.cost place) (sym is) in
    out_of_range (column_sum rows place) (omega (arith, more, same, le))

pub all_added_up : (rows : List SelfRow) (i place total : ℕ) → length rows ≤ i → total ≡ column_sum (take i rows) place
    → total < 2 ^ 64 → Some total ≡ in_range (column_sum rows place)
all_added_up rows i place total le is lt =
    let whole : total ≡ column_sum rows place = is
    ∙ ap (λ (l : List SelfRow). column_sum l place) (take_all i rows le) in
    rw (← whole) (within_range total lt)
