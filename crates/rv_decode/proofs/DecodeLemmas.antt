-- The row that a word matches, and the instruction that it gives.
use Rattle.std.proofs.Common.{◌≡◌, ℕ, ◌↔◌, true, false, Option, Some, None, List, All, Contains, IsNone, IfSome}
use Rattle.std.proofs.Common.{bit_and, refl, sym, ap, ◌∙◌, subst, position, get_or}
use Rattle.std.specs.Option.{option_map}
use Rattle.std.proofs.lemmas.Bool.{eqb-true, eq-eqb}
use Rattle.std.proofs.lemmas.List.Elements.{All-contains, All-contains_itself, All-weaker, Contains-get_or}
use Rattle.std.proofs.lemmas.List.Quantifiers.{position-Some}
use Rattle.rv_decode.specs.inner.Candidate.{candidate_of}
use Rattle.rv_decode.specs.Decoded.{decode, matching_row}
use Rattle.rv_decode.specs.Layout.{instr_of}
use Rattle.rv_decode.specs.Matching.{Matches, matches}
use Rattle.rv_decode.specs.Table.{listed_rows, row_of}
use Rattle.rv_decode.specs.declared.instr.Instr.{Instr}
use Rattle.rv_decode.specs.declared.instr.Op.{Op}
use Rattle.rv_decode.specs.declared.row.Row.{Row}
use Rattle.rv_decode.specs.declared.row.TheConstants.{ROWS}
use Rattle.rv_decode.proofs.RowLemmas.{as_listed, candidate-row, one_row, row_of-op}
use Rattle.rv_decode.proofs.SearchLemmas.{found, none_found}

pub matched : (w : ℕ) (row : Row) → matching_row w ≡ Some row → Matches w row × Contains listed_rows row
unfolding matching_row
matched w row e =
    let at = found (matches w) listed_rows row e in
    (eqb-true (bit_and w row.mask) row.bits at.0, at.1)

pub unmatched : (w : ℕ) → matching_row w ≡ None → All (λ row. Matches w row → ⊥) listed_rows
unfolding matching_row
unmatched w e =
    All-weaker (λ row. matches w row ≡ false) (λ row. Matches w row → ⊥)
    (λ row fails. λ h. let passes : matches w row ≡ true = eq-eqb (bit_and w row.mask) row.bits h in cc)
    listed_rows (none_found (matches w) listed_rows e)

-- a row that matches is the row
is_matching_row_at : (w : ℕ) (row : Row) → Contains listed_rows row → Matches w row → (o : Option Row)
    → matching_row w ≡ o → o ≡ Some row
is_matching_row_at w row stands h None e =
    absurd (All-contains (λ r. Matches w r → ⊥) listed_rows row (unmatched w e) stands h)
is_matching_row_at w row stands h (Some r) e =
    let at = matched w r e in
    ap (λ (x : Row). Some x) (one_row w r row at.1 stands at.0 h)

pub is_matching_row : (w : ℕ) (row : Row) → Contains listed_rows row → Matches w row → matching_row w ≡ Some row
is_matching_row w row stands h = is_matching_row_at w row stands h (matching_row w) refl

-- ---- by the candidate

-- with no candidate there is no row
no_row_at : (w : ℕ) → candidate_of w ≡ None → (o : Option Row) → matching_row w ≡ o → o ≡ None
no_row_at w none None e = refl
no_row_at w none (Some r) e =
    let at = matched w r e in
    let some : candidate_of w ≡ Some r.op = candidate-row w r at.1 at.0 in
    cc

pub no_row : (w : ℕ) → candidate_of w ≡ None → matching_row w ≡ None
no_row w none = no_row_at w none (matching_row w) refl

-- where the candidate's row does not match, none does
other_row_at : (w : ℕ) (o : Op) (row : Row) → candidate_of w ≡ Some o → row ≡ row_of o → (Matches w row → ⊥)
    → (m : Option Row) → matching_row w ≡ m → m ≡ None
other_row_at w o row is of_op fails None e = refl
other_row_at w o row is of_op fails (Some r) e =
    let at = matched w r e in
    let some : candidate_of w ≡ Some r.op = candidate-row w r at.1 at.0 in
    let same : r.op ≡ o = cc in
    let P : Row → Type 0 = λ x. Matches w x in
    absurd (fails (subst P (sym (row_of-op r at.1) ∙ ap row_of same ∙ sym of_op) at.0))

pub other_row : (w : ℕ) (o : Op) (row : Row) → candidate_of w ≡ Some o → row ≡ row_of o → (Matches w row → ⊥)
    → matching_row w ≡ None
other_row w o row is of_op fails = other_row_at w o row is of_op fails (matching_row w) refl

-- ---- what a word decodes to

pub decoded-none : (w : ℕ) → matching_row w ≡ None → decode w ≡ None
unfolding decode
decoded-none w e = ap (λ o. option_map (λ (row : Row). instr_of row.shape row.op w) o) e

pub decoded-some : (w : ℕ) (row : Row) → matching_row w ≡ Some row → decode w ≡ Some (instr_of row.shape row.op w)
unfolding decode
decoded-some w row e = ap (λ o. option_map (λ (row : Row). instr_of row.shape row.op w) o) e

-- nothing is decoded exactly where no row matches
none_exactly_at : (w : ℕ) (m : Option Row) → matching_row w ≡ m → (o : Option Instr) → o ≡ decode w
    → IsNone o ↔ All (λ row. Matches w row → ⊥) listed_rows
none_exactly_at w None e None is = (λ _. unmatched w e, λ _. refl)
none_exactly_at w None e (Some i) is = let none = decoded-none w e in cc
none_exactly_at w (Some r) e None is = let some = decoded-some w r e in cc
none_exactly_at w (Some r) e (Some i) is =
    let at = matched w r e in
    (λ h. cc, λ none. absurd (All-contains (λ x. Matches w x → ⊥) listed_rows r none at.1 at.0))

pub none_exactly : (w : ℕ) (o : Option Instr) → o ≡ decode w → IsNone o ↔ All (λ row. Matches w row → ⊥) listed_rows
none_exactly w o is = none_exactly_at w (matching_row w) refl o is

-- what is decoded is what each row that matches gives
by_each_row_at : (w : ℕ) (m : Option Row) → matching_row w ≡ m → (o : Option Instr) → o ≡ decode w
    → IfSome o (λ i. All (λ row. Matches w row → i ≡ instr_of row.shape row.op w) listed_rows)
by_each_row_at w m e None is = tt
by_each_row_at w None e (Some i) is = let none = decoded-none w e in cc
by_each_row_at w (Some r) e (Some i) is =
    let at = matched w r e in
    let some = decoded-some w r e in
    let same : i ≡ instr_of r.shape r.op w = cc in
    All-weaker (λ row. Contains listed_rows row) (λ row. Matches w row → i ≡ instr_of row.shape row.op w)
    (λ row stands. λ h. same ∙ ap (λ (x : Row). instr_of x.shape x.op w) (one_row w r row at.1 stands at.0 h))
    listed_rows (All-contains_itself listed_rows)

pub by_each_row : (w : ℕ) (o : Option Instr) → o ≡ decode w
    → IfSome o (λ i. All (λ row. Matches w row → i ≡ instr_of row.shape row.op w) listed_rows)
by_each_row w o is = by_each_row_at w (matching_row w) refl o is

-- ---- by the search of the table

no_match_at : (w : ℕ) → All (λ row. Matches w row → ⊥) listed_rows → (m : Option Row) → matching_row w ≡ m → m ≡ None
no_match_at w none None e = refl
no_match_at w none (Some r) e =
    let at = matched w r e in
    absurd (All-contains (λ x. Matches w x → ⊥) listed_rows r none at.1 at.0)

pub no_match : (w : ℕ) → All (λ row. Matches w row → ⊥) ROWS → matching_row w ≡ None
no_match w none =
    let P : List Row → Type 0 = λ rows. All (λ row. Matches w row → ⊥) rows in
    no_match_at w (subst P as_listed none) (matching_row w) refl

pub at_position : (w k : ℕ) (d : Row) → position (matches w) ROWS ≡ Some k → matching_row w ≡ Some (get_or ROWS k d)
at_position w k d e =
    let at = position-Some (matches w) ROWS k d e in
    let row = get_or ROWS k d in
    let P : List Row → Type 0 = λ rows. Contains rows row in
    let stands = subst P as_listed (Contains-get_or ROWS k d at.0) in
    is_matching_row w row stands (eqb-true (bit_and w row.mask) row.bits at.1)
