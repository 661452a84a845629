-- The table: each instruction has its row, and a word has at most one.
use Rattle.std.proofs.Common.{get_or, All, ◌≡◌, ℕ, Some, Contains, lit<, refl, sym, ap, ◌∙◌, subst}
use Rattle.std.specs.List.{AllByRecursion}
use Rattle.std.proofs.lemmas.List.Elements.{All-contains, All-from_recursion, All-weaker}
use Rattle.rv_decode.specs.inner.Candidate.{candidate_of}
use Rattle.rv_decode.specs.Matching.{Matches}
use Rattle.rv_decode.specs.Table.{listed_rows, row_of}
use Rattle.rv_decode.specs.contracts.instr.Op.{the_type}
use denote.Enum.Declared.{tag_of}
use Rattle.rv_decode.specs.declared.instr.Op.{Op}
use Rattle.rv_decode.specs.declared.instr.Op.TheVariants.{LUI}
use Rattle.rv_decode.specs.declared.row.Row.{Row}
use Rattle.rv_decode.specs.declared.row.TheConstants.{ROWS}
use Rattle.rv_decode.proofs.CandidateLemmas.{matched-candidate}

-- the table has the rows that the manual lists
pub as_listed : ROWS ≡ listed_rows
unfolding listed_rows row_of
as_listed = refl

-- the row of each instruction stands in the table at the place of its name
pub row_at : (o : Op) (d : Row) → get_or ROWS (tag_of the_type o) d ≡ row_of o
unfolding row_of
row_at LUI d = refl
row_at o d = refl

pub row_of-contained : (o : Op) → Contains listed_rows (row_of o)
unfolding listed_rows
row_of-contained LUI = (0, lit< tt, refl)
row_of-contained o = (tag_of the_type o, lit< tt, refl)

-- each row of the table is the row of its instruction
pub each_row_of : AllByRecursion (λ (row : Row). row_of row.op ≡ row) listed_rows
unfolding listed_rows row_of
each_row_of = search refl

pub row_of-op : (row : Row) → Contains listed_rows row → row_of row.op ≡ row
row_of-op row stands =
    All-contains (λ (r : Row). row_of r.op ≡ r) listed_rows row
    (All-from_recursion (λ (r : Row). row_of r.op ≡ r) listed_rows each_row_of) stands

pub each_listed : All (λ (row : Row). row ≡ row_of row.op) listed_rows
each_listed =
    All-weaker (λ (row : Row). row_of row.op ≡ row) (λ (row : Row). row ≡ row_of row.op) (λ row same. sym same)
    listed_rows (All-from_recursion (λ (r : Row). row_of r.op ≡ r) listed_rows each_row_of)

-- the row of an instruction is the only one with its name
pub only_row : (o : Op) → All (λ row. row.op ≡ o → row ≡ row_of o) listed_rows
only_row o =
    All-weaker (λ (row : Row). row_of row.op ≡ row) (λ row. row.op ≡ o → row ≡ row_of o)
    (λ row same. λ named. sym same ∙ ap row_of named)
    listed_rows (All-from_recursion (λ (r : Row). row_of r.op ≡ r) listed_rows each_row_of)

-- the row of an instruction has its name
pub op_of : (o : Op) → (row_of o).op ≡ o
unfolding row_of
op_of LUI = refl
op_of o = refl

-- the candidate of a word that matches a row is the row's instruction
pub candidate-row : (w : ℕ) (row : Row) → Contains listed_rows row → Matches w row → candidate_of w ≡ Some row.op
candidate-row w row stands h =
    let P : Row → Type 0 = λ r. Matches w r in
    matched-candidate w row.op (subst P (sym (row_of-op row stands)) h)

-- no word matches two rows
pub one_row : (w : ℕ) (r s : Row) → Contains listed_rows r → Contains listed_rows s → Matches w r → Matches w s → r ≡ s
one_row w r s r_stands s_stands r_matches s_matches =
    let e : Some r.op ≡ Some s.op = sym (candidate-row w r r_stands r_matches) ∙ candidate-row w s s_stands s_matches in
    let same : r.op ≡ s.op = cc in
    sym (row_of-op r r_stands) ∙ ap row_of same ∙ row_of-op s s_stands
