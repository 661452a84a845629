-- Sequences have rows, whose addresses don't fall, and none lies past its sequence's end.
use Rattle.std.proofs.Common.{◌≡◌, ℕ, ◌-◌, ◌<◌, ◌≤◌, Bool, true, false, cond, List, [], ◌∷◌, ◌++◌, length, get_or, map}
use Rattle.std.proofs.Common.{Option, Some, None, refl, sym, subst, arith}
use Rattle.std.specs.Prelude.{All}
use Rattle.std.specs.List.{AllByRecursion}
use Rattle.std.specs.List.Sorted.{IsNonDecreasingBy}
use Rattle.std.proofs.lemmas.List.{get_or-map, length-map}
use Rattle.std.proofs.lemmas.List.Sorted.{IsNonDecreasingBy-push, IsNonDecreasingBy-short}
use Rattle.std.proofs.lemmas.Bool.{leb-true}
use Rattle.std.proofs.lemmas.Option.{slice_get-get_or}
use Rattle.dwarf_line.specs.declared.registers.Registers.{Registers}
use Rattle.dwarf_line.specs.Bytes.{◌>>=◌}
use Rattle.dwarf_line.specs.Header.{LineHeader}
use Rattle.dwarf_line.specs.Instruction.{instructions_within}
use Rattle.dwarf_line.specs.Registers.{start}
use Rattle.dwarf_line.specs.Program.{Event, emits, ends, SequenceOf, sequence_by, allows, closed_sequence, sequences_at_end, gather_sequences}
use Rattle.dwarf_line.specs.Program.{events_of, program_sequences}
use Rattle.dwarf_line.specs.Rows.{IsRising}

-- a sequence has rows, and they rise up to its end
pub record IsWhole {R : Type 0} (address : R → ℕ) (sequence : SequenceOf R) : Type 0 where
  pub has_row : 0 < length sequence.rows
  pub rises : IsRising address sequence

pub all_append : {X : Type 0} (P : X → Type 0) (xs ys : List X) → AllByRecursion P xs → AllByRecursion P ys
    → AllByRecursion P (xs ++ ys)
all_append P [] ys p q = q
all_append P (x ∷ xs) ys p q = (p.0, all_append P xs ys p.1 q)

-- ---- what may follow rows

-- the last row is at or below what may follow
last_below : {R : Type 0} (address : R → ℕ) (rows : List R) (next : ℕ) (d : R) → 0 < length rows
    → allows address rows next ≡ true → address (get_or rows (length rows - 1) d) ≤ next
last_below address rows next d some may =
    let last = slice_get-get_or rows (length rows - 1) d (omega arith) in
    let below = rw last at may in
    leb-true (address (get_or rows (length rows - 1) d)) next below

row_follows : {R : Type 0} (address : R → ℕ) (rows : List R) (row : R) → IsNonDecreasingBy address rows
    → allows address rows (address row) ≡ true → IsNonDecreasingBy address (rows ++ row ∷ [])
row_follows address rows row rise may =
    IsNonDecreasingBy-push address rows row rise (λ d some. last_below address rows (address row) d some may)

end_follows : {R : Type 0} (address : R → ℕ) (rows : List R) (end : ℕ) → IsNonDecreasingBy address rows
    → allows address rows end ≡ true → All (λ row. address row ≤ end) rows
end_follows address rows end rise may = λ k d lt.
    let up_to_last = rise k (length rows - 1) d (omega arith) (omega arith) in
    let last = last_below address rows end d (omega arith) may in
    omega arith

closed_whole : {R : Type 0} (address : R → ℕ) (rows : List R) (end : ℕ) → IsNonDecreasingBy address rows
    → allows address rows end ≡ true → AllByRecursion (IsWhole address) (closed_sequence rows end)
closed_whole address [] end rise may = tt
closed_whole address (row ∷ rows) end rise may = (
  record {
    has_row = omega arith;
    rises = record { rows_rise = rise; within_end = end_follows address (row ∷ rows) end rise may };
  },
  tt,
)

-- ---- what a program gathers

unfinished_whole : {R : Type 0} (address : R → ℕ) (rows : List R) (sequences : List (SequenceOf R))
    → sequences_at_end rows ≡ Some sequences → AllByRecursion (IsWhole address) sequences
unfinished_whole {R} address [] sequences e =
    let P : List (SequenceOf R) → Type 0 = AllByRecursion (IsWhole address) in
    let same : [] ≡ sequences = cc in
    subst P same tt
unfinished_whole address (row ∷ rows) sequences e = absurd cc

pub bound : {A B : Type 0} (o : Option A) (f : A → Option B) (y : B) → (o >>= f) ≡ Some y
    → (x : A) × (o ≡ Some x) × (f x ≡ Some y)
bound None f y e = absurd cc
bound (Some x) f y e = (x, refl, e)

passed : {A : Type 0} (b : Bool) (o : Option A) (y : A) → cond b o None ≡ Some y → (b ≡ true) × (o ≡ Some y)
passed true o y e = (refl, e)
passed false o y e = absurd cc

gathered_whole : {R : Type 0} (address : R → ℕ) (rows : List R) (events : List (Event R))
    (sequences : List (SequenceOf R)) → IsNonDecreasingBy address rows → gather_sequences address rows events ≡ Some sequences
    → AllByRecursion (IsWhole address) sequences
gathered_whole address rows [] sequences rise e = unfinished_whole address rows sequences e
gathered_whole address rows (emits row ∷ events) sequences rise e =
    let step = passed (allows address rows (address row)) (gather_sequences address (rows ++ row ∷ []) events) sequences e in
    gathered_whole address (rows ++ row ∷ []) events sequences (row_follows address rows row rise step.0) step.1
gathered_whole {R} address rows (ends end ∷ events) sequences rise e =
    let step = passed (allows address rows end)
    (gather_sequences address [] events >>= λ others. Some (closed_sequence rows end ++ others)) sequences e in
    let one = bound (gather_sequences address [] events) (λ others. Some (closed_sequence rows end ++ others)) sequences step.1 in
    let later = gathered_whole address [] events one.0 (IsNonDecreasingBy-short address [] (omega arith)) one.1 in
    let same : closed_sequence rows end ++ one.0 ≡ sequences = let e2 = one.2 in cc in
    let P : List (SequenceOf R) → Type 0 = AllByRecursion (IsWhole address) in
    subst P same (all_append (IsWhole address) (closed_sequence rows end) one.0
    (closed_whole address rows end rise step.0) later)

abbrev pub state_address : Registers → ℕ
state_address state = state.address

pub program_whole : (header : LineHeader) (program : List ℕ) (sequences : List (SequenceOf Registers))
    → program_sequences header program ≡ Some sequences → AllByRecursion (IsWhole state_address) sequences
unfolding program_sequences
program_whole header program sequences e =
    let a = bound (instructions_within header (length program) program)
    (λ instructions. events_of header start instructions >>= λ events. gather_sequences (λ state. state.address) [] events)
    sequences e in
    let b = bound (events_of header start a.0) (λ events. gather_sequences (λ state. state.address) [] events) sequences a.2 in
    gathered_whole state_address [] b.0 sequences (IsNonDecreasingBy-short state_address [] (omega arith)) b.2

-- ---- rows that are seen otherwise

pub rises_by : {R S : Type 0} (address : R → ℕ) (address' : S → ℕ) (see : R → S) → ((r : R) → address' (see r) ≡ address r)
    → (rows : List R) (end : ℕ) (first : R) → IsRising address (record { rows = rows; end = end })
    → IsRising address' (record { rows = map see rows; end = end })
rises_by {R} {S} address address' see same rows end first rises =
    let len : length (map see rows) ≡ length rows = length-map rows see in
    let at : (i : ℕ) (d : S) → i < length rows
    → address' (get_or (map see rows) i d) ≡ address (get_or rows i first) =
    λ i d lt. rw (get_or-map see rows i first d lt) (same (get_or rows i first)) in
    record {
      rows_rise = λ i j d le lt. rw (at i d (omega arith), at j d (omega arith))
          (rises.rows_rise i j first le (omega arith));
      within_end = λ k d lt. rw (at k d (omega arith)) (rises.within_end k first (omega arith));
    }

-- and back
pub rises_back : {R S : Type 0} (address : R → ℕ) (address' : S → ℕ) (see : R → S)
    → ((r : R) → address' (see r) ≡ address r) → (rows : List R) (end : ℕ) (first : R)
    → IsRising address' (record { rows = map see rows; end = end }) → IsRising address (record { rows = rows; end = end })
rises_back {R} {S} address address' see same rows end first rises =
    let len : length (map see rows) ≡ length rows = length-map rows see in
    let at : (i : ℕ) (d : R) → i < length rows
    → address (get_or rows i d) ≡ address' (get_or (map see rows) i (see first)) =
    λ i d lt. rw (get_or-map see rows i d (see first) lt) (sym (same (get_or rows i d))) in
    record {
      rows_rise = λ i j d le lt. rw (at i d (omega arith), at j d (omega arith))
          (rises.rows_rise i j (see first) le (omega arith));
      within_end = λ k d lt. rw (at k d (omega arith)) (rises.within_end k (see first) (omega arith));
    }

whole_by : {R S : Type 0} (address : R → ℕ) (address' : S → ℕ) (see : R → S) → ((r : R) → address' (see r) ≡ address r)
    → (rows : List R) (end : ℕ) → IsWhole address (record { rows = rows; end = end })
    → IsWhole address' (record { rows = map see rows; end = end })
whole_by address address' see same [] end whole = absurd (omega (arith, whole.has_row))
whole_by address address' see same (row ∷ rows) end whole =
    record { has_row = omega arith; rises = rises_by address address' see same (row ∷ rows) end row whole.rises }

pub all_whole_by : {R S : Type 0} (address : R → ℕ) (address' : S → ℕ) (see : R → S)
    → ((r : R) → address' (see r) ≡ address r) → (sequences : List (SequenceOf R))
    → AllByRecursion (IsWhole address) sequences → AllByRecursion (IsWhole address') (map (sequence_by see) sequences)
all_whole_by address address' see same [] all = tt
all_whole_by address address' see same (s ∷ sequences) all =
    (whole_by address address' see same s.rows s.end all.0, all_whole_by address address' see same sequences all.1)
