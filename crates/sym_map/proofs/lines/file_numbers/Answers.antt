use Rattle.std.proofs.Common.{◌≡◌, ℕ, ◌++◌, ◌∙◌, List, length, get_or, map, take, sym, ap, subst}
use Rattle.std.proofs.Common.{◌<◌, ◌≤◌, ◌+◌, arith}
use Rattle.std.specs.Prelude.{All, flat_map}
use Rattle.std.proofs.lemmas.Result.{IfOk-weaker}
use Rattle.std.proofs.lemmas.List.{map-append, take_all}
use Rattle.std.proofs.lemmas.List.Elements.{All-append, All-more}
use Rattle.std.proofs.lemmas.Option.{get_or_from_slice_get}
use Rattle.dwarf_line.specs.declared.row.Row.{Row}
use Rattle.dwarf_line.specs.declared.row.Sequence.{Sequence}
use Rattle.dwarf_line.specs.Rows.{IsPlaced, IsRising, row_address, sequence_in}
use Rattle.sym_map.specs.inner.Rows.{IsBounded, all_rows, rows_in}
use Rattle.sym_map.proofs.Members.{Alike, Alike-append, Alike-refl, Alike-trans}
use Rattle.sym_map.proofs.RowPiles.{rows_more}
use Rattle.sym_map.proofs.LineTables.{numbers_known}
use Rattle.sym_map.proofs.lines.file_numbers.Goals as goal

abbrev file : Row → ℕ
file row = row.file

pub sequences-preserved : goal.sequences-preserved
sequences-preserved c =
    let rows : List Row = c.args.rows.now.rows in
    let all : List Sequence = c.args.rows.now.sequences in
    let i : ℕ = c.sequences.i in
    let sequence : Sequence = c.sequence.result in
    let so = c.sequences.invariant in
    let before : List Row = flat_map (rows_in rows) (take i all) in
    let own : List Row = rows_in rows sequence in
    let more : flat_map (rows_in rows) (take (i + 1) all) ≡ before ++ own =
    rows_more rows all i sequence c.sequence.ensures.value in
    let there : get_or all i sequence ≡ sequence =
    get_or_from_slice_get all i sequence sequence c.sequence.ensures.value in
    let IsUp : Sequence → Type 0 = λ sequence. IsRising row_address (sequence_in rows sequence) in
    record {
      same = Alike-trans _ (c.sequences.numbers.items ++ map file own) _ c.in_ok-push_files.ensures.same
          (Alike-trans _ (map file before ++ map file own) _
          (Alike-append c.sequences.numbers.items (map file before) (map file own) so.same)
          (Alike-refl _ _ (sym (ap (map file) more ∙ map-append file before own))));
      bounded = subst (All (IsBounded (length c.args.rows.now.files))) (sym more)
          (All-append (IsBounded (length c.args.rows.now.files)) before own so.bounded
          c.in_ok-push_files.ensures.bounded);
      placed =
          All-more (IsPlaced (length rows)) all i sequence (omega arith) so.placed
          (subst (IsPlaced (length rows)) (sym there) (c.sequence.ensures.has_row, c.sequence.ensures.in_range));
      rise = All-more IsUp all i sequence (omega arith) so.rise (subst IsUp (sym there) c.sequence.ensures.rises);
    }

-- all sequences were read
all_read : (P : List Sequence → Type 0) (all : List Sequence) (i : ℕ) → length all ≤ i → P (take i all) → P all
all_read P all i le so = subst P (take_all i all le) so

pub returns-clause-same : goal.returns-clause-same
returns-clause-same c =
    let table = c.args.rows.now in
    let so = all_read (λ all. Alike c.sequences.numbers.items (map file (flat_map (rows_in table.rows) all)))
    table.sequences c.sequences.i (omega arith) c.sequences.invariant.same in
    IfOk-weaker c.distinct.result (λ numbers. Alike numbers.items c.sequences.numbers.items)
    (λ numbers. Alike numbers.items (map file (all_rows table)))
    (λ numbers same. Alike-trans numbers.items c.sequences.numbers.items (map file (all_rows table)) same so)
    c.distinct.ensures.same

pub returns-clause-known : goal.returns-clause-known
returns-clause-known c =
    let table = c.args.rows.now in
    let alike = all_read (λ all. Alike c.sequences.numbers.items (map file (flat_map (rows_in table.rows) all)))
    table.sequences c.sequences.i (omega arith) c.sequences.invariant.same in
    let bounded = all_read (λ all. All (IsBounded (length table.files)) (flat_map (rows_in table.rows) all))
    table.sequences c.sequences.i (omega arith) c.sequences.invariant.bounded in
    IfOk-weaker c.distinct.result (λ numbers. Alike numbers.items c.sequences.numbers.items)
    (λ numbers. All (λ number. number < length table.files) numbers.items)
    (λ numbers same. numbers_known table numbers.items
    (Alike-trans numbers.items c.sequences.numbers.items (map file (all_rows table)) same alike) bounded)
    c.distinct.ensures.same

pub returns-clause-bounded : goal.returns-clause-bounded
returns-clause-bounded c =
    let table = c.args.rows.now in
    let so =
    all_read (λ all. All (IsBounded (length table.files)) (flat_map (rows_in table.rows) all))
    table.sequences c.sequences.i (omega arith) c.sequences.invariant.bounded in
    IfOk-weaker c.distinct.result (λ numbers. Alike numbers.items c.sequences.numbers.items) (λ numbers. _)
    (λ numbers same. so) c.distinct.ensures.same

pub returns-clause-placed : goal.returns-clause-placed
returns-clause-placed c =
    let table = c.args.rows.now in
    let so =
    all_read (All (IsPlaced (length table.rows))) table.sequences c.sequences.i (omega arith)
    c.sequences.invariant.placed in
    IfOk-weaker c.distinct.result (λ numbers. Alike numbers.items c.sequences.numbers.items) (λ numbers. _)
    (λ numbers same. so) c.distinct.ensures.same

pub returns-clause-rows_rise : goal.returns-clause-rows_rise
returns-clause-rows_rise c =
    let table = c.args.rows.now in
    let so =
    all_read (All (λ sequence. IsRising row_address (sequence_in table.rows sequence))) table.sequences c.sequences.i
    (omega arith) c.sequences.invariant.rise in
    IfOk-weaker c.distinct.result (λ numbers. Alike numbers.items c.sequences.numbers.items) (λ numbers. _)
    (λ numbers same. so) c.distinct.ensures.same
