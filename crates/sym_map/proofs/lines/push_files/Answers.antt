use Rattle.std.proofs.Common.{◌≡◌, ℕ, ◌+◌, ◌++◌, ◌∷◌, [], ◌∙◌, List, length, map, sym, ap, subst, append_assoc, arith}
use Rattle.std.specs.Prelude.{All, slice_range}
use Rattle.std.proofs.lemmas.List.{append-nil, map_push}
use Rattle.std.proofs.lemmas.List.Elements.{All-push}
use Rattle.dwarf_line.specs.declared.row.Row.{Row}
use Rattle.sym_map.specs.inner.Rows.{IsBounded}
use Rattle.sym_map.proofs.Members.{Alike, Alike-append, Alike-refl, Alike-trans}
use Rattle.sym_map.proofs.RowPiles.{range_none, range_up}
use Rattle.sym_map.proofs.lines.push_files.Goals as goal

abbrev file : Row → ℕ
file row = row.file

pub rows-preserved : goal.rows-preserved
rows-preserved c =
    let row = c.row.result in
    let old : List ℕ = c.args.numbers.now.items in
    let rows : List Row = slice_range c.args.rows.now.rows c.args.sequence.first c.rows.i in
    let more : slice_range c.args.rows.now.rows c.args.sequence.first (c.rows.i + 1) ≡ rows ++ row ∷ [] =
    range_up c.args.rows.now.rows c.args.sequence.first c.rows.i row (omega arith) c.row.ensures.value in
    let files : (old ++ map file rows) ++ file row ∷ [] ≡ old ++ map file (rows ++ row ∷ []) =
    append_assoc old (map file rows) (file row ∷ []) ∙ ap (λ (xs : List ℕ). old ++ xs) (sym (map_push file rows row)) in
    rw more (record {
      same = Alike-trans _ (c.rows.numbers.items ++ file row ∷ []) _ c.in_ok-push_unless_last.ensures
          (Alike-trans _ ((old ++ map file rows) ++ file row ∷ []) _
          (Alike-append c.rows.numbers.items (old ++ map file rows) (file row ∷ []) c.rows.invariant.same)
          (Alike-refl _ _ files));
      bounded = All-push (IsBounded (length c.args.rows.now.files)) rows row c.rows.invariant.bounded
          (c.row.ensures.file_known, omega arith);
    })

pub rows-init : goal.rows-init
rows-init c =
    let old : List ℕ = c.args.numbers.now.items in
    rw (range_none c.args.rows.now.rows c.args.sequence.first) (record {
      same = Alike-refl old (old ++ []) (sym (append-nil old));
      bounded = λ k d lt. absurd (omega arith);
    })

pub returns-clause-same : goal.returns-clause-same
returns-clause-same c =
    let end : c.rows.i ≡ c.args.sequence.last = omega (arith, c.requires.0) in
    subst (λ n. Alike c.rows.numbers.items (c.args.numbers.now.items
    ++ map file (slice_range c.args.rows.now.rows c.args.sequence.first n))) end c.rows.invariant.same

pub returns-clause-bounded : goal.returns-clause-bounded
returns-clause-bounded c =
    let end : c.rows.i ≡ c.args.sequence.last = omega (arith, c.requires.0) in
    subst (λ n. All (IsBounded (length c.args.rows.now.files))
    (slice_range c.args.rows.now.rows c.args.sequence.first n)) end c.rows.invariant.bounded
