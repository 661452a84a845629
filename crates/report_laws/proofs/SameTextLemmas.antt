-- The text of a part is the same by two maps that tell the same.
use Rattle.std.proofs.Common.{◌≡◌, ◌==◌, ◌∙◌, List, [], ◌∷◌, ◌++◌, ap, codes, fold, if◌then◌else◌}
use Rattle.std.proofs.Common.{length, map, refl, reverse, sym}
use Rattle.std.specs.List.{AllByRecursion, slice_get}
use Rattle.std.specs.Option.{option_map_or}
use Rattle.std.specs.Prelude.{slice_index_or}
use Rattle.std.proofs.lemmas.List.Elements.{recursion_from_All}
use Rattle.std.proofs.lemmas.Option.{slice_get-get_or}
use Rattle.event_costs.specs.declared.numbers.FuncId.{FuncId}
use Rattle.arc_costs.specs.Contents.{Listed}
use Rattle.byte_text.specs.Names.{unknown as unknown_name}
use Rattle.sym_map.specs.Places.{unknown_function}
use Rattle.sym_map.specs.SymbolMap.{IsFunc, SymbolMap, home_of, identity_in}
use Rattle.cg_format.specs.Heading.{heading, totals}
use Rattle.cg_format.specs.Marks.{Callee, Calls, Costs, File, Function as Fn, Mark, Plain, files, functions, id_text, key_text}
use Rattle.cg_format.specs.Marks.{mark_text, text_of}
use Rattle.cg_format.specs.Part.{AreKnown, IsKnownArc, IsKnownLine, after_row, at_row, cost_line, current_function, in_file}
use Rattle.cg_format.specs.Part.{in_object, is_function, part_lines, part_text}
use Rattle.cg_format.specs.Rows.{all_rows, below, by_function, file_of, function_of, is_row_of}
use Rattle.cg_format.specs.Standing.{IsKnown}
use Rattle.cg_format.specs.Sums.{sum_of_lines}
use Rattle.cg_format.specs.declared.file_key.FileKey.TheVariants.{Back, Home, OfCallee, Other}
use Rattle.cg_format.specs.declared.head.PartHead.{PartHead}
use Rattle.cg_format.specs.declared.row.Row.{Row}
use Rattle.cg_format.specs.declared.row.Row.TheVariants.{Arc, Line}
use Rattle.run_laws.specs.Maps.{TellTheSame}
use Rattle.report_laws.proofs.Others.{all_append, each_weaker}
use Rattle.report_laws.proofs.AddrPartLemmas.{each_group, each_mapped}

-- two folds by steps that are the same for each of these
pub fold_same : {X S : Type 0} (f g : S → X → S) (xs : List X) → AllByRecursion (λ x. (s : S) → f s x ≡ g s x) xs
    → (s : S) → fold f s xs ≡ fold g s xs
fold_same f g [] all s = refl
fold_same f g (x ∷ xs) all s = ap (λ t. fold f t xs) (all.0 s) ∙ fold_same f g xs all.1 (g s x)

module _ (m n : SymbolMap) (same : TellTheSame m n) where
  pub text_same : (marks : List Mark) → text_of m marks ≡ text_of n marks
  text_same [] = refl
  text_same (Plain text ∷ before) = λ i. text_same before i ++ text ++ codes "\n"
  text_same (File key file ∷ before) = λ i.
      text_same before i
      ++ (key_text key ++ id_text (files before) file.0 (slice_index_or (same.files i) file.0 unknown_name)) ++ codes "\n"
  text_same (Fn f ∷ before) = λ i.
      text_same before i
      ++ (codes "fn=" ++ id_text (functions before) f.0
      (slice_index_or (map (identity_in (same.files i)) (same.functions i)) f.0 unknown_function).name) ++ codes "\n"
  text_same (Callee f ∷ before) = λ i.
      text_same before i
      ++ (codes "cfn=" ++ id_text (functions before) f.0
      (slice_index_or (map (identity_in (same.files i)) (same.functions i)) f.0 unknown_function).name) ++ codes "\n"
  text_same (Calls calls line ∷ before) = λ i. text_same before i ++ mark_text m before (Calls calls line) ++ codes "\n"
  text_same (Costs line costs ∷ before) = λ i. text_same before i ++ mark_text m before (Costs line costs) ++ codes "\n"

  pub home_same : (func : FuncId) → IsFunc m func → home_of m func ≡ home_of n func
  home_same func known =
      let there = slice_get-get_or m.functions func.0 (record { home = m.unknown.file; name = [] }) known in
      let also = ap (λ fs. slice_get fs func.0) (sym same.functions) ∙ there in
      (λ i. option_map_or (λ f. f.home) (there i) m.unknown.file)
      ∙ (λ i. option_map_or (λ f. f.home) (sym also i) n.unknown.file)

  module _ (head : PartHead) where
    pub at_same : (row : Row) → IsFunc m (function_of row) → (before : List Mark)
        → at_row head m before row ≡ at_row head n before row
    at_same row known before =
        let function = function_of row in
        let home = home_same function known in λ i.
        in_file (if (home i).0 == (file_of row).0 then Back else Other) (file_of row)
        (if is_function (current_function before) function then before
        else Fn function ∷ in_file Home (home i) (in_object head (Plain [] ∷ before)))

    row_same : (row : Row) → IsKnown m row → (before : List Mark) → after_row head m before row ≡ after_row head n before row
    row_same (Line row) known before = λ i.
        cost_line head row.place.line row.cost ∷ at_same (Line row) known.function before i
    row_same (Arc row) known before = λ i.
        cost_line head row.arc.line row.cost
        ∷ Calls row.calls (same.entry_lines row.arc.callee known.callee i)
        ∷ Callee row.arc.callee
        ∷ in_file OfCallee (home_same row.arc.callee known.callee i) (at_same (Arc row) known.caller before i)

    pub part_same : (rows : Listed) → AreKnown m rows → part_text head rows m ≡ part_text head rows n
    unfolding part_text
    part_same rows known =
        let sum = sum_of_lines rows.lines in
        let all = each_group (IsKnown m) is_row_of (all_rows rows) (below (length m.functions))
        (all_append (IsKnown m) (map Line rows.lines) (map Arc rows.arcs)
        (each_mapped (IsKnownLine m) (IsKnown m) Line (λ row is. is) rows.lines
        (recursion_from_All (IsKnownLine m) rows.lines known.lines))
        (each_mapped (IsKnownArc m) (IsKnown m) Arc (λ row is. is) rows.arcs
        (recursion_from_All (IsKnownArc m) rows.arcs known.arcs))) in
        let before = reverse (map Plain (heading head sum)) in
        let ending = λ (marks : List Mark). Plain (totals head sum) ∷ Plain [] ∷ marks in
        ap (λ marks. text_of m (ending marks))
        (fold_same (after_row head m) (after_row head n) (by_function (length m.functions) (all_rows rows))
        (each_weaker (IsKnown m) (λ row. (marks : List Mark) → after_row head m marks row ≡ after_row head n marks row)
        row_same (by_function (length m.functions) (all_rows rows)) all) before
        ∙ (λ i. fold (after_row head n) before (by_function (length (same.functions i)) (all_rows rows))))
        ∙ text_same (part_lines head rows n)
