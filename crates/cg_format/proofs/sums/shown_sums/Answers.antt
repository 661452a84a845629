use Rattle.std.proofs.Common.{ℕ, Bor, List, length, ap, sym, ◌∙◌, arith}
use Rattle.std.proofs.lemmas.List.{length-map, length-take}
use Rattle.cg_format.proofs.SumLemmas.{shown_by_names}
use Rattle.cg_format.proofs.sums.shown_sums.Goals as goal

abbrev text : Bor (List ℕ) → List ℕ
text name = name.now

pub slice_bounds-result-end : goal.slice_bounds-result-end
slice_bounds-result-end c =
    let names = c.event_names_shown.result.now in
    let counted = sym (length-map names text) ∙ ap length c.event_names_shown.ensures in
    let both = shown_by_names c.args.branches (length names) c.args.sums.now counted c.requires in
    omega (arith, both.0, length-take (length names) c.args.sums.now)

pub returns : goal.returns
returns c =
    let names = c.event_names_shown.result.now in
    let counted = sym (length-map names text) ∙ ap length c.event_names_shown.ensures in
    (shown_by_names c.args.branches (length names) c.args.sums.now counted c.requires).1
