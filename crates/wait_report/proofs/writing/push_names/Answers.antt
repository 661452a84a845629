use Rattle.std.proofs.Common.{Bor, List, ℕ, ◌++◌, codes, flat_map, sym, ap, ◌∙◌, arith}
use Rattle.std.proofs.lemmas.List.{take_all}
use Rattle.std.proofs.lemmas.List.Folds.{flat_map-map}
use Rattle.wait_report.proofs.writing.push_names.Goals as goal

pub returns : goal.returns
returns c =
    let text : Bor (List ℕ) → List ℕ = λ name. name.now in
    let spaced : List ℕ → List ℕ = λ t. codes " " ++ t in
    c.names.invariant
    ∙ ap (λ t. c.args.text.now ++ t)
    (ap (flat_map (λ name. spaced (text name))) (take_all c.names.name-index c.args.names.now (omega arith))
    ∙ sym (flat_map-map spaced text c.args.names.now))
