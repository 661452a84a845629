use Rattle.std.proofs.Common.{ap, sym, ◌∙◌, is_some, List, position, refl}
use Rattle.std.specs.Map.{keys_of, lookup}
use Rattle.indexmap.proofs.MapLemmas.{some_index}
use Rattle.arc_costs.proofs.TreeLemmas.{none_at}
use Rattle.arc_costs.proofs.key_tree.KeyTree.index_of.Goals as goal

pub returns-in-Ok-clause-found : goal.returns-in-Ok-clause-found
returns-in-Ok-clause-found g c =
    let test = g.K.PartialEq.eq c.args.key.now in
    sym (ap is_some c.in-Ok.ensures.found)
    ∙ some_index test c.deref.result.now
    ∙ ap (λ es. is_some (lookup test es)) (c.deref.ensures.value ∙ ap (λ v. v.entries) c.self.view_is)

pub returns-in-Err-clause-index : goal.returns-in-Err-clause-index
returns-in-Err-clause-index g c =
    let test = g.K.PartialEq.eq c.args.key.now in
    let same = ap (λ (es : List (g.row.K.Denot × g.row.A.Denot)). position test (keys_of es))
    (c.deref.ensures.value ∙ ap (λ v. v.entries) c.self.view_is) in
    none_at _ _ (refl) (sym (ap is_some same) ∙ some_index test c.deref.result.now ∙ ap is_some c.in-Err.ensures.none)
