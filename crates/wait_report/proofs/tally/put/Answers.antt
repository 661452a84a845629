use Rattle.std.proofs.Common.{◌≡◌, [], ◌∷◌, ℕ, zero, suc, Bool, List, OnOk, if◌then◌else◌, sym, ap, ◌∙◌, subst}
use Rattle.indexmap.specs.IndexMap.{insert_entry, set_value_at}
use Rattle.wait_report.proofs.Others.{IsAt, at_position, insert_new, value_of_place}
use Rattle.arc_costs.proofs.TableLemmas.{unfound}
use Rattle.wait_report.proofs.tally.put.Goals as goal

-- to write a key's value is to insert it
written : {K V : Type 0} (same : K → K → Bool) (k : K) (es : List (K × V)) (i : ℕ) (held v : V) → IsAt same k es i held
    → set_value_at es i v ≡ insert_entry same es k v
written same k [] i held v at = absurd at
written same k (e ∷ es) zero held v at =
    sym (ap (λ b. if b then (e.0, v) ∷ es else e ∷ insert_entry same es k v) at.0)
written same k (e ∷ es) (suc i) held v at =
    ap (λ fs. e ∷ fs) (written same k es i held v at.1)
    ∙ sym (ap (λ b. if b then (e.0, v) ∷ es else e ∷ insert_entry same es k v) at.0)

pub returns-in-Some-clause-entries : goal.returns-in-Some-clause-entries
returns-in-Some-clause-entries g c =
    let same = g.K.PartialEq.eq in
    let es = c.args.tally.now.entries in
    let at = sym c.in-Some.ensures.index in
    let held = value_of_place same c.args.key es c.in-Some.index at in
    c.set.ensures.entries
    ∙ written same c.args.key es c.in-Some.index held.0 c.args.value
    (at_position same c.args.key es c.in-Some.index held.0 at held.1)

pub returns-in-None-clause-entries : goal.returns-in-None-clause-entries
returns-in-None-clause-entries g c =
    let same = g.K.PartialEq.eq in
    let es = c.args.tally.now.entries in
    subst (λ (fs : List (g.row.K.Denot × g.row.V.Denot)). OnOk c.push.result (c.push.new.self.entries ≡ fs))
    (sym (insert_new same c.args.key es c.args.value
    (unfound same c.args.key es c.index_of.result c.in-None.is c.index_of.ensures.found)))
    c.push.ensures.entries
