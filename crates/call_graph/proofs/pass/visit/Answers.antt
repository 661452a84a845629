use Rattle.std.proofs.Common.{◌<◌, ℕ, List, get_or, length, sym, subst, ◌∙◌, arith}
use Rattle.call_graph.specs.inner.Rows.{lists}
use Rattle.call_graph.specs.inner.Pass.{IsEntered, IsLater, ranks}
use Rattle.call_graph.specs.declared.visit_state.VisitState.TheVariants.{New}
use Rattle.call_graph.specs.declared.pass.Pass.{Pass}
use Rattle.call_graph.proofs.RowLemmas.{length-lists, row_at}
use Rattle.call_graph.proofs.StandLemmas.{rank_by, empty_path, entered_later, entered_met, met_by, later_itself}
use Rattle.call_graph.proofs.pass.visit.Goals as goal
use Rattle.call_graph.proofs.pass.visit.Goals.{in-New+in_ok-enter, in_default}

IsMetAt : List (List ℕ) → ℕ → Pass → Pass → Type 0
IsMetAt rows root old new = IsLater rows old new × (0 < get_or (ranks new.states.items) root 0)

pub steps-init : goal.steps-init
unfolding IsMetAt
steps-init c =
    let rows = lists c.args.rows.now in
    let old = c.args.pass.now in
    let root = c.args.root in
    elim c.match-index.branch [
      | in-New+in_ok-enter w ↦
          let callees = w.deref.ensures.value
          ∙ row_at c.args.rows.now root w.index-rows-root.result
          (omega (arith, c.requires.root, length-lists c.args.rows.now)) w.index-rows-root.is in
          let within : root < length rows = omega (arith, c.requires.root, length-lists c.args.rows.now) in
          let fresh = rank_by root c.index.result.now New c.requires.stands within c.index.ensures w.in-New.is in
          let entered = subst (λ row. IsEntered old row root w.enter.new.pass) callees w.in_ok-enter.ensures in
          let none = empty_path c.requires.stands.holds c.requires.finished in
          subst (IsMetAt rows root old) (sym w.pass-is) (
            entered_later rows old root w.enter.new.pass c.requires.stands entered (λ g is. absurd is) within fresh
                (λ q lt. absurd (omega arith)),
            entered_met rows old root w.enter.new.pass c.requires.stands entered within,
          )
      | in_default w ↦
          let within : root < length rows = omega (arith, c.requires.root, length-lists c.args.rows.now) in
          subst (IsMetAt rows root old) (sym w.pass-is) (
            later_itself c.requires.stands,
            met_by root c.index.result.now c.requires.stands within c.index.ensures w.in_default.not-New,
          )
    ]
