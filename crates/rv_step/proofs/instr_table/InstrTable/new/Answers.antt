use Rattle.std.proofs.Common.{List, ℕ, ◌++◌, ◌∷◌, [], ap, arith, ◌∙◌}
use Rattle.std.proofs.lemmas.Bool.{cond-true}
use Rattle.rv_step.proofs.TableLemmas.{none-kept, noted-first}
use Rattle.rv_step.proofs.instr_table.InstrTable.new.Goals as goal

pub invariant_of-table : goal.invariant_of-table
invariant_of-table c =
    let found = c.vacant-found.result in
    let pushed = c.push.ensures.succeeds
    (omega (arith, c.in_ok-filled.ensures.len, c.in_ok-filled.ensures.exact)) in
    record {
      whole = omega (arith, c.in_ok-vec.field-0.ok, c.in_ok-vec.ensures.len);
      room = omega (arith, c.push.ensures.capacity, c.in_ok-filled.ensures.exact);
      noted = noted-first c.push.new.self.items 65536 c.in_ok-vec.field-0.items found
          (c.push.ensures.items ∙ cond-true _ _ _ pushed
          ∙ ap (λ (ps : List ℕ). ps ++ found.pc ∷ []) c.in_ok-filled.ensures.items)
          (c.in_ok-vec.ensures.items_if_clones_equal (λ y same. same));
    }

pub returns : goal.returns
returns c = λ pc. none-kept c.empty.new.self pc c.empty.ensures
