use Rattle.std.proofs.Common.{refl, sym, ◌∙◌, inl, inr}
use Rattle.rv_step.proofs.CodeLemmas.{get-code}
use Rattle.rv_step.proofs.code.Code.find.Goals as goal

pub find-requires : goal.find-requires
find-requires c = sym (get-code c.self.inside.table c.args.self.now c.self.view_is c.args.pc) ∙ c.requires

pub returns-clause-found : goal.returns-clause-found
returns-clause-found c = get-code c.find.new.self _ refl c.args.pc ∙ c.find.ensures.found

pub returns-clause-others : goal.returns-clause-others
returns-clause-others c = λ q i given.
    elim (c.find.ensures.others q i (sym (get-code c.find.new.self _ refl q) ∙ given)) [
      | inl same ↦ inl same
      | inr before ↦ inr (get-code c.self.inside.table c.args.self.now c.self.view_is q ∙ before)
    ]
