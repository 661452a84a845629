use Rattle.std.proofs.Common.{ap, subst, sym, ◌∙◌}
use Rattle.event_costs.specs.declared.numbers.FuncId.{FuncId}
use Rattle.sym_map.specs.SymbolMap.{IsFunc, home_of}
use Rattle.ctx_rows.proofs.MapLemmas.{first_there, home_there}
use Rattle.ctx_rows.proofs.writing.ContextMapNaming.home.Goals as goal

pub home-requires : goal.home-requires
home-requires c =
    subst (λ (f : FuncId). IsFunc c.self.inside.syms.now f) (sym c.first.ensures)
    (first_there c.self.inside.syms.now c.self.inside.contexts.now c.args.self.now c.self.view_is
    (record { 0 = c.func.inside.0 }) _ c.func.view_is c.requires c.index-self-func.result c.self.inside.names.now
    c.self.invariant)

pub returns-clause-number : goal.returns-clause-number
returns-clause-number c =
    c.home.ensures.number ∙ ap (home_of c.self.inside.syms.now) c.first.ensures
    ∙ home_there c.self.inside.syms.now c.self.inside.contexts.now c.args.self.now c.self.view_is
    (record { 0 = c.func.inside.0 }) _ c.func.view_is c.requires c.index-self-func.result
