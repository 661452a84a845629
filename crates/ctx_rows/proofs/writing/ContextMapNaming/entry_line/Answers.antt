use Rattle.std.proofs.Common.{ap, subst, sym, ◌∙◌}
use Rattle.event_costs.specs.declared.numbers.FuncId.{FuncId}
use Rattle.sym_map.specs.SymbolMap.{IsFunc, entry_line_of}
use Rattle.ctx_rows.proofs.MapLemmas.{first_there, entry_there}
use Rattle.ctx_rows.proofs.writing.ContextMapNaming.entry_line.Goals as goal

pub entry_line-requires : goal.entry_line-requires
entry_line-requires c =
    subst (λ (f : FuncId). IsFunc c.self.inside.syms.now f) (sym c.first.ensures)
    (first_there c.self.inside.syms.now c.self.inside.contexts.now c.args.self.now c.self.view_is
    (record { 0 = c.func.inside.0 }) _ c.func.view_is c.requires c.index-self-func.result c.self.inside.names.now
    c.self.invariant)

pub returns : goal.returns
returns c =
    c.entry_line.ensures ∙ ap (entry_line_of c.self.inside.syms.now) c.first.ensures
    ∙ entry_there c.self.inside.syms.now c.self.inside.contexts.now c.args.self.now c.self.view_is
    (record { 0 = c.func.inside.0 }) _ c.func.view_is c.requires c.index-self-func.result
