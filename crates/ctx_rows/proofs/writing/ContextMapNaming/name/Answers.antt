use Rattle.std.proofs.Common.{◌∙◌, [], ap, arith, length}
use Rattle.std.proofs.lemmas.List.{length-map}
use Rattle.ctx_rows.specs.Texts.{context_name}
use Rattle.ctx_rows.proofs.MapLemmas.{name_is, within_contexts}
use Rattle.ctx_rows.proofs.writing.ContextMapNaming.name.Goals as goal

pub offset_bounds-names-func-inside : goal.offset_bounds-names-func-inside
offset_bounds-names-func-inside c =
    let less = within_contexts c.self.inside.syms.now c.self.inside.contexts.now c.args.self.now c.self.view_is
    (record { 0 = c.func.inside.0 }) _ c.func.view_is c.requires in
    let named = ap length c.self.invariant.names_are in
    let all = length-map c.self.inside.contexts.now (context_name c.self.inside.syms.now) in
    omega (arith, less, named, all)

pub returns : goal.returns
returns c =
    c.as_bytes.ensures
    ∙ name_is c.self.inside.syms.now c.self.inside.contexts.now c.args.self.now c.self.view_is
    (record { 0 = c.func.inside.0 }) _ c.func.view_is c.requires [] c.self.inside.names.now c.self.invariant
    c.index-names-func.result c.index-names-func.is
