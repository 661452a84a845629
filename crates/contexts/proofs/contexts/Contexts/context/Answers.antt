use Rattle.std.proofs.Common.{◌<◌, ◌∙◌, List, [], ap, arith, get_or, length, sym}
use Rattle.std.proofs.lemmas.List.{length-map}
use Rattle.event_costs.specs.declared.numbers.FuncId.{FuncId}
use Rattle.contexts.specs.Contexts.{Context, Held, context_at}
use Rattle.contexts.proofs.SearchLemmas.{context_of}
use Rattle.contexts.proofs.contexts.Contexts.context.Goals as goal

pub returns : goal.returns
returns c =
    let many = ap (λ (held : Held). length held.contexts) (sym c.self.view_is)
    ∙ length-map c.self.inside.known.entries (λ e. e.0) in
    let number = ap (λ (n : FuncId). n.0) c.number.view_is in
    let within : c.number.inside.0 < length c.self.inside.known.entries = omega (arith, many, c.requires, number) in
    ap (λ (rows : List (Context × Unit {0})). (get_or rows c.number.inside.0 c.index-rows-number.result).0) c.rows.ensures.rows
    ∙ context_of c.self.inside.known.entries c.number.inside.0 c.index-rows-number.result within
    ∙ ap (λ (held : Held). get_or held.contexts c.number.inside.0 []) c.self.view_is
    ∙ ap (context_at c.args.self.now.contexts) c.number.view_is
