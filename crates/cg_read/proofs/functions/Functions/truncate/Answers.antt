use Rattle.std.proofs.Common.{length, sym}
use Rattle.std.proofs.lemmas.List.{take-map}
use Rattle.std.proofs.lemmas.List.Elements.{All-take}
use Rattle.cg_read.specs.inner.Texts.{IsOfTexts, function_in}
use Rattle.cg_read.proofs.functions.Functions.truncate.Goals as goal

pub invariant_of-self : goal.invariant_of-self
invariant_of-self c =
    let texts = c.self.inside.texts.items in (
      record {
        differ = c.self.invariant.0.differ;
        of_texts = rw c.truncate.ensures.items
            (All-take (IsOfTexts (length texts)) c.args.count c.self.inside.numbered.items c.self.invariant.0.of_texts);
      },
      c.self.invariant.1,
      c.new.ensures c.truncate.new.self.items,
    )

pub returns : goal.returns
returns c =
    rw (← c.self.view_is, c.truncate.ensures.items)
    (sym (take-map (function_in c.self.inside.texts.items) c.args.count c.self.inside.numbered.items))
