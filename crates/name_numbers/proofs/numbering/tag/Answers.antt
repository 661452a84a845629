use Rattle.std.proofs.Common.{sym, ◌∙◌}
use Rattle.std.proofs.lemmas.Iterator.Adapters.{YieldsList-from_vec}
use Rattle.std.proofs.lemmas.Iterator.Consumers.{YieldsList-end}
use Rattle.std.proofs.lemmas.List.{map-id}
use Rattle.name_numbers.proofs.Tags.{kept_in_order, all_in_order}
use Rattle.name_numbers.proofs.numbering.tag.Goals as goal

pub returns-clause-kept : goal.returns-clause-kept
returns-clause-kept g c =
    let end = YieldsList-end (YieldsList-from_vec {s = c.into_iter-key-iterator.result} c.args.keys.items
    c.into_iter-key-iterator.ensures.into_iter_gives.0
    (c.into_iter-key-iterator.ensures.into_iter_gives.1 ∙ c.args.keys.ok.0)) c.keys.yielded c.keys.key-iterator
    c.keys.yielded_by c.next.result c.next.new.self
    c.in-None.is c.next.ensures.steps in
    kept_in_order c.args.keys.items c.keys.tagged.items (c.keys.invariant.keys ∙ sym (map-id c.keys.yielded) ∙ end.0)
    c.keys.invariant.in_order

pub returns-clause-all : goal.returns-clause-all
returns-clause-all g c =
    let end = YieldsList-end (YieldsList-from_vec {s = c.into_iter-key-iterator.result} c.args.keys.items
    c.into_iter-key-iterator.ensures.into_iter_gives.0
    (c.into_iter-key-iterator.ensures.into_iter_gives.1 ∙ c.args.keys.ok.0)) c.keys.yielded c.keys.key-iterator
    c.keys.yielded_by c.next.result c.next.new.self
    c.in-None.is c.next.ensures.steps in
    all_in_order c.args.keys.items c.keys.tagged.items (c.keys.invariant.keys ∙ sym (map-id c.keys.yielded) ∙ end.0)
    c.keys.invariant.in_order
