use Rattle.std.proofs.Common.{◌≡◌, ◌∙◌, sym, length, None}
use Rattle.std.specs.BTreeMap.{get}
use Rattle.cycles.specs.inner.Pairs.{ends, ends_order}
use Rattle.cycles.proofs.PairLemmas.{found_more}
use Rattle.cycles.proofs.pairs.number_of.Goals as goal

pub returns-in-Some-clause-number : goal.returns-in-Some-clause-number
returns-in-Some-clause-number c =
    c.requires.there c.in-Some.number.now c.args.arc (sym c.in-Some.ensures.value)

pub returns-clause-found : goal.returns-clause-found
returns-clause-found c =
    let none : get ends_order c.args.places.now (ends c.args.arc) ≡ None = sym c.in_default.ensures.value in
    let count : c.len-number.result ≡ length c.args.arcs.now.items = c.len-number.ensures ∙ c.args.arcs.now.ok.0 in
    rw c.in_ok-push.ensures.items
    (found_more c.args.arcs.now.items c.args.arc c.args.places.now c.insert.new.self c.requires none
    (rw count at c.in_ok-insert.ensures.updates.0))
