use Rattle.std.proofs.Common.{List, ℕ}
use Rattle.std.proofs.lemmas.List.Elements.{All-map}
use Rattle.name_numbers.specs.inner.Places.{BeginsWith}
use Rattle.name_numbers.specs.Texts.{text_at, texts_at}
use Rattle.name_numbers.proofs.NameRanks.{picks}
use Rattle.name_numbers.proofs.names.rank_apart.Goals as goal

pub in_order-requires-clause-begin : goal.in_order-requires-clause-begin
in_order-requires-clause-begin c =
    rw c.deref-2.ensures.value
    (All-map (BeginsWith c.common_front-common.result.now) (text_at c.args.texts.now) c.args.apart.now.keys.items
    (rw c.deref.ensures.value at c.common_front-common.ensures))

pub returns-clause-each : goal.returns-clause-each
returns-clause-each c = λ all apart.
    let texts : List ℕ = c.args.texts.now in
    let keys = c.in_ok-keys.field-0.keys.items in
    let each = rw c.deref-3.ensures.value at c.in_ok-keys.ensures.each in
    let numbers = rw (c.deref-5.ensures.value, c.deref-6.ensures.value) at c.in_ok-numbers.ensures in
    rw numbers
    (picks (text_at texts) (texts_at texts keys) c.in_ok-keys.field-0.numbers.items c.args.apart.now.keys.items
    c.args.apart.now.numbers.items all each apart)
