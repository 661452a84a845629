use Rattle.std.proofs.Common.{◌≡◌, ◌++◌, ◌∷◌, [], ◌+◌, ◌∙◌, length, ap, rules, sym, take}
use Rattle.std.proofs.lemmas.List.{take_more}
use Rattle.key_tables.proofs.RankLemmas.{one_more}
use Rattle.key_tables.proofs.ranks.side_by_side.Goals as goal

pub texts-preserved : goal.texts-preserved
texts-preserved c =
    let texts = c.args.texts.now in
    let i = c.texts.text-index in
    let text = c.text-item.result in
    let bytes = c.texts.bytes.items in
    let longer : c.extend_from_slice.new.self.items ≡ bytes ++ text =
    c.in_ok-extend_from_slice.ensures.items ∙ ap (λ t. bytes ++ t) c.as_bytes.ensures in
    let more : take (i + 1) texts ≡ take i texts ++ text ∷ [] =
    take_more texts i text c.texts-test.true ∙ ap (λ t. take i texts ++ t ∷ []) (sym c.text-item.is) in
    let start : c.len-start.result ≡ length bytes = search rules in
    let end : c.len-end.result ≡ length (bytes ++ text) = search (rules, ap length longer) in
    rw (more, c.in_ok-push.ensures.items, longer)
    (one_more bytes text c.texts.places.items (take i texts) c.len-start.result c.len-end.result start end
    c.texts.invariant)
