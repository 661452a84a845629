use Rattle.std.proofs.Common.{◌≡◌, length, map, sym, rules}
use Rattle.std.specs.Ordering.{is_lt}
use Rattle.std.proofs.lemmas.Fn.{always_returns_same}
use Rattle.std.proofs.lemmas.List.Sorted.{ranks_by}
use Rattle.std.proofs.lemmas.Result.{IfOk-weaker}
use Rattle.name_numbers.specs.declared.numbering.Tagged.{Tagged}
use Rattle.name_numbers.specs.Keys.{NumberEach}
use Rattle.name_numbers.specs.inner.Tagging.{NumberTagged}
use Rattle.name_numbers.proofs.Members.{Alike}
use Rattle.name_numbers.proofs.Tags.{key_of, all_within, as_many_moved, kept_moved, one_key_each, keys_moved}
use Rattle.name_numbers.proofs.Tags.{numbers_moved, places_moved}
use Rattle.name_numbers.proofs.numbering.number_keys.Goals as goal

pub gather-requires-clause-sorted : goal.gather-requires-clause-sorted
gather-requires-clause-sorted g c =
    c.sort_unstable_by.ensures.sorted
    (λ (x y : Tagged _). is_lt (g.K.Ord.cmp x.key y.key)) (ranks_by g.met.K.Ord.total key_of)
    (always_returns_same _ (λ a r. is_lt r ≡ is_lt (g.K.Ord.cmp a.0.now.key a.1.0.now.key)) _
    (λ a r f' k. (search rules, search rules)))

pub gather-requires-clause-within : goal.gather-requires-clause-within
gather-requires-clause-within g c =
    let all = c.args.all.items in
    let ts = c.in_ok-tagged.tagged.items in
    let us = c.sort_unstable_by.new.self.items in
    let moved = c.sort_unstable_by.ensures.permutation in
    all_within all us (length us) (sym (as_many_moved all ts us moved c.in_ok-tagged.ensures.keys))
    (kept_moved all ts us moved c.in_ok-tagged.ensures.kept)

pub gather-requires-clause-alike : goal.gather-requires-clause-alike
gather-requires-clause-alike g c =
    one_key_each c.args.all.items c.sort_unstable_by.new.self.items
    (kept_moved c.args.all.items c.in_ok-tagged.tagged.items c.sort_unstable_by.new.self.items
    c.sort_unstable_by.ensures.permutation c.in_ok-tagged.ensures.kept)

pub returns-clause-same : goal.returns-clause-same
returns-clause-same g c =
    IfOk-weaker c.gather.result (λ n. Alike n.keys.items (map key_of c.sort_unstable_by.new.self.items))
    (λ n. Alike n.keys.items c.args.all.items)
    (λ n same. keys_moved n.keys.items c.args.all.items c.in_ok-tagged.tagged.items c.sort_unstable_by.new.self.items
    c.sort_unstable_by.ensures.permutation c.in_ok-tagged.ensures.keys same) c.gather.ensures.same

pub returns-clause-each : goal.returns-clause-each
returns-clause-each g c =
    let all = c.args.all.items in
    let ts = c.in_ok-tagged.tagged.items in
    let us = c.sort_unstable_by.new.self.items in
    let moved = c.sort_unstable_by.ensures.permutation in
    IfOk-weaker c.gather.result (λ n. NumberTagged n.keys.items n.numbers.items us)
    (λ n. NumberEach n.keys.items n.numbers.items all)
    (λ n so. numbers_moved n.keys.items all n.numbers.items us
    (as_many_moved all ts us moved c.in_ok-tagged.ensures.keys)
    (kept_moved all ts us moved c.in_ok-tagged.ensures.kept)
    (places_moved ts us moved (length all) c.in_ok-tagged.ensures.all) so)
    c.gather.ensures.each
