use Rattle.std.proofs.Common.{rules, subst}
use Rattle.std.proofs.lemmas.List.Sorted.{answers_always}
use Rattle.guest_load.specs.declared.thread.Thread.{Thread}
use Rattle.guest_sched.proofs.PlaceLemmas.{IsFoundBy, searched}
use Rattle.guest_sched.proofs.places.place_of_cold.Goals as goal

pub unreachable-requires : goal.unreachable-requires
unreachable-requires c =
    let facts = c.binary_search_by_key.ensures in
    let by_key = facts.position (λ (t : Thread). t.no.0) (answers_always _ _ _ (λ f a r g called. search rules)) in
    subst (IsFoundBy c.args.threads.now c.args.thread) c.in-Err.is
    (searched c.args.threads.now c.args.thread _ c.requires.rising c.requires.live facts.bound by_key)

pub returns : goal.returns
returns c =
    let facts = c.binary_search_by_key.ensures in
    let by_key = facts.position (λ (t : Thread). t.no.0) (answers_always _ _ _ (λ f a r g called. search rules)) in
    subst (IsFoundBy c.args.threads.now c.args.thread) c.in-Ok.is
    (searched c.args.threads.now c.args.thread _ c.requires.rising c.requires.live facts.bound by_key)
