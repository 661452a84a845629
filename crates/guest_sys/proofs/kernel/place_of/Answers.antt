use Rattle.std.proofs.Common.{◌∙◌, rules}
use Rattle.std.proofs.lemmas.List.Sorted.{answers_always}
use Rattle.guest_load.specs.declared.thread.Thread.{Thread}
use Rattle.guest_sys.proofs.SearchedLemmas.{searched_place}
use Rattle.guest_sys.proofs.kernel.place_of.Goals as goal

pub returns : goal.returns
returns c =
    c.ok.ensures.value
    ∙ searched_place c.args.threads.now c.args.thread.0 c.binary_search_by_key.result c.requires
    c.binary_search_by_key.ensures.bound
    (c.binary_search_by_key.ensures.position (λ (t : Thread). t.no.0)
    (answers_always _ _ _ (λ f a r g called. search rules)))
