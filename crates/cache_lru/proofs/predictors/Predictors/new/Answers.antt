use Rattle.std.proofs.Common.{List, ℕ, ap, ◌∙◌}
use Rattle.std.specs.Prelude.{slice_index}
use Rattle.std.proofs.lemmas.List.{get_or-replicate}
use Rattle.cache_lru.proofs.predictors.Predictors.new.Goals as goal

pub returns : goal.returns
returns c = record {
  counts =
      λ counter lt. ap (λ (xs : List ℕ). slice_index xs counter)
      (c.in_ok-vec.ensures.items_if_clones_equal (λ y same. same))
      ∙ get_or-replicate 16384 counter 0 0 lt;
  addresses =
      λ target lt. ap (λ (xs : List ℕ). slice_index xs target)
      (c.in_ok-vec-2.ensures.items_if_clones_equal (λ y same. same))
      ∙ get_or-replicate 512 target 0 0 lt;
}
