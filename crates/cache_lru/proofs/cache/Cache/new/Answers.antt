use Rattle.std.proofs.Common.{◌≡◌, ◌*◌, length, replicate, ap, ap₂, refl, ◌∙◌, arith, rules}
use Rattle.std.proofs.lemmas.List.{length-replicate}
use Rattle.cache_lru.specs.Lines.{empty_line}
use Rattle.cache_lru.proofs.ShapeLemmas.{mask_of_sets}
use Rattle.cache_lru.proofs.RecencyLemmas.{StandsFor-empty}
use Rattle.cache_lru.proofs.cache.Cache.new.Goals as goal

pub invariant_of-result : goal.invariant_of-result
invariant_of-result c =
    let empty : c.in_ok-vec.field-0.items ≡ replicate (c.sets-sets.result * c.assoc.result) empty_line = search rules in
    record {
      geometry = c.sets-sets.ensures.geometry;
      shift = c.line_bits.ensures.power;
      mask = λ n. rw c.sets-sets.ensures.sets (mask_of_sets _ c.sets-sets.ensures.geometry n);
      count = ap length empty ∙ length-replicate _ _ ∙ ap₂ ◌*◌ c.sets-sets.ensures.sets c.assoc.ensures;
      first = λ some. absurd (some refl);
      span = λ addr low high. absurd (omega arith);
    }

pub returns : goal.returns
returns c = StandsFor-empty c.args.shape c.in_ok-vec.field-0.items (search rules)
