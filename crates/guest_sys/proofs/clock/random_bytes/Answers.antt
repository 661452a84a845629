use Rattle.std.proofs.Common.{◌≡◌, ◌≢◌, ◌<◌, length, arith, get_or-set_other, get_or-set_same, below_more, ◌∙◌}
use Rattle.std.proofs.lemmas.List.{length-set}
use Rattle.guest_sys.proofs.RowLemmas.{counting_by_index}
use Rattle.guest_sys.proofs.clock.random_bytes.Goals as goal

pub bytes-preserved : goal.bytes-preserved
bytes-preserved c =
    let len : length c.bytes.bytes ≡ 256 = c.bytes.invariant.0 in (
      length-set c.bytes.bytes c.bytes.place c.bytes.place ∙ len,
      below_more _ _
          (λ k h. let ne : k ≢ c.bytes.place = omega arith in rw get_or-set_other (c.bytes.invariant.1 k h))
          (let lt : c.bytes.place < length c.bytes.bytes = omega arith in rw get_or-set_same),
    )

pub returns : goal.returns
returns c = counting_by_index c.bytes.bytes 256 c.bytes.invariant.0 (λ k h. c.bytes.invariant.1 k (omega arith))
