use Rattle.std.proofs.Common.{ℕ, ◌*◌, ◌^◌, ◌%◌, ap, ◌∙◌, slice_set, bit_or}
use Rattle.event_costs.specs.Kinds.{number}
use Rattle.event_costs.specs.inner.Bits.{ones_in}
use Rattle.event_costs.proofs.KindLemmas.{number_few, number_is, with_is}
use Rattle.event_costs.proofs.ones.Ones.with.Goals as goal

pub returns : goal.returns
returns c =
    ap (λ (n : ℕ). ones_in (bit_or c.self.inside.bits (1 * 2 ^ n % 65536))) (number_is c.args.kind)
    ∙ with_is c.self.inside.bits (number c.args.kind) (number_few c.args.kind)
    ∙ ap (λ ones. slice_set ones (number c.args.kind) 1) c.self.view_is
