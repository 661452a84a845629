use Rattle.std.proofs.Common.{ap, ◌*◌, ◌-◌, ◌/◌, ◌%◌, ◌^◌}
use Rattle.arc_costs.specs.Digits.{digit_of}
use Rattle.arc_costs.proofs.digits.digit_of.Goals as goal

pub returns : goal.returns
unfolding digit_of
returns c = ap (λ m. c.args.number / 2 ^ (2 * (63 - m)) % 4) c.min.ensures
