use Rattle.std.proofs.Common.{◌++◌, ◌/◌, ◌%◌, length, ap, ◌∙◌}
use Rattle.guest_mem.specs.Memory.{bytes_of}
use Rattle.guest_sys.proofs.RowLemmas.{to_le_bytes-8, two_halves}
use Rattle.guest_sys.proofs.clock.time_of.Goals as goal

pub returns : goal.returns
returns c =
    let first = c.copy_from_slice.ensures.after ∙ c.to_le_bytes.ensures ∙ to_le_bytes-8 (c.args.steps / 1000000000) in
    let second = c.copy_from_slice-2.ensures.after ∙ c.to_le_bytes-2.ensures
    ∙ to_le_bytes-8 (c.args.steps % 1000000000) in
    two_halves c.copy_from_slice.new.self c.copy_from_slice-2.new.self (ap length first) (ap length second)
    ∙ ap (λ x. x ++ c.copy_from_slice-2.new.self) first ∙ ap (λ y. bytes_of 8 (c.args.steps / 1000000000) ++ y) second
