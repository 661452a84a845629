use Rattle.std.proofs.Common.{◌≡◌, ◌/◌, ◌∷◌, [], ◌++◌, rules, append_assoc}
use Rattle.prog_make.proofs.Lengths.{one_copy}
use Rattle.prog_make.proofs.line_program.push_sequence.Goals as goal

pub rows-preserved : goal.rows-preserved
rows-preserved c =
    let one = one_copy (c.args.function.now.size / 4) c.rows._row 75 c.rows-test.true in
    let pushed : c.push.new.self ≡ c.rows.out ++ 75 ∷ [] = search rules in
    rw (pushed, append_assoc, one) c.rows.invariant
