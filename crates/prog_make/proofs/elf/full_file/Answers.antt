use Rattle.std.proofs.Common.{◌≡◌, rules, arith}
use Rattle.prog_make.proofs.Bounds.{tables_fit}
use Rattle.prog_make.proofs.elf.full_file.Goals as goal

pub joined-requires-clause-room : goal.joined-requires-clause-room
joined-requires-clause-room c =
    let fit = tables_fit c.args.parts.now c.requires in
    let segments : c.as_slice-segments.result.now ≡ c.args.parts.now.segments = search rules in
    rw segments (omega arith)
