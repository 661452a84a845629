-- The tables fit, since the parts' total is limited.
use Rattle.std.proofs.Common.{◌≡◌, rules, arith}
use Rattle.prog_make.proofs.Bounds.{tables_fit}
use Rattle.prog_make.proofs.tail.make_tables.Goals as goal

pub line_section-requires : goal.line_section-requires
line_section-requires c =
    let fit = tables_fit c.args.parts.now c.requires in
    let functions : c.deref.result.now ≡ c.args.parts.now.functions = search rules in
    let file : c.parts.inside.file ≡ c.args.parts.now.file = search rules in
    rw (functions, file) (omega arith)

pub push_symbols-requires-clause-names : goal.push_symbols-requires-clause-names
push_symbols-requires-clause-names c =
    let fit = tables_fit c.args.parts.now c.requires in
    let functions : c.deref-3.result.now ≡ c.args.parts.now.functions = search rules in
    rw functions (omega arith)

pub push_symbols-requires-clause-apart : goal.push_symbols-requires-clause-apart
push_symbols-requires-clause-apart c =
    let segments : c.deref-2.result.now ≡ c.args.parts.now.segments = search rules in
    rw segments c.requires.segments.apart
