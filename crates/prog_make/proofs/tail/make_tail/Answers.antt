-- The tables fit, since the parts' total is limited.
use Rattle.std.proofs.Common.{◌≡◌, length, rules, arith}
use Rattle.prog_make.specs.inner.LineSection.{line_section}
use Rattle.prog_make.specs.Parts.{content_len}
use Rattle.prog_make.specs.Programs.{content_offset}
use Rattle.prog_make.specs.inner.Strings.{name_strings}
use Rattle.prog_make.specs.inner.Symbols.{symbol_entries, symbols_bytes}
use Rattle.prog_make.proofs.Bounds.{tables_fit}
use Rattle.prog_make.proofs.tail.make_tail.Goals as goal

pub lengths-lengths-requires : goal.lengths-lengths-requires
lengths-lengths-requires c =
    let fit = tables_fit c.args.parts.now c.requires in
    let lines : c.in_ok-tables.tables.lines ≡ line_section c.args.parts.now.file c.args.parts.now.functions =
    search rules in
    let symbols : c.in_ok-tables.tables.symbols
    ≡ symbols_bytes (symbol_entries c.args.parts.now.segments c.args.parts.now.functions) = search rules in
    let names : c.in_ok-tables.tables.names ≡ name_strings c.args.parts.now.functions = search rules in
    rw (lines, symbols, names) (omega arith)

pub content_len-requires : goal.content_len-requires
content_len-requires c =
    let fit = tables_fit c.args.parts.now c.requires in
    let segments : c.as_slice-segments.result.now ≡ c.args.parts.now.segments = search rules in
    rw segments (omega arith)

pub overflow_add-offset : goal.overflow_add-offset
overflow_add-offset c =
    let fit = tables_fit c.args.parts.now c.requires in
    let segments : c.as_slice-segments.result.now ≡ c.args.parts.now.segments = search rules in
    let contents : c.content_offset-contents.result ≡ content_offset c.args.parts.now.segments =
    rw segments at c.content_offset-contents.ensures in
    let len : c.content_len.result ≡ content_len c.args.parts.now.segments = rw segments at c.content_len.ensures in
    omega arith

pub headers_offset-section_offset-requires : goal.headers_offset-section_offset-requires
headers_offset-section_offset-requires c =
    let fit = tables_fit c.args.parts.now c.requires in
    let segments : c.as_slice-segments.result.now ≡ c.args.parts.now.segments = search rules in
    let contents : c.content_offset-contents.result ≡ content_offset c.args.parts.now.segments =
    rw segments at c.content_offset-contents.ensures in
    let len : c.content_len.result ≡ content_len c.args.parts.now.segments = rw segments at c.content_len.ensures in
    let lines : c.lengths-lengths.result.lines
    ≡ length (line_section c.args.parts.now.file c.args.parts.now.functions) = search rules in
    let symbols : c.lengths-lengths.result.symbols
    ≡ length (symbols_bytes (symbol_entries c.args.parts.now.segments c.args.parts.now.functions)) = search rules in
    let names : c.lengths-lengths.result.strings ≡ length (name_strings c.args.parts.now.functions) = search rules in
    omega arith
