-- no text begins past a section's end
use Rattle.std.proofs.Common.{◌≤◌, List, ℕ, length, refl, subst, arith}
use Rattle.dwarf_line.specs.Table.{pointed_at}
use Rattle.dwarf_line.proofs.Pointed.{no_text, text_pointed_at}
use Rattle.dwarf_line.proofs.entry.Strings.pointed.Goals as goal

pub returns-then-offset-bytes-clause-read : goal.returns-then-offset-bytes-clause-read
unfolding pointed_at
returns-then-offset-bytes-clause-read c =
    let past : length c.args.section.now ≤ c.in_ok-offset.offset =
    subst (λ (xs : List ℕ). length xs ≤ c.in_ok-offset.offset) c.bytes.ensures
    (let past = c.if-offset-bytes.true in omega arith) in
    rw (c.in_ok-offset.ensures.read, no_text c.args.section.now c.in_ok-offset.offset past) refl

pub returns-in_err-text_at-clause-read : goal.returns-in_err-text_at-clause-read
returns-in_err-text_at-clause-read c =
    let read = text_pointed_at (λ t. t.now) c.args.section.now c.args.cursor.now c.u32.new.self c.in_ok-offset.offset
    c.text_at.result c.in_ok-offset.ensures.read c.text_at.ensures in
    let none = rw c.in_err-text_at.was at read in
    rw c.from_residual-in_err-text_at.ensures none

pub returns-clause-read : goal.returns-clause-read
returns-clause-read c =
    let read = text_pointed_at (λ t. t.now) c.args.section.now c.args.cursor.now c.u32.new.self c.in_ok-offset.offset
    c.text_at.result c.in_ok-offset.ensures.read c.text_at.ensures in
    rw c.in_ok-text_at.was at read
