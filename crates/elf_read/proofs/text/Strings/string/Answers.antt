use Rattle.std.proofs.Common.{◌+◌, ◌<◌, ◌≤◌, ℕ, List, length, ap, subst, ◌∙◌, arith}
use Rattle.elf_read.specs.Strings.{string_at}
use Rattle.elf_read.specs.inner.Tables.{StringTable}
use Rattle.elf_read.proofs.StringLemmas.{ends_in_table, string_of_table}
use Rattle.elf_read.proofs.text.Strings.string.Goals as goal

within : (c : goal.After-len_at)
    → c.self.inside.range.start + c.args.place + c.len_at.result ≤ length c.self.inside.bytes.now
within c =
    let inside : c.args.place < length c.self.inside.texts = subst (λ (xs : List ℕ). c.args.place < length xs)
    c.bytes.ensures c.if-place-bytes.false in
    let ends = ends_in_table c.self.inside.bytes.now c.self.inside.texts c.self.inside.range c.args.place
    c.len_at.result c.self.invariant.0 c.self.invariant.1 inside c.len_at.ensures in
    omega (arith, c.self.invariant.1)

pub overflow_add-result : goal.overflow_add-result
overflow_add-result c = omega (arith, within c, c.self.told.0)

pub returns-clause-string : goal.returns-clause-string
returns-clause-string c =
    let inside : c.args.place < length c.self.inside.texts = subst (λ (xs : List ℕ). c.args.place < length xs)
    c.bytes.ensures c.if-place-bytes.false in
    string_of_table c.self.inside.bytes.now c.self.inside.texts c.self.inside.range c.args.place c.len_at.result
    c.self.invariant.0 c.self.invariant.1 inside c.len_at.ensures
    ∙ ap (λ (t : StringTable). string_at t.bytes t.range c.args.place) c.self.view_is

pub returns-clause-part : goal.returns-clause-part
returns-clause-part c = (
  omega arith,
  subst (λ (t : StringTable). c.self.inside.range.start + c.args.place + c.len_at.result
      ≤ length t.bytes) c.self.view_is (within c),
)
