use Rattle.std.proofs.Common.{◌≡◌, ◌∙◌, sym, ap, not, arith}
use Rattle.std.proofs.lemmas.Bool.Decides.{nat_tests}
use Rattle.guest_mem.proofs.Counts.{full-all, full-empty}
use Rattle.guest_mem.proofs.table.Table.lacks.Goals as goal

pub returns-then-wanted : goal.returns-then-wanted
returns-then-wanted c = λ h q l.
    let none : c.args.self.now.mapped ≡ 0 = grind (arith, nat_tests) in
    full-empty c.args.self.now.places.items q (c.args.self.now.counted ∙ none) l ∙ sym (ap not c.if-wanted.true)

pub returns-else-wanted : goal.returns-else-wanted
returns-else-wanted c = λ h q l.
    let all : c.args.self.now.mapped ≡ 1024 = grind (arith, nat_tests) in
    full-all c.args.self.now.places.items q (c.args.self.now.counted ∙ all) l ∙ sym (ap not c.if-wanted.false)
