use Rattle.std.proofs.Common.{ℕ, ◌-◌, ◌%◌, arith, sym, ◌∙◌}
use Rattle.std.specs.Prelude.{is_some}
use Rattle.guest_mem.specs.inner.Table.{at_place}
use Rattle.guest_mem.specs.inner.Directory.{page_at}
use Rattle.guest_mem.proofs.Firsts.{page_in, page_nowhere, first_moved, first_nowhere, first_at_once}
use Rattle.guest_mem.proofs.directory.Directory.first_in_table.Goals as goal

pub returns-in-Some : goal.returns-in-Some
returns-in-Some c =
    first_moved (λ q. is_some (at_place c.in-Some.table.now.places.items q))
    (λ p. is_some (page_at c.args.self.now p)) c.args.wanted
    (c.args.from - c.args.from % 1024) c.args.from c.args.end c.first.result (omega arith) (omega arith)
    (λ p l h. page_in c.args.self.now c.in-Some.table.now c.args.from p (sym c.in-Some.ensures) l (omega arith))
    c.first.ensures

pub returns-in-None : goal.returns-in-None
returns-in-None c =
    first_nowhere (λ p. is_some (page_at c.args.self.now p)) c.args.wanted c.args.from c.args.end
    (omega arith) c.if-wanted.true
    (λ p l h. page_nowhere c.args.self.now c.args.from p (sym c.in-None.ensures) l (omega arith))

pub returns-in-None-2 : goal.returns-in-None-2
returns-in-None-2 c =
    first_at_once (λ p. is_some (page_at c.args.self.now p)) c.args.wanted c.args.from c.args.end
    (omega arith) c.if-wanted.false
    (λ p l h. page_nowhere c.args.self.now c.args.from p (sym c.in-None-2.ensures) l (omega arith))
