use Rattle.std.proofs.Common.{◌+◌, ◌*◌, sym}
use Rattle.std.specs.Prelude.{is_some}
use Rattle.guest_mem.specs.inner.Table.{at_place, AreGaps}
use Rattle.guest_mem.specs.inner.Directory.{page_at}
use Rattle.guest_mem.proofs.Gaps.{gaps-in, if_some}
use Rattle.guest_mem.proofs.directory.Directory.gaps.Goals as goal

pub returns-in-Some : goal.returns-in-Some
returns-in-Some c =
    if_some (λ gaps. AreGaps (λ q. is_some (at_place c.in-Some.table.now.places.items q)) gaps)
    (λ gaps. AreGaps (λ q. is_some (page_at c.args.self.now (c.args.high * 1024 + q))) gaps) c.gaps.result
    (λ gaps are. gaps-in c.args.self.now c.in-Some.table.now c.args.high gaps (sym c.in-Some.ensures) are)
    c.gaps.ensures
