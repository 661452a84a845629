use Rattle.guest_sys.proofs.RowLemmas.{row_found}
use Rattle.guest_sys.proofs.table.row_of.Goals as goal

pub returns : goal.returns
returns c = row_found c.args.number c.in_ok-place.place _ c.in_ok-place.ensures.first
