use Rattle.std.proofs.Common.{◌≡◌, true, subst}
use Rattle.event_costs.specs.Keys.{Place}
use Rattle.arc_costs.specs.Lines.{has_line}
use Rattle.recorder.proofs.StayLemmas.{known_line}
use Rattle.recorder.proofs.book.Book.is_plain.Goals as goal

pub returns-clause-known : goal.returns-clause-known
returns-clause-known c =
    λ yes.
    subst (λ (place : Place). has_line place c.args.self.now.rows.lines ≡ true) c.in-Some.ensures.place
    (known_line c.in-Some.way.place c.args.self.now.rows.lines c.of.result (c.is_line_at.ensures yes))
