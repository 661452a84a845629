use Rattle.std.proofs.Common.{sym, refl}
use Rattle.cg_read.proofs.KnowingLemmas.{blank_kept, header_kept, positions_kept, closed_from}
use Rattle.cg_read.proofs.reader.Reader.line_alone.Goals as goal

pub returns-in-Blank : goal.returns-in-Blank
returns-in-Blank c = λ before k. rw c.in-Blank.is (blank_kept _ before k, refl)

pub returns-in-Header : goal.returns-in-Header
returns-in-Header c =
    λ before k. rw c.in-Header.is
    (header_kept _ before (closed_from c.args.self.now.open_call (rw c.in-Header.is at c.requires)) k, refl)

pub returns-in-None : goal.returns-in-None
returns-in-None c = λ before k.
    rw c.in-Positions.is (
      positions_kept _ before c.in-Positions.text
          (closed_from c.args.self.now.open_call (rw c.in-Positions.is at c.requires)) k,
      rw c.as_bytes.ensures at
          (sym c.in-None.ensures),
    )
