use Rattle.std.proofs.Common.{◌≡◌, List, map, take}
use Rattle.part_dump.specs.Steps.{Step}
use Rattle.wait_report.specs.Rows.{row_at}
use Rattle.wait_report.specs.Standing.{StandsFor}
use Rattle.wait_report.specs.inner.Room.{books_of}
use Rattle.wait_report.proofs.books.Books.rows.Given as goal

abbrev pub invariant-rows : goal.invariant-rows
invariant-rows l = (xs : List Step) → StandsFor (books_of l.self) xs
    → l.rows.items ≡ map (row_at xs) (take l.spot-index l.spot-items)
