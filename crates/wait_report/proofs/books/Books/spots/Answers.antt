use Rattle.wait_report.specs.inner.Room.{books_of}
use Rattle.wait_report.proofs.OrderLemmas.{spots_are}
use Rattle.wait_report.proofs.books.Books.spots.Goals as goal

pub returns : goal.returns
returns c = λ xs stands.
    spots_are (books_of c.args.self.now) xs c.in_ok-spots.spots.items c.sort.new.self.items stands
    c.in_ok-spots.ensures.keys c.in_ok-spots.ensures.apart c.sort.ensures.permutation c.in_ok-sort.ensures.sorted
