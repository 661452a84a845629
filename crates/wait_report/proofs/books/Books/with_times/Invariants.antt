use Rattle.std.proofs.Common.{◌≡◌, map, take}
use Rattle.wait_report.specs.inner.Room.{books_of, waker_in}
use Rattle.wait_report.proofs.books.Books.with_times.Given as goal

abbrev pub invariant-wakes : goal.invariant-wakes
invariant-wakes l =
    l.items.items ≡ map (λ w. waker_in l.spot (books_of l.self) w.waker) (take l.wake-index l.wakes)
