use Rattle.std.proofs.Common.{◌≡◌, ◌∙◌, ap, map}
use Rattle.std.proofs.lemmas.Result.{IfOk-weaker}
use Rattle.wait_report.specs.Rows.{wakers_at}
use Rattle.wait_report.specs.declared.books.Wake.{Wake}
use Rattle.wait_report.specs.inner.Room.{books_of, waker_in}
use Rattle.wait_report.proofs.OrderLemmas.{wakers_are}
use Rattle.wait_report.proofs.books.Books.wakers.Goals as goal

pub returns : goal.returns
returns c = λ xs stands.
    let k = books_of c.args.self.now in
    let s = c.args.spot in
    IfOk-weaker c.with_times.result _ (λ wakers. wakers ≡ wakers_at s xs)
    (λ wakers is. is ∙ ap (map (λ (w : Wake). waker_in s k w.waker)) c.wakes_at.ensures
    ∙ wakers_are k xs s c.args.wakes.now stands c.requires)
    c.with_times.ensures
