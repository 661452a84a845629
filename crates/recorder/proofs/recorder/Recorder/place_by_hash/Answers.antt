use Rattle.std.proofs.Common.{◌==◌, ap, sym, ◌∙◌, List, position}
use Rattle.std.specs.List.{list_any}
use Rattle.event_costs.specs.declared.numbers.ThreadNo.{ThreadNo}
use Rattle.recorder.specs.Accounts.{is_ledger_of, Recording}
use Rattle.recorder.specs.inner.Books.{ledger_of}
use Rattle.recorder.specs.declared.book.Book.{Book}
use Rattle.recorder.proofs.RecordingLemmas.{any-map, position-map}
use Rattle.recorder.proofs.recorder.Recorder.place_by_hash.Goals as goal

pub returns-clause-place : goal.returns-clause-place
returns-clause-place c =
    c.get_index_of.ensures.index
    ∙ ap (λ (ts : List ThreadNo). position (λ (u : ThreadNo). c.args.thread.0 == u.0) ts) c.self.invariant.0.threads
    ∙ position-map (λ (u : ThreadNo). c.args.thread.0 == u.0) (λ (b : Book). b.thread) c.self.inside.books.items
    ∙ sym (position-map (is_ledger_of c.args.thread) (ledger_of c.self.inside.arena.slots) c.self.inside.books.items)
    ∙ ap (λ (r : Recording). position (is_ledger_of c.args.thread) r.threads) c.self.view_is

pub returns-clause-found : goal.returns-clause-found
returns-clause-found c =
    c.get_index_of.ensures.found
    ∙ ap (λ (ts : List ThreadNo). list_any (λ (u : ThreadNo). c.args.thread.0 == u.0) ts) c.self.invariant.0.threads
    ∙ any-map (λ (u : ThreadNo). c.args.thread.0 == u.0) (λ (b : Book). b.thread) c.self.inside.books.items
    ∙ sym (any-map (is_ledger_of c.args.thread) (ledger_of c.self.inside.arena.slots) c.self.inside.books.items)
    ∙ ap (λ (r : Recording). list_any (is_ledger_of c.args.thread) r.threads) c.self.view_is
