use Rattle.std.proofs.Common.{◌≡◌, ◌==◌, ap, sym, ◌∙◌, List, position, slice_get, Some}
use Rattle.std.proofs.Common.{◌+◌, ◌%◌, subst, true}
use Rattle.std.specs.List.{list_any}
use Rattle.event_costs.specs.declared.numbers.ThreadNo.{ThreadNo}
use Rattle.recorder.specs.Accounts.{is_ledger_of, Recording}
use Rattle.recorder.specs.inner.Books.{ledger_of}
use Rattle.recorder.specs.declared.book.Book.{Book}
use Rattle.recorder.proofs.RecordingLemmas.{any-map, own_place, own_there, position-map, same_thread, stands_there}
use Rattle.std.proofs.lemmas.Bool.Decides.{nat_tests}
use Rattle.std.proofs.Common.{arith}
use Rattle.recorder.proofs.recorder.Recorder.place_near.Goals as goal

pub returns-clause-place : goal.returns-clause-place
returns-clause-place c =
    let other = c.in-Some.other.now in
    let one : other.0 == c.args.thread.0 ≡ true = sym c.eq.ensures ∙ c.if-eq.true in
    let same : other ≡ c.args.thread = same_thread other c.args.thread (grind (arith, nat_tests)) in
    let found = c.in-Some.ensures.lookup.3 in
    let near = (c.args.thread.0 + 18446744073709551615) % 18446744073709551616 in
    let there =
    subst (λ (ts : List ThreadNo). slice_get ts near ≡ Some c.args.thread) c.as_slice.ensures.keys
    (stands_there c.args.thread c.as_slice.result.now near found.0 (sym (found.1 c.args.thread) ∙ same)) in
    sym (sym (own_place c.args.thread c.self.inside.threads.keys near there c.as_slice.ensures.unique)
    ∙ ap (λ (ts : List ThreadNo). position (λ (u : ThreadNo). c.args.thread.0 == u.0) ts) c.self.invariant.0.threads
    ∙ position-map (λ (u : ThreadNo). c.args.thread.0 == u.0) (λ (b : Book). b.thread) c.self.inside.books.items
    ∙ sym (position-map (is_ledger_of c.args.thread) (ledger_of c.self.inside.arena.slots) c.self.inside.books.items)
    ∙ ap (λ (r : Recording). position (is_ledger_of c.args.thread) r.threads) c.self.view_is)

pub returns-clause-known : goal.returns-clause-known
returns-clause-known c =
    let other = c.in-Some.other.now in
    let one : other.0 == c.args.thread.0 ≡ true = sym c.eq.ensures ∙ c.if-eq.true in
    let same : other ≡ c.args.thread = same_thread other c.args.thread (grind (arith, nat_tests)) in
    let found = c.in-Some.ensures.lookup.3 in
    let near = (c.args.thread.0 + 18446744073709551615) % 18446744073709551616 in
    let there =
    subst (λ (ts : List ThreadNo). slice_get ts near ≡ Some c.args.thread) c.as_slice.ensures.keys
    (stands_there c.args.thread c.as_slice.result.now near found.0 (sym (found.1 c.args.thread) ∙ same)) in
    sym (sym (own_there c.args.thread c.self.inside.threads.keys near there)
    ∙ ap (λ (ts : List ThreadNo). list_any (λ (u : ThreadNo). c.args.thread.0 == u.0) ts) c.self.invariant.0.threads
    ∙ any-map (λ (u : ThreadNo). c.args.thread.0 == u.0) (λ (b : Book). b.thread) c.self.inside.books.items
    ∙ sym (any-map (is_ledger_of c.args.thread) (ledger_of c.self.inside.arena.slots) c.self.inside.books.items)
    ∙ ap (λ (r : Recording). list_any (is_ledger_of c.args.thread) r.threads) c.self.view_is)
