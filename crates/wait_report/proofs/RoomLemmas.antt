-- The room that a wake uses.
use Rattle.std.proofs.Common.{◌≡◌, ℕ, ◌+◌, ◌<◌, Bool, true, false, cond, List, [], ◌∷◌, refl, sym, ap, ◌∙◌, subst, arith}
use Rattle.std.specs.Result.{IsOk}
use Rattle.std.proofs.Common.{Result, Ok, Err, OnOk, Option, Some, None, is_some, if◌then◌else◌, length, ◌==◌}
use Rattle.std.specs.Map.{lookup}
use Rattle.std.proofs.lemmas.Bool.Decides.{nat_tests}
use Rattle.std.proofs.lemmas.List.Sums.{sum_by-cons}
use Rattle.indexmap.specs.IndexMap.{insert_entry}
use Rattle.event_costs.specs.declared.numbers.ThreadNo.{ThreadNo}
use Rattle.wait_report.specs.Keeping.{IsRoomy, WaitBooks, WaitState, flat, is_quiet, open_count, after_event, same_thread, steps}
use Rattle.wait_report.specs.declared.books.Books.{Books}
use Rattle.wait_report.specs.declared.books.Open.{Open}
use Rattle.wait_report.specs.inner.Counts.{one}
use Rattle.wait_report.specs.inner.Lookups.{true_false}
use Rattle.wait_report.specs.inner.Room.{HasRoom, HasRoomForStep, books_of}

-- one open wait fewer, once the thread's is ended
pub open_count_ended : (es : List (ThreadNo × Option Open)) (t : ThreadNo) (o : Open)
    → flat (lookup (same_thread t) es) ≡ Some o
    → open_count (insert_entry same_thread es t None) + 1 ≡ open_count es
open_count_ended [] t o is = absurd (none is)
  where
    none : None ≡ Some o → ⊥
    none e = cc
open_count_ended (e ∷ es) t o is = by (same_thread t e.0) refl is (λ rest. open_count_ended es t o rest)
  where
    by : (b : Bool) → same_thread t e.0 ≡ b → flat (if b then Some e.1 else lookup (same_thread t) es) ≡ Some o
        → (flat (lookup (same_thread t) es) ≡ Some o
        → open_count (insert_entry same_thread es t None) + 1 ≡ open_count es)
        → open_count (if b then (e.0, None) ∷ es else e ∷ insert_entry same_thread es t None) + 1
        ≡ open_count (e ∷ es)
    by true f held rest =
        let was = ap is_some held in
        let first = ap one was in
        let before = sum_by-cons (λ (x : ThreadNo × Option Open). cond (is_some x.1) 1 0) e es in
        let after = sum_by-cons (λ (x : ThreadNo × Option Open). cond (is_some x.1) 1 0) (e.0, None) es in
        omega (arith, first, before, after)
    by false f held rest =
        let more = rest held in
        let before = sum_by-cons (λ (x : ThreadNo × Option Open). cond (is_some x.1) 1 0) e es in
        let after =
        sum_by-cons (λ (x : ThreadNo × Option Open). cond (is_some x.1) 1 0) e (insert_entry same_thread es t None) in
        omega (arith, more, before, after)

-- the room of a watch is that of its books
pub step_room : (w : WaitState) (b : Books) (total : List ℕ) (room : ℕ)
    → ◌≡◌ {A = WaitState} (record { books = books_of b; room = room }) w → HasRoom room b → IsRoomy w
    → HasRoomForStep (record b { total = total })
step_room w b total room is has wanted =
    let enough : open_count b.waiting.entries < room = subst IsRoomy (sym is) wanted in
    record {
      waiting = omega (arith, enough, has.waiting);
      sums = omega (arith, enough, has.sums);
      wakes = omega (arith, enough, has.wakes);
    }

pub no_room : (b : Books) → HasRoom 0 b
no_room b = record { waiting = omega arith; sums = omega arith; wakes = omega arith }

pub same_room : (room : ℕ) (b : Books) (total : List ℕ) → HasRoom room b → HasRoom room (record b { total = total })
same_room room b total has = record { waiting = has.waiting; sums = has.sums; wakes = has.wakes }

-- no wait begins or ends in a quiet step
pub quiet_steps : (thread : ThreadNo) (cost : List ℕ) (wait : Option ℕ) (woken : List ThreadNo) (k : WaitBooks)
    → is_quiet wait woken ≡ true → steps thread cost wait woken k ≡ after_event cost k
quiet_steps thread cost None [] k quiet = refl
quiet_steps thread cost None (t ∷ woken) k quiet =
    let some : (length (t ∷ woken) == 0) ≡ false = grind (arith, nat_tests) in absurd (true_false (sym quiet ∙ some))
quiet_steps thread cost (Some word) woken k quiet = absurd (true_false (sym quiet))

-- what a step makes of a watch
module _ (w : WaitState) (k new : WaitBooks) (room : ℕ) (thread : ThreadNo) (cost : List ℕ) (wait : Option ℕ)
    (woken : List ThreadNo) (is : ◌≡◌ {A = WaitState} (record { books = k; room = room }) w) where
  pub seen_quiet : new ≡ after_event cost k → is_quiet wait woken ≡ true
      → ◌≡◌ {A = WaitState} (record { books = new; room = room }) (record {
        books = steps thread cost wait woken w.books;
        room = if is_quiet wait woken then w.room else 0;
      })
  seen_quiet new_is quiet = λ i. record {
    books = (new_is ∙ sym (quiet_steps thread cost wait woken k quiet)
        ∙ ap (λ (v : WaitState). steps thread cost wait woken v.books) is) i;
    room = (ap (λ (v : WaitState). v.room) is ∙ ap (λ (b : Bool). if b then w.room else 0) (sym quiet)) i;
  }

  pub seen_loud : new ≡ steps thread cost wait woken k → is_quiet wait woken ≡ false
      → ◌≡◌ {A = WaitState} (record { books = new; room = 0 }) (record {
        books = steps thread cost wait woken w.books;
        room = if is_quiet wait woken then w.room else 0;
      })
  seen_loud new_is loud = λ i. record {
    books = (new_is ∙ ap (λ (v : WaitState). steps thread cost wait woken v.books) is) i;
    room = ap (λ (b : Bool). if b then w.room else 0) (sym loud) i;
  }

-- what holds on success, where a call succeeds
pub on_ok : {T E P : Type 0} (r : Result T E) → IsOk r → OnOk r P → P
on_ok (Ok x) ok is = is
on_ok (Err e) ok is = absurd (true_false (sym ok))
