-- What each row leaves: the balance of those that live and wait, and the caller's form; and so what every call does.
use Rattle.std.proofs.Common.{◌≡◌, ℕ, ◌+◌, ◌%◌, ◌≤◌, ◌==◌, Bool, true, false, cond, List, [], ◌∷◌, length}
use Rattle.std.proofs.Common.{Option, Some, None, Result, Ok, Err, refl, sym, ◌∙◌, ap, subst, arith}
use Rattle.std.specs.Prelude.{IfOk, if◌then◌else◌}
use Rattle.std.specs.Option.{option_and_then, option_map_or}
use Rattle.event_costs.specs.declared.numbers.ThreadNo.{ThreadNo}
use Rattle.guest_mem.specs.Memory.{Memory, bytes_of, store_at}
use Rattle.guest_load.specs.Guest.{Guest}
use Rattle.guest_futex.specs.declared.queue.Wait.{Wait}
use Rattle.guest_futex.specs.Waits.{times_waiting, enqueue, without_woken, woken_at}
use Rattle.guest_futex.proofs.WaitLaws.{times_waiting-queued, times_waiting-still, times_waiting-moved}
use Rattle.guest_sys.specs.declared.caller.Caller.{Caller}
use Rattle.guest_sys.specs.declared.effect.Act.{Act}
use Rattle.guest_sys.specs.declared.effect.Act.TheVariants as act
use Rattle.guest_sys.specs.declared.effect.Effect.{Effect}
use Rattle.guest_sys.specs.declared.futexes.Operation.{Operation}
use Rattle.guest_sys.specs.declared.futexes.Operation.TheVariants as operation
use Rattle.guest_sys.specs.declared.table.Row.{Row}
use Rattle.guest_sys.specs.declared.table.Row.TheVariants as row
use Rattle.guest_sys.specs.Kernel.{Kernel, kernel_of, times_live, EachWaiterLives}
use Rattle.guest_sys.specs.Common.{IsCaller, WhereRefused, argument, number, resume, settle, quiet_effect, answers}
use Rattle.guest_sys.specs.Common.{einval, with_waits}
use Rattle.guest_sys.specs.inner.Bodies.{Gives}
use Rattle.guest_sys.specs.Threads.{exit, is_cleared, without_caller}
use Rattle.guest_sys.specs.Futexes.{operation_of, futex, on_words, performs, refuses_wait, waits_on}
use Rattle.guest_sys.specs.declared.effect.SysEnd.{SysEnd}
use Rattle.guest_sys.specs.declared.effect.SysEnd.TheVariants.{Unsupported, OutOfMemory}
use Rattle.guest_sys.specs.CallRow.{Calls, call_row, caller_of, row_does, row_for}
use Rattle.guest_sys.specs.Table.{row_at}
use Rattle.guest_sys.specs.Taking.{CallTakes, RowTakes, TakesMemory}
use Rattle.guest_sys.proofs.LiveLemmas.{lives_after}
use Rattle.guest_sys.specs.Laws.{times_in, waiters_by, spawned_by, gone_by, IsBalanced, ChangesNothing}
use Rattle.guest_sys.proofs.BalanceLemmas.{IsKept, times_in-one, times_live-remove, times_live-set}
pub use Rattle.guest_sys.proofs.ShapeLemmas.{HasShape}
use Rattle.guest_sys.proofs.ShapeLemmas.{Moved, breaks, clocks, clones, ends, goes, kept_move, kills, mmaps}
use Rattle.guest_sys.proofs.ShapeLemmas.{plain, protects, randoms, reads, readvs, sets, shape_move, tgkills, tkills}
use Rattle.guest_sys.proofs.ShapeLemmas.{unmaps, writes, writevs, yields}

-- what a row does to the kernel: it keeps the balance, and its caller has the form of its act
pub record Does (c : Caller) (s : Kernel) (e : Effect) (new : Kernel) : Type 0 where
  pub kept : IsKept c.thread.no s e new
  pub shape : HasShape c s.guest e.act e.woken new.guest

abbrev pub DoneIn : Caller → Kernel → Option (Effect × Kernel) → Type 0
DoneIn c s None = Unit {0}
DoneIn c s (Some p) = Does c s p.0 p.1

pub record Done (c : Caller) (s : Kernel) (r : Option (Effect × Kernel)) : Type 0 where
  pub done : DoneIn c s r

choice : (c : Caller) (s : Kernel) (b : Bool) (x y : Option (Effect × Kernel)) → Done c s x → Done c s y
    → Done c s (cond b x y)
choice c s true x y p q = p
choice c s false x y p q = q

-- ---- rows of the guest alone

alone : (c : Caller) (s : Kernel) (r : Option (Effect × Guest)) → IsCaller s.guest c → Moved c s.guest r
    → Done c s (with_waits s.waits r)
alone c s None is h = record { done = tt {0} }
alone c s (Some p) is h = record {
  done = record {
    kept = kept_move c s p.1 p.0.act p.0.woken is h.moved.moves h.moved.nobody h.moved.steps;
    shape = shape_move c s.guest p.1 p.0.act p.0.woken h.moved.moves;
  };
}

answered : (c : Caller) (s : Kernel) (value : ℕ) → IsCaller s.guest c → Done c s (with_waits s.waits (answers s.guest c value))
answered c s value is = alone c s _ is (plain c s.guest value)

-- ---- rows of the whole kernel

kept_end : (s : Kernel) (c : Caller) (m : Memory) (threads : List ThreadNo) (waits : List Wait) → IsCaller s.guest c
    → ((thread : ThreadNo) → times_waiting thread waits + times_in thread threads ≡ times_waiting thread s.waits)
    → (a : Act) → waiters_by c.thread.no a ≡ [] → spawned_by a ≡ [] → gone_by c.thread.no a ≡ c.thread.no ∷ []
    → ((new : Kernel) → ChangesNothing a s new)
    → IsKept c.thread.no s (record { act = a; woken = threads }) (kernel_of (without_caller s.guest c m) waits)
kept_end s c m threads waits is count a goes_on none gone kills =
    let left = λ (thread : ThreadNo). times_live-remove thread s.guest.threads c.place c.thread is in
    let out = λ (thread : ThreadNo). ap (times_in thread) gone ∙ times_in-one thread c.thread.no in
    record {
      balanced = record {
        waits = λ thread. omega (arith, count thread, ap (times_in thread) goes_on);
        lives = λ thread. omega (arith, left thread, out thread, ap (times_in thread) none);
        bounded = λ thread. omega (arith, left thread);
        steps = refl;
      };
      killed = kills (kernel_of (without_caller s.guest c m) waits);
    }

-- the two acts of an end
kept_end_by : (s : Kernel) (c : Caller) (m : Memory) (threads : List ThreadNo) (waits : List Wait) (last : Bool)
    → IsCaller s.guest c
    → ((thread : ThreadNo) → times_waiting thread waits + times_in thread threads ≡ times_waiting thread s.waits)
    → IsKept c.thread.no s
    (record { act = cond last (act.ProcessEnd (argument 0 c % 256)) act.ThreadEnd; woken = threads })
    (kernel_of (without_caller s.guest c m) waits)
kept_end_by s c m threads waits true is count =
    kept_end s c m threads waits is count (act.ProcessEnd (argument 0 c % 256)) refl refl refl (λ new. tt {0})
kept_end_by s c m threads waits false is count =
    kept_end s c m threads waits is count act.ThreadEnd refl refl refl (λ new. tt {0})

shape_end : (c : Caller) (s : Kernel) (m : Memory) (threads : List ThreadNo) (last : Bool)
    → HasShape c s.guest (cond last (act.ProcessEnd (argument 0 c % 256)) act.ThreadEnd) threads
    (without_caller s.guest c m)
shape_end c s m threads true = refl
shape_end c s m threads false = record { threads = refl; made = refl }

exits : (c : Caller) (s : Kernel) → IsCaller s.guest c → Done c s (exit s c)
unfolding exit
exits c s is =
    let last : Bool = length s.guest.threads == 1 in
    let cleared : Memory = store_at s.guest.mem c.thread.clear (bytes_of 4 0) in
    choice _ _ (is_cleared s.guest.mem c.thread.clear) _ _
    (record {
      done = record {
        kept = kept_end_by s c cleared (woken_at c.thread.clear 1 s.waits) (without_woken c.thread.clear 1 s.waits) last is
            (λ thread. times_waiting-still thread c.thread.clear 1 s.waits);
        shape = shape_end c s cleared (woken_at c.thread.clear 1 s.waits) last;
      };
    })
    (record {
      done = record {
        kept = kept_end_by s c s.guest.mem [] s.waits last is (λ thread. omega arith);
        shape = shape_end c s s.guest.mem [] last;
      };
    })

-- the caller is answered, and some were woken or moved
kept_woken : (s : Kernel) (c : Caller) (threads : List ThreadNo) (value : ℕ) (waits : List Wait) → IsCaller s.guest c
    → ((thread : ThreadNo) → times_waiting thread waits + times_in thread threads ≡ times_waiting thread s.waits)
    → IsKept c.thread.no s (record { act = act.Answer; woken = threads }) (kernel_of (settle s.guest c value) waits)
kept_woken s c threads value waits is count =
    let same = λ (thread : ThreadNo). times_live-set thread s.guest.threads c.place c.thread
    (resume c.thread value) is refl in
    record {
      balanced = record {
        waits = λ thread. omega (arith, count thread);
        lives = λ thread. omega (arith, same thread);
        bounded = λ thread. omega (arith, same thread);
        steps = refl;
      };
      killed = tt {0};
    }

kept_waiting : (s : Kernel) (c : Caller) (addr : ℕ) → IsCaller s.guest c
    → IsKept c.thread.no s (quiet_effect (act.Wait addr)) (kernel_of (settle s.guest c 0) (enqueue c.thread.no addr s.waits))
kept_waiting s c addr is =
    let same = λ (thread : ThreadNo). times_live-set thread s.guest.threads c.place c.thread
    (resume c.thread 0) is refl in
    let more = λ (thread : ThreadNo). times_waiting-queued c.thread.no thread addr s.waits in
    record {
      balanced = record {
        waits = λ thread. omega (arith, more thread, times_in-one thread c.thread.no);
        lives = λ thread. omega (arith, same thread);
        bounded = λ thread. omega (arith, same thread);
        steps = refl;
      };
      killed = tt {0};
    }

woken_some : (c : Caller) (s : Kernel) (threads : List ThreadNo) (value : ℕ) (waits : List Wait) → IsCaller s.guest c
    → ((thread : ThreadNo) → times_waiting thread waits + times_in thread threads ≡ times_waiting thread s.waits)
    → Done c s (Some (record { act = act.Answer; woken = threads }, kernel_of (settle s.guest c value) waits))
woken_some c s threads value waits is count = record {
  done = record {
    kept = kept_woken s c threads value waits is count;
    shape = goes c s.guest s.guest value refl refl;
  };
}

waits_at : (c : Caller) (s : Kernel) (word : Option ℕ) → IsCaller s.guest c → Done c s (waits_on s c word)
waits_at c s None is = answered c s _ is
waits_at c s (Some word) is =
    choice _ _ (word == argument 2 c) _ _
    (record {
      done = record {
        kept = kept_waiting s c (argument 0 c) is;
        shape = (goes c s.guest s.guest 0 refl refl, refl);
      };
    })
    (answered c s _ is)

performs_it : (op : Operation) (c : Caller) (s : Kernel) → IsCaller s.guest c → Done c s (performs op s c)
performs_it operation.Wait c s is = waits_at c s _ is
performs_it operation.Wake c s is =
    woken_some c s _ _ _ is (λ thread. times_waiting-still thread (argument 0 c) (argument 2 c) s.waits)
performs_it operation.Requeue c s is =
    woken_some c s _ _ _ is (λ thread.
    omega (
      arith,
      times_waiting-still thread (argument 0 c) (argument 2 c) s.waits,
      times_waiting-moved thread
          (argument 0 c) (argument 3 c) (argument 4 c) (without_woken (argument 0 c) (argument 2 c) s.waits),
    ))

-- what an operation does, if there is one
abbrev pub operation_effect : Option Operation → Kernel → Caller → Option (Effect × Kernel)
operation_effect o s c = option_and_then (λ op. if on_words op c then performs op s c else refuses_wait s c einval) o

performed_it : (op : Option Operation) (c : Caller) (s : Kernel) → IsCaller s.guest c → Done c s (operation_effect op s c)
performed_it None c s is = record { done = tt {0} }
performed_it (Some op) c s is = choice _ _ _ _ _ (performs_it op c s is) (answered c s _ is)

futexes : (c : Caller) (s : Kernel) → IsCaller s.guest c → Done c s (futex s c)
unfolding futex
futexes c s is = performed_it (operation_of c) c s is

-- ---- every row

done_row : (r : Row) (s : Kernel) (c : Caller) → IsCaller s.guest c → Done c s (row_does r s c)
done_row row.Ioctl s c is = answered c s _ is
done_row row.Absent s c is = answered c s _ is
done_row row.Close s c is = answered c s _ is
done_row row.Llseek s c is = answered c s _ is
done_row row.Read s c is = alone c s _ is (reads c s.guest)
done_row row.Write s c is = alone c s _ is (writes c s.guest)
done_row row.Readv s c is = alone c s _ is (readvs c s.guest)
done_row row.Writev s c is = alone c s _ is (writevs c s.guest)
done_row row.Exit s c is = exits c s is
done_row row.ExitGroup s c is = alone c s _ is (ends c s.guest)
done_row row.SetTidAddress s c is = alone c s _ is (sets c s.guest)
done_row row.Futex s c is = futexes c s is
done_row row.Accepted s c is = answered c s _ is
done_row row.SchedYield s c is = alone c s _ is (yields c s.guest)
done_row row.Kill s c is = alone c s _ is (kills c s.guest)
done_row row.Tkill s c is = alone c s _ is (tkills c s.guest)
done_row row.Tgkill s c is = alone c s _ is (tgkills c s.guest)
done_row row.Process s c is = answered c s _ is
done_row row.ThreadNumber s c is = answered c s _ is
done_row row.Brk s c is = alone c s _ is (breaks c s.guest)
done_row row.Munmap s c is = alone c s _ is (unmaps c s.guest)
done_row row.Mremap s c is = answered c s _ is
done_row row.Clone s c is = alone c s _ is (clones c s.guest)
done_row row.Mmap s c is = alone c s _ is (mmaps c s.guest)
done_row row.Mprotect s c is = alone c s _ is (protects c s.guest)
done_row row.Getrandom s c is = alone c s _ is (randoms c s.guest)
done_row row.ClockGettime s c is = alone c s _ is (clocks c s.guest)
done_row row.Clone3 s c is = answered c s _ is

-- ---- what a body gave

-- its answer is kept, where it has one
pub kept_given : (r : Row) (s : Kernel) (c : Caller) (n : ℕ) (result : Result Effect SysEnd) (new : Kernel)
    → IsCaller s.guest c → Gives (TakesMemory r s c) (row_does r s c) n s result new
    → IfOk result (λ e. IsKept c.thread.no s e new)
kept_given r s c n (Ok e) new is gives = (subst (Done c s) gives (done_row r s c is)).done.kept
kept_given r s c n (Err e) new is gives = tt {0}

pub lives_given : (r : Row) (s : Kernel) (c : Caller) (n : ℕ) (result : Result Effect SysEnd) (new : Kernel)
    → IsCaller s.guest c → Gives (TakesMemory r s c) (row_does r s c) n s result new
    → EachWaiterLives s.guest.threads s.waits → times_waiting c.thread.no s.waits ≡ 0
    → 1 ≤ times_live c.thread.no s.guest.threads → EachWaiterLives new.guest.threads new.waits
lives_given r s c n (Ok e) new is gives lives idle live =
    lives_after c.thread.no s e new (kept_given r s c n (Ok e) new is gives).balanced lives idle live
lives_given r s c n (Err (Unsupported m)) new is gives lives idle live =
    subst (λ (t : Kernel). EachWaiterLives t.guest.threads t.waits) (sym gives.2) lives
lives_given r s c n (Err (OutOfMemory memory)) new is gives lives idle live =
    subst (λ (t : Kernel). EachWaiterLives t.guest.threads t.waits) (sym gives.1) lives

-- what the row of a number does, if there is one
abbrev pub row_effect : Option Row → Kernel → Caller → Option (Effect × Kernel)
row_effect o s c = option_and_then (λ r. row_does r s c) o

-- the effect and the kernel after it; else the number of the call
abbrev pub or_unsupported : ℕ → Option (Effect × Kernel) → Result (Effect × Kernel) ℕ
or_unsupported n o = option_map_or Ok o (Err n)

-- the row of a call, once its caller and its row are found
pub row_is : (s : Kernel) (thread : ThreadNo) (c : Caller) (o : Option Row) → caller_of thread s.guest.threads ≡ Some c
    → row_at (number c) ≡ o → call_row s thread ≡ or_unsupported (number c) (row_effect o s c)
unfolding call_row row_for
row_is s thread c o found at = ap (λ (q : Option Caller). option_map_or (row_for s) q (Err 0)) found
    ∙ ap (λ (q : Option Row). or_unsupported (number c) (row_effect q s c)) at

pub calls_given : (r : Row) (s : Kernel) (thread : ThreadNo) (c : Caller) (result : Result Effect SysEnd) (new : Kernel)
    → caller_of thread s.guest.threads ≡ Some c → row_at (number c) ≡ Some r
    → Gives (TakesMemory r s c) (row_does r s c) (number c) s result new → Calls (call_row s thread) s result new
calls_given r s thread c (Ok e) new found at gives = row_is s thread c (Some r) found at
    ∙ ap (or_unsupported (number c)) gives
calls_given r s thread c (Err (Unsupported m)) new found at gives = (
  subst (λ (k : ℕ). call_row s thread ≡ Err k) (sym gives.1)
      (row_is s thread c (Some r) found at ∙ ap (or_unsupported (number c)) gives.0),
  gives.2,
)
calls_given r s thread c (Err (OutOfMemory _)) new found at gives = gives.1

-- and it found no memory where its row takes some
pub takes_given : (r : Row) (s : Kernel) (thread : ThreadNo) (c : Caller) (result : Result Effect SysEnd) (new : Kernel)
    → caller_of thread s.guest.threads ≡ Some c → row_at (number c) ≡ Some r
    → Gives (TakesMemory r s c) (row_does r s c) (number c) s result new
    → WhereRefused result (CallTakes s (caller_of thread s.guest.threads))
takes_given r s thread c (Ok e) new found at gives = tt {0}
takes_given r s thread c (Err (Unsupported m)) new found at gives = tt {0}
takes_given r s thread c (Err (OutOfMemory _)) new found at gives =
    subst (CallTakes s) (sym found) (subst (λ (o : Option Row). RowTakes o s c) (sym at) gives.0)

pub calls_none : (s : Kernel) (thread : ThreadNo) (c : Caller) → caller_of thread s.guest.threads ≡ Some c
    → row_at (number c) ≡ None → call_row s thread ≡ Err (number c)
calls_none s thread c found at = row_is s thread c None found at

pub kept_killed : (thread : ThreadNo) (s : Kernel) (result : Result Effect SysEnd) (new : Kernel)
    → IfOk result (λ e. IsKept thread s e new) → IfOk result (λ e. ChangesNothing e.act s new)
kept_killed thread s (Ok e) new h = h.killed
kept_killed thread s (Err e) new h = tt {0}

pub kept_balanced : (thread : ThreadNo) (s : Kernel) (result : Result Effect SysEnd) (new : Kernel)
    → IfOk result (λ e. IsKept thread s e new) → IfOk result (λ e. IsBalanced thread s e new)
kept_balanced thread s (Ok e) new h = h.balanced
kept_balanced thread s (Err e) new h = tt {0}

-- ---- the row of the call that a caller makes

same_ok : (a b : Effect × Kernel) → ◌≡◌ {A = Result (Effect × Kernel) ℕ} (Ok a) (Ok b) → a ≡ b
same_ok a b e = cc

supported_does : (c : Caller) (s : Kernel) (n : ℕ) (r : Option (Effect × Kernel)) (effect : Effect) (new : Kernel)
    → Done c s r → or_unsupported n r ≡ Ok (effect, new) → Does c s effect new
supported_does c s n None effect new h is = cc
supported_does c s n (Some p) effect new h is =
    subst (λ (q : Effect × Kernel). Does c s q.0 q.1) (same_ok p (effect, new) is) h.done

called_done : (c : Caller) (s : Kernel) (r : Option Row) → IsCaller s.guest c → Done c s (row_effect r s c)
called_done c s None is = record { done = tt {0} }
called_done c s (Some r) is = done_row r s c is

pub call_does : (c : Caller) (s : Kernel) (effect : Effect) (new : Kernel) → IsCaller s.guest c
    → caller_of c.thread.no s.guest.threads ≡ Some c → call_row s c.thread.no ≡ Ok (effect, new) → Does c s effect new
unfolding call_row row_for
call_does c s effect new caller found is =
    supported_does c s (number c) (row_effect (row_at (number c)) s c) effect new
    (called_done c s (row_at (number c)) caller) (ap (λ (q : Option Caller). option_map_or (row_for s) q (Err 0)) (sym found) ∙ is)
