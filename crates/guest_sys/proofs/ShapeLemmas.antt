-- What each row of the guest alone leaves of the threads, and what follows from it.
use Rattle.std.proofs.Common.{◌≡◌, ℕ, zero, suc, ◌+◌, ◌*◌, ◌%◌, ◌^◌, ◌-◌, ◌==◌, Bool, true, false, cond, List, [], ◌∷◌}
use Rattle.std.proofs.Common.{◌++◌, Option, Some, None, refl, sym, ◌∙◌, ap, arith}
use Rattle.std.proofs.Math.ListN.{set}
use Rattle.std.proofs.lemmas.List.{get_or-set_other}
use Rattle.std.specs.Prelude.{nat_le, nat_lt, ◌&&◌, slice_index}
use Rattle.std.specs.List.{remove, slice_get}
use Rattle.guest_mem.specs.Memory.{may}
use Rattle.guest_load.specs.Guest.{Guest}
use Rattle.guest_load.specs.declared.thread.Thread.{Thread}
use Rattle.guest_futex.specs.Waits.{times_waiting}
use Rattle.event_costs.specs.declared.numbers.ThreadNo.{ThreadNo}
use Rattle.guest_sys.specs.declared.caller.Caller.{Caller}
use Rattle.guest_sys.specs.declared.effect.Act.{Act}
use Rattle.guest_sys.specs.declared.effect.Act.TheVariants as act
use Rattle.guest_sys.specs.declared.effect.Effect.{Effect}
use Rattle.guest_sys.specs.Kernel.{Kernel, kernel_of, times_live}
use Rattle.guest_sys.specs.Laws.{ChangesNothing, spawned_by, times_in, waiters_by}
use Rattle.guest_sys.specs.Common.{IsCaller, argument, does, quiet_effect, resume, settle}
use Rattle.guest_sys.specs.Streams.{is_output, read, write, write_count}
use Rattle.guest_sys.specs.Vectors.{moved_addresses, vector_effect, iovec_count, readv, writev}
use Rattle.guest_sys.specs.Pages.{brk, grown_memory, maps, mmap, mprotect, munmap, page_end, too_many}
use Rattle.guest_sys.specs.Threads.{clone_effect, clone, is_crowded, is_thread, may_tell_both, new_thread}
use Rattle.guest_sys.specs.Threads.{set_tid_address}
use Rattle.guest_sys.specs.Signals.{is_live, kill, signal_effect_where, tgkill, tkill}
use Rattle.guest_sys.specs.Clock.{clock_gettime, getrandom}
use Rattle.guest_sys.proofs.BalanceLemmas.{IsKept, one, times_in-one, times_live-append, times_live-cons, times_live-set}
use Rattle.guest_sys.specs.inner.Bodies.{each_allowed}

-- ---- the forms

-- the caller goes on at the next instruction
pub record Goes (c : Caller) (g g' : Guest) : Type 0 where
  pub thread : Thread
  pub threads : g'.threads ≡ set g.threads c.place thread
  pub number : thread.no.0 ≡ c.thread.no.0
  pub pc : thread.regs.pc ≡ (c.thread.regs.pc + 4) % 2 ^ 32
  pub zero : slice_index thread.regs.x 0 ≡ slice_index c.thread.regs.x 0
  pub made : g'.made ≡ g.made

-- so does a new thread
pub record Makes (c : Caller) (g : Guest) (other : ThreadNo) (g' : Guest) : Type 0 where
  pub room : is_crowded g ≡ false
  pub number : other.0 ≡ g.made + 1
  pub threads : g'.threads ≡ set (g.threads ++ new_thread (g.made + 1) c ∷ []) c.place (resume c.thread (g.made + 1))
  pub made : g'.made ≡ g.made + 1

-- the caller is gone
pub record Drops (c : Caller) (g g' : Guest) : Type 0 where
  pub threads : g'.threads ≡ remove g.threads c.place
  pub made : g'.made ≡ g.made

-- after an exit of the process there is no further step
abbrev pub HasShape : Caller → Guest → Act → List ThreadNo → Guest → Type 0
HasShape c g act.Answer threads g' = Goes c g g'
HasShape c g (act.Wait addr) threads g' = Goes c g g' × (threads ≡ [])
HasShape c g act.Yield threads g' = Goes c g g'
HasShape c g (act.Output fd bytes) threads g' = Goes c g g'
HasShape c g (act.Spawn other) threads g' = Makes c g other g'
HasShape c g act.ThreadEnd threads g' = Drops c g g'
HasShape c g (act.ProcessEnd code) threads g' = g'.made ≡ g.made
HasShape c g (act.Killed signal) threads g' = Unit {0}

-- ---- rows of the guest alone: they wake nobody, and their caller neither begins to wait nor ends before others

abbrev pub Moves : Caller → Guest → Act → Guest → Type 0
Moves c g act.Answer g' = Goes c g g'
Moves c g act.Yield g' = Goes c g g'
Moves c g (act.Output fd bytes) g' = Goes c g g'
Moves c g (act.Spawn other) g' = Makes c g other g'
Moves c g (act.ProcessEnd code) g' = g' ≡ g
Moves c g (act.Killed signal) g' = g' ≡ g
Moves c g (act.Wait addr) g' = ⊥
Moves c g act.ThreadEnd g' = ⊥

pub record IsMove (c : Caller) (g : Guest) (e : Effect) (g' : Guest) : Type 0 where
  pub moves : Moves c g e.act g'
  pub nobody : e.woken ≡ []
  pub steps : g'.steps ≡ g.steps

abbrev pub MovedIn : Caller → Guest → Option (Effect × Guest) → Type 0
MovedIn c g None = Unit {0}
MovedIn c g (Some p) = IsMove c g p.0 p.1

pub record Moved (c : Caller) (g : Guest) (r : Option (Effect × Guest)) : Type 0 where
  pub moved : MovedIn c g r

none : (c : Caller) (g : Guest) → Moved c g None
none c g = record { moved = tt {0} }

choice : (c : Caller) (g : Guest) (b : Bool) (x y : Option (Effect × Guest)) → Moved c g x → Moved c g y
    → Moved c g (cond b x y)
choice c g true x y p q = p
choice c g false x y p q = q

resumed_zero : (t : Thread) (value : ℕ) → slice_index (resume t value).regs.x 0 ≡ slice_index t.regs.x 0
resumed_zero t value = get_or-set_other t.regs.x 10 0 value 0 (omega arith)

-- the caller is answered, over a guest with the same threads
pub goes : (c : Caller) (g now : Guest) (value : ℕ) → now.threads ≡ g.threads → now.made ≡ g.made
    → Goes c g (settle now c value)
goes c g now value threads made = record {
  thread = resume c.thread value;
  threads = ap (λ (ts : List Thread). set ts c.place (resume c.thread value)) threads;
  number = refl;
  pc = refl;
  zero = resumed_zero c.thread value;
  made = made;
}

answered : (c : Caller) (g now : Guest) (value : ℕ) → now.threads ≡ g.threads → now.made ≡ g.made
    → now.steps ≡ g.steps → Moved c g (does now c act.Answer value)
answered c g now value threads made steps =
    record { moved = record { moves = goes c g now value threads made; nobody = refl; steps = steps } }

pub plain : (c : Caller) (g : Guest) (value : ℕ) → Moved c g (does g c act.Answer value)
plain c g value = answered c g g value refl refl refl

outputs : (c : Caller) (g : Guest) (fd : ℕ) (bytes : List ℕ) (value : ℕ)
    → Moved c g (does g c (act.Output fd bytes) value)
outputs c g fd bytes value =
    record { moved = record { moves = goes c g g value refl refl; nobody = refl; steps = refl } }

pub yields : (c : Caller) (g : Guest) → Moved c g (does g c act.Yield 0)
yields c g = record { moved = record { moves = goes c g g 0 refl refl; nobody = refl; steps = refl } }

pub ends : (c : Caller) (g : Guest) → Moved c g (Some (quiet_effect (act.ProcessEnd (argument 0 c % 256)), g))
ends c g = record { moved = record { moves = refl; nobody = refl; steps = refl } }

pub reads : (c : Caller) (g : Guest) → Moved c g (read g c)
unfolding read
reads c g = choice _ _ _ _ _ (choice _ _ _ _ _ (answered c g _ _ refl refl refl) (plain c g _)) (plain c g _)

pub writes : (c : Caller) (g : Guest) → Moved c g (write g c)
unfolding write
writes c g =
    choice _ _ (is_output (argument 0 c)) _ _
    (choice _ _ (may g.mem 1 (argument 1 c) (write_count c)) _ _ (outputs c g _ _ _) (plain c g _))
    (plain c g _)

moves : (c : Caller) (limit want : ℕ) (g : Guest) (x : Option (Effect × Guest)) → Moved c g x
    → Moved c g (vector_effect limit want g c x)
moves c limit want g x h =
    choice _ _ (nat_lt 1024 (argument 2 c)) _ _ (plain c g _)
    (choice _ _ (may g.mem 1 (argument 1 c) (8 * iovec_count limit g c)) _ _
    (choice _ _ (each_allowed g.mem want (moved_addresses limit g c)) _ _ h (plain c g _))
    (plain c g _))

pub readvs : (c : Caller) (g : Guest) → Moved c g (readv g c)
unfolding readv
readvs c g = choice _ _ _ _ _ (moves c _ _ g _ (answered c g _ _ refl refl refl)) (plain c g _)

pub writevs : (c : Caller) (g : Guest) → Moved c g (writev g c)
unfolding writev
writevs c g = choice _ _ _ _ _ (moves c _ _ g _ (outputs c g _ _ _)) (plain c g _)

pub breaks : (c : Caller) (g : Guest) → Moved c g (brk g c)
unfolding brk
breaks c g =
    choice _ _ (nat_le g.first_break (argument 0 c) && nat_le (argument 0 c) 0x4000_0000) _ _
    (choice _ _ (nat_lt (page_end g.now_break) (page_end (argument 0 c))) _ _
    (choice _ _ (too_many (grown_memory g (argument 0 c))) _ _ (plain c g _) (answered c g _ _ refl refl refl))
    (answered c g _ _ refl refl refl))
    (plain c g _)

pub unmaps : (c : Caller) (g : Guest) → Moved c g (munmap g c)
unfolding munmap
unmaps c g = choice _ _ _ _ _ (answered c g _ _ refl refl refl) (plain c g _)

pub protects : (c : Caller) (g : Guest) → Moved c g (mprotect g c)
unfolding mprotect
protects c g = choice _ _ _ _ _ (choice _ _ _ _ _ (answered c g _ _ refl refl refl) (plain c g _)) (plain c g _)

maps_at : (c : Caller) (g : Guest) (o : Option ℕ) → Moved c g (maps g c o)
maps_at c g None = plain c g _
maps_at c g (Some page) = choice _ _ _ _ _ (plain c g _) (answered c g _ _ refl refl refl)

pub mmaps : (c : Caller) (g : Guest) → Moved c g (mmap g c)
unfolding mmap
mmaps c g = choice _ _ _ _ _ (choice _ _ _ _ _ (plain c g _) (maps_at c g _)) (none c g)

pub clocks : (c : Caller) (g : Guest) → Moved c g (clock_gettime g c)
unfolding clock_gettime
clocks c g = choice _ _ _ _ _ (answered c g _ _ refl refl refl) (plain c g _)

pub randoms : (c : Caller) (g : Guest) → Moved c g (getrandom g c)
unfolding getrandom
randoms c g = choice _ _ _ _ _ (answered c g _ _ refl refl refl) (plain c g _)

signals : (c : Caller) (b : Bool) (g : Guest) (signal : ℕ) → Moved c g (signal_effect_where b g c signal)
signals c b g signal =
    choice _ _ b _ _
    (choice _ _ (signal == 0) _ _ (plain c g _)
    (choice _ _ (nat_le signal 64) _ _ (record { moved = record { moves = refl; nobody = refl; steps = refl } }) (plain c g _)))
    (none c g)

pub kills : (c : Caller) (g : Guest) → Moved c g (kill g c)
unfolding kill
kills c g = signals c (nat_le (argument 0 c) 1) g (argument 1 c)

pub tkills : (c : Caller) (g : Guest) → Moved c g (tkill g c)
unfolding tkill
tkills c g = signals c (is_live g (argument 0 c)) g (argument 1 c)

pub tgkills : (c : Caller) (g : Guest) → Moved c g (tgkill g c)
unfolding tgkill
tgkills c g = signals c ((argument 0 c == 1) && is_live g (argument 1 c)) g (argument 2 c)

pub sets : (c : Caller) (g : Guest) → Moved c g (set_tid_address g c)
sets c g = record {
  moved = record {
    moves = record {
      thread = record (resume c.thread c.thread.no.0) { clear = argument 0 c };
      threads = refl;
      number = refl;
      pc = refl;
      zero = resumed_zero c.thread c.thread.no.0;
      made = refl;
    };
    nobody = refl;
    steps = refl;
  };
}

clones_by : (c : Caller) (g : Guest) (crowded told : Bool) → is_crowded g ≡ crowded
    → Moved c g
    (cond crowded (does g c act.Answer (2 ^ 32 - 11))
    (cond told (clone_effect g c (g.made + 1)) (does g c act.Answer (2 ^ 32 - 14))))
clones_by c g true told is = plain c g _
clones_by c g false false is = plain c g _
clones_by c g false true is = record {
  moved = record {
    moves = record { room = is; number = refl; threads = refl; made = refl };
    nobody = refl;
    steps = refl;
  };
}

pub clones : (c : Caller) (g : Guest) → Moved c g (clone g c)
unfolding clone
clones c g =
    choice _ _ (is_thread (argument 0 c)) _ _ (clones_by c g (is_crowded g) (may_tell_both g c) refl) (none c g)

-- ---- what follows: the caller's form, and what every call keeps

pub shape_move : (c : Caller) (g g' : Guest) (a : Act) (threads : List ThreadNo) → Moves c g a g' → HasShape c g a threads g'
shape_move c g g' act.Answer threads moves = moves
shape_move c g g' act.Yield threads moves = moves
shape_move c g g' (act.Output fd bytes) threads moves = moves
shape_move c g g' (act.Spawn other) threads moves = moves
shape_move c g g' (act.ProcessEnd code) threads moves = ap (λ (s : Guest). s.made) moves
shape_move c g g' (act.Killed signal) threads moves = tt {0}
shape_move c g g' (act.Wait addr) threads moves = absurd moves
shape_move c g g' act.ThreadEnd threads moves = absurd moves

-- the caller is written
pub times_gone : (c : Caller) (g g' : Guest) → IsCaller g c → Goes c g g' → (thread : ThreadNo)
    → times_live thread g'.threads ≡ times_live thread g.threads
times_gone c g g' is goes thread =
    ap (times_live thread) goes.threads
    ∙ times_live-set thread g.threads c.place c.thread goes.thread is goes.number

-- what stands at a place stands there with more at the end
slice_get-append : {X : Type 0} (xs ys : List X) (i : ℕ) (x : X) → slice_get xs i ≡ Some x
    → slice_get (xs ++ ys) i ≡ Some x
slice_get-append [] ys i x is = cc
slice_get-append (y ∷ xs) ys zero x is = is
slice_get-append (y ∷ xs) ys (suc i) x is = slice_get-append xs ys i x is

-- a thread is made
times_made : (c : Caller) (g g' : Guest) (other : ThreadNo) → IsCaller g c → Makes c g other g' → (thread : ThreadNo)
    → times_live thread g'.threads ≡ times_live thread g.threads + times_in thread (other ∷ [])
times_made c g g' other is makes thread =
    let new : Thread = new_thread (g.made + 1) c in
    let there = slice_get-append g.threads (new ∷ []) c.place c.thread is in
    let count = times_live-set thread (g.threads ++ new ∷ []) c.place c.thread (resume c.thread (g.made + 1)) there refl
    ∙ times_live-append thread g.threads (new ∷ []) in
    let same : one thread new.no ≡ one thread other = ap (λ n. cond (n == thread.0) 1 0) (sym makes.number) in
    ap (times_live thread) makes.threads
    ∙ omega (arith, count, times_live-cons thread new [], times_in-one thread other, same)

-- no thread is made and none is gone
kept_level : (c : Caller) (s : Kernel) (g' : Guest) (e : Effect)
    → ((thread : ThreadNo) → times_live thread g'.threads ≡ times_live thread s.guest.threads) → e.woken ≡ []
    → g'.steps ≡ s.guest.steps → waiters_by c.thread.no e.act ≡ [] → spawned_by e.act ≡ []
    → ChangesNothing e.act s (kernel_of g' s.waits) → IsKept c.thread.no s e (kernel_of g' s.waits)
kept_level c s g' e same nobody steps goes_on none kills = record {
  balanced = record {
    waits = λ thread. ap (λ ts. times_waiting thread s.waits + times_in thread ts) (nobody ∙ sym goes_on);
    lives = λ thread. omega (arith, same thread, ap (times_in thread) none);
    bounded = λ thread. omega (arith, same thread);
    steps = steps;
  };
  killed = kills;
}

pub kept_move : (c : Caller) (s : Kernel) (g' : Guest) (a : Act) (threads : List ThreadNo) → IsCaller s.guest c
    → Moves c s.guest a g' → threads ≡ [] → g'.steps ≡ s.guest.steps
    → IsKept c.thread.no s (record { act = a; woken = threads }) (kernel_of g' s.waits)
kept_move c s g' act.Answer threads is moves nobody steps =
    kept_level c s g' _ (times_gone c s.guest g' is moves) nobody steps refl refl (tt {0})
kept_move c s g' act.Yield threads is moves nobody steps =
    kept_level c s g' _ (times_gone c s.guest g' is moves) nobody steps refl refl (tt {0})
kept_move c s g' (act.Output fd bytes) threads is moves nobody steps =
    kept_level c s g' _ (times_gone c s.guest g' is moves) nobody steps refl refl (tt {0})
kept_move c s g' (act.Spawn other) threads is moves nobody steps =
    let more = times_made c s.guest g' other is moves in
    record {
      balanced = record {
        waits = λ thread. ap (λ ts. times_waiting thread s.waits + times_in thread ts) nobody;
        lives = λ thread. omega (arith, more thread);
        bounded = λ thread. omega (arith, more thread);
        steps = steps;
      };
      killed = tt {0};
    }
kept_move c s g' (act.ProcessEnd code) threads is moves nobody steps =
    kept_level c s g' _ (λ thread. ap (λ (g : Guest). times_live thread g.threads) moves) nobody steps refl refl (tt {0})
kept_move c s g' (act.Killed signal) threads is moves nobody steps =
    kept_level c s g' _ (λ thread. ap (λ (g : Guest). times_live thread g.threads) moves) nobody steps refl refl
    (ap (λ g. kernel_of g s.waits) moves)
kept_move c s g' (act.Wait addr) threads is moves nobody steps = absurd moves
kept_move c s g' act.ThreadEnd threads is moves nobody steps = absurd moves
