-- Where each row may change memory.
use Rattle.std.proofs.Common.{◌≡◌, ℕ, zero, suc, ◌+◌, ◌-◌, ◌*◌, ◌≤◌, ◌==◌, Bool, true, false, cond, List, length}
use Rattle.std.proofs.Common.{◌%◌, not, take, Option, Some, None, refl, sym, ap, subst, arith, inl, inr}
use Rattle.std.proofs.lemmas.Bool.Decides.{nat_tests}
use Rattle.std.proofs.lemmas.List.{length-take}
use Rattle.std.specs.Prelude.{IfOk, nat_le, nat_lt, ◌&&◌}
use Rattle.event_costs.specs.declared.numbers.ThreadNo.{ThreadNo}
use Rattle.guest_mem.specs.Memory.{Memory, SameElsewhere, bytes_of, load_at, may, pages_mapped, protect_at, store_at}
use Rattle.guest_mem.specs.Memory.{unmap_at}
use Rattle.guest_mem.proofs.Accesses.{elsewhere-stored}
use Rattle.guest_mem.proofs.Laws.{elsewhere-protected, elsewhere-unmapped, elsewhere-zeroed}
use Rattle.guest_load.specs.Lawful.{IsLawful}
use Rattle.guest_load.specs.Guest.{Guest}
use Rattle.guest_futex.specs.declared.queue.Wait.{Wait}
use Rattle.guest_sys.specs.declared.caller.Caller.{Caller}
use Rattle.guest_sys.specs.declared.effect.Effect.{Effect}
use Rattle.guest_sys.specs.declared.futexes.Operation.{Operation}
use Rattle.guest_sys.specs.declared.futexes.Operation.TheVariants as operation
use Rattle.guest_sys.specs.declared.reach.Reach.{Reach}
use Rattle.guest_sys.specs.declared.table.Row.{Row}
use Rattle.guest_sys.specs.declared.table.Row.TheVariants as row
use Rattle.guest_sys.specs.Kernel.{Kernel}
use Rattle.guest_sys.specs.CallRow.{call_row, caller_of, row_does}
use Rattle.guest_sys.specs.Clock.{clock_gettime, getrandom, random_count, time_of}
use Rattle.guest_sys.specs.Common.{answers, argument, number, with_waits}
use Rattle.guest_sys.specs.Futexes.{operation_of, futex, performs, waits_on}
use Rattle.guest_sys.specs.Pages.{brk, grown_memory, least, lowest_free, maps, mmap, mprotect, munmap, page_end, pages_for}
use Rattle.guest_sys.specs.Pages.{is_range, mapped_at, too_many, with_memory}
use Rattle.guest_sys.specs.Reaching.{IsWithin, all_from, reach_of}
use Rattle.guest_sys.specs.Signals.{is_live, kill, signal_effect_where, tgkill, tkill}
use Rattle.guest_sys.specs.Streams.{consume_input, input_left, read, read_count, write}
use Rattle.guest_sys.specs.Table.{row_at}
use Rattle.guest_sys.proofs.PlaceLemmas.{fits}
use Rattle.guest_sys.specs.Threads.{exit, is_cleared}
use Rattle.guest_sys.specs.Vectors.{addresses_from, moved_addresses, vector_effect, iovec_count, writev}
use Rattle.guest_sys.proofs.KeptLemmas.{operation_effect, or_unsupported, row_is}
use Rattle.guest_sys.proofs.RowLemmas.{length-counting}
use Rattle.guest_sys.proofs.VectorLemmas.{and_left}
use Rattle.guest_sys.specs.inner.Bodies.{each_allowed}

-- ---- memories

stays : (r : Reach) (old new : Memory) → new ≡ old → IsWithin r old new
stays r old new is want other width some below apart = ap (λ (m : Memory). load_at m want other width) is

inside : (r : Reach) (old new : Memory) (a n : ℕ) → SameElsewhere old new a n → r.address ≤ a
    → a + n ≤ r.address + r.bytes → IsWithin r old new
inside r old new a n same low high want other width some below (inl before) =
    same want other width (inl (omega (arith, low, before)))
inside r old new a n same low high want other width some below (inr behind) =
    same want other width (inr (omega (arith, high, behind)))

-- no address lies behind all of them
beyond : (address : ℕ) (old new : Memory) (a n : ℕ) → SameElsewhere old new a n → address ≤ a
    → IsWithin (all_from address) old new
beyond address old new a n same low want other width some below (inl before) =
    same want other width (inl (omega (arith, low, before)))
beyond address old new a n same low want other width some below (inr behind) = absurd (omega (arith, below, behind))

anywhere : (old new : Memory) → IsWithin (all_from 0) old new
anywhere old new want other width some below (inl before) = absurd (omega (arith, some, before))
anywhere old new want other width some below (inr behind) = absurd (omega (arith, below, behind))

-- ---- rows of the guest alone

abbrev ReachesIn : Reach → Memory → Option (Effect × Guest) → Type 0
ReachesIn r old None = Unit {0}
ReachesIn r old (Some p) = IsWithin r old p.1.mem

record Reaches (r : Reach) (old : Memory) (row : Option (Effect × Guest)) : Type 0 where
  pub reaches : ReachesIn r old row

if_so : (r : Reach) (old : Memory) (b : Bool) (x y : Option (Effect × Guest)) → (b ≡ true → Reaches r old x)
    → Reaches r old y → Reaches r old (cond b x y)
if_so r old true x y p q = p refl
if_so r old false x y p q = q

either : (r : Reach) (old : Memory) (b : Bool) (x y : Option (Effect × Guest)) → Reaches r old x
    → Reaches r old y → Reaches r old (cond b x y)
either r old true x y p q = p
either r old false x y p q = q

none : (r : Reach) (old : Memory) → Reaches r old None
none r old = record { reaches = tt {0} }

same : (r : Reach) (g : Guest) (e : Effect) (now : Guest) → now.mem ≡ g.mem → Reaches r g.mem (Some (e, now))
same r g e now is = record { reaches = stays r g.mem now.mem is }

answered : (r : Reach) (g : Guest) (c : Caller) (value : ℕ) → Reaches r g.mem (answers g c value)
answered r g c value = same r g _ _ refl

-- the caller is answered, and memory changes
moved : (r : Reach) (g now : Guest) (c : Caller) (value : ℕ) → IsWithin r g.mem now.mem
    → Reaches r g.mem (answers now c value)
moved r g now c value h = record { reaches = h }

within_read : (g : Guest) (c : Caller) → Reaches (reach_of row.Read g c) g.mem (read g c)
unfolding read
within_read g c =
    let k = read_count g c in
    let bytes = take k (input_left g) in
    let now = store_at g.mem (argument 1 c) bytes in
    either _ _ (argument 0 c == 0) _ _
    (either _ _ (may g.mem 2 (argument 1 c) k) _ _
    (moved _ g (consume_input g k now) c k
    (inside (reach_of row.Read g c) g.mem now (argument 1 c) (length bytes)
    (elsewhere-stored g.mem now (argument 1 c) bytes refl) (omega arith)
    (omega (arith, length-take k (input_left g)))))
    (answered _ g c _))
    (answered _ g c _)

within_write : (r : Reach) (g : Guest) (c : Caller) → Reaches r g.mem (write g c)
unfolding write
within_write r g c = either _ _ _ _ _ (either _ _ _ _ _ (same r g _ _ refl) (answered r g c _)) (answered r g c _)

within_writev : (r : Reach) (g : Guest) (c : Caller) → Reaches r g.mem (writev g c)
unfolding writev
within_writev r g c = either _ _ _ _ _ (move _ _ _ (same r g _ _ refl)) (answered r g c _)
  where
    move : (limit want : ℕ) (x : Option (Effect × Guest)) → Reaches r g.mem x
        → Reaches r g.mem (vector_effect limit want g c x)
    move limit want x h =
        either _ _ (nat_lt 1024 (argument 2 c)) _ _ (answered r g c _)
        (either _ _ (may g.mem 1 (argument 1 c) (8 * iovec_count limit g c)) _ _
        (either _ _ (each_allowed g.mem want (moved_addresses limit g c)) _ _ h (answered r g c _))
        (answered r g c _))

within_brk : (g : Guest) (c : Caller) → IsLawful g → Reaches (reach_of row.Brk g c) g.mem (brk g c)
unfolding brk
within_brk g c lawful =
    let a = argument 0 c in
    if_so _ _ (nat_le g.first_break a && nat_le a 0x4000_0000) _ _
    (λ allowed.
    let above : g.first_break ≤ a = low a (and_left _ _ allowed) in
    either _ _ (nat_lt (page_end g.now_break) (page_end a)) _ _
    (either _ _ (too_many (grown_memory g a)) _ _ (answered _ g c _)
    (record {
      reaches = beyond g.first_break g.mem (grown_memory g a) (page_end g.now_break) (page_end a - page_end g.now_break)
          (elsewhere-zeroed g.mem (page_end g.now_break) (page_end a - page_end g.now_break) 3)
          (omega (arith, lawful.break_grown));
    }))
    (record {
      reaches = beyond g.first_break g.mem _ (page_end a) (page_end g.now_break - page_end a)
          (elsewhere-unmapped g.mem (page_end a) (page_end g.now_break - page_end a)) (omega (arith, above));
    }))
    (answered _ g c _)
  where
    low : (a : ℕ) → nat_le g.first_break a ≡ true → g.first_break ≤ a
    low a is = grind (arith, nat_tests)

within_munmap : (g : Guest) (c : Caller) → Reaches (reach_of row.Munmap g c) g.mem (munmap g c)
unfolding munmap
within_munmap g c =
    let now = unmap_at g.mem (argument 0 c) (page_end (argument 1 c)) in
    either _ _ (is_range (argument 0 c) (argument 1 c) && not (argument 1 c == 0)) _ _
    (moved _ g (with_memory g now) c 0
    (inside (reach_of row.Munmap g c) g.mem now (argument 0 c) (page_end (argument 1 c))
    (elsewhere-unmapped g.mem (argument 0 c) (page_end (argument 1 c))) (omega arith) (omega arith)))
    (answered _ g c _)

within_mprotect : (g : Guest) (c : Caller) → Reaches (reach_of row.Mprotect g c) g.mem (mprotect g c)
unfolding mprotect
within_mprotect g c =
    let now = protect_at g.mem (argument 0 c) (page_end (argument 1 c)) (argument 2 c % 8) in
    either _ _ (is_range (argument 0 c) (argument 1 c)) _ _
    (either _ _ (pages_mapped g.mem (argument 0 c) (pages_for (argument 1 c))) _ _
    (moved _ g (with_memory g now) c 0
    (inside (reach_of row.Mprotect g c) g.mem now (argument 0 c) (page_end (argument 1 c))
    (elsewhere-protected g.mem (argument 0 c) (page_end (argument 1 c)) (argument 2 c % 8)) (omega arith) (omega arith)))
    (answered _ g c _))
    (answered _ g c _)

-- what is found lies from the start on
least-from : (test : ℕ → Bool) (start n page : ℕ) → least test start n ≡ Some page → start ≤ page
unfolding least
least-from test start zero page is = cc
least-from test start (suc n) page is = by (test start) (least-from test (start + 1) n page) is
  where
    by : (b : Bool) → (least test (start + 1) n ≡ Some page → start + 1 ≤ page)
        → cond b (Some start) (least test (start + 1) n) ≡ Some page → start ≤ page
    by true later found = let at : start ≡ page = cc in omega (arith, at)
    by false later rest = omega (arith, later rest)

lowest-from : (m : Memory) (n page : ℕ) → lowest_free m n ≡ Some page → 0x40000 ≤ page
unfolding lowest_free
lowest-from m n page is = least-from (fits m n) 0x40000 0x3f000 page is

within_maps : (g : Guest) (c : Caller) (o : Option ℕ) → ((page : ℕ) → o ≡ Some page → 0x40000 ≤ page)
    → Reaches (all_from 0x4000_0000) g.mem (maps g c o)
within_maps g c None high = answered _ g c _
within_maps g c (Some page) high =
    let now = mapped_at g c page in
    either _ _ (too_many now) _ _ (answered _ g c _)
    (moved _ g (with_memory g now) c (page * 4096)
    (beyond 0x4000_0000 g.mem now (page * 4096) (page_end (argument 1 c))
    (elsewhere-zeroed g.mem (page * 4096) (page_end (argument 1 c)) (argument 2 c % 8))
    (omega (arith, high page refl))))

within_mmap : (g : Guest) (c : Caller) → Reaches (reach_of row.Mmap g c) g.mem (mmap g c)
unfolding mmap
within_mmap g c =
    either _ _ _ _ _
    (either _ _ _ _ _ (answered _ g c _)
    (within_maps g c (lowest_free g.mem (pages_for (argument 1 c))) (lowest-from g.mem (pages_for (argument 1 c)))))
    (none _ _)

within_clock : (g : Guest) (c : Caller) → Reaches (reach_of row.ClockGettime g c) g.mem (clock_gettime g c)
unfolding clock_gettime
within_clock g c =
    let now = store_at g.mem (argument 1 c) (time_of g.steps) in
    either _ _ (may g.mem 2 (argument 1 c) 16) _ _
    (moved _ g (with_memory g now) c 0
    (inside (reach_of row.ClockGettime g c) g.mem now (argument 1 c) 16
    (elsewhere-stored g.mem now (argument 1 c) (time_of g.steps) refl) (omega arith) (omega arith)))
    (answered _ g c _)

within_random : (g : Guest) (c : Caller) → Reaches (reach_of row.Getrandom g c) g.mem (getrandom g c)
unfolding getrandom
within_random g c =
    let k = random_count c in
    let bytes = addresses_from 0 k in
    let now = store_at g.mem (argument 0 c) bytes in
    either _ _ (may g.mem 2 (argument 0 c) k) _ _
    (moved _ g (with_memory g now) c k
    (inside (reach_of row.Getrandom g c) g.mem now (argument 0 c) (length bytes)
    (elsewhere-stored g.mem now (argument 0 c) bytes refl) (omega arith)
    (omega (arith, length-counting 0 k))))
    (answered _ g c _)

within_signal : (r : Reach) (b : Bool) (g : Guest) (c : Caller) (signal : ℕ)
    → Reaches r g.mem (signal_effect_where b g c signal)
within_signal r b g c signal =
    either _ _ b _ _
    (either _ _ (signal == 0) _ _ (answered r g c _)
    (either _ _ (nat_le signal 64) _ _ (same r g _ _ refl) (answered r g c _)))
    (none r g.mem)

within_kill : (r : Reach) (g : Guest) (c : Caller) → Reaches r g.mem (kill g c)
unfolding kill
within_kill r g c = within_signal r (nat_le (argument 0 c) 1) g c (argument 1 c)

within_tkill : (r : Reach) (g : Guest) (c : Caller) → Reaches r g.mem (tkill g c)
unfolding tkill
within_tkill r g c = within_signal r (is_live g (argument 0 c)) g c (argument 1 c)

within_tgkill : (r : Reach) (g : Guest) (c : Caller) → Reaches r g.mem (tgkill g c)
unfolding tgkill
within_tgkill r g c = within_signal r ((argument 0 c == 1) && is_live g (argument 1 c)) g c (argument 2 c)

-- ---- rows of the whole kernel

abbrev RowIn : Reach → Memory → Option (Effect × Kernel) → Type 0
RowIn r old None = Unit {0}
RowIn r old (Some p) = IsWithin r old p.1.guest.mem

record RowReaches (r : Reach) (old : Memory) (row : Option (Effect × Kernel)) : Type 0 where
  pub reaches : RowIn r old row

of_guest : (r : Reach) (old : Memory) (waits : List Wait) (x : Option (Effect × Guest)) → Reaches r old x
    → RowReaches r old (with_waits waits x)
of_guest r old waits None h = record { reaches = tt {0} }
of_guest r old waits (Some p) h = record { reaches = h.reaches }

either_row : (r : Reach) (old : Memory) (b : Bool) (x y : Option (Effect × Kernel)) → RowReaches r old x
    → RowReaches r old y → RowReaches r old (cond b x y)
either_row r old true x y p q = p
either_row r old false x y p q = q

any_row : (old : Memory) (x : Option (Effect × Kernel)) → RowReaches (all_from 0) old x
any_row old None = record { reaches = tt {0} }
any_row old (Some p) = record { reaches = anywhere old p.1.guest.mem }

unchanged : (r : Reach) (s : Kernel) (e : Effect) (now : Kernel) → now.guest.mem ≡ s.guest.mem
    → RowReaches r s.guest.mem (Some (e, now))
unchanged r s e now is = record { reaches = stays r s.guest.mem now.guest.mem is }

within_exit : (s : Kernel) (c : Caller) → RowReaches (reach_of row.Exit s.guest c) s.guest.mem (exit s c)
unfolding exit
within_exit s c =
    either_row _ _ (is_cleared s.guest.mem c.thread.clear) _ _
    (record {
      reaches = inside (reach_of row.Exit s.guest c) s.guest.mem _ c.thread.clear 4
          (elsewhere-stored s.guest.mem _ c.thread.clear (bytes_of 4 0) refl) (omega arith) (omega arith);
    })
    (unchanged _ s _ _ refl)

within_futex : (r : Reach) (s : Kernel) (c : Caller) → RowReaches r s.guest.mem (futex s c)
unfolding futex
within_futex r s c = perform (operation_of c)
  where
    refused : (value : ℕ) → RowReaches r s.guest.mem (with_waits s.waits (answers s.guest c value))
    refused value = of_guest r s.guest.mem s.waits _ (answered r s.guest c value)

    wait : (o : Option ℕ) → RowReaches r s.guest.mem (waits_on s c o)
    wait None = refused _
    wait (Some word) = either_row _ _ (word == argument 2 c) _ _ (unchanged r s _ _ refl) (refused _)

    one : (op : Operation) → RowReaches r s.guest.mem (performs op s c)
    one operation.Wait = wait _
    one operation.Wake = unchanged r s _ _ refl
    one operation.Requeue = unchanged r s _ _ refl

    perform : (o : Option Operation) → RowReaches r s.guest.mem (operation_effect o s c)
    perform None = record { reaches = tt {0} }
    perform (Some op) = either_row _ _ _ _ _ (one op) (refused _)

-- ---- every row

guest : (r : Reach) (s : Kernel) (x : Option (Effect × Guest)) → Reaches r s.guest.mem x
    → RowReaches r s.guest.mem (with_waits s.waits x)
guest r s x h = of_guest r s.guest.mem s.waits x h

reaches_row : (r : Row) (s : Kernel) (c : Caller) → IsLawful s.guest
    → RowReaches (reach_of r s.guest c) s.guest.mem (row_does r s c)
reaches_row row.Ioctl s c lawful = guest _ s _ (answered _ s.guest c _)
reaches_row row.Absent s c lawful = guest _ s _ (answered _ s.guest c _)
reaches_row row.Close s c lawful = guest _ s _ (answered _ s.guest c _)
reaches_row row.Llseek s c lawful = guest _ s _ (answered _ s.guest c _)
reaches_row row.Read s c lawful = guest _ s _ (within_read s.guest c)
reaches_row row.Write s c lawful = guest _ s _ (within_write _ s.guest c)
reaches_row row.Readv s c lawful = any_row s.guest.mem _
reaches_row row.Writev s c lawful = guest _ s _ (within_writev _ s.guest c)
reaches_row row.Exit s c lawful = within_exit s c
reaches_row row.ExitGroup s c lawful = guest _ s _ (same _ s.guest _ _ refl)
reaches_row row.SetTidAddress s c lawful = guest _ s _ (same _ s.guest _ _ refl)
reaches_row row.Futex s c lawful = within_futex _ s c
reaches_row row.Accepted s c lawful = guest _ s _ (answered _ s.guest c _)
reaches_row row.SchedYield s c lawful = guest _ s _ (same _ s.guest _ _ refl)
reaches_row row.Kill s c lawful = guest _ s _ (within_kill _ s.guest c)
reaches_row row.Tkill s c lawful = guest _ s _ (within_tkill _ s.guest c)
reaches_row row.Tgkill s c lawful = guest _ s _ (within_tgkill _ s.guest c)
reaches_row row.Process s c lawful = guest _ s _ (answered _ s.guest c _)
reaches_row row.ThreadNumber s c lawful = guest _ s _ (answered _ s.guest c _)
reaches_row row.Brk s c lawful = guest _ s _ (within_brk s.guest c lawful)
reaches_row row.Munmap s c lawful = guest _ s _ (within_munmap s.guest c)
reaches_row row.Mremap s c lawful = guest _ s _ (answered _ s.guest c _)
reaches_row row.Clone s c lawful = any_row s.guest.mem _
reaches_row row.Mmap s c lawful = guest _ s _ (within_mmap s.guest c)
reaches_row row.Mprotect s c lawful = guest _ s _ (within_mprotect s.guest c)
reaches_row row.Getrandom s c lawful = guest _ s _ (within_random s.guest c)
reaches_row row.ClockGettime s c lawful = guest _ s _ (within_clock s.guest c)
reaches_row row.Clone3 s c lawful = guest _ s _ (answered _ s.guest c _)

-- ---- a call

call_within : (reach : Reach) (s : Kernel) (thread : ThreadNo) (c : Caller) (o : Option (Effect × Kernel))
    → call_row s thread ≡ or_unsupported (number c) o → RowReaches reach s.guest.mem o
    → IfOk (call_row s thread) (λ done. IsWithin reach s.guest.mem done.1.guest.mem)
call_within reach s thread c None is h =
    subst (λ x. IfOk x (λ done. IsWithin reach s.guest.mem done.1.guest.mem)) (sym is) (tt {0})
call_within reach s thread c (Some p) is h =
    subst (λ x. IfOk x (λ done. IsWithin reach s.guest.mem done.1.guest.mem)) (sym is) h.reaches

pub reaches_call : (r : Row) (s : Kernel) (thread : ThreadNo) (c : Caller) → IsLawful s.guest
    → caller_of thread s.guest.threads ≡ Some c → row_at (number c) ≡ Some r
    → IfOk (call_row s thread) (λ done. IsWithin (reach_of r s.guest c) s.guest.mem done.1.guest.mem)
reaches_call r s thread c lawful found at =
    call_within (reach_of r s.guest c) s thread c (row_does r s c) (row_is s thread c (Some r) found at)
    (reaches_row r s c lawful)

pub reaches_nowhere : (reach : Reach) (s : Kernel) (thread : ThreadNo) (c : Caller)
    → caller_of thread s.guest.threads ≡ Some c → row_at (number c) ≡ None
    → IfOk (call_row s thread) (λ done. IsWithin reach s.guest.mem done.1.guest.mem)
reaches_nowhere reach s thread c found at =
    call_within reach s thread c None (row_is s thread c None found at) (record { reaches = tt {0} })
