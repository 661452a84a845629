-- How often each thread lives, with a thread written, added or removed, and what a row keeps.
use Rattle.std.proofs.Common.{◌≡◌, ℕ, zero, suc, ◌+◌, ◌==◌, cond, List, [], ◌∷◌, ◌++◌}
use Rattle.std.proofs.Common.{Some, refl, sym, ◌∙◌, ap, arith}
use Rattle.std.proofs.Math.ListN.{set}
use Rattle.std.proofs.lemmas.List.Sums.{sum_by-cons, sum_by-append}
use Rattle.std.specs.List.{slice_get, remove}
use Rattle.event_costs.specs.declared.numbers.ThreadNo.{ThreadNo}
use Rattle.guest_load.specs.declared.thread.Thread.{Thread}
use Rattle.guest_sys.specs.declared.effect.Effect.{Effect}
use Rattle.guest_sys.specs.Kernel.{Kernel, times_live}
use Rattle.guest_sys.specs.Laws.{times_in, IsBalanced, ChangesNothing}

-- ---- a thread among the live ones

abbrev pub one : ThreadNo → ThreadNo → ℕ
one thread other = cond (other.0 == thread.0) 1 0

pub times_live-cons : (thread : ThreadNo) (t : Thread) (ts : List Thread)
    → times_live thread (t ∷ ts) ≡ one thread t.no + times_live thread ts
times_live-cons thread t ts = sum_by-cons (λ (s : Thread). cond (s.no.0 == thread.0) 1 0) t ts

pub times_live-append : (thread : ThreadNo) (ts us : List Thread)
    → times_live thread (ts ++ us) ≡ times_live thread ts + times_live thread us
times_live-append thread ts us = sum_by-append (λ (s : Thread). cond (s.no.0 == thread.0) 1 0) ts us

pub times_in-one : (thread other : ThreadNo) → times_in thread (other ∷ []) ≡ one thread other
times_in-one thread other = omega (arith, sum_by-cons (λ (s : ThreadNo). cond (s.0 == thread.0) 1 0) other [])

same_some : {X : Type 0} (x y : X) → Some x ≡ Some y → x ≡ y
same_some x y e = cc

pub times_live-set : (thread : ThreadNo) (ts : List Thread) (i : ℕ) (old new : Thread) → slice_get ts i ≡ Some old
    → new.no.0 ≡ old.no.0 → times_live thread (set ts i new) ≡ times_live thread ts
times_live-set thread [] i old new is same = refl
times_live-set thread (t ∷ ts) zero old new is same =
    let now : t ≡ old = same_some t old is in
    let equal : one thread new.no ≡ one thread t.no
    = ap (λ n. cond (n == thread.0) 1 0) (same ∙ ap (λ (u : Thread). u.no.0) (sym now)) in
    omega (arith, times_live-cons thread t ts, times_live-cons thread new ts, equal)
times_live-set thread (t ∷ ts) (suc i) old new is same =
    omega (
      arith,
      times_live-cons thread t ts,
      times_live-cons thread t (set ts i new),
      times_live-set thread ts i old new is same,
    )

pub times_live-remove : (thread : ThreadNo) (ts : List Thread) (i : ℕ) (old : Thread) → slice_get ts i ≡ Some old
    → times_live thread (remove ts i) + one thread old.no ≡ times_live thread ts
times_live-remove thread [] i old is = cc
times_live-remove thread (t ∷ ts) zero old is =
    let now : one thread t.no ≡ one thread old.no = ap (λ (u : Thread). one thread u.no) (same_some t old is) in
    omega (arith, times_live-cons thread t ts, now)
times_live-remove thread (t ∷ ts) (suc i) old is =
    omega (
      arith,
      times_live-cons thread t ts,
      times_live-cons thread t (remove ts i),
      times_live-remove thread ts i old is,
    )

-- ---- rows

-- what a row keeps, whatever it does
pub record IsKept (caller : ThreadNo) (old : Kernel) (effect : Effect) (new : Kernel) : Type 0 where
  pub balanced : IsBalanced caller old effect new
  pub killed : ChangesNothing effect.act old new
