-- The live threads after a step: the one that stepped, those that were there, and one that was made.
use Rattle.std.proofs.Common.{◌≡◌, ◌≢◌, ℕ, zero, suc, ◌+◌, ◌%◌, ◌^◌, ◌≤◌, ◌⊎◌, Bool, true, false, List, [], ◌∷◌, ◌++◌}
use Rattle.std.proofs.Common.{length, map, Some, None, refl, sym, ◌∙◌, ap, subst, inl, inr, arith, slice_index}
use Rattle.std.proofs.Math.ListN.{set}
use Rattle.std.specs.List.{All, remove, slice_get}
use Rattle.std.specs.List.Sorted.{IsStrictlyIncreasing}
use Rattle.event_costs.specs.declared.numbers.ThreadNo.{ThreadNo}
use Rattle.rv_step.specs.Forms as forms
use Rattle.rv_step.specs.Forms.{following}
use Rattle.guest_load.specs.declared.thread.Thread.{Thread}
use Rattle.guest_load.specs.Guest.{Guest}
use Rattle.guest_load.specs.Lawful.{IsLawful, IsThread}
use Rattle.guest_sys.specs.declared.caller.Caller.{Caller}
use Rattle.guest_sys.specs.declared.effect.Act.{Act}
use Rattle.guest_sys.specs.declared.effect.Act.TheVariants as act
use Rattle.guest_sys.specs.Common.{IsCaller, resume, with_caller}
use Rattle.guest_sys.specs.Threads.{new_thread, without_caller}
use Rattle.guest_sys.proofs.GuestLemmas.{caller_lawful, lawful_added, lawful_with_caller, lawful_without, resumed_lawful}
use Rattle.guest_sys.proofs.ShapeLemmas.{Drops, Goes, HasShape, Makes}
use Rattle.guest_sched.specs.Step.{ends_thread, guest_after, exit_of, signal_of, with_regs}
use Rattle.guest_sched.proofs.EngineLemmas.{number_there, place_unique}
use Rattle.guest_sched.proofs.ExecuteLemmas.{lawful_executed}
use Rattle.guest_sched.proofs.PlaceLemmas.{thread_number}

same_some : {X : Type 0} (x y : X) → Some x ≡ Some y → x ≡ y
same_some x y e = cc

-- ---- what stands where

set_get : (ts : List Thread) (i : ℕ) (new : Thread) (j : ℕ) (t : Thread) → slice_get (set ts i new) j ≡ Some t
    → (new ≡ t) ⊎ ((slice_get ts j ≡ Some t) × (j ≢ i))
set_get [] i new j t is = cc
set_get (u ∷ us) zero new zero t is = inl (same_some new t is)
set_get (u ∷ us) zero new (suc j) t is = inr (is, λ e. absurd (omega (arith, e)))
set_get (u ∷ us) (suc i) new zero t is = inr (is, λ e. absurd (omega (arith, e)))
set_get (u ∷ us) (suc i) new (suc j) t is = by (set_get us i new j t is)
  where
    by : (new ≡ t) ⊎ ((slice_get us j ≡ Some t) × (j ≢ i))
        → (new ≡ t) ⊎ ((slice_get (u ∷ us) (suc j) ≡ Some t) × (suc j ≢ suc i))
    by (inl same) = inl same
    by (inr p) = inr (p.0, λ e. p.1 (omega (arith, e)))

remove_get : (ts : List Thread) (i j : ℕ) (t : Thread) → slice_get (remove ts i) j ≡ Some t
    → (k : ℕ) × (slice_get ts k ≡ Some t) × (k ≢ i)
remove_get [] i j t is = absurd (nothing i is)
  where
    nothing : (n : ℕ) → slice_get (remove [] n) j ≡ Some t → ⊥
    nothing zero e = cc
    nothing (suc n) e = cc
remove_get (u ∷ us) zero j t is = (suc j, is, λ e. absurd (omega (arith, e)))
remove_get (u ∷ us) (suc i) zero t is = (zero, is, λ e. absurd (omega (arith, e)))
remove_get (u ∷ us) (suc i) (suc j) t is =
    let rest = remove_get us i j t is in
    (suc rest.0, rest.1, λ e. rest.2 (omega (arith, e)))

append_get : (ts : List Thread) (new : Thread) (j : ℕ) (t : Thread) → slice_get (ts ++ new ∷ []) j ≡ Some t
    → (slice_get ts j ≡ Some t) ⊎ (new ≡ t)
append_get [] new zero t is = inr (same_some new t is)
append_get [] new (suc j) t is = cc
append_get (u ∷ us) new zero t is = inl is
append_get (u ∷ us) new (suc j) t is = append_get us new j t is

get_append : (ts more : List Thread) (i : ℕ) (t : Thread) → slice_get ts i ≡ Some t → slice_get (ts ++ more) i ≡ Some t
get_append [] more i t is = cc
get_append (u ∷ us) more zero t is = is
get_append (u ∷ us) more (suc i) t is = get_append us more i t is

-- ---- what holds of the threads alone

abbrev pub bare : Guest → Guest
bare g = record g { first_break = 0; now_break = 0; input = []; place = 0 }

pub bare_lawful : (g : Guest) → IsLawful g → IsLawful (bare g)
bare_lawful g h = record {
  read_within = omega arith;
  made_few = h.made_few;
  few_live = h.few_live;
  rising = h.rising;
  each_thread = h.each_thread;
  break_grown = omega arith;
  break_low = omega arith;
}

pub same_threads : (g h : Guest) → IsLawful (bare h) → g.threads ≡ h.threads → g.made ≡ h.made → IsLawful (bare g)
same_threads g h lawful threads made = record {
  read_within = omega arith;
  made_few = omega (arith, lawful.made_few, made);
  few_live = subst (λ (ts : List Thread). length ts ≤ 1024) (sym threads) lawful.few_live;
  rising = subst (λ (ts : List Thread). IsStrictlyIncreasing (map thread_number ts)) (sym threads) lawful.rising;
  each_thread =
      subst (λ n. All (IsThread n) g.threads) (sym made)
      (subst (λ (ts : List Thread). All (IsThread h.made) ts) (sym threads) lawful.each_thread);
  break_grown = omega arith;
  break_low = omega arith;
}

pub numbers_differ : (g : Guest) (i j : ℕ) (a b : Thread) → IsLawful (bare g) → slice_get g.threads i ≡ Some a
    → slice_get g.threads j ≡ Some b → i ≢ j → a.no.0 ≢ b.no.0
numbers_differ g i j a b lawful at_i at_j differ same =
    differ
    (place_unique g.threads i j b.no.0 lawful.rising (number_there g.threads i a at_i ∙ ap (λ n. Some n) same)
    (number_there g.threads j b at_j))

-- ---- after a step

-- a thread that is live then
abbrev pub IsLeft : Caller → Guest → Guest → Bool → ℕ → Thread → Type 0
IsLeft c g g' ends next t =
    ((t.no.0 ≡ c.thread.no.0) × (t.regs.pc ≡ next) × (ends ≡ false))
    ⊎ ((t.no.0 ≡ g.made + 1) × (g'.made ≡ g.made + 1) × (t.regs.pc ≡ next))
    ⊎ ((k : ℕ) × (slice_get g.threads k ≡ Some t) × (k ≢ c.place))

pub record After (c : Caller) (g g' : Guest) (ends : Bool) (next : ℕ) : Type 0 where
  pub lawful : IsLawful (bare g')
  pub threads : (j : ℕ) (t : Thread) → slice_get g'.threads j ≡ Some t → IsLeft c g g' ends next t

goes_left : (c : Caller) (g g' : Guest) (goes : Goes c g g') (j : ℕ) (t : Thread)
    → (goes.thread ≡ t) ⊎ ((slice_get g.threads j ≡ Some t) × (j ≢ c.place))
    → IsLeft c g g' false (following c.thread.regs) t
goes_left c g g' goes j t (inl same) =
    inl (sym (ap thread_number same) ∙ goes.number, sym (ap (λ (u : Thread). u.regs.pc) same) ∙ goes.pc, refl)
goes_left c g g' goes j t (inr p) = inr (inr (j, p.0, p.1))

next_aligned : (pc : ℕ) → pc % 4 ≡ 0 → (pc + 4) % 2 ^ 32 % 4 ≡ 0
next_aligned pc h = omega arith

pub after_goes : (c : Caller) (g g' : Guest) → IsLawful (bare g) → IsCaller g c → Goes c g g'
    → After c g g' false (following c.thread.regs)
after_goes c g g' lawful is goes =
    let before = caller_lawful (bare g) c lawful is in
    let thread : IsThread g.made goes.thread = record {
      numbered = omega (arith, before.numbered, goes.number);
      given = omega (arith, before.given, goes.number);
      aligned = ap (λ n. n % 4) goes.pc ∙ next_aligned c.thread.regs.pc before.aligned;
      zero = goes.zero ∙ before.zero;
    } in
    let whole = lawful_with_caller (bare g) c goes.thread lawful is goes.number thread in
    record {
      lawful = same_threads g' (with_caller (bare g) c goes.thread) (bare_lawful _ whole) goes.threads goes.made;
      threads =
          λ j t at. goes_left c g g' goes j t
          (set_get g.threads c.place goes.thread j t
          (ap (λ (ts : List Thread). slice_get ts j) (sym goes.threads) ∙ at));
    }

pub after_drops : (c : Caller) (g g' : Guest) (next : ℕ) → IsLawful (bare g) → IsCaller g c → Drops c g g'
    → After c g g' true next
after_drops c g g' next lawful is drops =
    let whole = lawful_without (bare g) c g.mem lawful is in
    record {
      lawful = same_threads g' (without_caller (bare g) c g.mem) (bare_lawful _ whole) drops.threads drops.made;
      threads =
          λ j t at. inr
          (inr (remove_get g.threads c.place j t (ap (λ (ts : List Thread). slice_get ts j) (sym drops.threads) ∙ at)));
    }

made_left : (c : Caller) (g g' : Guest) (j : ℕ) (t : Thread) → g'.made ≡ g.made + 1
    → (slice_get (g.threads ++ new_thread (g.made + 1) c ∷ []) j ≡ Some t) × (j ≢ c.place)
    → (slice_get g.threads j ≡ Some t) ⊎ (new_thread (g.made + 1) c ≡ t)
    → IsLeft c g g' false (following c.thread.regs) t
made_left c g g' j t more p (inl at) = inr (inr (j, at, p.1))
made_left c g g' j t more p (inr same) =
    inr (inl (sym (ap thread_number same), more, sym (ap (λ (u : Thread). u.regs.pc) same)))

makes_left : (c : Caller) (g g' : Guest) (j : ℕ) (t : Thread) → g'.made ≡ g.made + 1
    → (resume c.thread (g.made + 1) ≡ t)
    ⊎ ((slice_get (g.threads ++ new_thread (g.made + 1) c ∷ []) j ≡ Some t) × (j ≢ c.place))
    → IsLeft c g g' false (following c.thread.regs) t
makes_left c g g' j t more (inl same) =
    inl (sym (ap thread_number same), sym (ap (λ (u : Thread). u.regs.pc) same), refl)
makes_left c g g' j t more (inr p) =
    made_left c g g' j t more p (append_get g.threads (new_thread (g.made + 1) c) j t p.0)

pub after_makes : (c : Caller) (g g' : Guest) (other : ThreadNo) → IsLawful (bare g) → IsCaller g c → Makes c g other g'
    → After c g g' false (following c.thread.regs)
after_makes c g g' other lawful is makes =
    let value = g.made + 1 in
    let added : Guest = record (bare g) { threads = g.threads ++ new_thread value c ∷ []; made = value } in
    let lawful_added_now : IsLawful added = lawful_added (bare g) c value g.mem lawful is refl makes.room in
    let there : IsCaller added c = get_append g.threads (new_thread value c ∷ []) c.place c.thread is in
    let whole = lawful_with_caller added c (resume c.thread value) lawful_added_now there refl
    (resumed_lawful value value c.thread (caller_lawful added c lawful_added_now there)) in
    record {
      lawful =
          same_threads g' (with_caller added c (resume c.thread value)) (bare_lawful _ whole) makes.threads makes.made;
      threads = λ j t at. makes_left c g g' j t makes.made
          (set_get (g.threads ++ new_thread value c ∷ []) c.place (resume c.thread value) j t
          (ap (λ (ts : List Thread). slice_get ts j) (sym makes.threads) ∙ at));
    }

-- after a call that doesn't end the process
pub after_call : (c : Caller) (g g' : Guest) (a : Act) (woken : List ThreadNo) → IsLawful (bare g) → IsCaller g c
    → HasShape c g a woken g' → exit_of a ≡ None → signal_of a ≡ None
    → After c g g' (ends_thread a) (following c.thread.regs)
after_call c g g' act.Answer woken lawful is shape stays alive = after_goes c g g' lawful is shape
after_call c g g' (act.Wait addr) woken lawful is shape stays alive = after_goes c g g' lawful is shape.0
after_call c g g' act.Yield woken lawful is shape stays alive = after_goes c g g' lawful is shape
after_call c g g' (act.Output fd bytes) woken lawful is shape stays alive = after_goes c g g' lawful is shape
after_call c g g' (act.Spawn other) woken lawful is shape stays alive = after_makes c g g' other lawful is shape
after_call c g g' act.ThreadEnd woken lawful is shape stays alive =
    after_drops c g g' (following c.thread.regs) lawful is shape
after_call c g g' (act.ProcessEnd code) woken lawful is shape stays alive = cc
after_call c g g' (act.Killed signal) woken lawful is shape stays alive = cc

-- one thread more has been made, or none
pub made_by : (c : Caller) (g g' : Guest) (a : Act) (woken : List ThreadNo) → HasShape c g a woken g'
    → signal_of a ≡ None → (g.made ≤ g'.made) × (g'.made ≤ g.made + 1)
made_by c g g' act.Answer woken shape alive = (omega (arith, shape.made), omega (arith, shape.made))
made_by c g g' (act.Wait addr) woken shape alive = (omega (arith, shape.0.made), omega (arith, shape.0.made))
made_by c g g' act.Yield woken shape alive = (omega (arith, shape.made), omega (arith, shape.made))
made_by c g g' (act.Output fd bytes) woken shape alive = (omega (arith, shape.made), omega (arith, shape.made))
made_by c g g' (act.Spawn other) woken shape alive = (omega (arith, shape.made), omega (arith, shape.made))
made_by c g g' act.ThreadEnd woken shape alive = (omega (arith, shape.made), omega (arith, shape.made))
made_by c g g' (act.ProcessEnd code) woken shape alive = (omega (arith, shape), omega (arith, shape))
made_by c g g' (act.Killed signal) woken shape alive = cc

-- ---- after an instruction

pub after_instruction : (c : Caller) (g : Guest) (after : forms.HartState) → IsLawful (bare g) → IsCaller g c
    → after.regs.pc % 4 ≡ 0 → slice_index after.regs.x 0 ≡ 0 → After c g (guest_after g c after) false after.regs.pc
after_instruction c g after lawful is aligned null =
    let whole = lawful_executed (bare g) c after.regs after.memory (g.steps + 1) lawful is aligned null in
    record {
      lawful = bare_lawful _ whole;
      threads = λ j t at. by j t (set_get g.threads c.place (with_regs c.thread after.regs) j t at);
    }
  where
    by : (j : ℕ) (t : Thread) → (with_regs c.thread after.regs ≡ t) ⊎ ((slice_get g.threads j ≡ Some t) × (j ≢ c.place))
        → IsLeft c g (guest_after g c after) false after.regs.pc t
    by j t (inl same) = inl (sym (ap thread_number same), sym (ap (λ (u : Thread). u.regs.pc) same), refl)
    by j t (inr p) = inr (inr (j, p.0, p.1))
