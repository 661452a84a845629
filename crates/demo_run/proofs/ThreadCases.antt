-- The steps in which a thread begins or ends.
use Rattle.std.proofs.Common.{◌≡◌, ◌≢◌, ℕ, zero, suc, ◌+◌, ◌<◌, ◌≤◌, ◌⊎◌, true, List, [], ◌∷◌, ◌++◌, length, get_or}
use Rattle.std.proofs.Common.{refl, sym, ap, ◌∙◌, arith, subst}
use Rattle.std.proofs.Common.{Some, inl, inr, length-set}
use Rattle.std.specs.Prelude.{slice_set, remove, ◌==◌}
use Rattle.std.proofs.lemmas.Bool.{cases_Bool, eqb-true, eqb-false}
use Rattle.std.proofs.lemmas.List.{get_or-set_same, get_or-set_other}
use Rattle.guest_mem.specs.Memory.{Memory, load_at, may, store_at, bytes_of}
use Rattle.guest_load.specs.declared.thread.Thread.{Thread}
use Rattle.guest_futex.specs.Waits.{woken_at, without_woken}
use Rattle.guest_sys.specs.declared.caller.Caller.{Caller}
use Rattle.guest_sys.specs.declared.effect.Act.TheVariants as act
use Rattle.guest_sched.specs.declared.turns.Fate.TheVariants as fate
use Rattle.guest_sched.specs.Engine.{Engine}
use Rattle.demo_run.proofs.MemoryLemmas.{load-apart, load-back}
use Rattle.demo_run.proofs.Amid.{Keeps}
use Rattle.demo_run.proofs.WillLemmas.{keeps-store}
use Rattle.demo_run.proofs.Places.{ending, word_of}
use Rattle.demo_run.proofs.SystemCalls.{IsCalling, after_exit, caller}
use Rattle.demo_run.proofs.SystemLemmas as call
use Rattle.demo_run.proofs.Ways.{AreGiven, AreOnWays, AreOthers, IsOnWay, IsRunning, IsUnderWay, LeadsTo, Stop}
use Rattle.demo_run.proofs.Ways.{clear_of, own_base, own_len, stop_addr}
use Rattle.demo_run.proofs.StepLemmas.{still_on}
use Rattle.demo_run.proofs.StackLemmas.{apart, word_may}
use Rattle.demo_run.proofs.CaseLemmas.{called_leads, calling, ends_call, on_stop}

-- ---- a word is stored by a call

pub each_way_kept : (size : ℕ) (m after : Memory)
    → ((way : Stop × ℕ) (t : Thread) → IsOnWay size m way t → IsOnWay size after way t)
    → (ways : List (Stop × ℕ)) (ts : List Thread) → AreOnWays size m ways ts → AreOnWays size after ways ts
each_way_kept size m after keeps [] [] all = tt
each_way_kept size m after keeps [] (t ∷ ts) all = all
each_way_kept size m after keeps (way ∷ ways) [] all = all
each_way_kept size m after keeps (way ∷ ways) (t ∷ ts) all =
    (keeps way t all.0, all.1, each_way_kept size m after keeps ways ts all.2)

module _ (size k v : ℕ) (m : Memory) (lt : k < 3) (ok : may m 2 (word_of (k + 1)) 4 ≡ true) where
  abbrev pub after : Memory
  after = store_at m (word_of (k + 1)) (bytes_of 4 v)

  stored_keeps : Keeps size 0x21000 16 m after
  stored_keeps = keeps-store size 0x21000 16 m (word_of (k + 1)) v (omega arith) (inl (omega arith, omega arith)) ok

  pub stored_way : (way : Stop × ℕ) (t : Thread) → IsOnWay size m way t → IsOnWay size after way t
  stored_way way t is =
      still_on size m after way t is
      (stored_keeps (own_base t.no.0) (own_len t.no.0) is.slots
      (apart 0 t.no.0 (omega arith) is.few (omega arith)) is.held)

  -- the other words are as they were
  pub stored_other : (j u : ℕ) → j ≢ k → load_at m 1 (word_of (j + 1)) 4 ≡ Some u → load_at after 1 (word_of (j + 1)) 4
      ≡ Some u
  stored_other j u other is = load-apart m (word_of (k + 1)) v 1 (word_of (j + 1)) away ∙ is
    where
      away : (word_of (j + 1) + 4 ≤ word_of (k + 1)) ⊎ (word_of (k + 1) + 4 ≤ word_of (j + 1))
      away = grind arith

-- ---- one thread less

others_removed : (n place : ℕ) (ts : List Thread) → AreOthers n ts → AreOthers n (remove ts place)
others_removed n zero [] others = tt
others_removed n (suc place) [] others = tt
others_removed n zero (t ∷ ts) others = others.1
others_removed n (suc place) (t ∷ ts) others = (others.0, others_removed n place ts others.1)

given_removed : (made place : ℕ) (ts : List Thread) → AreGiven made ts → AreGiven made (remove ts place)
given_removed made zero [] given = tt
given_removed made (suc place) [] given = tt
given_removed made zero (t ∷ ts) given = given.1
given_removed made (suc place) (t ∷ ts) given = (given.0, given_removed made place ts given.1)

ways_removed : (size : ℕ) (m : Memory) (ways : List (Stop × ℕ)) (ts : List Thread) (place : ℕ)
    → AreOnWays size m ways ts
    → AreOnWays size m (remove ways place) (remove ts place)
ways_removed size m [] [] zero all = tt
ways_removed size m [] [] (suc place) all = tt
ways_removed size m [] (t ∷ ts) place all = absurd all
ways_removed size m (way ∷ ways) [] place all = absurd all
ways_removed size m (way ∷ ways) (t ∷ ts) zero all = all.2
ways_removed size m (way ∷ ways) (t ∷ ts) (suc place) all =
    (all.0, others_removed t.no.0 place ts all.1, ways_removed size m ways ts place all.2)

pub same_length : (size : ℕ) (m : Memory) (ways : List (Stop × ℕ)) (ts : List Thread) → AreOnWays size m ways ts
    → length ts ≡ length ways
same_length size m [] [] all = refl
same_length size m [] (t ∷ ts) all = absurd all
same_length size m (way ∷ ways) [] all = absurd all
same_length size m (way ∷ ways) (t ∷ ts) all = ap suc (same_length size m ways ts all.2)

module _ (size : ℕ) (ways : List (Stop × ℕ)) (words : List ℕ) (w : Engine) (c : Caller)
    (is : IsUnderWay size ways words w) (running : IsRunning w c) where
  abbrev m : Memory
  m = w.kernel.guest.mem

  pub ended : (t : ℕ) → t < length words → 2 ≤ length ways
      → get_or ways c.place (Stop.ends t, 0) ≡ (Stop.ends t, 0)
      → LeadsTo size (remove ways c.place) (slice_set words t 0) fate.Leaves
      (woken_at (word_of (t + 1)) 1 w.kernel.waits ++ [])
      (without_woken (word_of (t + 1)) 1 w.kernel.waits) w
  ended t made more here =
      let three = is.few in
      let lt : t < 3 = omega arith in
      let on = on_stop size ways words w c is running (Stop.ends t) here in
      let ok : may m 2 (word_of (t + 1)) 4 ≡ true
      = word_may 2 t m lt on.held.writes_data in
      let readable : may m 1 (word_of (t + 1)) 4 ≡ true
      = word_may 1 t m lt on.held.reads_data in
      let is_call = calling size ways words w c is running (Stop.ends t) on
      (ends_call size m on.held t) in
      let clears : c.thread.clear ≡ word_of (t + 1) = on.clears ∙ ap clear_of on.number in
      let long = length-set words t 0 in
      let several = same_length size m ways w.kernel.guest.threads is.threads in
      called_leads size (remove ways c.place) (slice_set words t 0) w
      (caller c.place c.thread.no (stop_addr (Stop.ends t)) (ending 93 on.will.0) (word_of (t + 1))) act.ThreadEnd
      (woken_at (word_of (t + 1)) 1 w.kernel.waits) (after_exit w.kernel c.place (word_of (t + 1)))
      (call.exited w t c.place (stop_addr (Stop.ends t)) c.thread.no on.will.0
      (subst (λ clear. IsCalling w (caller c.place c.thread.no (stop_addr (Stop.ends t)) (ending 93 on.will.0) clear))
      clears is_call)
      (omega arith) ok) refl
      (ways_removed size (after size t 0 m lt ok) ways w.kernel.guest.threads c.place
      (each_way_kept size m (after size t 0 m lt ok) (stored_way size t 0 m lt ok) ways w.kernel.guest.threads
      is.threads))
      (is.made ∙ ap (λ n. n + 1) (sym long))
      (subst (λ n. AreGiven (n + 1) (remove w.kernel.guest.threads c.place)) (sym long)
      (given_removed (length words + 1) c.place w.kernel.guest.threads is.given))
      (omega arith)
      (λ k below. word_now t lt ok readable k (omega arith))
    where
      word_now : (t : ℕ) (lt : t < 3) (ok : may m 2 (word_of (t + 1)) 4 ≡ true) → may m 1 (word_of (t + 1)) 4 ≡ true
          → (k : ℕ) → k < length words
          → load_at (after size t 0 m lt ok) 1 (word_of (k + 1)) 4 ≡ Some (get_or (slice_set words t 0) k 0)
      word_now t lt ok readable k below = elim (cases_Bool (k == t)) [
        | inl same ↦ subst (λ j. load_at (after size t 0 m lt ok) 1 (word_of (j + 1)) 4
            ≡ Some (get_or (slice_set words t 0) j 0))
            (sym (eqb-true k t same))
            (load-back m (word_of (t + 1)) 0 ok (omega arith) readable
            ∙ ap Some (sym (get_or-set_same words t 0 0 (let e = eqb-true k t same in omega arith))))
        | inr other ↦ stored_other size t 0 m lt ok k (get_or words k 0) (eqb-false k t other) (is.words_are k below)
            ∙ ap Some (sym (get_or-set_other words t k 0 0 (eqb-false k t other)))
      ]
