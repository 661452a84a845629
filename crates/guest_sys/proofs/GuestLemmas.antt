-- What holds of every guest, when a thread of it is written, removed or added.
use Rattle.std.proofs.Common.{◌≡◌, ℕ, zero, suc, ◌+◌, ◌%◌, ◌^◌, ◌<◌, ◌≤◌, ◌==◌, Bool, true, false, List, [], ◌∷◌}
use Rattle.std.proofs.Common.{◌++◌, length, map, refl, sym, ◌∙◌, ap, subst, inl, inr, arith, get_or, All, not}
use Rattle.std.proofs.Math.ListN.{set, get_or-append}
use Rattle.std.proofs.Math.Seq.{map-set_same, get_or-append_seam}
use Rattle.std.proofs.lemmas.Bool.{cases_lt}
use Rattle.std.proofs.lemmas.Bool.Decides.{nat_tests}
use Rattle.std.proofs.lemmas.List.{length-set, get_or-set_other, length-append, length-map, map-append, take-map}
use Rattle.std.proofs.lemmas.List.{drop-map}
use Rattle.std.proofs.lemmas.List.Edits.{length-remove, get_or-remove_below, get_or-remove_above}
use Rattle.std.proofs.lemmas.List.Elements.{All-set, All-append}
use Rattle.std.proofs.lemmas.Option.{slice_get_within, get_or_from_slice_get}
use Rattle.std.specs.List.{remove}
use Rattle.std.specs.List.Sorted.{IsStrictlyIncreasing}
use Rattle.guest_mem.specs.Memory.{Memory}
use Rattle.guest_load.specs.declared.thread.Thread.{Thread}
use Rattle.guest_load.specs.Guest.{Guest}
use Rattle.guest_load.specs.Lawful.{IsLawful, IsThread}
use Rattle.guest_sys.specs.declared.caller.Caller.{Caller}
use Rattle.guest_sys.specs.Common.{IsCaller, argument, resume, with_caller, settle}
use Rattle.guest_sys.specs.Threads.{has_flag, is_crowded, new_thread, with_register, without_caller}

abbrev pub thread_number : Thread → ℕ
thread_number t = t.no.0

pub caller_lawful : (g : Guest) (c : Caller) → IsLawful g → IsCaller g c → IsThread g.made c.thread
caller_lawful g c lawful is =
    subst (IsThread g.made) (get_or_from_slice_get g.threads c.place c.thread c.thread is)
    (lawful.each_thread c.place c.thread (slice_get_within g.threads c.place c.thread is))

next_aligned : (pc : ℕ) → pc % 4 ≡ 0 → (pc + 4) % 2 ^ 32 % 4 ≡ 0
next_aligned pc h = omega arith

pub resumed_lawful : (made value : ℕ) (t : Thread) → IsThread made t → IsThread made (resume t value)
resumed_lawful made value t h = record {
  numbered = h.numbered;
  given = h.given;
  aligned = next_aligned t.regs.pc h.aligned;
  zero = get_or-set_other t.regs.x 10 0 value 0 (omega arith) ∙ h.zero;
}

-- a thread is written, and keeps its number
pub lawful_with_caller : (g : Guest) (c : Caller) (t : Thread) → IsLawful g → IsCaller g c → t.no.0 ≡ c.thread.no.0
    → IsThread g.made t → IsLawful (with_caller g c t)
lawful_with_caller g c t lawful is same h = record {
  read_within = lawful.read_within;
  made_few = lawful.made_few;
  few_live = omega (arith, lawful.few_live, length-set g.threads c.place t);
  rising = subst IsStrictlyIncreasing
      (sym (map-set_same thread_number g.threads c.place t c.thread
      (same ∙ ap thread_number (sym (get_or_from_slice_get g.threads c.place c.thread c.thread is)))))
      lawful.rising;
  each_thread = All-set (IsThread g.made) g.threads c.place t h lawful.each_thread;
  break_grown = lawful.break_grown;
  break_low = lawful.break_low;
}

pub lawful_settled : (g : Guest) (c : Caller) (value : ℕ) → IsLawful g → IsCaller g c → IsLawful (settle g c value)
lawful_settled g c value lawful is =
    lawful_with_caller g c (resume c.thread value) lawful is refl
    (resumed_lawful g.made value c.thread (caller_lawful g c lawful is))

-- ---- a thread is removed

rising_removed : (xs : List ℕ) (i : ℕ) → i < length xs → IsStrictlyIncreasing xs → IsStrictlyIncreasing (remove xs i)
rising_removed xs i h rise k below =
    let len : length (remove xs i) + 1 ≡ length xs = length-remove xs i h in
    elim (cases_lt (k + 1) i) [
      | inl low ↦
          let one : get_or (remove xs i) k 0 ≡ get_or xs k 0 = get_or-remove_below xs i 0 k (omega arith) h in
          let two : get_or (remove xs i) (k + 1) 0 ≡ get_or xs (k + 1) 0 = get_or-remove_below xs i 0 (k + 1) low h in
          let step : get_or xs k 0 < get_or xs (k + 1) 0 = rise k (omega arith) in
          omega (arith, one, two, step)
      | inr high ↦ elim (cases_lt k i) [
        | inl here ↦
            let one : get_or (remove xs i) k 0 ≡ get_or xs k 0 = get_or-remove_below xs i 0 k here h in
            let two : get_or (remove xs i) (k + 1) 0 ≡ get_or xs (k + 1 + 1) 0
            = get_or-remove_above xs i 0 (k + 1) high h in
            let step : get_or xs k 0 < get_or xs (k + 1) 0 = rise k (omega arith) in
            let next : get_or xs (k + 1) 0 < get_or xs (k + 1 + 1) 0 = rise (k + 1) (omega arith) in
            omega (arith, one, two, step, next)
        | inr past ↦
            let one : get_or (remove xs i) k 0 ≡ get_or xs (k + 1) 0 = get_or-remove_above xs i 0 k past h in
            let two : get_or (remove xs i) (k + 1) 0 ≡ get_or xs (k + 1 + 1) 0
            = get_or-remove_above xs i 0 (k + 1) high h in
            let next : get_or xs (k + 1) 0 < get_or xs (k + 1 + 1) 0 = rise (k + 1) (omega arith) in
            omega (arith, one, two, next)
      ]
    ]

all_removed : {X : Type 0} (P : X → Type 0) (xs : List X) (i : ℕ) → i < length xs → All P xs → All P (remove xs i)
all_removed P xs i h all k d below =
    let len : length (remove xs i) + 1 ≡ length xs = length-remove xs i h in
    elim (cases_lt k i) [
      | inl low ↦ subst P (sym (get_or-remove_below xs i d k low h)) (all k d (omega arith))
      | inr high ↦ subst P (sym (get_or-remove_above xs i d k high h)) (all (k + 1) d (omega arith))
    ]

map_removed : {X : Type 0} (f : X → ℕ) (xs : List X) (i : ℕ) → map f (remove xs i) ≡ remove (map f xs) i
map_removed f xs i = simp (map-append, take-map, drop-map)

pub lawful_without : (g : Guest) (c : Caller) (m : Memory) → IsLawful g → IsCaller g c → IsLawful (without_caller g c m)
lawful_without g c m lawful is =
    let within : c.place < length g.threads = slice_get_within g.threads c.place c.thread is in
    record {
      read_within = lawful.read_within;
      made_few = lawful.made_few;
      few_live = omega (arith, lawful.few_live, length-remove g.threads c.place within);
      rising = subst IsStrictlyIncreasing (sym (map_removed thread_number g.threads c.place))
          (rising_removed (map thread_number g.threads) c.place
          (omega (arith, within, length-map g.threads thread_number)) lawful.rising);
      each_thread = all_removed (IsThread g.made) g.threads c.place within lawful.each_thread;
      break_grown = lawful.break_grown;
      break_low = lawful.break_low;
    }

-- ---- a thread is added

rising_pushed : (xs : List ℕ) (y : ℕ) → IsStrictlyIncreasing xs → All (λ x. x < y) xs
    → IsStrictlyIncreasing (xs ++ y ∷ [])
rising_pushed xs y rise all k below =
    let len : length (xs ++ y ∷ []) ≡ length xs + 1 = length-append xs (y ∷ []) in
    elim (cases_lt (k + 1) (length xs)) [
      | inl low ↦
          let one : get_or (xs ++ y ∷ []) k 0 ≡ get_or xs k 0 = get_or-append xs (y ∷ []) 0 k (omega arith) in
          let two : get_or (xs ++ y ∷ []) (k + 1) 0 ≡ get_or xs (k + 1) 0 = get_or-append xs (y ∷ []) 0 (k + 1) low in
          let step : get_or xs k 0 < get_or xs (k + 1) 0 = rise k low in
          omega (arith, one, two, step)
      | inr high ↦
          let last : k + 1 ≡ length xs = omega arith in
          let one : get_or (xs ++ y ∷ []) k 0 ≡ get_or xs k 0 = get_or-append xs (y ∷ []) 0 k (omega arith) in
          let two : get_or (xs ++ y ∷ []) (k + 1) 0 ≡ y = ap (λ n. get_or (xs ++ y ∷ []) n 0) last
          ∙ get_or-append_seam xs y [] 0 in
          let step : get_or xs k 0 < y = all k 0 (omega arith) in
          omega (arith, one, two, step)
    ]

all_one : {X : Type 0} (P : X → Type 0) (x : X) → P x → All P (x ∷ [])
all_one P x p zero d h = p
all_one P x p (suc k) d h = absurd (omega arith)

-- what holds of each thread holds of its number
numbers_below : (made value : ℕ) (ts : List Thread) → made < value → All (IsThread made) ts
    → All (λ n. n < value) (map thread_number ts)
numbers_below made value [] h all k d below = absurd (omega arith)
numbers_below made value (t ∷ ts) h all zero d below = let given : t.no.0 ≤ made
    = (all 0 t (omega arith)).given in omega arith
numbers_below made value (t ∷ ts) h all (suc k) d below =
    numbers_below made value ts h (λ j e l. all (suc j) e (omega arith)) k d (omega arith)

zero_with : (b : Bool) (k value : ℕ) (x : List ℕ) → 1 ≤ k → get_or (with_register b k value x) 0 0 ≡ get_or x 0 0
zero_with true k value x h = get_or-set_other x k 0 value 0 (omega arith)
zero_with false k value x h = refl

new_lawful : (made value : ℕ) (c : Caller) → IsThread made c.thread → 1 ≤ value → IsThread value (new_thread value c)
new_lawful made value c h one = record {
  numbered = one;
  given = omega arith;
  aligned = next_aligned c.thread.regs.pc h.aligned;
  zero = zero_with (has_flag 0x8_0000 c) 4 (argument 3 c)
      (with_register (not (argument 1 c == 0)) 2 (argument 1 c) (set c.thread.regs.x 10 0)) (omega arith)
      ∙ zero_with (not (argument 1 c == 0)) 2 (argument 1 c) (set c.thread.regs.x 10 0) (omega arith)
      ∙ get_or-set_other c.thread.regs.x 10 0 0 0 (omega arith) ∙ h.zero;
}

more_made : (made value : ℕ) (t : Thread) → made < value → IsThread made t → IsThread value t
more_made made value t h is = record {
  numbered = is.numbered;
  given = omega (arith, is.given);
  aligned = is.aligned;
  zero = is.zero;
}

not_crowded : (g : Guest) → is_crowded g ≡ false → (length g.threads < 1024) × (g.made < 65535)
not_crowded g h = grind (arith, nat_tests)

pub lawful_added : (g : Guest) (c : Caller) (value : ℕ) (m : Memory) → IsLawful g → IsCaller g c → value ≡ g.made + 1
    → is_crowded g ≡ false
    → IsLawful (record g { mem = m; threads = g.threads ++ new_thread value c ∷ []; made = value })
lawful_added g c value m lawful is next room =
    let fits : (length g.threads < 1024) × (g.made < 65535) = not_crowded g room in
    let later : g.made < value = omega arith in
    record {
      read_within = lawful.read_within;
      made_few = omega (arith, fits.1, next);
      few_live = omega (arith, fits.0, length-append g.threads (new_thread value c ∷ []));
      rising = subst IsStrictlyIncreasing (sym (map-append thread_number g.threads (new_thread value c ∷ [])))
          (rising_pushed (map thread_number g.threads) value lawful.rising
          (numbers_below g.made value g.threads later lawful.each_thread));
      each_thread = All-append (IsThread value) g.threads (new_thread value c ∷ [])
          (λ k d h. more_made g.made value _ later (lawful.each_thread k d h))
          (all_one (IsThread value) (new_thread value c)
          (new_lawful g.made value c (caller_lawful g c lawful is) (omega arith)));
      break_grown = lawful.break_grown;
      break_low = lawful.break_low;
    }
