-- Steps by two maps with the same functions and entries: the one run's steps with the other one's stacks are cut at the
-- same places.
use Rattle.std.proofs.Common.{◌≡◌, ℕ, zero, suc, ◌+◌, ◌==◌, ◌||◌, Bool, true, false, not, List, [], ◌∷◌, ◌++◌, Option, None}
use Rattle.std.proofs.Common.{Some, append_assoc, cond, flat_map, length, map, refl, ap, sym, subst, take, ◌∙◌}
use Rattle.std.proofs.Common.{if◌then◌else◌}
use Rattle.std.specs.List.{list_any, sum_by}
use Rattle.std.specs.Prelude.{fold, max}
use Rattle.std.specs.Option.{option_map, option_map_or, option_or}
use Rattle.std.proofs.lemmas.List.{append-nil, map-append, take-map}
use Rattle.event_costs.specs.declared.event.Event.{Event}
use Rattle.event_costs.specs.declared.numbers.FuncId.{FuncId}
use Rattle.cache_lru.specs.Costs.{each_after}
use Rattle.cg_format.specs.Rows.{below}
use Rattle.cg_format.specs.declared.trigger.Trigger.{Trigger}
use Rattle.cg_format.specs.declared.trigger.Trigger.TheVariants.{Before, After}
use Rattle.sym_map.specs.SymbolMap.{SymbolMap}
use Rattle.shadow_stack.specs.Changes.{Change, change, drop_count}
use Rattle.shadow_stack.specs.Kinds.{is_root}
use Rattle.shadow_stack.specs.Stacks.{Activation, Stack}
use Rattle.shadow_stack.specs.Traces.{EventOnStack, stack_of}
use Rattle.part_dump.specs.Cuts.{DumpPoints, Split, after_cut, before_cut, closes, cut_after, cuts, dropped_frames, enters}
use Rattle.part_dump.specs.Cuts.{every_cut, has_name, leaves, marked_after, most_cuts, split, with_first}
use Rattle.part_dump.specs.Steps.{Step, event_of, frames_in, live, steps_of_thread, events_of_thread, stack_at, thread_of}
use Rattle.part_dump.specs.Steps.{threads}
use Rattle.part_dump.proofs.StepLemmas.{length-push, own-append}
use Rattle.ctx_rows.proofs.ShareLemmas.{sums_same}
use Rattle.addr_rows.specs.Stacked.{AreOn, with_stacks_of, with_stack_of}
use Rattle.addr_rows.proofs.AlikeLemmas.{SameCode, alike_change, alike_gone, alike_of, shape, shaped, shapes}

-- ---- what stays of steps whose stacks are another map's

module _ (m : SymbolMap) where
  pub own_events_stacked : (thread : ℕ) (earlier xs : List Step)
      → events_of_thread thread (with_stacks_of m earlier xs) ≡ events_of_thread thread xs
  own_events_stacked thread earlier [] = refl
  own_events_stacked thread earlier (x ∷ xs) =
      by (thread_of x == thread) (own_events_stacked thread (earlier ++ x ∷ []) xs)
    where
      later : List Step
      later = steps_of_thread thread (with_stacks_of m (earlier ++ x ∷ []) xs)

      by : (b : Bool) → map event_of later ≡ events_of_thread thread xs
          → map event_of (if b then with_stack_of m earlier x ∷ later else later)
          ≡ map event_of (if b then x ∷ steps_of_thread thread xs else steps_of_thread thread xs)
      by true rest = ap (λ (es : List Event). event_of x ∷ es) rest
      by false rest = rest

  greatest_after : (most : ℕ) (earlier xs : List Step)
      → fold (λ most (x : Step). max most (thread_of x)) most (with_stacks_of m earlier xs)
      ≡ fold (λ most (x : Step). max most (thread_of x)) most xs
  greatest_after most earlier [] = refl
  greatest_after most earlier (x ∷ xs) = greatest_after (max most (thread_of x)) (earlier ++ x ∷ []) xs

  pub threads_stacked : (earlier xs : List Step) → threads (with_stacks_of m earlier xs) ≡ threads xs
  threads_stacked earlier xs = ap (λ n. below (suc n)) (greatest_after 0 earlier xs)

  pub length_stacked : (earlier xs : List Step) → length (with_stacks_of m earlier xs) ≡ length xs
  length_stacked earlier [] = refl
  length_stacked earlier (x ∷ xs) = ap suc (length_stacked (earlier ++ x ∷ []) xs)

  pub stacked_append : (earlier xs ys : List Step)
      → with_stacks_of m earlier (xs ++ ys) ≡ with_stacks_of m earlier xs ++ with_stacks_of m (earlier ++ xs) ys
  stacked_append earlier [] ys = ap (λ es. with_stacks_of m es ys) (sym (append-nil earlier))
  stacked_append earlier (x ∷ xs) ys =
      ap (λ zs. with_stack_of m earlier x ∷ zs)
      (stacked_append (earlier ++ x ∷ []) xs ys
      ∙ ap (λ es. with_stacks_of m (earlier ++ x ∷ []) xs ++ with_stacks_of m es ys) (append_assoc earlier (x ∷ []) xs))

-- these steps are of the same events, thread by thread
abbrev pub AreAlike : List Step → List Step → Type 0
AreAlike xs ys = (thread : ℕ) → events_of_thread thread xs ≡ events_of_thread thread ys

events_append : (thread : ℕ) (xs ys : List Step)
    → events_of_thread thread (xs ++ ys) ≡ events_of_thread thread xs ++ events_of_thread thread ys
events_append thread xs ys = ap (λ zs. map event_of zs) (own-append thread xs ys)
    ∙ map-append event_of (steps_of_thread thread xs) (steps_of_thread thread ys)

pub alike_append : (xs ys zs ws : List Step) → AreAlike xs ys → AreAlike zs ws → AreAlike (xs ++ zs) (ys ++ ws)
alike_append xs ys zs ws front back thread =
    events_append thread xs zs ∙ (λ i. front thread i ++ back thread i) ∙ sym (events_append thread ys ws)

pub on_append : (m : SymbolMap) (earlier xs ys : List Step) → AreOn m earlier (xs ++ ys)
    → AreOn m earlier xs × AreOn m (earlier ++ xs) ys
on_append m earlier [] ys on = (tt, subst (λ es. AreOn m es ys) (sym (append-nil earlier)) on)
on_append m earlier (x ∷ xs) ys on =
    let rest = on_append m (earlier ++ x ∷ []) xs ys on.1 in (
      (on.0, rest.0),
      subst (λ es. AreOn m es ys) (append_assoc earlier (x ∷ []) xs) rest.1,
    )

-- steps with the other map's stacks and then with their own again are the same
pub back : (m n : SymbolMap) (earlier past xs : List Step) → AreAlike earlier past → AreOn n past xs
    → with_stacks_of n earlier (with_stacks_of m past xs) ≡ xs
back m n earlier past [] alike on = refl
back m n earlier past (x ∷ xs) alike on =
    λ i. (record {
      on_stack = record {
        event = event_of x;
        cost = x.on_stack.cost;
        stack = (ap (λ es. stack_of n es (event_of x).done.pc) (alike (thread_of x)) ∙ sym on.0) i;
      };
      wait = x.wait;
      woken = x.woken;
    })
    ∷ back m n (earlier ++ with_stack_of m past x ∷ []) (past ++ x ∷ []) xs
    (alike_append earlier past (with_stack_of m past x ∷ []) (x ∷ []) alike (one x)) on.1 i
  where
    one : (y : Step) → AreAlike (with_stack_of m past y ∷ []) (y ∷ [])
    one y thread = by (thread_of y == thread)
      where
        by : (b : Bool) → map event_of (if b then with_stack_of m past y ∷ [] else []) ≡ map event_of (if b then y ∷ [] else [])
        by true = refl
        by false = refl

-- ---- segments with the stacks of another map

abbrev pub steps_in : List (List Step × Trigger) → List Step
steps_in segments = flat_map (λ s. s.0) segments

module _ (m : SymbolMap) where
  abbrev pub restacked : List Step → List (List Step × Trigger) → List (List Step × Trigger)
  restacked earlier [] = []
  restacked earlier (s ∷ segments) = (with_stacks_of m earlier s.0, s.1) ∷ restacked (earlier ++ s.0) segments

  abbrev pub resplit : List Step → Split Step Trigger → Split Step Trigger
  resplit earlier s = record {
    closed = restacked earlier s.closed;
    recent = with_stacks_of m (earlier ++ steps_in s.closed) s.recent;
  }

  pub restacked_length : (earlier : List Step) (segments : List (List Step × Trigger))
      → length (restacked earlier segments) ≡ length segments
  restacked_length earlier [] = refl
  restacked_length earlier (s ∷ segments) = ap suc (restacked_length (earlier ++ s.0) segments)

  pub restacked_alike : (earlier : List Step) (segments : List (List Step × Trigger))
      → AreAlike (steps_in (restacked earlier segments)) (steps_in segments)
  restacked_alike earlier [] = λ thread. refl
  restacked_alike earlier (s ∷ segments) =
      alike_append (with_stacks_of m earlier s.0) s.0 (steps_in (restacked (earlier ++ s.0) segments)) (steps_in segments)
      (λ thread. own_events_stacked m thread earlier s.0) (restacked_alike (earlier ++ s.0) segments)

-- ---- frames

frames_from : (k : ℕ) (s : Stack) → fold (λ sum (a : Activation). sum + cond (not (is_root a.kind)) 1 0) k (shapes s)
    ≡ fold (λ sum (a : Activation). sum + cond (not (is_root a.kind)) 1 0) k s
frames_from k [] = refl
frames_from k (a ∷ s) = frames_from (k + cond (not (is_root a.kind)) 1 0) s

frames_shaped : (s : Stack) → frames_in (shapes s) ≡ frames_in s
frames_shaped s = frames_from 0 s

module _ (m n : SymbolMap) (same : SameCode n m)
    (names : (name : List ℕ) (func : FuncId) → has_name m name func ≡ has_name n name func) where
  -- as many frames are live
  pub live_stacked : (xs : List Step) → live m (with_stacks_of m [] xs) ≡ live n xs
  live_stacked xs =
      ap (λ ts. sum_by (λ t. frames_in (stack_at m (with_stacks_of m [] xs) t 0)) ts) (threads_stacked m [] xs)
      ∙ sums_same (λ t. frames_in (stack_at m (with_stacks_of m [] xs) t 0)) (λ t. frames_in (stack_at n xs t 0))
      (threads xs) (λ t there. each t)
    where
      each : (t : ℕ) → frames_in (stack_at m (with_stacks_of m [] xs) t 0) ≡ frames_in (stack_at n xs t 0)
      each t =
          ap (λ es. frames_in (stack_of m es 0)) (own_events_stacked m t [] xs)
          ∙ sym (frames_shaped (stack_of m (events_of_thread t xs) 0))
          ∙ ap frames_in (sym (alike_of n m same (events_of_thread t xs) 0))
          ∙ frames_shaped (stack_of n (events_of_thread t xs) 0)

  -- ---- cuts

  pushed_name : (name : List ℕ) (o : Option Activation)
      → option_map_or (λ (a : Activation). has_name m name a.func) (option_map shape o) false
      ≡ option_map_or (λ (a : Activation). has_name n name a.func) o false
  pushed_name name None = refl
  pushed_name name (Some a) = names name a.func

  shaped_name : (name : List ℕ) (o : Option Activation)
      → option_map_or (λ (a : Activation). has_name m name a.func) (option_map shape o) false
      ≡ option_map_or (λ (a : Activation). has_name m name a.func) o false
  shaped_name name None = refl
  shaped_name name (Some a) = refl

  any_name : (name : List ℕ) (s : Stack) → list_any (λ (a : Activation). has_name m name a.func) (shapes s)
      ≡ list_any (λ (a : Activation). has_name n name a.func) s
  any_name name [] = refl
  any_name name (a ∷ s) = λ i. names name a.func i || any_name name s i

  any_shaped : (name : List ℕ) (s : Stack) → list_any (λ (a : Activation). has_name m name a.func) (shapes s)
      ≡ list_any (λ (a : Activation). has_name m name a.func) s
  any_shaped name [] = refl
  any_shaped name (a ∷ s) = ap (λ b. has_name m name a.func || b) (any_shaped name s)

  -- an event on a stack by each of the maps
  module _ (x y : EventOnStack) (event : x.event ≡ y.event) (alike : shapes x.stack ≡ shapes y.stack) where
    changes : shaped (change n x.event x.stack) ≡ shaped (change m y.event y.stack)
    changes = alike_change n m same x.event x.stack y.stack alike ∙ ap (λ e. shaped (change m e y.stack)) event

    enters_same : (name : List ℕ) → enters m name y ≡ enters n name x
    enters_same name =
        sym (shaped_name name (change m y.event y.stack).pushed)
        ∙ ap (λ (c : Change). option_map_or (λ (a : Activation). has_name m name a.func) c.pushed false) (sym changes)
        ∙ pushed_name name (change n x.event x.stack).pushed

    gone_same : drop_count m y.event y.stack ≡ drop_count n x.event x.stack
    gone_same =
        ap (λ e. drop_count m e y.stack) (sym event) ∙ sym (alike_gone n m same x.event x.stack y.stack alike)

    dropped_same : shapes (dropped_frames m y) ≡ shapes (dropped_frames n x)
    dropped_same =
        sym (take-map shape (drop_count m y.event y.stack) y.stack)
        ∙ (λ i. take (gone_same i) (sym alike i))
        ∙ take-map shape (drop_count n x.event x.stack) x.stack

    leaves_same : (name : List ℕ) → leaves m name y ≡ leaves n name x
    leaves_same name =
        sym (any_shaped name (dropped_frames m y))
        ∙ ap (λ s. list_any (λ (a : Activation). has_name m name a.func) s) dropped_same
        ∙ any_name name (dropped_frames n x)

    before_same : (o : Option (List ℕ)) → before_cut m o y ≡ before_cut n o x
    before_same None = refl
    before_same (Some name) = ap (λ b. if b then Some (Before name) else None) (enters_same name)

    after_same : (o : Option (List ℕ)) → after_cut m o y ≡ after_cut n o x
    after_same None = refl
    after_same (Some name) = ap (λ b. if b then Some (After name) else None) (leaves_same name)

    cut_same : (asked : DumpPoints) (steps : ℕ) → cut_after m asked steps y ≡ cut_after n asked steps x
    cut_same asked steps =
        λ i. option_or (every_cut asked.every steps) (option_or (before_same asked.before i) (after_same asked.after i))

  first_resplit : (earlier : List Step) (x : Step) (s : Split Step Trigger)
      → with_first (with_stack_of m earlier x) (resplit m (earlier ++ x ∷ []) s).recent (resplit m (earlier ++ x ∷ []) s).closed
      ≡ resplit m earlier (with_first x s.recent s.closed)
  first_resplit earlier x s = by s.closed s.recent
    where
      by : (closed : List (List Step × Trigger)) (recent : List Step)
          → with_first (with_stack_of m earlier x) (with_stacks_of m ((earlier ++ x ∷ []) ++ steps_in closed) recent)
          (restacked m (earlier ++ x ∷ []) closed)
          ≡ resplit m earlier (with_first x recent closed)
      by [] recent = λ i. record {
        closed = [];
        recent = with_stack_of m (sym (append-nil earlier) i) x
            ∷ with_stacks_of m ((append-nil (earlier ++ x ∷ []) ∙ ap (λ es. es ++ x ∷ []) (sym (append-nil earlier))) i) recent;
      }
      by (p ∷ ps) recent = λ i. record {
        closed = (with_stacks_of m earlier (x ∷ p.0), p.1) ∷ restacked m (append_assoc earlier (x ∷ []) p.0 i) ps;
        recent = with_stacks_of m (append_assoc earlier (x ∷ []) (p.0 ++ steps_in ps) i) recent;
      }

  closes_resplit : (earlier : List Step) (x : Step) (mark : Trigger) (s : Split Step Trigger)
      → closes (with_stack_of m earlier x) mark (resplit m (earlier ++ x ∷ []) s) ≡ resplit m earlier (closes x mark s)
  closes_resplit earlier x mark s = λ i. record {
    closed = (with_stacks_of m earlier (x ∷ []), mark) ∷ restacked m (earlier ++ x ∷ []) s.closed;
    recent = with_stacks_of m (append_assoc earlier (x ∷ []) (steps_in s.closed) i) s.recent;
  }

  module _ (earlier : List Step) (x : Step) (later marks : List (Step × Option Trigger))
      (rest : (k : ℕ) → split k later ≡ resplit m (earlier ++ x ∷ []) (split k marks)) where
    goes_on : (k : ℕ) → with_first (with_stack_of m earlier x) (split k later).recent (split k later).closed
        ≡ resplit m earlier (with_first x (split k marks).recent (split k marks).closed)
    goes_on k =
        ap (λ (s : Split Step Trigger). with_first (with_stack_of m earlier x) s.recent s.closed) (rest k)
        ∙ first_resplit earlier x (split k marks)

    split_first : (k : ℕ) (o : Option Trigger)
        → split k ((with_stack_of m earlier x, o) ∷ later) ≡ resplit m earlier (split k ((x, o) ∷ marks))
    split_first k None = goes_on k
    split_first zero (Some t) = goes_on zero
    split_first (suc k) (Some t) =
        ap (closes (with_stack_of m earlier x) t) (rest k) ∙ closes_resplit earlier x t (split k marks)

  mark_stacked : (asked : DumpPoints) (past earlier : List Step) (x : Step) → length past ≡ length earlier
      → x.on_stack.stack ≡ stack_at n earlier (thread_of x) (event_of x).done.pc
      → cut_after m asked (length past + 1) (with_stack_of m earlier x).on_stack ≡ cut_after n asked (length earlier + 1) x.on_stack
  mark_stacked asked past earlier x same_length on =
      ap (λ k. cut_after m asked (k + 1) (with_stack_of m earlier x).on_stack) same_length
      ∙ cut_same x.on_stack (with_stack_of m earlier x).on_stack refl
      (ap shapes on ∙ alike_of n m same (events_of_thread (thread_of x) earlier) (event_of x).done.pc)
      asked (length earlier + 1)

  split_stacked : (asked : DumpPoints) (most : ℕ) (past earlier xs : List Step) → length past ≡ length earlier
      → AreOn n earlier xs
      → split most (each_after (marked_after m asked) past (with_stacks_of m earlier xs))
      ≡ resplit m earlier (split most (each_after (marked_after n asked) earlier xs))
  split_stacked asked most past earlier [] same_length on = refl
  split_stacked asked most past earlier (x ∷ xs) same_length on =
      let later = each_after (marked_after m asked) (past ++ with_stack_of m earlier x ∷ [])
      (with_stacks_of m (earlier ++ x ∷ []) xs) in
      ap (λ (o : Option Trigger). split most ((with_stack_of m earlier x, o) ∷ later))
      (mark_stacked asked past earlier x same_length on.0)
      ∙ split_first earlier x later (each_after (marked_after n asked) (earlier ++ x ∷ []) xs)
      (λ k. split_stacked asked k (past ++ with_stack_of m earlier x ∷ []) (earlier ++ x ∷ []) xs
      (length-push past (with_stack_of m earlier x) ∙ ap (λ k. k + 1) same_length ∙ sym (length-push earlier x)) on.1)
      most (cut_after n asked (length earlier + 1) x.on_stack)

  pub cuts_stacked : (asked : DumpPoints) (trace : List Step) → AreOn n [] trace
      → cuts m asked (with_stacks_of m [] trace) ≡ resplit m [] (cuts n asked trace)
  unfolding cuts
  cuts_stacked asked trace on = split_stacked asked most_cuts [] [] trace refl on
