-- The puts of the parts of a segment, for one thread more.
use Rattle.std.proofs.Common.{◌≡◌, ◌≢◌, ℕ, ◌+◌, ◌<◌, nat_lt, Bool, true, false, List, [], ◌∷◌, ◌++◌}
use Rattle.std.proofs.Common.{length, map}
use Rattle.std.proofs.Common.{refl, ap, sym, subst, ◌∙◌, append_assoc, arith, ◌⊎◌, inl, inr}
use Rattle.std.proofs.Common.{if◌then◌else◌}
use Rattle.std.proofs.lemmas.Bool.Decides.{eqb_tells, nat_tests}
use Rattle.std.proofs.lemmas.List.{append-nil}
use Rattle.event_costs.specs.declared.numbers.ThreadNo.{ThreadNo}
use Rattle.shadow_stack.specs.Traces.{EventOnStack}
use Rattle.arc_costs.specs.Contents.{Listed}
use Rattle.cg_format.specs.Part.{AreKnown}
use Rattle.cg_format.specs.declared.head.PartHead.{PartHead}
use Rattle.recorder.specs.Accounts.{Account, Recording, account, ledger, knows}
use Rattle.recorder.specs.Bounds.{SumsWithin}
use Rattle.recorder.specs.Notes.{account_after_cut}
use Rattle.recorder.specs.Standing.{Stands, has_some}
use Rattle.profile_run.proofs.Others.{ledger_unknown, same_thread, stands_cut, own-append, steps-append, watched_more}
use Rattle.part_dump.specs.Calls.{Writes, head_of, thread_calls}
use Rattle.part_dump.specs.Steps.{Step, steps_of_thread, events_on_stack_of, stack_at}
use Rattle.part_dump.specs.Watched.{Fits, AreWatched, steps_in}
use Rattle.part_dump.specs.Watching.{Meaning, after_call}
use Rattle.profile_run.specs.Program.{head_of_run}
use Rattle.recorder.specs.Rows.{rows_of}
use Rattle.profile_run.specs.inner.Standing.{HasAccount, IsHead, IsPutting, IsWatched, Plan, calls_below, since_of}
use Rattle.profile_run.proofs.AccountLemmas.{true_false}
use Rattle.profile_run.proofs.CallLemmas.{after-append}
use Rattle.profile_run.proofs.PutLemmas.{below-next, no_calls}

pub none_left : (xs ys : List Step) → xs ++ ys ≡ [] → ys ≡ []
none_left [] ys e = e
none_left (x ∷ xs) ys e = absurd (cc)

-- the steps since the last cut of a thread that isn't the next one are the same
since_other : (n thread : ℕ) (segment : List Step) → thread ≢ n
    → since_of (n + 1) segment thread ≡ since_of n segment thread
since_other n thread segment other =
    ap (λ b. if b then [] else segment) (same n thread other)
  where
    same : (n thread : ℕ) → thread ≢ n → nat_lt thread (n + 1) ≡ nat_lt thread n
    same n thread other_ = grind (arith, nat_tests)

pub since_now : (n : ℕ) (segment : List Step) → since_of n segment n ≡ segment
since_now n segment = ap (λ b. if b then [] else segment) (not_less n)
  where
    not_less : (n : ℕ) → nat_lt n n ≡ false
    not_less n = grind (arith, nat_tests)

since_past : (n : ℕ) (segment : List Step) → since_of (n + 1) segment n ≡ []
since_past n segment = ap (λ b. if b then [] else segment) (less n)
  where
    less : (n : ℕ) → nat_lt n (n + 1) ≡ true
    less n = grind (arith, nat_tests)

module _ {W : Type 0} (m : Meaning W) (plan : Plan W) (n : ℕ) (h : PartHead) (r : Recording) (w : W)
    (is : IsPutting m plan n h r w) (t : ThreadNo) (number : t.0 ≡ n) where
  was_known : (b : Bool) → knows r t ≡ b → (knows r t ≡ true) ⊎ (knows r t ≡ false)
  was_known true e = inl e
  was_known false e = inr e

  own_unknown : knows r t ≡ false → steps_of_thread n plan.segment ≡ []
  own_unknown none =
      none_left (steps_of_thread n is.earlier) (steps_of_thread n plan.segment)
      (sym (own-append n is.earlier plan.segment) ∙ ap (steps_of_thread n) (sym is.together)
      ∙ ap (λ k. steps_of_thread k plan.past) (sym number) ∙ is.unknown t none)

  -- whether the thread has steps in the segment
  some_of : (ys : List Step) → has_some (map (λ (y : Step). y.on_stack) ys) ≡ false → ys ≡ []
  some_of [] e = refl
  some_of (y ∷ ys) e = absurd (true_false e)

  own_has : (known : knows r t ≡ true) → (account r t).had_event ≡ has_some (events_on_stack_of n plan.segment)
  own_has known =
      (is.known t known).stands.had_event
      ∙ (λ i. has_some (events_on_stack_of (number i) (since_of n plan.segment (number i))))
      ∙ ap (λ xs. has_some (events_on_stack_of n xs)) (since_now n plan.segment)

  pub none_there : (account r t).had_event ≡ false → steps_of_thread n plan.segment ≡ []
  none_there none = elim (was_known (knows r t) refl) as (λ _. steps_of_thread n plan.segment ≡ []) [
    | inl known ↦ some_of (steps_of_thread n plan.segment) (sym (own_has known) ∙ none)
    | inr unknown ↦ own_unknown unknown
  ]

  pub known_there : (account r t).had_event ≡ true → knows r t ≡ true
  known_there some = elim (was_known (knows r t) refl) as (λ _. knows r t ≡ true) [
    | inl known ↦ known
    | inr unknown ↦
        absurd (true_false (sym some ∙ ap (λ k. k.account.had_event) (ledger_unknown r t unknown)))
  ]

  pub some_there : (account r t).had_event ≡ true → steps_of_thread n plan.segment ≢ []
  some_there some none =
      true_false (sym some ∙ own_has (known_there some)
      ∙ ap (λ ys. has_some (map (λ (y : Step). y.on_stack) ys)) none)

  -- ---- a thread without a part

  other_account : (s : Recording) (other : ThreadNo) → other.0 ≢ n → account s other ≡ account r other
      → knows r other ≡ true
      → HasAccount plan.guest.syms plan.past (since_of (n + 1) plan.segment other.0) s other
  other_account s other apart same known =
      let has = is.known other known in
      let P : List Step → Account → Type 0 =
      λ ss a. Stands plan.guest.syms (stack_at plan.guest.syms plan.past other.0 has.first) (events_on_stack_of other.0 ss) a in
      record {
        first = has.first;
        stands =
            subst (P (since_of (n + 1) plan.segment other.0)) (sym same)
            (subst (λ ss. P ss (account r other)) (sym (since_other n other.0 plan.segment apart)) has.stands);
        within = subst (SumsWithin (length plan.past)) (sym same) has.within;
      }

  pub none_next : steps_of_thread n plan.segment ≡ [] → IsPutting m plan (n + 1) h r w
  none_next none = record {
    known = λ other known. elim (eqb_tells other.0 n) as
        (λ _. HasAccount plan.guest.syms plan.past (since_of (n + 1) plan.segment other.0) r other) [
          | inl same ↦
              (let has = is.known other known in
              let P : List EventOnStack → Type 0 =
              λ xs.
              Stands plan.guest.syms (stack_at plan.guest.syms plan.past other.0 has.first) xs (account r other) in
              let before : events_on_stack_of other.0 (since_of n plan.segment other.0) ≡ [] =
              (λ i. events_on_stack_of (same.1 i) (since_of n plan.segment (same.1 i)))
              ∙ ap (events_on_stack_of n) (since_now n plan.segment) ∙ ap (map (λ (y : Step). y.on_stack)) none in
              let after : events_on_stack_of other.0 (since_of (n + 1) plan.segment other.0) ≡ [] =
              (λ i. events_on_stack_of (same.1 i) (since_of (n + 1) plan.segment (same.1 i)))
              ∙ ap (events_on_stack_of n) (since_past n plan.segment) in
              record { first = has.first; stands = subst P (before ∙ sym after) has.stands; within = has.within })
          | inr apart ↦ other_account r other apart.1 refl known
        ];
    unknown = is.unknown;
    head = is.head;
    watch =
        (let same : plan.before ++ calls_below plan h.part h.trigger n
        ≡ plan.before ++ calls_below plan h.part h.trigger (n + 1) =
        ap (λ cs. plan.before ++ cs)
        (sym (below-next m plan h.part h.trigger n
        ∙ ap (λ cs. calls_below plan h.part h.trigger n ++ cs) (no_calls m plan h.part h.trigger n none)
        ∙ append-nil (calls_below plan h.part h.trigger n))) in
        subst (λ cs. IsWatched m plan.guest plan.first plan.past cs w) same is.watch);
    stacks = is.stacks;
    earlier = is.earlier;
    together = is.together;
  }

  -- ---- a thread with a part

  -- the part's rows
  abbrev part_rows : Listed
  part_rows = rows_of plan.guest.syms (events_on_stack_of n plan.segment)

  abbrev part_head : PartHead
  part_head = head_of (head_of_run plan.guest) h.part h.trigger n

  some_calls : steps_of_thread n plan.segment ≢ []
      → thread_calls (rows_of plan.guest.syms) (head_of_run plan.guest) h.part h.trigger n
      (events_on_stack_of n plan.segment) ≡ Writes part_head part_rows ∷ []
  some_calls some = by (steps_of_thread n plan.segment) some
    where
      by : (ys : List Step) → ys ≢ []
          → thread_calls (rows_of plan.guest.syms) (head_of_run plan.guest) h.part h.trigger n
          (map (λ (y : Step). y.on_stack) ys)
          ≡ Writes (head_of (head_of_run plan.guest) h.part h.trigger n)
          (rows_of plan.guest.syms (map (λ (y : Step). y.on_stack) ys)) ∷ []
      by [] none = absurd (none refl)
      by (y ∷ ys) none = refl

  pub next_calls : steps_of_thread n plan.segment ≢ []
      → calls_below plan h.part h.trigger (n + 1)
      ≡ calls_below plan h.part h.trigger n ++ Writes part_head part_rows ∷ []
  next_calls some =
      below-next m plan h.part h.trigger n
      ∙ ap (λ cs. calls_below plan h.part h.trigger n ++ cs) (some_calls some)

  some_past : steps_of_thread n plan.segment ≢ [] → 0 < length (steps_of_thread n plan.past)
  some_past some = by (steps_of_thread n plan.past) (λ none. some
      (none_left (steps_of_thread n is.earlier) (steps_of_thread n plan.segment)
      (sym (own-append n is.earlier plan.segment) ∙ ap (steps_of_thread n) (sym is.together) ∙ none)))
    where
      by : (ys : List Step) → (ys ≡ [] → ⊥) → 0 < length ys
      by [] none = absurd (none refl)
      by (y ∷ ys) none = omega arith

  -- the part may be written
  pub write_fits : steps_of_thread n plan.segment ≢ [] → AreKnown plan.guest.syms part_rows
      → AreWatched plan.guest.syms
      ((plan.before ++ calls_below plan h.part h.trigger n) ++ Writes part_head part_rows ∷ [])
  write_fits some known =
      let cs = plan.before ++ calls_below plan h.part h.trigger n in
      let fits : Fits plan.guest.syms cs (Writes part_head part_rows) = (
        (let P : List Step → Type 0 = λ ps. 0 < length (steps_of_thread n ps) in
            subst P (sym is.watch.steps) (some_past some)),
        known,
      ) in
      watched_more plan.guest.syms cs (Writes part_head part_rows) is.watch.watched fits

  module _ (k : PartHead) (s : Recording) (v : W) (known : knows r t ≡ true) (some : steps_of_thread n plan.segment ≢ [])
      (part : k.part ≡ h.part) (trigger : k.trigger ≡ h.trigger) (head : IsHead plan.guest k)
      (cut : account s t ≡ account_after_cut (account r t)) (bounds : SumsWithin (length plan.past) (account s t))
      (others : (other : ThreadNo) → other.0 ≢ t.0 → ledger s other ≡ ledger r other)
      (known_still : (other : ThreadNo) → knows s other ≡ knows r other)
      (are_known : AreKnown plan.guest.syms part_rows)
      (told : v ≡ m.after_part w part_head part_rows plan.guest.syms) where
    cut_account : HasAccount plan.guest.syms plan.past (since_of (n + 1) plan.segment t.0) s t
    cut_account =
        let has = is.known t known in
        let P : List EventOnStack → Account → Type 0 =
        λ xs a. Stands plan.guest.syms (stack_at plan.guest.syms plan.past t.0 has.first) xs a in
        let none : events_on_stack_of t.0 (since_of (n + 1) plan.segment t.0) ≡ [] =
        (λ i. events_on_stack_of (number i) (since_of (n + 1) plan.segment (number i)))
        ∙ ap (events_on_stack_of n) (since_past n plan.segment) in
        record {
          first = has.first;
          stands =
              subst (P (events_on_stack_of t.0 (since_of (n + 1) plan.segment t.0))) (sym cut)
              (subst (λ xs. P xs (account_after_cut (account r t))) (sym none)
              (stands_cut plan.guest.syms (stack_at plan.guest.syms plan.past t.0 has.first) (account r t)
              has.stands.stack));
          within = bounds;
        }

    pub put_next : IsPutting m plan (n + 1) k s v
    put_next = record {
      known = λ other now. elim (eqb_tells other.0 n) as
          (λ _. HasAccount plan.guest.syms plan.past (since_of (n + 1) plan.segment other.0) s other) [
            | inl same ↦
                (let P : ThreadNo → Type 0 =
                λ u. HasAccount plan.guest.syms plan.past (since_of (n + 1) plan.segment u.0) s u in
                subst P (sym (same_thread other t (same.1 ∙ sym number))) cut_account)
            | inr apart ↦
                other_account s other apart.1
                (ap (λ j. j.account) (others other (λ e. apart.1 (e ∙ number)))) (sym (known_still other) ∙ now)
          ];
      unknown = λ other none. is.unknown other (sym (known_still other) ∙ none);
      head = head;
      watch =
          (let cs = plan.before ++ calls_below plan h.part h.trigger n in
          let all : cs ++ Writes part_head part_rows ∷ [] ≡ plan.before ++ calls_below plan k.part k.trigger (n + 1) =
          append_assoc plan.before (calls_below plan h.part h.trigger n) (Writes part_head part_rows ∷ [])
          ∙ ap (λ ds. plan.before ++ ds) (sym (next_calls some))
          ∙ (λ i. plan.before ++ calls_below plan (sym part i) (sym trigger i) (n + 1)) in
          subst (λ ds. IsWatched m plan.guest plan.first plan.past ds v) all
          (record {
            state =
                told ∙ ap (λ u. after_call m plan.guest.syms u (Writes part_head part_rows)) is.watch.state
                ∙ sym (after-append m plan.guest.syms plan.guest.options.base plan.first cs
                (Writes part_head part_rows ∷ []));
            watched = write_fits some are_known;
            steps =
                steps-append cs (Writes part_head part_rows ∷ []) ∙ append-nil (steps_in cs) ∙ is.watch.steps;
          }));
      stacks = is.stacks;
      earlier = is.earlier;
      together = is.together;
    }
