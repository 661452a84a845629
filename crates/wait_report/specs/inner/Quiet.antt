-- No step that passes while a thread waits is one of its own.
use Rattle.std.specs.Prelude.{◌≡◌, ◌≢◌, ℕ, ◌+◌, ◌==◌, ◌&&◌, Bool, true, false, List, [], ◌∷◌, ◌++◌, All, Option, None}
use Rattle.std.specs.Prelude.{Some, is_some, refl, count_by, map}
use Rattle.std.specs.List.{AllByRecursion}
use Rattle.std.proofs.Common.{sym, ap, subst, ◌∙◌, append_assoc, arith}
use Rattle.std.proofs.lemmas.List.{append-nil}
use Rattle.std.proofs.lemmas.List.Elements.{All-from_recursion}
use Rattle.std.proofs.lemmas.List.Sums.{sum_by-cons}
use Rattle.part_dump.specs.Steps.{Step, thread_of}
use Rattle.part_dump.specs.Watched.{waits}
use Rattle.wait_report.specs.Keeping.{WaitBooks, nothing, open_of, spot, steps}
use Rattle.wait_report.specs.Rows.{is_at, open_at, thread_no}
use Rattle.wait_report.specs.Standing.{AreOpen, MayAllFollow, StandsFor}
use Rattle.wait_report.specs.Waits.{AreOfOthers, Wait, begun_wait, is_open, waits_in}
use Rattle.wait_report.specs.declared.books.Open.{Open}
use Rattle.wait_report.specs.inner.Counts.{on, one, on_span, waits_more}
use Rattle.wait_report.specs.inner.Law.{nothing_stands, stands_step}
use Rattle.wait_report.specs.inner.Lookups.{itself, true_false}

abbrev pub IsOfOthers : ℕ → List Step → Type 0
IsOfOthers thread xs = AllByRecursion (λ x. (thread_of x == thread) ≡ false) xs

abbrev pub AreQuiet : List Wait → Type 0
AreQuiet ws = AllByRecursion (λ w. IsOfOthers w.thread w.span) ws

others_more : (thread : ℕ) (xs : List Step) (x : Step) → IsOfOthers thread xs → (thread_of x == thread) ≡ false
    → IsOfOthers thread (xs ++ x ∷ [])
others_more thread [] x all last = (last, tt)
others_more thread (y ∷ ys) x all last = (all.0, others_more thread ys x all.1 last)

quiet_both : (vs ws : List Wait) → AreQuiet vs → AreQuiet ws → AreQuiet (vs ++ ws)
quiet_both [] ws a b = b
quiet_both (v ∷ vs) ws a b = (a.0, quiet_both vs ws a.1 b)

-- where no wait of the step's thread is open, the open waits are of others
closed : (x : Step) (ws : List Wait)
    → ((word : ℕ) → count_by (λ w. is_at (spot (thread_no (thread_of x)) word) w && is_open w) ws ≡ 0)
    → AllByRecursion (λ w. is_open w ≡ true → (thread_of x == w.thread) ≡ false) ws
closed x [] none = tt
closed x (w ∷ ws) none = (
  (λ e. by (thread_of x == w.thread) refl e),
  closed x ws (λ word. let rest = first word in let all = none word in omega (arith, rest, all)),
)
  where
    first : (word : ℕ) → count_by (λ v. is_at (spot (thread_no (thread_of x)) word) v && is_open v) (w ∷ ws)
        ≡ one (is_at (spot (thread_no (thread_of x)) word) w && is_open w)
        + count_by (λ v. is_at (spot (thread_no (thread_of x)) word) v && is_open v) ws
    first word = sum_by-cons (λ v. one (is_at (spot (thread_no (thread_of x)) word) v && is_open v)) w ws

    by : (b : Bool) → (thread_of x == w.thread) ≡ b → is_open w ≡ true → (thread_of x == w.thread) ≡ false
    by false e held = e
    by true e held =
        let counted : one (is_at (spot (thread_no (thread_of x)) w.word) w && is_open w) ≡ one true =
        λ i. one ((e i && itself w.word i) && held i) in
        let all = none w.word in
        let more = first w.word in
        absurd (omega (arith, counted, all, more))

quiet_on : (x : Step) (ws : List Wait) → AllByRecursion (λ w. is_open w ≡ true → (thread_of x == w.thread) ≡ false) ws
    → AreQuiet ws → AreQuiet (map (on x) ws)
quiet_on x [] apart quiet = tt
quiet_on x (w ∷ ws) apart quiet = (by (is_open w) refl, quiet_on x ws apart.1 quiet.1)
  where
    by : (b : Bool) → is_open w ≡ b → IsOfOthers w.thread (on_span b w.span x)
    by true e = others_more w.thread w.span x quiet.0 (apart.0 e)
    by false e = quiet.0

quiet_begun : (word : Option ℕ) (thread : ℕ) → AreQuiet (begun_wait word thread [])
quiet_begun None thread = tt
quiet_begun (Some word) thread = (tt, tt)

quiet_step : (k : WaitBooks) (ys : List Step) (x : Step) → StandsFor k ys → waits (thread_of x) ys ≡ false
    → AreQuiet (waits_in ys) → AreQuiet (waits_in (ys ++ x ∷ []))
quiet_step k ys x stands awake quiet =
    subst AreQuiet (sym (waits_more ys x))
    (quiet_both (map (on x) (waits_in ys)) (begun_wait x.wait (thread_of x) [])
    (quiet_on x (waits_in ys) (closed x (waits_in ys) none_open) quiet)
    (quiet_begun x.wait (thread_of x)))
  where
    is_none : (o : Option Open) → is_some o ≡ false → o ≡ None
    is_none None e = refl
    is_none (Some o) e = absurd (true_false e)

    none_open : (word : ℕ) → open_at (spot (thread_no (thread_of x)) word) ys ≡ 0
    none_open =
        subst (AreOpen ys (thread_no (thread_of x)))
        (is_none (open_of (thread_no (thread_of x)) k) (sym (stands.asleep (thread_no (thread_of x))) ∙ awake))
        (stands.waiting (thread_no (thread_of x)))

pub quiet_after : (k : WaitBooks) (earlier xs : List Step) → StandsFor k earlier → MayAllFollow earlier xs
    → AreQuiet (waits_in earlier) → AreQuiet (waits_in (earlier ++ xs))
quiet_after k earlier [] stands follow quiet =
    subst (λ ys. AreQuiet (waits_in ys)) (sym (append-nil earlier)) quiet
quiet_after k earlier (x ∷ xs) stands follow quiet =
    subst (λ ys. AreQuiet (waits_in ys)) (append_assoc earlier (x ∷ []) xs)
    (quiet_after (steps x.on_stack.event.thread x.on_stack.cost x.wait x.woken k) (earlier ++ x ∷ []) xs
    (stands_step k earlier x stands follow.0) follow.1 (quiet_step k earlier x stands follow.0.awake quiet))

others : (thread : ℕ) (xs : List Step) → IsOfOthers thread xs → AllByRecursion (λ x. thread_of x ≢ thread) xs
others thread [] all = tt
others thread (x ∷ xs) all = (
  (λ e. true_false (sym (ap (λ t. t == thread) e ∙ itself thread) ∙ all.0)),
  others thread xs all.1,
)

all_others : (ws : List Wait) → AreQuiet ws → AllByRecursion (λ w. All (λ x. thread_of x ≢ w.thread) w.span) ws
all_others [] quiet = tt
all_others (w ∷ ws) quiet = (
  All-from_recursion (λ x. thread_of x ≢ w.thread) w.span (others w.thread w.span quiet.0),
  all_others ws quiet.1,
)

-- no step of a wait's span is one of its own thread
pub others_pass : (xs : List Step) → MayAllFollow [] xs → AreOfOthers xs
others_pass xs follow =
    All-from_recursion (λ w. All (λ x. thread_of x ≢ w.thread) w.span) (waits_in xs)
    (all_others (waits_in xs) (quiet_after nothing [] xs nothing_stands follow tt))
