-- Waits in order: what stays in order, where the waits of an address stand, and that the lists of all addresses make
-- the whole.
use Rattle.std.proofs.Common.{◌≡◌, ◌≢◌, ℕ, zero, suc, ◌+◌, ◌-◌, ◌<◌, ◌≤◌, Bool, true, false, cond, nat_lt, List, [], ◌∷◌}
use Rattle.std.proofs.Common.{◌++◌, filter, length, take, drop, refl, sym, ap, subst, ◌∙◌, inl, inr, arith}
use Rattle.std.specs.Prelude.{slice_index_or, slice_set, nat_le}
use Rattle.std.specs.List.{AllWithin, between}
use Rattle.std.specs.List.Sorted.{IsNonDecreasingBy}
use Rattle.std.proofs.Math.Seq.{take-append_seam, drop-append_seam}
use Rattle.std.proofs.lemmas.Bool.{cases_lt, cases_eq, eq-eqb, ne_eqb}
use Rattle.std.proofs.lemmas.Bool.Decides.{nat_tests}
use Rattle.std.proofs.lemmas.List.{append_assoc, append-nil, length-append, length-drop, drop_all}
use Rattle.std.proofs.lemmas.Slice.{between_to_end}
use borrow.Rule.Slice.PartMut.{put_mid}
use Rattle.event_costs.specs.declared.numbers.ThreadNo.{ThreadNo}
use Rattle.guest_futex.specs.Waits.{Wait, wait_at, threads_of, waiters_at, with_waiters, enqueue, woken_at, without_woken, requeue_at}
use Rattle.guest_futex.specs.inner.Order.{IsRising, lower, higher, turned}
use Rattle.guest_futex.proofs.WaitLaws.{block, lt-true, lt-false, waiters_at-with_waiters}
use Rattle.guest_futex.proofs.WaitLaws.{waiters_at-with_waiters_other}

le-true : (a b : ℕ) → a ≤ b → nat_le a b ≡ true
le-true a b most = grind (arith, nat_tests)

le-false : (a b : ℕ) → b < a → nat_le a b ≡ false
le-false a b less = grind (arith, nat_tests)

-- ---- what stays in order

pub rising-least : (b c : ℕ) (ws : List Wait) → c ≤ b → IsRising b ws → IsRising c ws
rising-least b c [] less rising = tt
rising-least b c (w ∷ ws) less rising = (omega (arith, rising.0), rising.1)

pub rising-filter : (test : Wait → Bool) (b : ℕ) (ws : List Wait) → IsRising b ws → IsRising b (filter test ws)
rising-filter test b [] rising = tt
rising-filter test b (w ∷ ws) rising = by_test (test w) (rising-filter test w.addr ws rising.1)
  where
    by_test : (t : Bool) → IsRising w.addr (filter test ws) → IsRising b (cond t (w ∷ filter test ws) (filter test ws))
    by_test true rest = (rising.0, rest)
    by_test false rest = rising-least w.addr b (filter test ws) rising.0 rest

rising-block : (addr : ℕ) (ts : List ThreadNo) (ws : List Wait) → IsRising addr ws → IsRising addr (block addr ts ++ ws)
rising-block addr [] ws rising = rising
rising-block addr (t ∷ ts) ws rising = (omega arith, rising-block addr ts ws rising)

rising-higher : (addr b : ℕ) (ws : List Wait) → IsRising b ws → IsRising addr (higher addr ws)
rising-higher addr b [] rising = tt
rising-higher addr b (w ∷ ws) rising =
    elim (cases_lt addr w.addr) [
      | inl less ↦ rw (lt-true addr w.addr less)
          (omega arith, rising-filter (λ v. nat_lt addr v.addr) w.addr ws rising.1)
      | inr most ↦ rw (lt-false addr w.addr most) (rising-higher addr w.addr ws rising.1)
    ]

rising-lower : (addr b : ℕ) (ws ys : List Wait) → b ≤ addr → IsRising b ws → IsRising addr ys
    → IsRising b (lower addr ws ++ ys)
rising-lower addr b [] ys most rising rest = rising-least addr b ys most rest
rising-lower addr b (w ∷ ws) ys most rising rest =
    elim (cases_lt w.addr addr) [
      | inl less ↦ rw (lt-true w.addr addr less) (rising.0, rising-lower addr w.addr ws ys (omega arith) rising.1 rest)
      | inr more ↦ rw (lt-false w.addr addr more)
          (rising-lower addr b ws ys most (rising-least w.addr b ws rising.0 rising.1) rest)
    ]

pub rising-with_waiters : (addr : ℕ) (ts : List ThreadNo) (ws : List Wait) → IsRising 0 ws
    → IsRising 0 (with_waiters addr ts ws)
unfolding with_waiters
rising-with_waiters addr ts ws rising =
    rw append_assoc
    (rising-lower addr 0 ws (block addr ts ++ higher addr ws) (omega arith) rising
    (rising-block addr ts (higher addr ws) (rising-higher addr 0 ws rising)))

pub rising-queued : (thread : ThreadNo) (addr : ℕ) (ws : List Wait) → IsRising 0 ws → IsRising 0 (enqueue thread addr ws)
unfolding enqueue
rising-queued thread addr ws rising = rising-with_waiters addr (waiters_at addr ws ++ thread ∷ []) ws rising

pub rising-still : (addr count : ℕ) (ws : List Wait) → IsRising 0 ws → IsRising 0 (without_woken addr count ws)
unfolding without_woken
rising-still addr count ws rising = rising-with_waiters addr (drop count (waiters_at addr ws)) ws rising

pub rising-moved : (from count to : ℕ) (ws : List Wait) → IsRising 0 ws → IsRising 0 (requeue_at from count to ws)
unfolding requeue_at
rising-moved from count to ws rising =
    rising-with_waiters to (waiters_at to (without_woken from count ws) ++ woken_at from count ws) (without_woken from count ws)
    (rising-still from count ws rising)

-- ---- the lists of all addresses make the whole

first_here : (w : Wait) (ws : List Wait) → waiters_at w.addr (w ∷ ws) ≡ w.thread ∷ waiters_at w.addr ws
first_here w ws = rw (eq-eqb w.addr w.addr refl) refl

first_elsewhere : (addr : ℕ) (w : Wait) (ws : List Wait) → w.addr ≢ addr → waiters_at addr (w ∷ ws) ≡ waiters_at addr ws
first_elsewhere addr w ws differs = rw (ne_eqb w.addr addr differs) refl

nobody_lower : (addr b : ℕ) (ws : List Wait) → addr < b → IsRising b ws → waiters_at addr ws ≡ []
nobody_lower addr b [] less rising = refl
nobody_lower addr b (w ∷ ws) less rising =
    first_elsewhere addr w ws (λ same. omega (arith, same, rising.0))
    ∙ nobody_lower addr w.addr ws (omega (arith, rising.0)) rising.1

nobody_before : (x : Wait) (xs ys : List Wait) (b : ℕ) → x.addr < b → IsRising b ys
    → waiters_at x.addr (x ∷ xs) ≡ waiters_at x.addr ys → ⊥
nobody_before x xs ys b less rising same =
    let here = first_here x xs in
    let none = nobody_lower x.addr b ys less rising in
    cc

pub same_waits : (b c : ℕ) (xs ys : List Wait) → IsRising b xs → IsRising c ys
    → ((addr : ℕ) → waiters_at addr xs ≡ waiters_at addr ys) → xs ≡ ys
same_waits b c [] [] rising rises same = refl
same_waits b c [] (y ∷ ys) rising rises same =
    absurd (nobody_before y ys [] (y.addr + 1) (omega arith) tt (sym (same y.addr)))
same_waits b c (x ∷ xs) [] rising rises same =
    absurd (nobody_before x xs [] (x.addr + 1) (omega arith) tt (same x.addr))
same_waits b c (x ∷ xs) (y ∷ ys) rising rises same =
    elim (cases_lt x.addr y.addr) [
      | inl less ↦ absurd (nobody_before x xs (y ∷ ys) y.addr less (omega arith, rises.1) (same x.addr))
      | inr most ↦
          elim (cases_eq x.addr y.addr) [
            | inl here ↦ both here (same_waits x.addr y.addr xs ys rising.1 rises.1 (rest here))
            | inr differs ↦ absurd
                (nobody_before y ys (x ∷ xs) x.addr (omega (arith, differs)) (omega arith, rising.1)
                (sym (same y.addr)))
          ]
    ]
  where
    lists : x.addr ≡ y.addr → x.thread ∷ waiters_at x.addr xs ≡ y.thread ∷ waiters_at x.addr ys
    lists here = sym (first_here x xs) ∙ same x.addr ∙ ap (λ a. waiters_at a (y ∷ ys)) here ∙ first_here y ys
        ∙ ap (λ a. y.thread ∷ waiters_at a ys) (sym here)

    first : x.addr ≡ y.addr → x ≡ y
    first here =
        let joined = lists here in
        let thread : x.thread ≡ y.thread = cc in
        ap (λ a. wait_at a x.thread) here ∙ ap (wait_at y.addr) thread

    rest : x.addr ≡ y.addr → (addr : ℕ) → waiters_at addr xs ≡ waiters_at addr ys
    rest here addr =
        elim (cases_eq x.addr addr) [
          | inl is ↦ (let joined = lists here in let tails : waiters_at x.addr xs ≡ waiters_at x.addr ys = cc in
              subst (λ a. waiters_at a xs ≡ waiters_at a ys) is tails)
          | inr differs ↦ sym (first_elsewhere addr x xs differs) ∙ same addr
              ∙ first_elsewhere addr y ys (λ e. differs (here ∙ e))
        ]

    both : x.addr ≡ y.addr → xs ≡ ys → x ∷ xs ≡ y ∷ ys
    both here others = ap (λ w. w ∷ xs) (first here) ∙ ap (λ (l : List Wait). y ∷ l) others

-- ---- where the waits of an address stand

pub in_parts : (addr : ℕ) (ws : List Wait) → IsRising 0 ws → with_waiters addr (waiters_at addr ws) ws ≡ ws
in_parts addr ws rising =
    same_waits 0 0 (with_waiters addr (waiters_at addr ws) ws) ws
    (rising-with_waiters addr (waiters_at addr ws) ws rising) rising
    (λ other. elim (cases_eq other addr) [
      | inl same ↦ subst (λ a. waiters_at a (with_waiters addr (waiters_at addr ws) ws) ≡ waiters_at a ws) (sym same)
          (waiters_at-with_waiters addr (waiters_at addr ws) ws)
      | inr differs ↦ waiters_at-with_waiters_other addr other (waiters_at addr ws) ws differs
    ])

length-block : (addr : ℕ) (ts : List ThreadNo) → length (block addr ts) ≡ length ts
length-block addr [] = refl
length-block addr (t ∷ ts) = ap suc (length-block addr ts)

-- how many wait at lower addresses, at this one and at higher ones
pub length-in_parts : (addr : ℕ) (ws : List Wait) → IsRising 0 ws
    → length (lower addr ws) + length (waiters_at addr ws) + length (higher addr ws) ≡ length ws
unfolding with_waiters
length-in_parts addr ws rising =
    omega (
      arith,
      ap (length {A = Wait}) (in_parts addr ws rising),
      length-append (lower addr ws ++ block addr (waiters_at addr ws)) (higher addr ws),
      length-append (lower addr ws) (block addr (waiters_at addr ws)),
      length-block addr (waiters_at addr ws),
    )

map-append_block : (addr : ℕ) (ts us : List ThreadNo) → block addr (ts ++ us) ≡ block addr ts ++ block addr us
map-append_block addr [] us = refl
map-append_block addr (t ∷ ts) us = ap (λ (l : List Wait). wait_at addr t ∷ l) (map-append_block addr ts us)

take-block : (addr count : ℕ) (ts : List ThreadNo) (back : List Wait) → count ≤ length ts
    → take count (block addr ts ++ back) ≡ block addr (take count ts)
take-block addr zero ts back within = refl
take-block addr (suc n) [] back within = absurd (omega (arith, within))
take-block addr (suc n) (t ∷ ts) back within =
    ap (λ (l : List Wait). wait_at addr t ∷ l) (take-block addr n ts back (omega (arith, within)))

drop-block : (addr count : ℕ) (ts : List ThreadNo) (back : List Wait) → count ≤ length ts
    → drop count (block addr ts ++ back) ≡ block addr (drop count ts) ++ back
drop-block addr zero ts back within = refl
drop-block addr (suc n) [] back within = absurd (omega (arith, within))
drop-block addr (suc n) (t ∷ ts) back within = drop-block addr n ts back (omega (arith, within))

turned-front : (front rest : List Wait) (count : ℕ)
    → turned (length front) count (front ++ rest) ≡ front ++ (drop count rest ++ take count rest)
turned-front [] rest count = refl
turned-front (w ∷ front) rest count = ap (λ (l : List Wait). w ∷ l) (turned-front front rest count)

-- a list whose part from a place on was written
pub part-behind : (a end : ℕ) (xs ys : List Wait) → end ≡ length xs → put_mid a (end - a) xs ys ≡ take a xs ++ ys
part-behind a end xs ys is =
    ap (λ (l : List Wait). take a xs ++ (ys ++ l))
    (drop_all (end - a) (drop a xs) (omega (arith, is, length-drop a xs)))
    ∙ ap (λ (l : List Wait). take a xs ++ l) (append-nil ys)

pub turned-part : (start end count : ℕ) (ws : List Wait) → end ≡ length ws
    → put_mid start (end - start) ws (drop count (between start end ws) ++ take count (between start end ws))
    ≡ turned start count ws
turned-part start end count ws is =
    part-behind start end ws (drop count (between start end ws) ++ take count (between start end ws)) is
    ∙ ap (λ (l : List Wait). take start ws ++ (drop count l ++ take count l))
    (between_to_end ws start end (omega (arith, is)))

-- the first waiters of an address put behind all others
pub turned-still : (addr start count : ℕ) (ws : List Wait) → IsRising 0 ws → count ≤ length (waiters_at addr ws)
    → start ≡ length (lower addr ws)
    → turned start count ws ≡ without_woken addr count ws ++ block addr (woken_at addr count ws)
unfolding without_woken with_waiters
turned-still addr start count ws rising within is =
    let ts = waiters_at addr ws in
    let back = higher addr ws in
    let parts : lower addr ws ++ (block addr ts ++ back) ≡ ws =
    sym (append_assoc (lower addr ws) (block addr ts) back) ∙ in_parts addr ws rising in
    ap (λ n. turned n count ws) is
    ∙ ap (λ l. turned (length (lower addr ws)) count l) (sym parts)
    ∙ turned-front (lower addr ws) (block addr ts ++ back) count
    ∙ ap (λ (l : List Wait). lower addr ws ++ (l ++ take count (block addr ts ++ back)))
    (drop-block addr count ts back within)
    ∙ ap (λ (l : List Wait). lower addr ws ++ ((block addr (drop count ts) ++ back) ++ l))
    (take-block addr count ts back within)
    ∙ sym (append_assoc (lower addr ws) (block addr (drop count ts) ++ back) (block addr (take count ts)))
    ∙ ap (λ (l : List Wait). l ++ block addr (take count ts))
    (sym (append_assoc (lower addr ws) (block addr (drop count ts)) back))

-- waits at an address, which stood behind all others, put behind those who wait there
pub turned-with : (addr end count : ℕ) (ts : List ThreadNo) (ws : List Wait) → IsRising 0 ws
    → end ≡ length (lower addr ws) + length (waiters_at addr ws) → count ≡ length (higher addr ws)
    → turned end count (ws ++ block addr ts) ≡ with_waiters addr (waiters_at addr ws ++ ts) ws
unfolding with_waiters
turned-with addr end count ts ws rising is over =
    let front = lower addr ws ++ block addr (waiters_at addr ws) in
    let back = higher addr ws in
    let at : end ≡ length front
    = omega (
      arith,
      is,
      length-append (lower addr ws) (block addr (waiters_at addr ws)),
      length-block addr (waiters_at addr ws),
    ) in
    let parts : front ++ (back ++ block addr ts) ≡ ws ++ block addr ts =
    sym (append_assoc front back (block addr ts)) ∙ ap (λ (l : List Wait). l ++ block addr ts) (in_parts addr ws rising)
    in
    ap (λ n. turned n count (ws ++ block addr ts)) at ∙ ap (λ n. turned (length front) n (ws ++ block addr ts)) over
    ∙ ap (λ l. turned (length front) (length back) l) (sym parts)
    ∙ turned-front front (back ++ block addr ts) (length back)
    ∙ ap (λ (l : List Wait). front ++ (l ++ take (length back) (back ++ block addr ts)))
    (drop-append_seam back (block addr ts))
    ∙ ap (λ (l : List Wait). front ++ (block addr ts ++ l)) (take-append_seam back (block addr ts))
    ∙ sym (append_assoc front (block addr ts) back)
    ∙ ap (λ (l : List Wait). l ++ back)
    (append_assoc (lower addr ws) (block addr (waiters_at addr ws)) (block addr ts)
    ∙ ap (λ (l : List Wait). lower addr ws ++ l) (sym (map-append_block addr (waiters_at addr ws) ts)))

-- ---- waits given another address one after another

abbrev pub partly : ℕ → ℕ → List Wait → List Wait
partly addr k ws = block addr (threads_of (take k ws)) ++ drop k ws

pub partly-read : (addr k : ℕ) (ws : List Wait) (d : Wait) → k < length ws
    → slice_index_or (partly addr k ws) k d ≡ slice_index_or ws k d
partly-read addr k [] d within = absurd (omega (arith, within))
partly-read addr zero (w ∷ ws) d within = refl
partly-read addr (suc k) (w ∷ ws) d within = partly-read addr k ws d (omega (arith, within))

pub partly-more : (addr k : ℕ) (ws : List Wait) (d : Wait) → k < length ws
    → slice_set (partly addr k ws) k (wait_at addr (slice_index_or ws k d).thread) ≡ partly addr (suc k) ws
partly-more addr k [] d within = absurd (omega (arith, within))
partly-more addr zero (w ∷ ws) d within = refl
partly-more addr (suc k) (w ∷ ws) d within =
    ap (λ (l : List Wait). wait_at addr w.thread ∷ l) (partly-more addr k ws d (omega (arith, within)))

-- ---- how many stand before a place that a search answers

pub passing_before : (test : Wait → Bool) (ws : List Wait) (i : ℕ) → i ≤ length ws
    → AllWithin (λ w. test w ≡ true) ws 0 i → AllWithin (λ w. test w ≡ false) ws i (length ws)
    → i ≡ length (filter test ws)
passing_before test [] i within passes fails = omega (arith, within)
passing_before test (w ∷ ws) zero within passes fails =
    rw (fails 0 w (omega arith) (omega arith))
    (passing_before test ws zero (omega arith) (λ k d low high. absurd (omega (arith, high)))
    (λ k d low high. fails (suc k) d (omega arith) (omega (arith, high))))
passing_before test (w ∷ ws) (suc i) within passes fails =
    rw (passes 0 w (omega arith) (omega arith))
    (ap suc
    (passing_before test ws i (omega (arith, within))
    (λ k d low high. passes (suc k) d (omega arith) (omega (arith, high)))
    (λ k d low high. fails (suc k) d (omega (arith, low)) (omega (arith, high)))))

least_of : (b : ℕ) (ws : List Wait) (i : ℕ) (d : Wait) → IsRising b ws → i < length ws
    → b ≤ (slice_index_or ws i d).addr
least_of b [] i d rising within = absurd (omega (arith, within))
least_of b (w ∷ ws) zero d rising within = rising.0
least_of b (w ∷ ws) (suc i) d rising within =
    omega (arith, rising.0, least_of w.addr ws i d rising.1 (omega (arith, within)))

pub never_falls : (b : ℕ) (ws : List Wait) → IsRising b ws → IsNonDecreasingBy (λ (w : Wait). w.addr) ws
never_falls b [] rising i j d most within = absurd (omega (arith, within))
never_falls b (w ∷ ws) rising zero zero d most within = omega arith
never_falls b (w ∷ ws) rising zero (suc j) d most within = least_of w.addr ws j d rising.1 (omega (arith, within))
never_falls b (w ∷ ws) rising (suc i) zero d most within = absurd (omega (arith, most))
never_falls b (w ∷ ws) rising (suc i) (suc j) d most within =
    never_falls w.addr ws rising.1 i j d (omega (arith, most)) (omega (arith, within))

-- those at no higher address are those at lower ones and those at this one
pub length-no_higher : (addr : ℕ) (ws : List Wait)
    → length (filter (λ w. nat_le w.addr addr) ws) ≡ length (lower addr ws) + length (waiters_at addr ws)
length-no_higher addr [] = refl
length-no_higher addr (w ∷ ws) =
    elim (cases_lt w.addr addr) [
      | inl less ↦ rw (
        le-true w.addr addr (omega arith),
        lt-true w.addr addr less,
        ne_eqb w.addr addr (λ same. omega (arith, same)),
      ) (omega (arith, length-no_higher addr ws))
      | inr more ↦
          elim (cases_eq w.addr addr) [
            | inl same ↦ rw
                (le-true w.addr addr (omega (arith, same)), lt-false w.addr addr more, eq-eqb w.addr addr same)
                (omega (arith, length-no_higher addr ws))
            | inr differs ↦ rw
                (le-false w.addr addr (omega (arith, differs)), lt-false w.addr addr more, ne_eqb w.addr addr differs)
                (length-no_higher addr ws)
          ]
    ]
