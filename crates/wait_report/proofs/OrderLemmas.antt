-- The spots and the wakers that are listed are those of the trace's waits.
use Rattle.std.proofs.Common.{◌≡◌, ℕ, ◌+◌, ◌==◌, ◌&&◌, ◌||◌, Bool, true, false, cond, List, [], ◌∷◌, map}
use Rattle.std.proofs.Common.{filter, get_or, refl, sym, ap, subst, ◌∙◌, arith}
use Rattle.std.proofs.Common.{Option, Some, None, is_some, if◌then◌else◌}
use Rattle.std.proofs.Common.{inl, inr, count_by, nat_lt, flat_map}
use Rattle.std.proofs.Common.{◌<◌, ◌≤◌, ◌-◌, ◌⊎◌, ⊎_elim, zero, suc, drop, length, take}
use Rattle.std.specs.Cmp.{IsTotalOrder}
use Rattle.std.specs.FinMap.{IsAntisymmetric, nat_cmp-IsAntisymmetric}
use Rattle.std.specs.List.{AllByRecursion, AllWithin, IsDistinct, list_any}
use Rattle.std.specs.List.Sorted.{IsNonDecreasingBy, IsPartitionedBy, IsPermutation, IsSorted, IsStrictlySortedBy}
use Rattle.std.specs.Map.{keys_of, lookup}
use Rattle.std.specs.Option.{option_map_or, option_to_list}
use Rattle.std.specs.Ordering.{is_eq, is_le, is_lt, nat_cmp, ordering_index, ordering_reverse, ordering_then}
use Rattle.std.specs.declared.cmp.Ordering.{Ordering}
use Rattle.std.specs.declared.cmp.Ordering.TheVariants.{Less, Equal, Greater}
use Rattle.std.proofs.lemmas.Bool.Decides.{nat_tests}
use Rattle.std.proofs.lemmas.Cmp.{nat_cmp_total, on_total, then_total, tied_itself}
use Rattle.std.proofs.lemmas.List.Concat.{flat_map-cons}
use Rattle.std.proofs.lemmas.List.Elements.{filter_passes, recursion_from_All}
use Rattle.std.proofs.lemmas.List.Kept.{IsStrictlySortedBy-filter}
use Rattle.std.proofs.lemmas.List.Sorted.{IsPartitionedBy-ltb, list_any-IsPermutation, searchable_from_sorted}
use Rattle.std.proofs.lemmas.List.Sums.{sum_by-cons}
use Rattle.std.proofs.lemmas.Map.Keys.{IsDistinct-IsPermutation}
use Rattle.std.proofs.lemmas.Map.Keys.{apart_from_distinct, sorted_from_all_adjacent}
use Rattle.event_costs.specs.declared.numbers.ThreadNo.{ThreadNo}
use Rattle.part_dump.specs.Steps.{Step}
use Rattle.wait_report.specs.Keeping.{WaitBooks, same_thread, same_wake}
use Rattle.wait_report.specs.Rows.{enders_at, is_at, same_spot, spot_of, spot_order, spots_of, thread_no}
use Rattle.wait_report.specs.Rows.{thread_order, waker_at, wakers_at}
use Rattle.wait_report.specs.Standing.{StandsFor}
use Rattle.wait_report.specs.Waits.{Wait, is_ended_by, waits_in}
use Rattle.wait_report.specs.declared.books.Spot.{Spot}
use Rattle.wait_report.specs.declared.books.Wake.{Wake}
use Rattle.wait_report.specs.inner.Room.{AreInOrder, is_wake_of, wake_order, waker_in, wakers_of}
use Rattle.wait_report.specs.inner.Lookups.{Tells, spot_tells, thread_tells, true_false, turned, wake_tells}
use Rattle.arc_costs.specs.Keys.{IsIn, risen}
use Rattle.wait_report.proofs.Others.{in_risen, one_list, risen_in, risen_rises, rises_from}

-- ---- orders

then_equal : (x y : Ordering) → ordering_then x y ≡ Equal → (x ≡ Equal) × (y ≡ Equal)
then_equal Less y e = absurd (cc)
then_equal Equal y e = (refl, e)
then_equal Greater y e = absurd (cc)

pub spot_total : IsTotalOrder spot_order
spot_total =
    then_total (on_total (λ (s : Spot). s.thread.0) nat_cmp_total) (on_total (λ (s : Spot). s.word) nat_cmp_total)

make_spot : ℕ → ℕ → Spot
make_spot thread word = record { thread = record { 0 = thread }; word = word }

pub spot_only : IsAntisymmetric spot_order
unfolding make_spot
spot_only a b e =
    let one = then_equal (nat_cmp a.thread.0 b.thread.0) (nat_cmp a.word b.word) e in
    (λ i. make_spot (nat_cmp-IsAntisymmetric a.thread.0 b.thread.0 one.0 i)
    (nat_cmp-IsAntisymmetric a.word b.word one.1 i))

thread_total : IsTotalOrder thread_order
thread_total = on_total (λ (t : ThreadNo). t.0) nat_cmp_total

make_thread : ℕ → ThreadNo
make_thread n = record { 0 = n }

thread_only : IsAntisymmetric thread_order
unfolding make_thread
thread_only a b e = ap make_thread (nat_cmp-IsAntisymmetric a.0 b.0 e)

wake_total : IsTotalOrder wake_order
wake_total = then_total (on_total (λ (w : Wake). w.spot) spot_total) (on_total (λ (w : Wake). w.waker) thread_total)

eq_ties : (m n : ℕ) → (m == n) ≡ is_eq (nat_cmp m n)
eq_ties m n = grind (arith, nat_tests)

then_ties : (x y : Ordering) → (is_eq x && is_eq y) ≡ is_eq (ordering_then x y)
then_ties Less y = refl
then_ties Equal y = refl
then_ties Greater y = refl

spot_ties : (a b : Spot) → same_spot a b ≡ is_eq (spot_order a b)
spot_ties a b =
    (λ i. eq_ties a.thread.0 b.thread.0 i && eq_ties a.word b.word i)
    ∙ then_ties (nat_cmp a.thread.0 b.thread.0) (nat_cmp a.word b.word)

thread_ties : (a b : ThreadNo) → same_thread a b ≡ is_eq (thread_order a b)
thread_ties a b = eq_ties a.0 b.0

wake_ties : (a b : Wake) → same_wake a b ≡ is_eq (wake_order a b)
wake_ties a b =
    (λ i. spot_ties a.spot b.spot i && thread_ties a.waker b.waker i)
    ∙ then_ties (spot_order a.spot b.spot) (thread_order a.waker b.waker)

-- ---- sorted lists of keys that differ

below : (o p : Ordering) → o ≡ ordering_reverse p → is_lt p ≡ false → is_eq o ≡ false → o ≡ Less
below o Less flip not_less apart = absurd (true_false not_less)
below o Equal flip not_less apart = absurd (true_false (sym (ap is_eq flip) ∙ apart))
below o Greater flip not_less apart = flip

none_rise : {K : Type 0} (R : K → K → Ordering) → IsStrictlySortedBy R []
unfolding IsStrictlySortedBy
none_rise R = tt

pub strictly : {K : Type 0} {R : K → K → Ordering} (order : IsTotalOrder R) (same : K → K → Bool)
    → ((x y : K) → same x y ≡ is_eq (R x y)) → (ks : List K) → IsSorted R ks → IsDistinct same ks
    → IsStrictlySortedBy R ks
strictly {K} {R} order same ties [] sorted distinct = none_rise R
strictly {K} {R} order same ties (k ∷ ks) sorted distinct =
    let keys = k ∷ ks in
    sorted_from_all_adjacent order keys k
    (λ i lt.
    below (R (get_or keys i k) (get_or keys (i + 1) k)) (R (get_or keys (i + 1) k) (get_or keys i k))
    (order.antisymm (get_or keys i k) (get_or keys (i + 1) k))
    (sorted i k (omega arith) (omega arith))
    (sym (ties (get_or keys i k) (get_or keys (i + 1) k))
    ∙ apart_from_distinct same keys i (i + 1) k distinct (omega arith) lt))

-- ---- elements

module _ {K : Type 0} (same : K → K → Bool) (tells : Tells same) where
  pub in_any : (ks : List K) (q : K) → IsIn ks q → list_any (same q) ks ≡ true
  in_any [] q there = absurd there
  in_any (k ∷ ks) q (inl is) =
      ap (λ b. b || list_any (same q) ks) (ap (same q) is ∙ tells.itself q)
  in_any (k ∷ ks) q (inr there) = ap (λ b. same q k || b) (in_any ks q there) ∙ or_true (same q k)
    where
      or_true : (b : Bool) → (b || true) ≡ true
      or_true true = refl
      or_true false = refl

  pub any_in : (ks : List K) (q : K) → list_any (same q) ks ≡ true → IsIn ks q
  any_in [] q some = absurd (true_false (sym some))
  any_in (k ∷ ks) q some = by (same q k) refl some (λ h. any_in ks q h)
    where
      by : (b : Bool) → same q k ≡ b → (b || list_any (same q) ks) ≡ true
          → (list_any (same q) ks ≡ true → IsIn ks q) → IsIn (k ∷ ks) q
      by true e some_ rest = inl (sym (tells.alike q k e))
      by false e some_ rest = inr (rest some_)

  -- a rising list of the keys of another is that list in order
  pub ordered : (R : K → K → Ordering) (order : IsTotalOrder R) (only : IsAntisymmetric R) (ks qs : List K)
      → IsStrictlySortedBy R ks → ((q : K) → list_any (same q) ks ≡ list_any (same q) qs) → ks ≡ risen R qs
  ordered R order only ks qs rise alike =
      one_list R order only ks (risen R qs) (rises_from R order only ks rise) (risen_rises R order only qs)
      (λ q there. in_risen R order only qs q (any_in qs q (sym (alike q) ∙ in_any ks q there)))
      (λ q there. any_in ks q (alike q ∙ in_any qs q (risen_in R order only qs q there)))

pub lookup_any : {K X : Type 0} (same : K → K → Bool) (q : K) (es : List (K × X))
    → is_some (lookup (same q) es) ≡ list_any (same q) (keys_of es)
lookup_any same q [] = refl
lookup_any same q (e ∷ es) = by (same q e.0) (lookup_any same q es)
  where
    by : (b : Bool) → is_some (lookup (same q) es) ≡ list_any (same q) (keys_of es)
        → is_some (cond b (Some e.1) (lookup (same q) es)) ≡ (b || list_any (same q) (keys_of es))
    by true rest = refl
    by false rest = rest

-- ---- spots

any_at : (s : Spot) (ws : List Wait) → nat_lt 0 (count_by (is_at s) ws) ≡ list_any (same_spot s) (map spot_of ws)
any_at s [] = refl
any_at s (w ∷ ws) =
    ap (nat_lt 0) (sum_by-cons (λ v. cond (is_at s v) 1 0) w ws) ∙ by (is_at s w) (any_at s ws)
  where
    by : (b : Bool) → nat_lt 0 (count_by (is_at s) ws) ≡ list_any (same_spot s) (map spot_of ws)
        → nat_lt 0 (cond b 1 0 + count_by (is_at s) ws) ≡ (b || list_any (same_spot s) (map spot_of ws))
    by true rest = grind (arith, nat_tests)
    by false rest = ap (nat_lt 0) (zero_plus (count_by (is_at s) ws)) ∙ rest
      where
        zero_plus : (n : ℕ) → 0 + n ≡ n
        zero_plus n = omega arith

pub spots_are : (k : WaitBooks) (xs : List Step) (spots sorted : List Spot) → StandsFor k xs → spots ≡ keys_of k.sums
    → IsDistinct same_spot (keys_of k.sums) → IsPermutation spots sorted → IsSorted spot_order sorted
    → sorted ≡ spots_of xs
spots_are k xs spots sorted stands is distinct moved order =
    ordered same_spot spot_tells spot_order spot_total spot_only sorted (map spot_of (waits_in xs))
    (strictly spot_total same_spot spot_ties sorted order
    (IsDistinct-IsPermutation same_spot (turned same_spot spot_tells) spots sorted moved
    (subst (IsDistinct same_spot) (sym is) distinct)))
    (λ q. sym (list_any-IsPermutation (same_spot q) spots sorted moved) ∙ ap (list_any (same_spot q)) is
    ∙ sym (lookup_any same_spot q k.sums) ∙ stands.known q ∙ any_at q (waits_in xs))

-- ---- wakers

-- of wakes at one spot in order, the wakers rise
wakers_rise : (s : Spot) (ws : List Wake) → AllByRecursion (λ w. is_wake_of s w ≡ true) ws
    → IsStrictlySortedBy wake_order ws → IsStrictlySortedBy thread_order (map (λ w. w.waker) ws)
unfolding IsStrictlySortedBy
wakers_rise s [] at rise = tt
wakers_rise s (w ∷ ws) at rise = (below_first ws at.1 rise.0, wakers_rise s ws at.1 rise.1)
  where
    tied : (v : Wake) → is_wake_of s v ≡ true → spot_order w.spot v.spot ≡ Equal
    tied v here =
        ap (λ q. spot_order q v.spot) (spot_tells.alike w.spot s at.0)
        ∙ ap (spot_order s) (spot_tells.alike v.spot s here) ∙ tied_itself spot_total s

    below_first : (vs : List Wake) → AllByRecursion (λ v. is_wake_of s v ≡ true) vs
        → AllByRecursion (λ v. wake_order w v ≡ Less) vs
        → AllByRecursion (λ t. thread_order w.waker t ≡ Less) (map (λ v. v.waker) vs)
    below_first [] at_ less = tt
    below_first (v ∷ vs) at_ less = (
      sym (ap (λ o. ordering_then o (thread_order w.waker v.waker)) (tied v at_.0)) ∙ less.0,
      below_first vs at_.1 less.1,
    )

abbrev wake_at : Spot → ThreadNo → Wake
wake_at s u = record { spot = s; waker = u }

any_wake : (s : Spot) (u : ThreadNo) (ws : List Wake)
    → list_any (same_thread u) (wakers_of s ws) ≡ list_any (same_wake (wake_at s u)) ws
any_wake s u [] = refl
any_wake s u (w ∷ ws) = by (is_wake_of s w) refl (any_wake s u ws)
  where
    by : (b : Bool) → is_wake_of s w ≡ b → list_any (same_thread u) (wakers_of s ws) ≡ list_any (same_wake (wake_at s u)) ws
        → list_any (same_thread u) (map (λ v. v.waker) (if b then w ∷ filter (is_wake_of s) ws else filter (is_wake_of s) ws))
        ≡ ((same_spot s w.spot && same_thread u w.waker) || list_any (same_wake (wake_at s u)) ws)
    by true e rest =
        (λ i. same_thread u w.waker || rest i)
        ∙ ap (λ b. (b && same_thread u w.waker) || list_any (same_wake (wake_at s u)) ws)
        (sym (turned same_spot spot_tells s w.spot ∙ e))
    by false e rest =
        rest
        ∙ ap (λ b. (b && same_thread u w.waker) || list_any (same_wake (wake_at s u)) ws)
        (sym (turned same_spot spot_tells s w.spot ∙ e))

any_ender : (s : Spot) (u : ThreadNo) (ws : List Wait)
    → nat_lt 0 (count_by (λ w. is_at s w && is_ended_by u.0 w) ws)
    ≡ list_any (same_thread u) (flat_map (λ w. map thread_no (option_to_list w.waker)) (filter (is_at s) ws))
any_ender s u [] = refl
any_ender s u (w ∷ ws) =
    ap (nat_lt 0) (sum_by-cons (λ v. cond (is_at s v && is_ended_by u.0 v) 1 0) w ws)
    ∙ by (is_at s w) w.waker (any_ender s u ws)
  where
    zero_plus : (n : ℕ) → 0 + n ≡ n
    zero_plus n = omega arith

    some_plus : (n : ℕ) → nat_lt 0 (1 + n) ≡ true
    some_plus n = grind (arith, nat_tests)

    here : (b : Bool)
        → nat_lt 0 (count_by (λ v. is_at s v && is_ended_by u.0 v) ws)
        ≡ list_any (same_thread u) (flat_map (λ v. map thread_no (option_to_list v.waker)) (filter (is_at s) ws))
        → nat_lt 0 (cond b 1 0 + count_by (λ v. is_at s v && is_ended_by u.0 v) ws)
        ≡ (b
        || list_any (same_thread u) (flat_map (λ v. map thread_no (option_to_list v.waker)) (filter (is_at s) ws)))
    here true rest = some_plus (count_by (λ v. is_at s v && is_ended_by u.0 v) ws)
    here false rest = ap (nat_lt 0) (zero_plus (count_by (λ v. is_at s v && is_ended_by u.0 v) ws)) ∙ rest

    by : (a : Bool) (o : Option ℕ)
        → nat_lt 0 (count_by (λ v. is_at s v && is_ended_by u.0 v) ws)
        ≡ list_any (same_thread u) (flat_map (λ v. map thread_no (option_to_list v.waker)) (filter (is_at s) ws))
        → nat_lt 0 (cond (a && option_map_or (λ t. t == u.0) o false) 1 0
        + count_by (λ v. is_at s v && is_ended_by u.0 v) ws)
        ≡ list_any (same_thread u) (flat_map (λ v. map thread_no (option_to_list v.waker))
        (if a then record w { waker = o } ∷ filter (is_at s) ws else filter (is_at s) ws))
    by false o rest = here false rest
    by true None rest =
        here false rest
        ∙ ap (list_any (same_thread u))
        (sym (flat_map-cons (λ v. map thread_no (option_to_list v.waker)) (record w { waker = None })
        (filter (is_at s) ws)))
    by true (Some t) rest =
        here (t == u.0) rest
        ∙ ap (λ b. b || list_any (same_thread u) (flat_map (λ v. map thread_no (option_to_list v.waker))
        (filter (is_at s) ws)))
        (turned same_thread thread_tells (thread_no t) u)
        ∙ ap (list_any (same_thread u))
        (sym (flat_map-cons (λ v. map thread_no (option_to_list v.waker)) (record w { waker = Some t })
        (filter (is_at s) ws)))

enders_are : (k : WaitBooks) (xs : List Step) (s : Spot) (ws : List Wake) → StandsFor k xs → AreInOrder k ws
    → wakers_of s ws ≡ enders_at s xs
enders_are k xs s ws stands are =
    ordered same_thread thread_tells thread_order thread_total thread_only (wakers_of s ws)
    (flat_map (λ w. map thread_no (option_to_list w.waker)) (filter (is_at s) (waits_in xs)))
    (wakers_rise s (filter (is_wake_of s) ws)
    (recursion_from_All (λ w. is_wake_of s w ≡ true) (filter (is_wake_of s) ws) (filter_passes (is_wake_of s) ws))
    (IsStrictlySortedBy-filter wake_order (is_wake_of s) ws
    (strictly wake_total same_wake wake_ties ws are.order
    (IsDistinct-IsPermutation same_wake (turned same_wake wake_tells) (keys_of k.wakes) ws are.same are.apart))))
    (λ u. any_wake s u ws ∙ sym (list_any-IsPermutation (same_wake (wake_at s u)) (keys_of k.wakes) ws are.same)
    ∙ sym (lookup_any same_wake (wake_at s u) k.wakes)
    ∙ stands.known_wakes (wake_at s u) ∙ any_ender s u (waits_in xs))

pub wakers_are : (k : WaitBooks) (xs : List Step) (s : Spot) (ws : List Wake) → StandsFor k xs → AreInOrder k ws
    → map (λ w. waker_in s k w.waker) (filter (is_wake_of s) ws) ≡ wakers_at s xs
wakers_are k xs s ws stands are =
    times_are (filter (is_wake_of s) ws) ∙ ap (map (waker_at s xs)) (enders_are k xs s ws stands are)
  where
    times_are : (vs : List Wake) → map (λ v. waker_in s k v.waker) vs ≡ map (waker_at s xs) (map (λ v. v.waker) vs)
    times_are [] = refl
    times_are (v ∷ vs) =
        λ i. record { thread = v.waker; times = stands.ended (wake_at s v.waker) i } ∷ times_are vs i

-- ---- where the wakes at a spot stand

-- what passes a test, where it stands together
taken_is : {X : Type 0} (p : X → Bool) (xs : List X) (i n : ℕ) → i + n ≤ length xs
    → AllWithin (λ x. p x ≡ false) xs 0 i → AllWithin (λ x. p x ≡ true) xs i (i + n)
    → AllWithin (λ x. p x ≡ false) xs (i + n) (length xs) → take n (drop i xs) ≡ filter p xs
taken_is p [] zero zero within before here behind = refl
taken_is p [] zero (suc n) within before here behind = absurd (omega (arith, within))
taken_is p [] (suc i) n within before here behind = absurd (omega (arith, within))
taken_is p (x ∷ xs) zero zero within before here behind =
    rw (behind 0 x (omega arith) (omega arith))
    (taken_is p xs zero zero (omega arith) (λ k d low high. absurd (omega (arith, high)))
    (λ k d low high. absurd (omega (arith, high)))
    (λ k d low high. behind (suc k) d (omega arith) (omega (arith, high))))
taken_is {X} p (x ∷ xs) zero (suc n) within before here behind =
    rw (here 0 x (omega arith) (omega arith))
    (ap (λ (l : List X). x ∷ l)
    (taken_is p xs zero n (omega (arith, within)) (λ k d low high. absurd (omega (arith, high)))
    (λ k d low high. here (suc k) d (omega arith) (omega (arith, high)))
    (λ k d low high. behind (suc k) d (omega (arith, low)) (omega (arith, high)))))
taken_is p (x ∷ xs) (suc i) n within before here behind =
    rw (before 0 x (omega arith) (omega arith))
    (taken_is p xs i n (omega (arith, within))
    (λ k d low high. before (suc k) d (omega arith) (omega (arith, high)))
    (λ k d low high. here (suc k) d (omega (arith, low)) (omega (arith, high)))
    (λ k d low high. behind (suc k) d (omega (arith, low)) (omega (arith, high))))

module _ (ws : List Wake) (s : Spot) (order : IsSorted wake_order ws) where
  abbrev to_spot : Wake → Ordering
  to_spot w = spot_order w.spot s

  never_falls : IsNonDecreasingBy (λ w. ordering_index (to_spot w)) ws
  never_falls =
      searchable_from_sorted spot_total (λ (w : Wake). w.spot) ws s
      (λ k d low high. first_of (spot_order (get_or ws (k + 1) d).spot (get_or ws k d).spot)
      (thread_order (get_or ws (k + 1) d).waker (get_or ws k d).waker) (order k d low high))
    where
      first_of : (x y : Ordering) → is_lt (ordering_then x y) ≡ false → is_lt x ≡ false
      first_of Less y e = e
      first_of Equal y e = refl
      first_of Greater y e = refl

  pub lower_first : IsPartitionedBy (λ w. is_lt (to_spot w)) ws
  lower_first =
      subst (λ p. IsPartitionedBy p ws) (λ i w. is_first (to_spot w) i)
      (IsPartitionedBy-ltb (λ w. ordering_index (to_spot w)) ws 1 never_falls)
    where
      is_first : (o : Ordering) → nat_lt (ordering_index o) 1 ≡ is_lt o
      is_first Less = refl
      is_first Equal = refl
      is_first Greater = refl

  pub upto_first : IsPartitionedBy (λ w. is_le (to_spot w)) ws
  upto_first =
      subst (λ p. IsPartitionedBy p ws) (λ i w. is_first (to_spot w) i)
      (IsPartitionedBy-ltb (λ w. ordering_index (to_spot w)) ws 2 never_falls)
    where
      is_first : (o : Ordering) → nat_lt (ordering_index o) 2 ≡ is_le o
      is_first Less = refl
      is_first Equal = refl
      is_first Greater = refl

  -- these places are the ends of the wakes at the spot
  pub record AreEnds (start end : ℕ) : Type 0 where
    pub start_within : start ≤ length ws
    pub end_within : end ≤ length ws
    pub lower : AllWithin (λ w. is_lt (to_spot w) ≡ true) ws 0 start
    pub from : AllWithin (λ w. is_lt (to_spot w) ≡ false) ws start (length ws)
    pub upto : AllWithin (λ w. is_le (to_spot w) ≡ true) ws 0 end
    pub above : AllWithin (λ w. is_le (to_spot w) ≡ false) ws end (length ws)

  pub start_first : (start end : ℕ) → AreEnds start end → start ≤ end
  start_first start end ends =
      ⊎_elim (λ (lt : end < start). absurd (never lt)) (λ (le : start ≤ end). le)
      (let P : (end < start) ⊎ (start ≤ end) = grind arith in P)
    where
      both : (o : Ordering) → is_lt o ≡ true → is_le o ≡ false → ⊥
      both Less e f = true_false f
      both Equal e f = true_false (sym e)
      both Greater e f = true_false (sym e)

      nowhere : Wake
      nowhere = record { spot = s; waker = record { 0 = 0 } }

      never : end < start → ⊥
      never lt =
          both (to_spot (get_or ws end nowhere)) (ends.lower end nowhere (omega arith) lt)
          (ends.above end nowhere (omega arith) (omega (arith, lt, ends.start_within)))

  pub between_ends : (start end : ℕ) → AreEnds start end
      → take (end - start) (drop start ws) ≡ filter (is_wake_of s) ws
  between_ends start end ends =
      let first = start_first start end ends in
      let whole : start + (end - start) ≡ end = omega (arith, first) in
      let within = ends.end_within in
      taken_is (is_wake_of s) ws start (end - start) (omega (arith, whole, within))
      (λ k d low high. of_order (get_or ws k d) ∙ not_less (to_spot (get_or ws k d)) (ends.lower k d low high))
      (λ k d low high. of_order (get_or ws k d)
      ∙ tie (to_spot (get_or ws k d)) (ends.from k d low (omega (arith, high, whole, within)))
      (ends.upto k d (omega arith) (omega (arith, high, whole))))
      (λ k d low high. of_order (get_or ws k d)
      ∙ not_greater (to_spot (get_or ws k d)) (ends.above k d (omega (arith, low, whole)) high))
    where
      of_order : (w : Wake) → is_wake_of s w ≡ is_eq (to_spot w)
      of_order w = spot_ties w.spot s

      not_less : (o : Ordering) → is_lt o ≡ true → is_eq o ≡ false
      not_less Less e = refl
      not_less Equal e = sym e
      not_less Greater e = refl

      tie : (o : Ordering) → is_lt o ≡ false → is_le o ≡ true → is_eq o ≡ true
      tie Less e f = sym e
      tie Equal e f = refl
      tie Greater e f = f

      not_greater : (o : Ordering) → is_le o ≡ false → is_eq o ≡ false
      not_greater Less e = refl
      not_greater Equal e = e
      not_greater Greater e = refl
