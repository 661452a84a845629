-- Ranges of addresses one after another, and the iovecs that name them.
use Rattle.std.proofs.Common.{◌≡◌, ℕ, zero, suc, ◌+◌, ◌-◌, ◌*◌, ◌<◌, ◌≤◌, ◌⊎◌, min, Bool, true, false, ◌&&◌, List, []}
use Rattle.std.proofs.Common.{◌∷◌, ◌++◌, map, length, take, drop, get_or, Some, None, refl, sym, ◌∙◌, ap, subst, inl}
use Rattle.std.proofs.Common.{inr, arith, add-one, add-zero, cond, rules, ◌==◌}
use Rattle.std.specs.Prelude.{nat_lt, Result, Ok, Err, IsOk, OnErr}
use Rattle.std.specs.Result.{result_ok}
use Rattle.std.proofs.Math.Seq.{drop-cons, take-append-add}
use Rattle.std.proofs.lemmas.Bool.{cases_lt, lt-ltb, le-ltb, cond-true}
use Rattle.std.proofs.lemmas.Bool.Decides.{nat_tests}
use Rattle.std.proofs.lemmas.List.{length-take, length-drop, take-append-drop, take-append-le, append-nil, map-append}
use Rattle.std.proofs.lemmas.List.Folds.{list_all-append}
use Rattle.guest_mem.specs.Memory.{Memory, allows_at, may, load_at, byte_at, bytes_at, number_of, write_at, store_at}
use Rattle.guest_mem.specs.Memory.{count_below}
use Rattle.guest_mem.proofs.Ranges.{may-from, may_at, allowed-written}
use Rattle.guest_mem.proofs.Spans.{written-append}
use Rattle.guest_sys.specs.declared.vectors.Iovec.{Iovec}
use Rattle.guest_sys.specs.declared.vectors.IovecList.{IovecList}
use Rattle.guest_sys.specs.Vectors.{iovec_at, iovecs, total, addresses_from, iovecs_read}
use Rattle.guest_sys.specs.inner.Bodies.{addresses_of, each_allowed, IsIovecList}
use Rattle.guest_sys.specs.Vectors.{put_each}
use Rattle.guest_sys.specs.Taking.{ReadsFirst}
use Rattle.guest_sys.proofs.RowLemmas.{length-counting, take-counting}

-- ---- one range

pub allowed-counting : (m : Memory) (want a n : ℕ) → each_allowed m want (addresses_from a n) ≡ may m want a n
unfolding addresses_from may
allowed-counting m want a zero = refl
allowed-counting m want a (suc n) = ap (λ b. allows_at m want a && b) (allowed-counting m want (a + 1) n)

pub bytes-counting : (m : Memory) (a n : ℕ) → map (byte_at m) (addresses_from a n) ≡ bytes_at m a n
unfolding addresses_from bytes_at
bytes-counting m a zero = refl
bytes-counting m a (suc n) = ap (λ bs. byte_at m a ∷ bs) (bytes-counting m (a + 1) n)

-- a range, and what follows, cut at k
pub cut : (a n k : ℕ) (rest : List ℕ) → take k (addresses_from a n ++ rest) ≡ addresses_from a (min k n) ++ take (k - min k n) rest
cut a n k rest = elim (cases_lt k n) [
  | inl below ↦
      let least : min k n ≡ k = omega arith in
      let none : k - k ≡ 0 = omega arith in
      take-append-le k (addresses_from a n) rest (omega (arith, length-counting a n)) ∙ take-counting a n k (omega arith)
      ∙ sym (append-nil (addresses_from a k)) ∙ ap (λ j. addresses_from a k ++ take j rest) (sym none)
      ∙ ap (λ j. addresses_from a j ++ take (k - j) rest) (sym least)
  | inr above ↦
      let least : min k n ≡ n = omega arith in
      let sum : k ≡ length (addresses_from a n) + (k - n) = omega (arith, length-counting a n) in
      ap (λ j. take j (addresses_from a n ++ rest)) sum ∙ take-append-add (addresses_from a n) rest (k - n)
      ∙ ap (λ j. addresses_from a j ++ take (k - j) rest) (sym least)
]

-- the places of the ranges from one on
pub places_at : (ss : List Iovec) (i : ℕ) (d : Iovec) → i < length ss
    → addresses_of (drop i ss) ≡ addresses_from (get_or ss i d).addr (get_or ss i d).len ++ addresses_of (drop (i + 1) ss)
places_at ss i d h = ap addresses_of (drop-cons ss i d h)
    ∙ ap (λ j. addresses_from (get_or ss i d).addr (get_or ss i d).len ++ addresses_of (drop j ss)) (sym (add-one i))

pub cut_at : (ss : List Iovec) (i k : ℕ) (d : Iovec) → i < length ss
    → take k (addresses_of (drop i ss)) ≡ addresses_from (get_or ss i d).addr (min k (get_or ss i d).len)
    ++ take (k - min k (get_or ss i d).len) (addresses_of (drop (i + 1) ss))
cut_at ss i k d h = ap (take k) (places_at ss i d h)
    ∙ cut (get_or ss i d).addr (get_or ss i d).len k (addresses_of (drop (i + 1) ss))

pub allowed_at : (m : Memory) (want : ℕ) (ss : List Iovec) (i k : ℕ) (d : Iovec) → i < length ss
    → each_allowed m want (take k (addresses_of (drop i ss)))
    ≡ (may m want (get_or ss i d).addr (min k (get_or ss i d).len)
    && each_allowed m want (take (k - min k (get_or ss i d).len) (addresses_of (drop (i + 1) ss))))
allowed_at m want ss i k d h =
    let s = get_or ss i d in
    ap (each_allowed m want) (cut_at ss i k d h)
    ∙ list_all-append (allows_at m want) (addresses_from s.addr (min k s.len))
    (take (k - min k s.len) (addresses_of (drop (i + 1) ss)))
    ∙ ap (λ b. b && each_allowed m want (take (k - min k s.len) (addresses_of (drop (i + 1) ss))))
    (allowed-counting m want s.addr (min k s.len))

pub bytes_of_places : (m : Memory) (ss : List Iovec) (i k : ℕ) (d : Iovec) → i < length ss
    → map (byte_at m) (take k (addresses_of (drop i ss))) ≡ bytes_at m (get_or ss i d).addr (min k (get_or ss i d).len)
    ++ map (byte_at m) (take (k - min k (get_or ss i d).len) (addresses_of (drop (i + 1) ss)))
bytes_of_places m ss i k d h =
    let s = get_or ss i d in
    ap (map (byte_at m)) (cut_at ss i k d h)
    ∙ map-append (byte_at m) (addresses_from s.addr (min k s.len)) (take (k - min k s.len) (addresses_of (drop (i + 1) ss)))
    ∙ ap (λ bs. bs ++ map (byte_at m) (take (k - min k s.len) (addresses_of (drop (i + 1) ss))))
    (bytes-counting m s.addr (min k s.len))

-- ---- bytes put to places

put_each-append : (m : Memory) (ps bs xs ys : List ℕ) → length ps ≡ length xs
    → put_each m (ps ++ bs) (xs ++ ys) ≡ put_each (put_each m ps xs) bs ys
put_each-append m [] bs [] ys h = refl
put_each-append m [] bs (x ∷ xs) ys h = absurd (omega arith)
put_each-append m (a ∷ ps) bs [] ys h = absurd (omega arith)
put_each-append m (a ∷ ps) bs (x ∷ xs) ys h = put_each-append (write_at m a (x ∷ [])) ps bs xs ys (omega arith)

put_each-counting : (m : Memory) (a : ℕ) (x : ℕ) (xs : List ℕ)
    → put_each m (addresses_from a (length (x ∷ xs))) (x ∷ xs) ≡ write_at m a (x ∷ xs)
unfolding addresses_from
put_each-counting m a x [] = refl
put_each-counting m a x (y ∷ ys) = put_each-counting (write_at m a (x ∷ [])) (a + 1) y ys
    ∙ written-append m a (x ∷ []) (y ∷ ys)

each_allowed-written : (m : Memory) (a want : ℕ) (bs addrs : List ℕ)
    → each_allowed (write_at m a bs) want addrs ≡ each_allowed m want addrs
each_allowed-written m a want bs [] = refl
each_allowed-written m a want bs (x ∷ xs) =
    ap (λ b. b && each_allowed (write_at m a bs) want xs) (allowed-written m a bs want x)
    ∙ ap (λ b. allows_at m want x && b) (each_allowed-written m a want bs xs)

-- ---- iovecs

-- a part of a range that may be used
pub may_part : (m : Memory) (want a n b k : ℕ) → may m want a n ≡ true → a ≤ b → b + k ≤ a + n → may m want b k ≡ true
may_part m want a n b k h low high =
    may-from m want b k (λ j l.
    let sum : a + (b + j - a) ≡ b + j = omega arith in
    ap (allows_at m want) (sym sum) ∙ may_at m want a n h (b + j - a) (omega arith))

true_or_false : (b : Bool) → (b ≡ true) ⊎ (b ≡ false)
true_or_false true = inl refl
true_or_false false = inr refl

true_not_false : (b : Bool) {A : Type 0} → b ≡ true → b ≡ false → A
true_not_false b holds fails = cc

-- a range of which a part may not be used
pub may_not : (m : Memory) (want a n b k : ℕ) → may m want b k ≡ false → a ≤ b → b + k ≤ a + n → may m want a n ≡ false
may_not m want a n b k h low high = elim (true_or_false (may m want a n)) [
  | inl holds ↦ true_not_false (may m want b k) (may_part m want a n b k holds low high) h
  | inr refused ↦ refused
]

pub loaded_there : (m : Memory) (want a n : ℕ) → may m want a n ≡ true
    → load_at m want a n ≡ Some (number_of (bytes_at m a n))
unfolding load_at
loaded_there m want a n h = ap (λ b. cond b (Some (number_of (bytes_at m a n))) None) h

pub total-append : (ss : List Iovec) (s : Iovec) → total (ss ++ s ∷ []) ≡ total ss + s.len
total-append [] s = omega arith
total-append (t ∷ ss) s = omega (arith, total-append ss s)

pub total_more : (m : Memory) (iov n : ℕ)
    → total (iovecs m iov (n + 1)) ≡ total (iovecs m iov n) + (iovec_at m (iov + 8 * n)).len
unfolding iovecs
total_more m iov n = ap (λ k. total (iovecs m iov k)) (add-one n)
    ∙ total-append (iovecs m iov n) (iovec_at m (iov + 8 * n))

pub iovecs_more : (m : Memory) (iov n : ℕ) → iovecs m iov (n + 1) ≡ iovecs m iov n ++ iovec_at m (iov + 8 * n) ∷ []
unfolding iovecs
iovecs_more m iov n = ap (iovecs m iov) (add-one n)

-- more iovecs have no smaller sum
total_grows : (m : Memory) (iov i k : ℕ) → total (iovecs m iov i) ≤ total (iovecs m iov (i + k))
total_grows m iov i zero = omega (arith, ap (λ j. total (iovecs m iov j)) (add-zero i))
total_grows m iov i (suc k) =
    let sum : i + suc k ≡ i + k + 1 = omega arith in
    omega (arith, total_grows m iov i k, total_more m iov (i + k), ap (λ j. total (iovecs m iov j)) sum)

count_all : (test : ℕ → Bool) (n : ℕ) → ((j : ℕ) → j < n → test j ≡ true) → count_below test n ≡ n
unfolding count_below
count_all test zero each = refl
count_all test (suc n) each = rw (each n (omega arith)) (omega (arith, count_all test n (λ j h. each j (omega arith))))

count_front : (test : ℕ → Bool) (r n : ℕ) → r ≤ n → ((j : ℕ) → j < r → test j ≡ true)
    → ((j : ℕ) → r ≤ j → j < n → test j ≡ false) → count_below test n ≡ r
unfolding count_below
count_front test r zero h each none = omega arith
count_front test r (suc n) h each none = elim (cases_lt n r) [
  | inl all ↦
      let same : suc n ≡ r = omega arith in
      count_all test (suc n) (λ j l. each j (omega arith)) ∙ same
  | inr some ↦ rw (none n (omega arith) (omega arith))
      (omega (arith, count_front test r n (omega arith) each (λ j l k. none j l (omega arith))))
]

count_least : (test : ℕ → Bool) (r n : ℕ) → r ≤ n → ((j : ℕ) → j < r → test j ≡ true) → r ≤ count_below test n
unfolding count_below
count_least test r zero h each = omega arith
count_least test r (suc n) h each = elim (cases_lt n r) [
  | inl all ↦ omega (arith, count_all test (suc n) (λ j l. each j (omega arith)))
  | inr some ↦ omega (arith, count_least test r n (omega arith) each)
]

-- each of the first n iovecs is read
abbrev pub EachRead : ℕ → Memory → ℕ → ℕ → Type 0
EachRead limit m iov n = (j : ℕ) → j < n → total (iovecs m iov j) < limit

pub read_to_end : (limit : ℕ) (m : Memory) (iov count : ℕ) → EachRead limit m iov count
    → iovecs_read limit m iov count ≡ count
unfolding iovecs_read
read_to_end limit m iov count each =
    count_all (λ i. nat_lt (total (iovecs m iov i)) limit) count (λ j h. lt-ltb (total (iovecs m iov j)) limit (each j h))

pub read_to_limit : (limit : ℕ) (m : Memory) (iov count n : ℕ) → n ≤ count → EachRead limit m iov n
    → limit ≤ total (iovecs m iov n) → iovecs_read limit m iov count ≡ n
unfolding iovecs_read
read_to_limit limit m iov count n h each over =
    count_front (λ i. nat_lt (total (iovecs m iov i)) limit) n count h
    (λ j l. lt-ltb (total (iovecs m iov j)) limit (each j l))
    (λ j l k.
    let sum : n + (j - n) ≡ j = omega arith in
    le-ltb (total (iovecs m iov j)) limit
    (omega (arith, over, total_grows m iov n (j - n), ap (λ i. total (iovecs m iov i)) sum)))

pub read_at_least : (limit : ℕ) (m : Memory) (iov count n : ℕ) → n ≤ count → EachRead limit m iov n
    → n ≤ iovecs_read limit m iov count
unfolding iovecs_read
read_at_least limit m iov count n h each =
    count_least (λ i. nat_lt (total (iovecs m iov i)) limit) n count h
    (λ j l. lt-ltb (total (iovecs m iov j)) limit (each j l))

-- where a list of iovecs isn't empty, the first of them was read
pub reads_first : (limit : ℕ) (m : Memory) (iov count : ℕ) (ss : List Iovec) → 1 ≤ length ss
    → ss ≡ iovecs m iov (iovecs_read limit m iov count) → may m 1 iov (8 * iovecs_read limit m iov count) ≡ true
    → ReadsFirst limit m iov count
unfolding iovecs
reads_first limit m iov count ss some is readable =
    let one = some_read (iovecs_read limit m iov count) (subst (λ (xs : List Iovec). 1 ≤ length xs) is some) in (
      one,
      may_part m 1 iov (8 * iovecs_read limit m iov count) iov 8 readable (omega arith) (omega (arith, one)),
    )
  where
    some_read : (n : ℕ) → 1 ≤ length (iovecs m iov n) → 1 ≤ n
    some_read zero h = h
    some_read (suc n) h = omega arith

-- the same of the list that was found
pub iovecs_are_read : (limit : ℕ) (m : Memory) (iov count : ℕ) (listed : IovecList) (ss : List Iovec) → 1 ≤ length ss
    → ss ≡ listed.iovecs.items → IsIovecList limit m iov count (Some listed) → ReadsFirst limit m iov count
iovecs_are_read limit m iov count listed ss some is found =
    reads_first limit m iov count listed.iovecs.items (subst (λ (xs : List Iovec). 1 ≤ length xs) is some) found.1 found.0

pub on_err : {T E P : Type 0} (r : Result T E) → P → OnErr r P
on_err (Ok x) holds = tt {0}
on_err (Err e) holds = holds

-- ---- one step of a walk over ranges

pub and_left : (b c : Bool) → (b && c) ≡ true → b ≡ true
and_left true c h = refl
and_left false c h = h

pub and_right : (b c : Bool) → (b && c) ≡ true → c ≡ true
and_right true c h = h
and_right false c h = true_not_false false h refl

pub false_and : (b c : Bool) → b ≡ false → (b && c) ≡ false
false_and b c h = ap (λ x. x && c) h

pub true_and : (b c : Bool) → b ≡ true → (b && c) ≡ c
true_and b c h = ap (λ x. x && c) h

-- the bytes of one range are put
pub put_piece_is : (m : Memory) (a : ℕ) (bs : List ℕ) → may m 2 a (length bs) ≡ true → 0 < length bs
    → store_at m a bs ≡ put_each m (addresses_from a (length bs)) bs
unfolding store_at
put_piece_is m a [] h some = absurd (omega arith)
put_piece_is m a (x ∷ xs) h some = cond-true (may m 2 a (length (x ∷ xs))) (write_at m a (x ∷ xs)) m h
    ∙ sym (put_each-counting m a x xs)

each_allowed-put : (m : Memory) (want : ℕ) (ps bs addrs : List ℕ)
    → each_allowed (put_each m ps bs) want addrs ≡ each_allowed m want addrs
each_allowed-put m want [] bs addrs = refl
each_allowed-put m want (p ∷ ps) [] addrs = refl
each_allowed-put m want (p ∷ ps) (b ∷ bs) addrs = each_allowed-put (write_at m p (b ∷ [])) want ps bs addrs
    ∙ each_allowed-written m p want (b ∷ []) addrs

pub scattered : (m new : Memory) (ss : List Iovec) (i : ℕ) (d : Iovec) (rest piece after : List ℕ) → i < length ss
    → piece ≡ take (min (length rest) (get_or ss i d).len) rest
    → after ≡ drop (min (length rest) (get_or ss i d).len) rest
    → new ≡ put_each m (addresses_from (get_or ss i d).addr (length piece)) piece
    → put_each m (take (length rest) (addresses_of (drop i ss))) rest
    ≡ put_each new (take (length after) (addresses_of (drop (i + 1) ss))) after
scattered m new ss i d rest piece after h is after_is new_is =
    let s = get_or ss i d in
    let k = min (length rest) s.len in
    let beyond = addresses_of (drop (i + 1) ss) in
    let len : length piece ≡ k = ap length is ∙ length-take k rest ∙ omega arith in
    let left : length after ≡ length rest - k = ap length after_is ∙ length-drop k rest in
    let whole : rest ≡ piece ++ after = sym (take-append-drop k rest) ∙ ap (λ ys. ys ++ drop k rest) (sym is)
    ∙ ap (λ ys. piece ++ ys) (sym after_is) in
    ap (λ ps. put_each m ps rest) (cut_at ss i (length rest) d h)
    ∙ ap (put_each m (addresses_from s.addr k ++ take (length rest - k) beyond)) whole
    ∙ put_each-append m (addresses_from s.addr k) (take (length rest - k) beyond) piece after
    (length-counting s.addr k ∙ sym len)
    ∙ ap (λ n. put_each (put_each m (addresses_from s.addr n) piece) (take (length rest - k) beyond) after) (sym len)
    ∙ ap (λ (x : Memory). put_each x (take (length rest - k) beyond) after) (sym new_is)
    ∙ ap (λ n. put_each new (take n beyond) after) (sym left)

pub allowed_here : (m : Memory) (want : ℕ) (ss : List Iovec) (i k : ℕ) (d : Iovec) → i < length ss
    → each_allowed m want (take k (addresses_of (drop i ss))) ≡ true
    → may m want (get_or ss i d).addr (min k (get_or ss i d).len) ≡ true
allowed_here m want ss i k d h all = and_left _ _ (sym (allowed_at m want ss i k d h) ∙ all)

pub allowed_next : (m new : Memory) (ss : List Iovec) (i : ℕ) (d : Iovec) (rest piece after : List ℕ) → i < length ss
    → after ≡ drop (min (length rest) (get_or ss i d).len) rest
    → new ≡ put_each m (addresses_from (get_or ss i d).addr (length piece)) piece
    → each_allowed m 2 (take (length rest) (addresses_of (drop i ss))) ≡ true
    → each_allowed new 2 (take (length after) (addresses_of (drop (i + 1) ss))) ≡ true
allowed_next m new ss i d rest piece after h after_is new_is all =
    let s = get_or ss i d in
    let k = min (length rest) s.len in
    let left : length after ≡ length rest - k = ap length after_is ∙ length-drop k rest in
    ap (λ (x : Memory). each_allowed x 2 (take (length after) (addresses_of (drop (i + 1) ss)))) new_is
    ∙ each_allowed-put m 2 (addresses_from s.addr (length piece)) piece (take (length after) (addresses_of (drop (i + 1) ss)))
    ∙ ap (λ n. each_allowed m 2 (take n (addresses_of (drop (i + 1) ss)))) left
    ∙ and_right _ _ (sym (allowed_at m 2 ss i (length rest) d h) ∙ all)

pub put_nothing : (m : Memory) (a : ℕ) (bs : List ℕ) → true ≡ (length bs == 0)
    → m ≡ put_each m (addresses_from a (length bs)) bs
unfolding addresses_from
put_nothing m a [] h = refl
put_nothing m a (x ∷ xs) h = absurd (omega (arith, no_length (length (x ∷ xs)) h))
  where
    no_length : (n : ℕ) → true ≡ (n == 0) → n ≡ 0
    no_length n e = grind (arith, nat_tests)

pub some_bytes : (n : ℕ) → false ≡ (n == 0) → 0 < n
some_bytes zero h = cc
some_bytes (suc n) h = omega arith

pub ok_from : {E : Type 0} (r : Result ℕ E) (v : ℕ) → result_ok r ≡ Some v → IsOk r
ok_from (Ok x) v h = search rules
ok_from (Err e) v h = cc

pub read_more : (limit : ℕ) (m : Memory) (iov n : ℕ) → EachRead limit m iov n → total (iovecs m iov n) < limit
    → EachRead limit m iov (n + 1)
read_more limit m iov n each last j h = elim (cases_lt j n) [
  | inl before ↦ each j before
  | inr here ↦
      let same : j ≡ n = omega arith in
      subst (λ k. total (iovecs m iov k) < limit) (sym same) last
]
