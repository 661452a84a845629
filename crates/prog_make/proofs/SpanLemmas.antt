-- Spans that share no address.
use Rattle.std.proofs.Common.{◌≡◌, ℕ, ◌+◌, ◌<◌, ◌≤◌, ◌||◌, Bool, true, false, IsTrue, cond, max, min, List, [], ◌∷◌}
use Rattle.std.proofs.Common.{◌++◌, length, take, drop, get_or, map, refl, sym, ap, ◌∙◌, arith}
use Rattle.std.specs.List.{All, count_by, list_any}
use Rattle.std.proofs.lemmas.Bool.{le-ltb}
use Rattle.std.proofs.lemmas.Bool.Decides.{nat_tests}
use Rattle.std.proofs.lemmas.List.{take_more, drop_more, take-append-drop}
use Rattle.std.proofs.lemmas.List.Elements.{All-push}
use Rattle.std.proofs.lemmas.List.Sums.{sum_by-cons, sum_by-append}
use Rattle.prog_make.specs.declared.function_part.FunctionPart.{FunctionPart}
use Rattle.prog_make.specs.declared.span.Span.{Span}
use Rattle.prog_make.specs.SegmentContent.{SegmentContent}
use Rattle.prog_make.specs.Functions.{lies_in}
use Rattle.prog_make.specs.Conditions.{AreFunctionsApart}
use Rattle.prog_make.specs.inner.Conditions.{covers, AreApart}
use Rattle.prog_make.specs.inner.Spans.{within, overlaps, AreSpansApart}
use Rattle.prog_make.proofs.SegmentsRead.{All-rest}

-- a span behind the others overlaps none of them
pub none_overlap : (s : Span) (reach : ℕ) (ys : List Span) → reach ≤ s.start → All (λ t. t.start + t.len ≤ reach) ys
    → list_any (overlaps s) ys ≡ false
none_overlap s reach [] le below = refl
none_overlap s reach (y ∷ ys) le below =
    let here : y.start + y.len ≤ reach = below 0 y (omega arith) in
    let apart : min (s.start + s.len) (y.start + y.len) ≤ max s.start y.start = omega arith in
    rw (le-ltb (max s.start y.start) (min (s.start + s.len) (y.start + y.len)) apart)
    (none_overlap s reach ys le (All-rest (λ t. t.start + t.len ≤ reach) y ys below))

apart_at : (a : ℕ) (s t : Span) → within a s ≡ true → overlaps s t ≡ false → within a t ≡ false
apart_at a s t inside apart = grind (arith, nat_tests)

-- an address of a span that overlaps none lies in none
count-none : (a : ℕ) (s : Span) (ys : List Span) → within a s ≡ true → list_any (overlaps s) ys ≡ false
    → count_by (within a) ys ≡ 0
count-none a s [] inside apart = refl
count-none a s (y ∷ ys) inside apart = go (overlaps s y) refl (count-none a s ys inside) apart
  where
    go : (b : Bool) → overlaps s y ≡ b → (list_any (overlaps s) ys ≡ false → count_by (within a) ys ≡ 0)
        → (b || list_any (overlaps s) ys) ≡ false → count_by (within a) (y ∷ ys) ≡ 0
    go true e rest h = absurd cc
    go false e rest h =
        let out : within a y ≡ false = apart_at a s y inside e in
        let sum = sum_by-cons (λ t. cond (within a t) 1 0) y ys in
        let nothing : cond {A = ℕ} (within a y) 1 0 ≡ 0 = rw out refl in
        let others = rest h in
        omega arith

-- one more span
pub apart-push : (ys : List Span) (s : Span) → AreSpansApart ys → list_any (overlaps s) ys ≡ false
    → AreSpansApart (ys ++ s ∷ [])
apart-push ys s apart none a = go (within a s) refl
  where
    go : (b : Bool) → within a s ≡ b → count_by (within a) (ys ++ s ∷ []) ≤ 1
    go true e =
        let zero = count-none a s ys e none in
        let both = sum_by-append (λ t. cond (within a t) 1 0) ys (s ∷ []) in
        let one = sum_by-cons (λ t. cond (within a t) 1 0) s [] in
        let here : cond {A = ℕ} (within a s) 1 0 ≡ 1 = rw e refl in
        omega arith
    go false e =
        let few = apart a in
        let both = sum_by-append (λ t. cond (within a t) 1 0) ys (s ∷ []) in
        let one = sum_by-cons (λ t. cond (within a t) 1 0) s [] in
        let here : cond {A = ℕ} (within a s) 1 0 ≡ 0 = rw e refl in
        omega arith

in_both : (s t : Span) → overlaps s t ≡ true
    → (within (max s.start t.start) s ≡ true) × (within (max s.start t.start) t ≡ true)
in_both s t e = (grind (arith, nat_tests), grind (arith, nat_tests))

-- an address of a span that overlaps one lies in one
some_count : (s : Span) (ys : List Span) → list_any (overlaps s) ys ≡ true
    → (a : ℕ) × (within a s ≡ true) × (1 ≤ count_by (within a) ys)
some_count s [] e = absurd cc
some_count s (y ∷ ys) e = go (overlaps s y) refl (some_count s ys) e
  where
    go : (b : Bool) → overlaps s y ≡ b
        → (list_any (overlaps s) ys ≡ true → (a : ℕ) × (within a s ≡ true) × (1 ≤ count_by (within a) ys))
        → (b || list_any (overlaps s) ys) ≡ true
        → (a : ℕ) × (within a s ≡ true) × (1 ≤ count_by (within a) (y ∷ ys))
    go true f rest h =
        let a = max s.start y.start in
        let both = in_both s y f in
        let here : cond {A = ℕ} (within a y) 1 0 ≡ 1 = rw both.1 refl in
        let sum = sum_by-cons (λ t. cond (within a t) 1 0) y ys in
        (a, both.0, omega arith)
    go false f rest h =
        let (a, inside, some) = rest h in
        let sum = sum_by-cons (λ t. cond (within a t) 1 0) y ys in
        (a, inside, omega arith)

-- a span that overlaps one before it shares an address with it
pub overlap-shares : (ys zs : List Span) (s : Span) → list_any (overlaps s) ys ≡ true → AreSpansApart (ys ++ s ∷ zs) → ⊥
overlap-shares ys zs s e apart =
    let found = some_count s ys e in
    let a = found.0 in
    let few = apart a in
    let some = found.2 in
    let both = sum_by-append (λ t. cond (within a t) 1 0) ys (s ∷ zs) in
    let one = sum_by-cons (λ t. cond (within a t) 1 0) s zs in
    let here : cond {A = ℕ} (within a s) 1 0 ≡ 1 = rw found.1 refl in
    omega arith

-- the first k of a list, the next one and the rest
pub split_at : (xs : List Span) (k : ℕ) (d : Span) → k < length xs → xs ≡ take k xs ++ (get_or xs k d ∷ drop (k + 1) xs)
split_at xs k d lt = sym (take-append-drop k xs) ∙ ap (λ ys. take k xs ++ ys) (drop_more xs k d lt)

-- ---- a loop over spans

pub shares : (xs : List Span) (k : ℕ) (d : Span) → k < length xs
    → list_any (overlaps (get_or xs k d)) (take k xs) ≡ true → AreSpansApart xs → ⊥
shares xs k d lt e apart = overlap-shares (take k xs) (drop (k + 1) xs) (get_or xs k d) e
    (rw (← split_at xs k d lt) apart)

pub apart_more : (xs : List Span) (k : ℕ) (d : Span) → k < length xs
    → list_any (overlaps (get_or xs k d)) (take k xs) ≡ false → AreSpansApart (take k xs)
    → AreSpansApart (take (k + 1) xs)
apart_more xs k d lt e apart = rw (take_more xs k d lt) (apart-push (take k xs) (get_or xs k d) apart e)

pub reached_more : (xs : List Span) (k reach : ℕ) (d : Span) → k < length xs
    → All (λ s. s.start + s.len ≤ reach) (take k xs)
    → All (λ s. s.start + s.len ≤ max reach ((get_or xs k d).start + (get_or xs k d).len)) (take (k + 1) xs)
reached_more xs k reach d lt reached =
    let s = get_or xs k d in
    let further : All (λ t. t.start + t.len ≤ max reach (s.start + s.len)) (take k xs) = λ i e less. let h =
    reached i e less in omega arith in
    rw (take_more xs k d lt) (All-push (λ t. t.start + t.len ≤ max reach (s.start + s.len)) (take k xs) s further
    (omega arith))

-- ---- segments and functions as spans

abbrev pub segment_span : SegmentContent → Span
segment_span s = record { start = s.addr; len = s.mem_len }

abbrev pub function_span : FunctionPart → Span
function_span f = record { start = f.addr; len = f.size }

pub count-segments : (a : ℕ) (segments : List SegmentContent)
    → count_by (within a) (map segment_span segments) ≡ count_by (covers a) segments
count-segments a [] = refl
count-segments a (s ∷ segments) =
    sum_by-cons (λ t. cond (within a t) 1 0) (segment_span s) (map segment_span segments)
    ∙ ap (λ n. cond (covers a s) 1 0 + n) (count-segments a segments)
    ∙ sym (sum_by-cons (λ t. cond (covers a t) 1 0) s segments)

pub count-functions : (a : ℕ) (functions : List FunctionPart)
    → count_by (within a) (map function_span functions) ≡ count_by (lies_in a) functions
count-functions a [] = refl
count-functions a (f ∷ functions) =
    sum_by-cons (λ t. cond (within a t) 1 0) (function_span f) (map function_span functions)
    ∙ ap (λ n. cond (lies_in a f) 1 0 + n) (count-functions a functions)
    ∙ sym (sum_by-cons (λ t. cond (lies_in a t) 1 0) f functions)

-- what a test of the spans tells of the segments
pub segments-apart : (segments : List SegmentContent) (spans : List Span) (b : Bool) → spans ≡ map segment_span segments
    → (IsTrue b → AreSpansApart spans) → (AreSpansApart spans → IsTrue b)
    → (IsTrue b → AreApart segments) × (AreApart segments → IsTrue b)
segments-apart segments spans b is apart shared = (
  λ h a. rw (← count-segments a segments, ← is) (apart h a),
  λ all. shared
      (λ a. rw (is, count-segments a segments) (all a)),
)

pub functions-apart : (functions : List FunctionPart) (spans : List Span) (b : Bool)
    → spans ≡ map function_span functions → (IsTrue b → AreSpansApart spans) → (AreSpansApart spans → IsTrue b)
    → (IsTrue b → AreFunctionsApart functions) × (AreFunctionsApart functions → IsTrue b)
functions-apart functions spans b is apart shared = (
  λ h a. rw (← count-functions a functions, ← is) (apart h a),
  λ all. shared
      (λ a. rw (is, count-functions a functions) (all a)),
)
