-- Names by their places and by their ranks.
use Rattle.std.proofs.Common.{◌≡◌, ℕ, ◌<◌, List, [], ◌∷◌, ◌++◌, length, get_or, map, take, drop}
use Rattle.std.proofs.Common.{Some, refl, sym, ap, ◌∙◌}
use Rattle.std.proofs.Common.{option_map, ◌-◌, min, ⊎_elim, arith, inl, inr, ◌⊎◌, ◌≤◌, None, ◌+◌, zero, suc, subst}
use Rattle.std.specs.Prelude.{All, slice_get, slice_index}
use Rattle.std.specs.Cmp.Lexicographic.{slice_cmp}
use Rattle.std.specs.Ordering.{nat_cmp, ordering_then}
use Rattle.std.proofs.lemmas.Cmp.{nat_cmp_total, tied_itself}
use Rattle.std.proofs.lemmas.List.{length-map, length-take-le, get_or-map, get_or_default}
use Rattle.std.proofs.lemmas.List.{drop-drop, drop-take, take-append-drop}
use Rattle.std.proofs.lemmas.List.{take_more}
use Rattle.std.proofs.lemmas.List.Elements.{All-push, All-weaker}
use Rattle.std.proofs.lemmas.Option.{slice_get-map, slice_get_within, slice_get_cases}
use Rattle.name_numbers.specs.declared.text_place.TextPlace.{TextPlace}
use Rattle.name_numbers.specs.Keys.{NumberEach}
use Rattle.name_numbers.specs.inner.Places.{behind, BeginsWith}
use Rattle.name_numbers.specs.Texts.{text_at}

-- ---- texts that begin with the same bytes

pub take_of_take : (n m : ℕ) (xs : List ℕ) → n ≤ m → take n (take m xs) ≡ take n xs
take_of_take zero m xs le = refl
take_of_take (suc n) zero xs le = absurd (omega arith)
take_of_take (suc n) (suc m) [] le = refl
take_of_take (suc n) (suc m) (x ∷ xs) le = ap (λ (ys : List ℕ). x ∷ ys) (take_of_take n m xs (omega arith))

drop_none : (n : ℕ) → ◌≡◌ {A = List ℕ} (drop n []) []
drop_none zero = refl
drop_none (suc n) = refl

pub drop_over : (m n : ℕ) (xs : List ℕ) → m ≤ n → drop n (take m xs) ≡ []
drop_over zero n xs le = drop_none n
drop_over (suc m) zero xs le = absurd (omega arith)
drop_over (suc m) (suc n) [] le = refl
drop_over (suc m) (suc n) (x ∷ xs) le = drop_over m n xs (omega arith)

-- what stands at a place without its front
pub behind_text : (bytes : List ℕ) (p : TextPlace) (skip : ℕ)
    → text_at bytes (behind skip p) ≡ drop skip (text_at bytes p)
behind_text bytes p skip =
    let n : ℕ = p.end - p.start in
    ⊎_elim
    (λ (lt : skip ≤ n).
    let rest : p.end - (p.start + min skip n) ≡ n - skip = omega arith in
    let at : p.start + min skip n ≡ p.start + skip = omega arith in
    let long : n ≡ skip + (n - skip) = omega arith in
    (λ i. take (rest i) (drop (at i) bytes))
    ∙ sym (ap (λ k. drop skip (take k (drop p.start bytes))) long ∙ drop-take skip (n - skip) (drop p.start bytes)
    ∙ ap (take (n - skip)) (drop-drop skip p.start bytes)))
    (λ (gt : n ≤ skip).
    let rest : p.end - (p.start + min skip n) ≡ 0 = omega arith in
    ap (λ k. take k (drop (p.start + min skip n) bytes)) rest ∙ sym (drop_over n skip (drop p.start bytes) gt))
    (let P : (skip ≤ n) ⊎ (n ≤ skip) = grind arith in P)

pub behind_common : (common text : List ℕ) → BeginsWith common text → common ++ drop (length common) text ≡ text
behind_common common text begins =
    ap (λ (front : List ℕ). front ++ drop (length common) text) (sym begins)
    ∙ take-append-drop (length common) text

pub cmp_behind : (common x y : List ℕ) → slice_cmp nat_cmp (common ++ x) (common ++ y) ≡ slice_cmp nat_cmp x y
cmp_behind [] x y = refl
cmp_behind (b ∷ bs) x y =
    ap (λ o. ordering_then o (slice_cmp nat_cmp (bs ++ x) (bs ++ y))) (tied_itself nat_cmp_total b) ∙ cmp_behind bs x y

-- ---- what all begin with, one by one

-- the front of what a text begins with
pub begins_shorter : (common text : List ℕ) (n : ℕ) → n ≤ length common → BeginsWith common text
    → BeginsWith (take n common) text
begins_shorter common text n le begins =
    let long : length (take n common) ≡ n = length-take-le n common le in
    ap (λ k. take k text) long ∙ sym (ap (take n) (sym begins) ∙ take_of_take n (length common) text le)

-- as many bytes as two texts have in common
pub begins_alike : (common text : List ℕ) (n : ℕ) → n ≤ length common → take n text ≡ take n common
    → BeginsWith (take n common) text
begins_alike common text n le same =
    let long : length (take n common) ≡ n = length-take-le n common le in
    ap (λ k. take k text) long ∙ same

pub begin_more : (bytes common : List ℕ) (places : List TextPlace) (i : ℕ) (d : TextPlace) → i < length places
    → All (λ (p : TextPlace). BeginsWith common (text_at bytes p)) (take i places)
    → BeginsWith common (text_at bytes (get_or places i d))
    → All (λ (p : TextPlace). BeginsWith common (text_at bytes p)) (take (i + 1) places)
begin_more bytes common places i d lt all here =
    subst (All (λ (p : TextPlace). BeginsWith common (text_at bytes p))) (sym (take_more places i d lt))
    (All-push (λ (p : TextPlace). BeginsWith common (text_at bytes p)) (take i places) (get_or places i d) all here)

pub begin_shorter : (bytes common : List ℕ) (n : ℕ) (places : List TextPlace) → n ≤ length common
    → All (λ (p : TextPlace). BeginsWith common (text_at bytes p)) places
    → All (λ (p : TextPlace). BeginsWith (take n common) (text_at bytes p)) places
begin_shorter bytes common n places le all =
    All-weaker (λ (p : TextPlace). BeginsWith common (text_at bytes p))
    (λ (p : TextPlace). BeginsWith (take n common) (text_at bytes p))
    (λ p begins. begins_shorter common (text_at bytes p) n le begins) places all

-- ---- numbers

-- a place is one of a key
there : {K : Type 0} (apart : List K) (places : List ℕ) (all : List K) → NumberEach apart places all → (k : ℕ)
    → k < length all → slice_index places k < length apart
there {K = K} apart places all at k inside = go (slice_get_cases all k).1
  where
    go : ((x : K) × (k < length all) × (slice_get all k ≡ Some x) × (get_or all k x ≡ x))
        ⊎ ((length all ≤ k) × (slice_get all k ≡ None)) → slice_index places k < length apart
    go (inl h) = slice_get_within apart (slice_index places k) h.0 (at.each k inside ∙ h.2)
    go (inr h) = let le = h.0 in absurd (omega arith)

pub all_there : {K : Type 0} (apart : List K) (places : List ℕ) (all : List K) (count : ℕ) → NumberEach apart places all
    → count ≡ length apart → All (λ p. p < count) places
all_there apart places all count at is k d lt =
    let same : get_or places k d ≡ slice_index places k = get_or_default places k d 0 lt in
    let below = there apart places all at k (omega (arith, at.as_many)) in
    omega arith

-- numbers picked by places stand for the same as the places do
pub picks : {K F : Type 0} (f : K → F) (functions : List F) (ids : List ℕ) (apart : List K) (places : List ℕ)
    (all : List K) → NumberEach functions ids (map f apart) → NumberEach apart places all
    → NumberEach functions (map (slice_index ids) places) (map f all)
picks f functions ids apart places all each at =
    let long : length (map (slice_index ids) places) ≡ length places = length-map places (slice_index ids) in
    let wide : length (map f all) ≡ length all = length-map all f in
    record {
      as_many = long ∙ at.as_many ∙ sym wide;
      each = λ k lt.
          let inside : k < length all = omega (arith, wide) in
          let p : ℕ = slice_index places k in
          let within : p < length apart = there apart places all at k inside in
          let number : slice_index (map (slice_index ids) places) k ≡ slice_index ids p =
          get_or-map (slice_index ids) places k 0 0 (omega (arith, at.as_many)) in
          ap (slice_get functions) number ∙ each.each p (omega (arith, length-map apart f)) ∙ slice_get-map f apart p
          ∙ ap (option_map f) (at.each k inside) ∙ sym (slice_get-map f all k);
    }
