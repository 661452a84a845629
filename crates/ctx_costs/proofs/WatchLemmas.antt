-- The threads of a watch, by their places.
use Rattle.std.proofs.Common.{◌≡◌, ℕ, zero, suc, ◌+◌, ◌<◌, ◌≤◌, ◌==◌, ◌||◌, not, nat_lt}
use Rattle.std.proofs.Common.{Bool, true, false, List, [], ◌∷◌, ◌++◌, Option, None}
use Rattle.std.proofs.Common.{Some, get_or, length, map, refl, ap, sym, ◌∙◌, arith, inl, inr, if◌then◌else◌}
use Rattle.std.specs.List.{AllByRecursion, list_any, position_or_len}
use Rattle.std.proofs.lemmas.List.Quantifiers.{position-Some}
use Rattle.std.specs.Prelude.{position, slice_set}
use Rattle.std.proofs.lemmas.Bool.{eq-eqb}
use Rattle.std.proofs.lemmas.Bool.Decides.{nat_tests}
use Rattle.event_costs.specs.declared.numbers.ThreadNo.{ThreadNo}
use Rattle.recorder.specs.Laws.{AreApart, IsIn}
use Rattle.contexts.specs.Contexts.{Context, with_context}
use Rattle.ctx_rows.specs.States.{Track, track_in, with_track}
use Rattle.ctx_costs.specs.inner.Tracks.{Book, IsKept, IsPlaceOf, IsSound, track_of}
use Rattle.ctx_costs.proofs.Others.{numbered_more, with_context_more}
use Rattle.contexts.proofs.SearchLemmas.{none_any, past_all}

-- a track is found where its thread's only one stands
pub track_at : (books : List Book) (thread : ThreadNo) (place : ℕ) (d : Book)
    → AreApart (map (λ (b : Book). b.thread) books)
    → place < length books → (get_or books place d).thread.0 ≡ thread.0
    → track_in thread (map track_of books) ≡ track_of (get_or books place d)
track_at [] thread place d apart less is = absurd (omega (arith, less))
track_at (b ∷ books) thread zero d apart less is =
    ap (λ c. if c then track_of b else track_in thread (map track_of books)) (eq-eqb thread.0 b.thread.0 (sym is))
track_at (b ∷ books) thread (suc place) d apart less is =
    ap (λ c. if c then track_of b else track_in thread (map track_of books)) (not_first (thread.0 == b.thread.0) refl)
    ∙ track_at books thread place d apart.1 (omega (arith, less)) is
  where
    there : (cs : List Book) (k : ℕ) → k < length cs → IsIn (map (λ (c : Book). c.thread) cs) (get_or cs k d).thread
    there [] k less_ = absurd (omega (arith, less_))
    there (c ∷ cs) zero less_ = inl refl
    there (c ∷ cs) (suc k) less_ = inr (there cs k (omega (arith, less_)))

    not_first : (c : Bool) → thread.0 == b.thread.0 ≡ c → c ≡ false
    not_first false is_ = refl
    not_first true is_ =
        let same : thread.0 ≡ b.thread.0 = grind (arith, nat_tests) in
        absurd (apart.0 (get_or books place d).thread (there books place (omega (arith, less))) (sym same ∙ sym is))

-- one track in another's place
pub with_track_at : (books : List Book) (new : Book) (place : ℕ) (d : Book)
    → AreApart (map (λ (b : Book). b.thread) books)
    → place < length books → (get_or books place d).thread.0 ≡ new.thread.0
    → with_track (track_of new) (map track_of books) ≡ map track_of (slice_set books place new)
with_track_at [] new place d apart less is = absurd (omega (arith, less))
with_track_at (b ∷ books) new zero d apart less is =
    ap (λ c. if c then track_of new ∷ map track_of books
    else track_of b ∷ with_track (track_of new) (map track_of books))
    (eq-eqb new.thread.0 b.thread.0 (sym is))
with_track_at (b ∷ books) new (suc place) d apart less is =
    ap (λ c. if c then track_of new ∷ map track_of books
    else track_of b ∷ with_track (track_of new) (map track_of books))
    (not_first (new.thread.0 == b.thread.0) refl)
    ∙ ap (λ ts. track_of b ∷ ts) (with_track_at books new place d apart.1 (omega (arith, less)) is)
  where
    there : (cs : List Book) (k : ℕ) → k < length cs → IsIn (map (λ (c : Book). c.thread) cs) (get_or cs k d).thread
    there [] k less_ = absurd (omega (arith, less_))
    there (c ∷ cs) zero less_ = inl refl
    there (c ∷ cs) (suc k) less_ = inr (there cs k (omega (arith, less_)))

    not_first : (c : Bool) → new.thread.0 == b.thread.0 ≡ c → c ≡ false
    not_first false is_ = refl
    not_first true is_ =
        let same : new.thread.0 ≡ b.thread.0 = grind (arith, nat_tests) in
        absurd (apart.0 (get_or books place d).thread (there books place (omega (arith, less))) (sym same ∙ sym is))

-- what holds of each, with one put in a place
pub all_set : {X : Type 0} (P : X → Type 0) (xs : List X) (place : ℕ) (new : X) → AllByRecursion P xs → P new
    → AllByRecursion P (slice_set xs place new)
all_set P [] place new all here = tt
all_set P (x ∷ xs) zero new all here = (here, all.1)
all_set P (x ∷ xs) (suc place) new all here = (all.0, all_set P xs place new all.1 here)

pub all_at : {X : Type 0} (P : X → Type 0) (xs : List X) (place : ℕ) (d : X) → AllByRecursion P xs → place < length xs
    → P (get_or xs place d)
all_at P [] place d all less = absurd (omega (arith, less))
all_at P (x ∷ xs) zero d all less = all.0
all_at P (x ∷ xs) (suc place) d all less = all_at P xs place d all.1 (omega (arith, less))

pub all_weaker : {X : Type 0} (P Q : X → Type 0) (xs : List X) → ((x : X) → P x → Q x) → AllByRecursion P xs
    → AllByRecursion Q xs
all_weaker P Q [] weaker all = tt
all_weaker P Q (x ∷ xs) weaker all = (weaker x all.0, all_weaker P Q xs weaker all.1)

pub all_more : {X : Type 0} (P : X → Type 0) (xs : List X) (x : X) → AllByRecursion P xs → P x
    → AllByRecursion P (xs ++ x ∷ [])
all_more P [] x all here = (here, tt)
all_more P (y ∷ ys) x all here = (all.0, all_more P ys x all.1 here)

-- threads stay sound once another context has come up
pub sound_more : (callers : ℕ) (cs : List Context) (c : Context) (t : Track) → IsSound callers cs t
    → IsSound callers (with_context cs c) t
sound_more callers cs c t sound = record {
  sums = sound.sums;
  numbered = numbered_more callers cs c t.frames t.stack sound.numbered;
  lines = λ place there. with_context_more cs c place.func.0 (sound.lines place there);
  arcs = λ arc there. (
    with_context_more cs c arc.caller.0 (sound.arcs arc there).0,
    with_context_more cs c arc.callee.0 (sound.arcs arc there).1,
  );
}

pub kept_more : (callers : ℕ) (cs : List Context) (c : Context) (b : Book) → IsKept callers cs b
    → IsKept callers (with_context cs c) b
kept_more callers cs c b kept =
    record { framed = kept.framed; sound = sound_more callers cs c (track_of b) kept.sound }

pub place_found : (books : List Book) (thread : ThreadNo) (r : Option ℕ)
    → r ≡ position (λ (b : Book). thread.0 == b.thread.0) books → IsPlaceOf books thread r
place_found books thread None is =
    none_any (λ (b : Book). thread.0 == b.thread.0) books
    (past_all (λ (b : Book). thread.0 == b.thread.0) books (sym is))
place_found books thread (Some place) is = found_at books place is
  where
    same : (a b : ℕ) → a == b ≡ true → b ≡ a
    same a b e = grind (arith, nat_tests)

    found_at : (bs : List Book) (k : ℕ) → Some k ≡ position (λ (b : Book). thread.0 == b.thread.0) bs
        → (k < length bs) × ((d : Book) → (get_or bs k d).thread.0 ≡ thread.0)
    found_at [] k e = absurd (cc)
    found_at (b ∷ bs) k e = (
      (position-Some (λ (c : Book). thread.0 == c.thread.0) (b ∷ bs) k b (sym e)).0,
      (λ d. same thread.0 (get_or (b ∷ bs) k d).thread.0
          (position-Some (λ (c : Book). thread.0 == c.thread.0) (b ∷ bs) k d (sym e)).1),
    )
