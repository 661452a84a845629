-- The tracks of a state, by their threads.
use Rattle.std.proofs.Common.{◌≡◌, ◌≢◌, ℕ, ◌==◌, ◌||◌, Bool, true, false}
use Rattle.std.proofs.Common.{List, [], ◌∷◌, ◌++◌, refl, ap, sym, ◌∙◌}
use Rattle.std.proofs.Common.{if◌then◌else◌, arith}
use Rattle.std.specs.List.{list_any}
use Rattle.std.proofs.lemmas.Bool.{eq-eqb, or_parts}
use Rattle.std.proofs.lemmas.Bool.Decides.{nat_tests}
use Rattle.event_costs.specs.declared.numbers.ThreadNo.{ThreadNo}
use Rattle.ctx_rows.specs.States.{Track, is_track_of, empty_track, track_in, with_track}
use Rattle.ctx_rows.proofs.Others.{is_not}

true_false : true ≡ false → ⊥
true_false e = cc

same_eqb : (m n : ℕ) → m ≡ n → m == n ≡ true
same_eqb m n is = eq-eqb m n is

-- one track in its thread's place
pub track_with : (ts : List Track) (u : Track) (t : ThreadNo) → list_any (is_track_of u.thread) ts ≡ true → t.0 ≡ u.thread.0
    → track_in t (with_track u ts) ≡ u
track_with [] u t there is = absurd (true_false (sym there))
track_with (v ∷ ts) u t there is = by (is_track_of u.thread v) refl (λ h. track_with ts u t h is)
  where
    by : (b : Bool) → is_track_of u.thread v ≡ b → (list_any (is_track_of u.thread) ts ≡ true → track_in t (with_track u ts) ≡ u)
        → track_in t (with_track u (v ∷ ts)) ≡ u
    by true here rest =
        ap (λ c. track_in t (if c then u ∷ ts else v ∷ with_track u ts)) here
        ∙ ap (λ c. if c then u else track_in t ts) (same_eqb t.0 u.thread.0 is)
    by false other rest =
        ap (λ c. track_in t (if c then u ∷ ts else v ∷ with_track u ts)) other
        ∙ ap (λ c. if c then v else track_in t (with_track u ts)) (ap (λ n. n == v.thread.0) is ∙ other)
        ∙ rest (sym (ap (λ c. c || list_any (is_track_of u.thread) ts) other) ∙ there)

pub track_other : (ts : List Track) (u : Track) (t : ThreadNo) → t.0 ≢ u.thread.0
    → track_in t (with_track u ts) ≡ track_in t ts
track_other [] u t apart = refl
track_other (v ∷ ts) u t apart = by (is_track_of u.thread v) refl (track_other ts u t apart)
  where
    by : (b : Bool) → is_track_of u.thread v ≡ b → track_in t (with_track u ts) ≡ track_in t ts
        → track_in t (with_track u (v ∷ ts)) ≡ track_in t (v ∷ ts)
    by true here rest =
        let same : u.thread.0 ≡ v.thread.0 = grind (arith, nat_tests) in
        ap (λ c. track_in t (if c then u ∷ ts else v ∷ with_track u ts)) here
        ∙ ap (λ c. if c then u else track_in t ts) (is_not t.0 u.thread.0 apart)
        ∙ sym (ap (λ c. if c then v else track_in t ts) (is_not t.0 v.thread.0 (λ e. apart (e ∙ sym same))))
    by false other rest =
        ap (λ c. track_in t (if c then u ∷ ts else v ∷ with_track u ts)) other
        ∙ ap (λ r. if is_track_of t v then v else r) rest

pub knows_with : (ts : List Track) (u : Track) (t : ThreadNo)
    → list_any (is_track_of t) (with_track u ts) ≡ list_any (is_track_of t) ts
knows_with [] u t = refl
knows_with (v ∷ ts) u t = by (is_track_of u.thread v) refl (knows_with ts u t)
  where
    by : (b : Bool) → is_track_of u.thread v ≡ b → list_any (is_track_of t) (with_track u ts) ≡ list_any (is_track_of t) ts
        → list_any (is_track_of t) (with_track u (v ∷ ts)) ≡ list_any (is_track_of t) (v ∷ ts)
    by true here rest =
        let same : u.thread.0 ≡ v.thread.0 = grind (arith, nat_tests) in
        ap (λ c. list_any (is_track_of t) (if c then u ∷ ts else v ∷ with_track u ts)) here
        ∙ ap (λ n. t.0 == n || list_any (is_track_of t) ts) same
    by false other rest =
        ap (λ c. list_any (is_track_of t) (if c then u ∷ ts else v ∷ with_track u ts)) other
        ∙ ap (λ c. is_track_of t v || c) rest

-- one more track
pub track_append : (ts : List Track) (u : Track) (t : ThreadNo) → list_any (is_track_of t) ts ≡ true
    → track_in t (ts ++ u ∷ []) ≡ track_in t ts
track_append [] u t there = absurd (true_false (sym there))
track_append (v ∷ ts) u t there = by (is_track_of t v) refl (λ h. track_append ts u t h)
  where
    by : (b : Bool) → is_track_of t v ≡ b → (list_any (is_track_of t) ts ≡ true → track_in t (ts ++ u ∷ []) ≡ track_in t ts)
        → track_in t (v ∷ (ts ++ u ∷ [])) ≡ track_in t (v ∷ ts)
    by true here rest =
        ap (λ c. if c then v else track_in t (ts ++ u ∷ [])) here ∙ sym (ap (λ c. if c then v else track_in t ts) here)
    by false other rest =
        ap (λ r. if is_track_of t v then v else r) (rest (sym (ap (λ c. c || list_any (is_track_of t) ts) other) ∙ there))

pub track_new : (ts : List Track) (u : Track) (t : ThreadNo) → list_any (is_track_of t) ts ≡ false → t.0 ≡ u.thread.0
    → track_in t (ts ++ u ∷ []) ≡ u
track_new [] u t none is = ap (λ c. if c then u else empty_track t) (same_eqb t.0 u.thread.0 is)
track_new (v ∷ ts) u t none is =
    let parts = or_parts (is_track_of t v) (list_any (is_track_of t) ts) none in
    ap (λ c. if c then v else track_in t (ts ++ u ∷ [])) parts.0 ∙ track_new ts u t parts.1 is

or_right : (a b : Bool) → a || (b || false) ≡ a || b
or_right true b = refl
or_right false true = refl
or_right false false = refl

or_assoc : (a b c : Bool) → a || (b || c) ≡ (a || b) || c
or_assoc true b c = refl
or_assoc false b c = refl

pub knows_append : (ts : List Track) (u : Track) (t : ThreadNo)
    → list_any (is_track_of t) (ts ++ u ∷ []) ≡ list_any (is_track_of t) ts || (t.0 == u.thread.0)
knows_append [] u t = or_right false (t.0 == u.thread.0)
knows_append (v ∷ ts) u t =
    ap (λ c. is_track_of t v || c) (knows_append ts u t) ∙ or_assoc (is_track_of t v) (list_any (is_track_of t) ts) (t.0 == u.thread.0)
