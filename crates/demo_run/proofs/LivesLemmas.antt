-- The ways and words of the further threads, as one of them goes on or ends, or one more begins.
use Rattle.std.proofs.Common.{◌≡◌, ◌≢◌, ℕ, zero, suc, ◌+◌, ◌<◌, ◌≤◌, List, [], ◌∷◌, ◌++◌, length, length-append}
use Rattle.std.proofs.Common.{length-set, get_or, refl, sym, ap, ◌∙◌, arith, subst}
use Rattle.std.proofs.Common.{Option, Some, None, inl, inr}
use Rattle.std.specs.Prelude.{remove, slice_set, ◌==◌}
use Rattle.std.proofs.lemmas.Bool.{cases_Bool, eqb-true, eqb-false}
use Rattle.std.proofs.lemmas.List.{get_or-set_same, get_or-set_other}
use Rattle.demo_run.proofs.Ways.{Stop}
use Rattle.demo_run.proofs.Lives.{AreGone, Lives, Main, Suits, life, ways_from, words_from}

pub length-words_from : (t : ℕ) (lives : Lives) → length (words_from t lives) ≡ length lives
length-words_from t [] = refl
length-words_from t (None ∷ lives) = ap suc (length-words_from (suc t) lives)
length-words_from t (Some n ∷ lives) = ap suc (length-words_from (suc t) lives)

pub length-ways_from : (t : ℕ) (lives : Lives) → length (ways_from t lives) ≤ length lives
length-ways_from t [] = omega arith
length-ways_from t (None ∷ lives) = omega (arith, length-ways_from (suc t) lives)
length-ways_from t (Some n ∷ lives) = omega (arith, length-ways_from (suc t) lives)

-- ---- the word of one

pub word_ended : (t k : ℕ) (lives : Lives) → life lives k ≡ None → get_or (words_from t lives) k 0 ≡ 0
word_ended t k [] is = refl
word_ended t zero (None ∷ lives) is = refl
word_ended t zero (Some n ∷ lives) is = cc
word_ended t (suc k) (None ∷ lives) is = word_ended (suc t) k lives is
word_ended t (suc k) (Some n ∷ lives) is = word_ended (suc t) k lives is

pub word_lives : (t k n : ℕ) (lives : Lives) → life lives k ≡ Some n → get_or (words_from t lives) k 0 ≡ t + k + 2
word_lives t k n [] is = cc
word_lives t zero n (None ∷ lives) is = cc
word_lives t zero n (Some m ∷ lives) is = omega arith
word_lives t (suc k) n (None ∷ lives) is = word_lives (suc t) k n lives is ∙ omega arith
word_lives t (suc k) n (Some m ∷ lives) is = word_lives (suc t) k n lives is ∙ omega arith

pub lives_below : (k n : ℕ) (lives : Lives) → life lives k ≡ Some n → k < length lives
lives_below k n [] is = cc
lives_below zero n (o ∷ lives) is = omega arith
lives_below (suc k) n (o ∷ lives) is = omega (arith, lives_below k n lives is)

-- ---- where one is

pub record IsPlaced (t : ℕ) (lives : Lives) (place k number n : ℕ) : Type 0 where
  pub there : life lives k ≡ Some n
  pub way : (d : Stop × ℕ) → get_or (ways_from t lives) place d ≡ (Stop.ends number, n)
  pub goes_on : (m : ℕ) → slice_set (ways_from t lives) place (Stop.ends number, m)
      ≡ ways_from t (slice_set lives k (Some m))
  pub ended : remove (ways_from t lives) place ≡ ways_from t (slice_set lives k None)
  pub same_words : (m : ℕ) → words_from t lives ≡ words_from t (slice_set lives k (Some m))
  pub word_cleared : slice_set (words_from t lives) k 0 ≡ words_from t (slice_set lives k None)

abbrev Placed : ℕ → Lives → ℕ → Type 0
Placed t lives place = (k : ℕ) × (number : ℕ) × (n : ℕ) × (number ≡ t + k) × IsPlaced t lives place k number n

placed_from : (t : ℕ) (lives : Lives) (place : ℕ) → place < length (ways_from t lives) → Placed t lives place
placed_from t [] place lt = absurd (omega arith)
placed_from t (None ∷ lives) place lt =
    let rest = placed_from (suc t) lives place lt in
    let is = rest.4 in
    let number = rest.3 in (
      suc rest.0,
      rest.1,
      rest.2,
      omega arith,
      record {
        there = is.there;
        way = is.way;
        goes_on = is.goes_on;
        ended = is.ended;
        same_words = λ m. ap (λ (ws : List ℕ). 0 ∷ ws) (is.same_words m);
        word_cleared = ap (λ (ws : List ℕ). 0 ∷ ws) is.word_cleared;
      },
    )
placed_from t (Some n ∷ lives) zero lt = (
  zero,
  t,
  n,
  omega arith,
  record {
    there = refl;
    way = λ d. refl;
    goes_on = λ m. refl;
    ended = refl;
    same_words = λ m. refl;
    word_cleared = refl;
  },
)
placed_from t (Some n ∷ lives) (suc place) lt =
    let rest = placed_from (suc t) lives place (omega arith) in
    let is = rest.4 in
    let number = rest.3 in (
      suc rest.0,
      rest.1,
      rest.2,
      omega arith,
      record {
        there = is.there;
        way = is.way;
        goes_on = λ m. ap (λ (ws : List (Stop × ℕ)). (Stop.ends t, n) ∷ ws) (is.goes_on m);
        ended = ap (λ (ws : List (Stop × ℕ)). (Stop.ends t, n) ∷ ws) is.ended;
        same_words = λ m. ap (λ (ws : List ℕ). suc (suc t) ∷ ws) (is.same_words m);
        word_cleared = ap (λ (ws : List ℕ). suc (suc t) ∷ ws) is.word_cleared;
      },
    )

pub placed : (lives : Lives) (place : ℕ) → place < length (ways_from 0 lives)
    → (k : ℕ) × (n : ℕ) × IsPlaced 0 lives place k k n
placed lives place lt =
    let is = placed_from 0 lives place lt in
    let number : is.1 ≡ is.0 = let e = is.3 in omega arith in
    (is.0, is.2, subst (λ number. IsPlaced 0 lives place is.0 number is.2) number is.4)

-- ---- one more

pub ways_more : (t n : ℕ) (lives : Lives)
    → ways_from t (lives ++ Some n ∷ []) ≡ ways_from t lives ++ (Stop.ends (t + length lives), n) ∷ []
ways_more t n [] =
    let same : t ≡ t + 0 = omega arith in
    ap (λ (k : ℕ). (Stop.ends k, n) ∷ []) same
ways_more t n (None ∷ lives) =
    let same : suc t + length lives ≡ t + suc (length lives) = omega arith in
    ways_more (suc t) n lives ∙ ap (λ (k : ℕ). ways_from (suc t) lives ++ (Stop.ends k, n) ∷ []) same
ways_more t n (Some m ∷ lives) =
    let same : suc t + length lives ≡ t + suc (length lives) = omega arith in
    ap (λ (ws : List (Stop × ℕ)). (Stop.ends t, m) ∷ ws)
    (ways_more (suc t) n lives ∙ ap (λ (k : ℕ). ways_from (suc t) lives ++ (Stop.ends k, n) ∷ []) same)

pub words_more : (t n v : ℕ) (lives : Lives) → v ≡ t + length lives + 2
    → words_from t (lives ++ Some n ∷ []) ≡ words_from t lives ++ v ∷ []
words_more t n v [] is = let same : suc (suc t) ≡ v = omega arith in ap (λ (k : ℕ). k ∷ []) same
words_more t n v (None ∷ lives) is = ap (λ (ws : List ℕ). 0 ∷ ws) (words_more (suc t) n v lives (omega arith))
words_more t n v (Some m ∷ lives) is =
    ap (λ (ws : List ℕ). suc (suc t) ∷ ws) (words_more (suc t) n v lives (omega arith))

pub length-lives_more : (n : ℕ) (lives : Lives) → length (lives ++ Some n ∷ []) ≡ length lives + 1
length-lives_more n lives = length-append lives (Some n ∷ [])

pub life_more : (k n : ℕ) (lives : Lives) → k ≢ length lives → life (lives ++ Some n ∷ []) k ≡ life lives k
life_more zero n [] other = absurd (other refl)
life_more (suc k) n [] other = refl
life_more zero n (o ∷ lives) other = refl
life_more (suc k) n (o ∷ lives) other = life_more k n lives (λ e. other (ap suc e))

-- ---- who has ended

pub none_left : (t : ℕ) (lives : Lives) → ((k : ℕ) → k < length lives → life lives k ≡ None) → ways_from t lives ≡ []
none_left t [] all = refl
none_left t (None ∷ lives) all = none_left (suc t) lives (λ k lt. all (suc k) (omega arith))
none_left t (Some n ∷ lives) all = let first : Some n ≡ None = all 0 (omega arith) in cc

-- one that lives becomes another, and who has ended has ended
module _ (lives : Lives) (k n : ℕ) (o : Option ℕ) (there : life lives k ≡ Some n) where
  pub other_life : (j : ℕ) → j ≢ k → life (slice_set lives k o) j ≡ life lives j
  other_life j other = get_or-set_other lives k j o None other

  pub new_life : life (slice_set lives k o) k ≡ o
  new_life = get_or-set_same lives k o None (lives_below k n lives there)

  pub still_ended : (j : ℕ) → life lives j ≡ None → life (slice_set lives k o) j ≡ None
  still_ended j none = other_life j (λ same. lives_yet (subst (λ i. life lives i ≡ None) same none)) ∙ none
    where
      lives_yet : life lives k ≡ None → ⊥
      lives_yet none = cc

  pub still_gone : (t : ℕ) → AreGone t lives → AreGone t (slice_set lives k o)
  still_gone t gone j lt = still_ended j (gone j lt)

  pub length-changed : length (slice_set lives k o) ≡ length lives
  length-changed = length-set lives k o

  -- where main sleeps, and who ended wasn't the one whose end it awaits
  pub still_suits : (main : Main) → ((t : ℕ) → main ≡ Main.sleeps t → t ≡ k → o ≢ None) → Suits lives main
      → Suits (slice_set lives k o) main
  still_suits (Main.makes t) stays suits = (suits.0, suits.1 ∙ sym length-changed)
  still_suits (Main.looks t) stays suits = (suits.0, length-changed ∙ suits.1, still_gone t suits.2)
  still_suits (Main.waits t) stays suits = (suits.0, length-changed ∙ suits.1, still_gone t suits.2)
  still_suits (Main.sleeps t) stays suits = (suits.0, length-changed ∙ suits.1, still_gone t suits.2, yet)
    where
      yet : life (slice_set lives k o) t ≢ None
      yet none = elim (cases_Bool (t == k)) [
        | inl same ↦ (let e = eqb-true t k same in
            stays t refl e (sym new_life ∙ ap (life (slice_set lives k o)) (sym e) ∙ none))
        | inr other ↦ suits.3 (sym (other_life t (eqb-false t k other)) ∙ none)
      ]
  still_suits (Main.again t) stays suits =
      (suits.0, length-changed ∙ suits.1, still_gone t suits.2, still_ended t suits.3)
  still_suits Main.finishes stays suits = (still_gone 3 suits.0, length-changed ∙ suits.1)

pub gone_more : (t : ℕ) (lives : Lives) → AreGone t lives → life lives t ≡ None → AreGone (t + 1) lives
gone_more t lives gone none k lt = elim (cases_Bool (k == t)) [
  | inl same ↦ subst (λ j. life lives j ≡ None) (sym (eqb-true k t same)) none
  | inr other ↦ gone k (let e = eqb-false k t other in omega arith)
]
