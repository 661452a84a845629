-- What is kept, as places change.
use Rattle.std.proofs.Common.{◌≡◌, ℕ, zero, suc, refl, sym, ap, ◌∙◌, ◌/◌, ◌%◌, ◌<◌, ◌≤◌, ◌+◌}
use Rattle.std.proofs.Common.{arith, ◌⊎◌, ◌++◌, ◌==◌, Bool, true, false, cond, inl, inr, add-one, drop, length, replicate, subst, List, [], ◌∷◌}
use Rattle.std.proofs.lemmas.Bool.{cond-false, cond-true, eq-eqb, ne_eqb}
use Rattle.std.proofs.lemmas.Option.{slice_get_read}
use Rattle.std.proofs.Math.ListN.{drop_of_length-le, get_or, set}
use Rattle.std.specs.Prelude.{Option, Some, None, slice_get}
use Rattle.std.specs.Option.{option_and_then}
use Rattle.rv_decode.specs.declared.instr.Instr.{Instr}
use Rattle.rv_step.specs.Place.{place_of}
use Rattle.rv_step.specs.declared.instr_table.InstrTable.{InstrTable}
use Rattle.rv_step.specs.declared.kept_instr.KeptInstr.{KeptInstr}
use Rattle.rv_step.specs.inner.Places.{AreNoted, is_noted}
use Rattle.rv_step.specs.inner.Table.{found_at, kept_instruction}

same_or_not : (a b : ℕ) → (a ≡ b) ⊎ ¬ (a ≡ b)
same_or_not a b = grind arith

pub place-below : (pc p : ℕ) → p ≡ pc / 4 % 65536 → p < 65536
place-below pc p is = omega (arith, is)

found-same : (pc : ℕ) (f : KeptInstr) → f.pc ≡ pc → found_at pc f ≡ Some f.instr
found-same pc f at = grind arith

found-other : (pc : ℕ) (f : KeptInstr) (i : Instr) → found_at pc f ≡ Some i → f.pc ≡ pc
found-other pc f i is = grind arith

found-elsewhere : (pc : ℕ) (f : KeptInstr) → ¬ (f.pc ≡ pc) → found_at pc f ≡ None
found-elsewhere pc f apart = grind arith

-- what is in a place that isn't its own is found by no address
found-vacant : (pc place : ℕ) (f : KeptInstr) → place_of pc ≡ place → ¬ (place_of f.pc ≡ place) → found_at pc f ≡ None
found-vacant pc place f here vacant =
    found-elsewhere pc f (λ same. vacant (ap (λ (n : ℕ). place_of n) same ∙ here))

-- what a list gives after one place was set
get-here : (xs : List KeptInstr) (p : ℕ) (f : KeptInstr) → p < length xs → slice_get (set xs p f) p ≡ Some f
get-here [] p f within = absurd (omega (arith, within))
get-here (x ∷ xs) zero f within = refl
get-here (x ∷ xs) (suc p) f within = get-here xs p f (omega (arith, within))

get-there : (xs : List KeptInstr) (p i : ℕ) (f : KeptInstr) → ¬ (i ≡ p) → slice_get (set xs p f) i ≡ slice_get xs i
get-there [] p i f apart = refl
get-there (x ∷ xs) zero zero f apart = absurd (apart refl)
get-there (x ∷ xs) zero (suc i) f apart = refl
get-there (x ∷ xs) (suc p) zero f apart = refl
get-there (x ∷ xs) (suc p) (suc i) f apart = get-there xs p i f (λ same. apart (ap suc same))

get-within : (xs : List KeptInstr) (p : ℕ) (f : KeptInstr) → slice_get xs p ≡ Some f → p < length xs
get-within [] p f is = cc
get-within (x ∷ xs) zero f is = omega arith
get-within (x ∷ xs) (suc p) f is = let within = get-within xs p f is in omega (arith, within)

-- where what stands is noted, as a place is left
pub noted-without : (pcs : List ℕ) (first last p : ℕ) (xs : List KeptInstr) (f : KeptInstr) → p < length xs
    → ¬ (place_of f.pc ≡ p) → AreNoted pcs first last xs → AreNoted pcs first last (set xs p f)
noted-without pcs first last p xs f within vacant noted place g is own = by (same_or_not place p)
  where
    by : (place ≡ p) ⊎ ¬ (place ≡ p) → (is_noted place pcs ≡ true) × (first ≤ g.pc) × (g.pc ≤ last)
    by (inl here) =
        let at : Some f ≡ Some g = sym (get-here xs p f within)
        ∙ ap (λ (i : ℕ). slice_get (set xs p f) i) (sym here) ∙ is in
        let same : f ≡ g = cc in
        absurd (vacant (ap (λ (h : KeptInstr). place_of h.pc) same ∙ own ∙ here))
    by (inr there) = noted place g (sym (get-there xs p place f there) ∙ is) own

-- as the place of the first address is left
pub noted-next : (pc : ℕ) (pcs : List ℕ) (first last p : ℕ) (xs : List KeptInstr) (f : KeptInstr) → p < length xs
    → place_of pc ≡ p → ¬ (place_of f.pc ≡ p) → AreNoted (pc ∷ pcs) first last xs → AreNoted pcs first last (set xs p f)
noted-next pc pcs first last p xs f within of_pc vacant noted place g is own = by (same_or_not place p)
  where
    after : ¬ (place ≡ p) → is_noted place (pc ∷ pcs) ≡ true → is_noted place pcs ≡ true
    after there one =
        sym (cond-false _ _ _ (ne_eqb (place_of pc) place (λ same. there (sym same ∙ of_pc)))) ∙ one

    by : (place ≡ p) ⊎ ¬ (place ≡ p) → (is_noted place pcs ≡ true) × (first ≤ g.pc) × (g.pc ≤ last)
    by (inl here) =
        let at : Some f ≡ Some g = sym (get-here xs p f within)
        ∙ ap (λ (i : ℕ). slice_get (set xs p f) i) (sym here) ∙ is in
        let same : f ≡ g = cc in
        absurd (vacant (ap (λ (h : KeptInstr). place_of h.pc) same ∙ own ∙ here))
    by (inr there) =
        let (of_one, low, high) = noted place g (sym (get-there xs p place f there) ∙ is) own in
        (after there of_one, low, high)

drop-at : (pcs : List ℕ) (at d : ℕ) → at < length pcs → drop at pcs ≡ get_or pcs at d ∷ drop (suc at) pcs
drop-at [] at d within = absurd (omega (arith, within))
drop-at (x ∷ pcs) zero d within = refl
drop-at (x ∷ pcs) (suc at) d within = drop-at pcs at d (omega (arith, within))

pub noted-from : (pcs : List ℕ) (at pc first last p : ℕ) (xs : List KeptInstr) (f : KeptInstr) → at < length pcs
    → pc ≡ get_or pcs at pc → p ≡ place_of pc → p < length xs → ¬ (place_of f.pc ≡ p)
    → AreNoted (drop at pcs) first last xs → AreNoted (drop (at + 1) pcs) first last (set xs p f)
noted-from pcs at pc first last p xs f within is here there vacant noted =
    subst (λ (n : ℕ). AreNoted (drop n pcs) first last (set xs p f)) (sym (add-one at))
    (noted-next pc (drop (suc at) pcs) first last p xs f there (sym here) vacant
    (subst (λ (ps : List ℕ). AreNoted ps first last xs)
    (drop-at pcs at pc within ∙ ap (λ (q : ℕ). q ∷ drop (suc at) pcs) (sym is)) noted))

-- as a noted place is filled
pub noted-filled : (pcs : List ℕ) (first last p : ℕ) (xs : List KeptInstr) (f : KeptInstr) → p < length xs
    → p ≡ place_of f.pc → is_noted (place_of f.pc) pcs ≡ true → first ≤ f.pc → f.pc ≤ last
    → AreNoted pcs first last xs → AreNoted pcs first last (set xs p f)
noted-filled pcs first last p xs f within there_is of_one low high noted place g is own = by (same_or_not place p)
  where
    by : (place ≡ p) ⊎ ¬ (place ≡ p) → (is_noted place pcs ≡ true) × (first ≤ g.pc) × (g.pc ≤ last)
    by (inl here) =
        let at : Some f ≡ Some g = sym (get-here xs p f within)
        ∙ ap (λ (i : ℕ). slice_get (set xs p f) i) (sym here) ∙ is in
        let same : f ≡ g = cc in (
          ap (λ (i : ℕ). is_noted i pcs) (here ∙ there_is) ∙ of_one,
          subst (λ (h : KeptInstr). first ≤ h.pc) same low,
          subst (λ (h : KeptInstr). h.pc ≤ last) same high,
        )
    by (inr there) = noted place g (sym (get-there xs p place f there) ∙ is) own

-- as an address more is noted
or_true : (b rest : Bool) → rest ≡ true → cond b true rest ≡ true
or_true true rest is = refl
or_true false rest is = is

pub last-noted : (pcs : List ℕ) (pc : ℕ) → is_noted (place_of pc) (pcs ++ pc ∷ []) ≡ true
last-noted [] pc = cond-true _ _ _ (eq-eqb (place_of pc) (place_of pc) refl)
last-noted (x ∷ pcs) pc = or_true (place_of x == place_of pc) _ (last-noted pcs pc)

still_true : (b one more : Bool) → (one ≡ true → more ≡ true) → cond b true one ≡ true → cond b true more ≡ true
still_true true one more goes_on is = refl
still_true false one more goes_on is = goes_on is

noted-more : (pcs : List ℕ) (pc place : ℕ) → is_noted place pcs ≡ true → is_noted place (pcs ++ pc ∷ []) ≡ true
noted-more [] pc place none = cc
noted-more (x ∷ pcs) pc place one =
    still_true (place_of x == place) (is_noted place pcs) (is_noted place (pcs ++ pc ∷ [])) (noted-more pcs pc place) one

pub noted-last : (pcs qs : List ℕ) (b : Bool) (pc : ℕ) → qs ≡ cond b (pcs ++ pc ∷ []) pcs → b ≡ true
    → is_noted (place_of pc) qs ≡ true
noted-last pcs qs b pc is pushed =
    ap (is_noted (place_of pc)) (is ∙ cond-true _ _ _ pushed) ∙ last-noted pcs pc

pub noted-pushed : (pcs : List ℕ) (first last pc : ℕ) (xs : List KeptInstr) → AreNoted pcs first last xs
    → AreNoted (pcs ++ pc ∷ []) first last xs
noted-pushed pcs first last pc xs noted place g is own =
    let (of_one, low, high) = noted place g is own in (noted-more pcs pc place of_one, low, high)

pub noted-push : (pcs qs : List ℕ) (b : Bool) (first last pc : ℕ) (xs : List KeptInstr)
    → qs ≡ cond b (pcs ++ pc ∷ []) pcs → AreNoted pcs first last xs → AreNoted qs first last xs
noted-push pcs qs true first last pc xs is noted =
    subst (λ (ps : List ℕ). AreNoted ps first last xs) (sym is) (noted-pushed pcs first last pc xs noted)
noted-push pcs qs false first last pc xs is noted =
    subst (λ (ps : List ℕ). AreNoted ps first last xs) (sym is) noted

-- as the bounds are apart
pub noted-wider : (pcs : List ℕ) (first last low high : ℕ) (xs : List KeptInstr) → low ≤ first → last ≤ high
    → AreNoted pcs first last xs → AreNoted pcs low high xs
noted-wider pcs first last low high xs below above noted place g is own =
    let (of_one, from, to) = noted place g is own in (of_one, omega (arith, below, from), omega (arith, above, to))

-- where nothing is noted, bounds say nothing
pub none-noted : (pcs : List ℕ) (first last low high : ℕ) (xs : List KeptInstr) → pcs ≡ [] → AreNoted pcs first last xs
    → AreNoted pcs low high xs
none-noted pcs first last low high xs empty noted place g is own =
    let one : is_noted place [] ≡ true
    = subst (λ (ps : List ℕ). is_noted place ps ≡ true) empty (noted place g is own).0 in
    cc

-- behind the last address none is left
pub noted-end : (pcs qs : List ℕ) (n first last low high : ℕ) (xs : List KeptInstr) → qs ≡ [] → length pcs ≤ n
    → AreNoted (drop n pcs) first last xs → AreNoted qs low high xs
noted-end pcs qs n first last low high xs empty end noted =
    none-noted qs first last low high xs empty
    (subst (λ (ps : List ℕ). AreNoted ps first last xs) (drop_of_length-le pcs end ∙ sym empty) noted)

-- where each place holds the same, it is noted by its own address
get-replicated : (n i : ℕ) (f g : KeptInstr) → slice_get (replicate n f) i ≡ Some g → f ≡ g
get-replicated zero i f g is = cc
get-replicated (suc n) zero f g is = cc
get-replicated (suc n) (suc i) f g is = get-replicated n i f g is

pub noted-first : (qs : List ℕ) (n : ℕ) (xs : List KeptInstr) (f : KeptInstr) → qs ≡ f.pc ∷ [] → xs ≡ replicate n f
    → AreNoted qs f.pc f.pc xs
noted-first qs n xs f one all place g is own =
    let same : f ≡ g = get-replicated n place f g (ap (λ (ys : List KeptInstr). slice_get ys place) (sym all) ∙ is) in (
      ap (is_noted place) one
          ∙ cond-true _ _ _ (eq-eqb (place_of f.pc) place (ap (λ (h : KeptInstr). place_of h.pc) same ∙ own)),
      subst (λ (h : KeptInstr). f.pc ≤ h.pc) same (omega arith),
      subst (λ (h : KeptInstr). h.pc ≤ f.pc) same (omega arith),
    )

-- nothing is kept where nothing is noted
pub none-kept : (table : InstrTable) (pc : ℕ) → table.filled.items ≡ [] → kept_instruction table pc ≡ None
unfolding kept_instruction
none-kept table pc none = by (slice_get table.places.items (place_of pc)) refl
  where
    by : (o : Option KeptInstr) → slice_get table.places.items (place_of pc) ≡ o
        → option_and_then (found_at pc) o ≡ None
    by None is = refl
    by (Some f) is =
        found-vacant pc (place_of pc) f refl
        (λ own.
        let one : is_noted (place_of pc) [] ≡ true
        = subst (λ (pcs : List ℕ). is_noted (place_of pc) pcs ≡ true) none (table.noted (place_of pc) f is own).0 in
        cc)

-- what is kept stands within the bounds
pub kept-within : (table : InstrTable) (pc : ℕ) (i : Instr) → kept_instruction table pc ≡ Some i → (table.first ≤ pc) × (pc ≤ table.last)
unfolding kept_instruction
kept-within table pc i given = by (slice_get table.places.items (place_of pc)) refl given
  where
    by : (o : Option KeptInstr) → slice_get table.places.items (place_of pc) ≡ o
        → option_and_then (found_at pc) o ≡ Some i → (table.first ≤ pc) × (pc ≤ table.last)
    by None is none = cc
    by (Some f) is found =
        let here : f.pc ≡ pc = found-other pc f i found in
        let (of_one, low, high) = table.noted (place_of pc) f is (ap place_of here) in
        (omega (arith, low, here), omega (arith, high, here))

pub apart-below : (table : InstrTable) (a n : ℕ) → a + n ≤ table.first → (q : ℕ) (i : Instr) → kept_instruction table q ≡ Some i
    → (q + 4 ≤ a) ⊎ (a + n ≤ q)
apart-below table a n below q i given = inr (omega (arith, below, (kept-within table q i given).0))

pub apart-above : (table : InstrTable) (a n : ℕ) → table.last + 4 ≤ a → (q : ℕ) (i : Instr) → kept_instruction table q ≡ Some i
    → (q + 4 ≤ a) ⊎ (a + n ≤ q)
apart-above table a n above q i given = inl (omega (arith, above, (kept-within table q i given).1))

pub kept-here : (old new : InstrTable) (p : ℕ) (f : KeptInstr) (q : ℕ) → new.places.items ≡ set old.places.items p f
    → p < length old.places.items → place_of q ≡ p → kept_instruction new q ≡ found_at q f
unfolding kept_instruction
kept-here old new p f q is within here =
    ap (λ (xs : List KeptInstr). option_and_then (found_at q) (slice_get xs (place_of q))) is
    ∙ ap (λ (i : ℕ). option_and_then (found_at q) (slice_get (set old.places.items p f) i)) here
    ∙ ap (option_and_then (found_at q)) (get-here old.places.items p f within)

pub kept-there : (old new : InstrTable) (p : ℕ) (f : KeptInstr) (q : ℕ) → new.places.items ≡ set old.places.items p f
    → ¬ (place_of q ≡ p) → kept_instruction new q ≡ kept_instruction old q
unfolding kept_instruction
kept-there old new p f q is there =
    ap (λ (xs : List KeptInstr). option_and_then (found_at q) (slice_get xs (place_of q))) is
    ∙ ap (option_and_then (found_at q)) (get-there old.places.items p (place_of q) f there)

-- what is kept after something was found at an address
pub kept-found : (old new : InstrTable) (p pc : ℕ) (f : KeptInstr) → new.places.items ≡ set old.places.items p f
    → p ≡ place_of pc → length old.places.items ≡ 65536 → f.pc ≡ pc → kept_instruction new pc ≡ Some f.instr
kept-found old new p pc f is here whole at =
    kept-here old new p f pc is (omega (arith, whole, here)) (sym here) ∙ found-same pc f at

pub kept-others : (old new : InstrTable) (p : ℕ) (f : KeptInstr) → new.places.items ≡ set old.places.items p f
    → length old.places.items ≡ 65536 → p < 65536 → (q : ℕ) (i : Instr) → kept_instruction new q ≡ Some i
    → (q ≡ f.pc) ⊎ (kept_instruction old q ≡ Some i)
kept-others old new p f is whole within q i given = by (same_or_not (place_of q) p)
  where
    by : (place_of q ≡ p) ⊎ ¬ (place_of q ≡ p) → (q ≡ f.pc) ⊎ (kept_instruction old q ≡ Some i)
    by (inl here) =
        inl (sym (found-other q f i (sym (kept-here old new p f q is (omega (arith, whole)) here) ∙ given)))
    by (inr there) = inr (sym (kept-there old new p f q is there) ∙ given)

-- what is kept after nothing stands at a place any more
pub kept-fewer : (old new : InstrTable) (p : ℕ) (f : KeptInstr) → new.places.items ≡ set old.places.items p f
    → length old.places.items ≡ 65536 → p < 65536 → ¬ (place_of f.pc ≡ p)
    → (q : ℕ) (i : Instr) → kept_instruction new q ≡ Some i → kept_instruction old q ≡ Some i
kept-fewer old new p f is whole within vacant q i given = by (same_or_not (place_of q) p)
  where
    by : (place_of q ≡ p) ⊎ ¬ (place_of q ≡ p) → kept_instruction old q ≡ Some i
    by (inl here) =
        let gone = kept-here old new p f q is (omega (arith, whole)) here ∙ found-vacant q p f here vacant in
        cc
    by (inr there) = sym (kept-there old new p f q is there) ∙ given

pub kept-gone : (old new : InstrTable) (p pc : ℕ) (f : KeptInstr) → new.places.items ≡ set old.places.items p f
    → p ≡ place_of pc → length old.places.items ≡ 65536 → ¬ (place_of f.pc ≡ p) → kept_instruction new pc ≡ None
kept-gone old new p pc f is here whole vacant =
    kept-here old new p f pc is (omega (arith, whole, here)) (sym here) ∙ found-vacant pc p f (sym here) vacant

-- what is kept for an address, from what stands at its place
pub kept-read : (table : InstrTable) (p pc : ℕ) (f : KeptInstr) → f ≡ get_or table.places.items p f → p ≡ place_of pc
    → kept_instruction table pc ≡ found_at pc f
unfolding kept_instruction
kept-read table p pc f is here =
    ap (λ (i : ℕ). option_and_then (found_at pc) (slice_get table.places.items i)) (sym here)
    ∙ ap (option_and_then (found_at pc))
    (slice_get_read table.places.items 65536 p f (sym table.whole) (place-below pc p here) is)

pub read-same : (table : InstrTable) (p pc : ℕ) (f : KeptInstr) → f ≡ get_or table.places.items p f → p ≡ place_of pc
    → f.pc ≡ pc → kept_instruction table pc ≡ Some f.instr
read-same table p pc f is here at = kept-read table p pc f is here ∙ found-same pc f at

pub read-elsewhere : (table : InstrTable) (p pc : ℕ) (f : KeptInstr) → f ≡ get_or table.places.items p f → p ≡ place_of pc
    → ¬ (f.pc ≡ pc) → kept_instruction table pc ≡ None
read-elsewhere table p pc f is here apart = kept-read table p pc f is here ∙ found-elsewhere pc f apart
