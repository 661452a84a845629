-- Functions that are put into a group one after the other.
use Rattle.std.proofs.Common.{◌≡◌, ◌≢◌, ◌⊎◌, ℕ, ◌+◌, ◌<◌, List, length, get_or, set, take, sym, ap, subst, ◌∙◌}
use Rattle.std.proofs.Common.{inl, inr, arith}
use Rattle.std.proofs.lemmas.List.{get_or-take, length-set, length-take-le}
use Rattle.call_graph.specs.inner.Pass.{ranks, IsRanked, KeepsFair}
use Rattle.call_graph.specs.declared.visit_state.VisitState.{VisitState}
use Rattle.call_graph.specs.declared.visit_state.VisitState.TheVariants.{Closed}
use Rattle.call_graph.proofs.RankLemmas.{inside, write_cases, unmet_weight-set_old, ranks-set}

-- what was met stays met
abbrev pub KeepsMet : List ℕ → List ℕ → Type 0
KeepsMet old new = (g : ℕ) → 0 < get_or old g 0 → 0 < get_or new g 0

pub record IsGivenTo (old functions : List ℕ) (rank i : ℕ) (new : List ℕ) : Type 0 where
  pub ranked : IsRanked old (take i functions) rank new
  pub met : KeepsMet old new

pub given_more : (old fs : List ℕ) (rank i : ℕ) (new : List ℕ) → i < length fs → 0 < rank
    → 0 < get_or old (get_or fs i 0) 0
    → IsGivenTo old fs rank i new → IsGivenTo old fs rank (i + 1) (set new (get_or fs i 0) rank)
given_more old fs rank i new lt some met before =
    let f : ℕ = get_or fs i 0 in
    let now : 0 < get_or new f 0 = before.met f met in
    let short : length (take i fs) ≡ i = length-take-le i fs (omega arith) in
    let longer : length (take (i + 1) fs) ≡ i + 1 = length-take-le (i + 1) fs (omega arith) in
    let within : f < length new = inside new f now in
    let at_less : (p : ℕ) → p < i → get_or (take (i + 1) fs) p 0 ≡ get_or (take i fs) p 0 =
    λ p less. get_or-take (i + 1) fs p 0 (omega arith) ∙ sym (get_or-take i fs p 0 less) in
    let at_i : get_or (take (i + 1) fs) i 0 ≡ f = get_or-take (i + 1) fs i 0 (omega arith) in
    let given : (p : ℕ) → p < length (take (i + 1) fs)
    → get_or (set new f rank) (get_or (take (i + 1) fs) p 0) 0 ≡ rank =
    λ p less. given_at before p (get_or (take (i + 1) fs) p 0)
    (write_cases new f rank (get_or (take (i + 1) fs) p 0) within)
    (λ ne. at_less p (omega (arith, differ p i (take (i + 1) fs) f at_i ne)))
    (λ ne. omega (arith, short, longer, differ p i (take (i + 1) fs) f at_i ne)) in
    let kept : (g : ℕ) → ((p : ℕ) → p < length (take (i + 1) fs) → get_or (take (i + 1) fs) p 0 ≢ g)
    → get_or (set new f rank) g 0 ≡ get_or old g 0 =
    λ g out. kept_at before g (write_cases new f rank g within) (λ e. out i (omega arith) (at_i ∙ sym e))
    (λ p less e. out p (omega arith) (at_less p (omega arith) ∙ e)) in
    record {
      ranked = record {
        size = length-set new f rank ∙ before.ranked.size;
        have_rank = given;
        others = kept;
        weights = λ ws. unmet_weight-set_old ws new f rank now some ∙ before.ranked.weights ws;
      };
      met = λ g lt. met_at (before.met g lt) (write_cases new f rank g within);
    }
  where
    differ : (p i : ℕ) (xs : List ℕ) (f : ℕ) → get_or xs i 0 ≡ f → get_or xs p 0 ≢ f → p ≢ i
    differ p i xs f e ne same = ne (ap (λ k. get_or xs k 0) same ∙ e)

    given_at : IsGivenTo old fs rank i new → (p g : ℕ)
        → ((g ≡ get_or fs i 0) × (get_or (set new (get_or fs i 0) rank) g 0 ≡ rank))
        ⊎ ((g ≢ get_or fs i 0) × (get_or (set new (get_or fs i 0) rank) g 0 ≡ get_or new g 0))
        → (g ≢ get_or fs i 0 → g ≡ get_or (take i fs) p 0) → (g ≢ get_or fs i 0 → p < length (take i fs))
        → get_or (set new (get_or fs i 0) rank) g 0 ≡ rank
    given_at before p g (inl here) same less = here.1
    given_at before p g (inr other) same less = other.1 ∙ ap (λ k. get_or new k 0) (same other.0)
        ∙ before.ranked.have_rank p (less other.0)

    kept_at : IsGivenTo old fs rank i new → (g : ℕ)
        → ((g ≡ get_or fs i 0) × (get_or (set new (get_or fs i 0) rank) g 0 ≡ rank))
        ⊎ ((g ≢ get_or fs i 0) × (get_or (set new (get_or fs i 0) rank) g 0 ≡ get_or new g 0))
        → (g ≡ get_or fs i 0 → ⊥) → ((p : ℕ) → p < length (take i fs) → get_or (take i fs) p 0 ≢ g)
        → get_or (set new (get_or fs i 0) rank) g 0 ≡ get_or old g 0
    kept_at before g (inl here) ne out = absurd (ne here.0)
    kept_at before g (inr other) ne out = other.1 ∙ before.ranked.others g out

    met_at : {f g : ℕ} → 0 < get_or new g 0
        → ((g ≡ f) × (get_or (set new f rank) g 0 ≡ rank)) ⊎ ((g ≢ f) × (get_or (set new f rank) g 0 ≡ get_or new g 0))
        → 0 < get_or (set new f rank) g 0
    met_at lt (inl here) = omega (arith, here.1, some)
    met_at lt (inr other) = omega (arith, other.1, lt)

pub ranks_given : (old fs : List ℕ) (i : ℕ) (states : List VisitState) (n group f : ℕ) → length states ≡ n
    → IsGivenTo old fs (n + 1 + group) i (set (ranks states) f (n + 1 + group))
    → IsGivenTo old fs (n + 1 + group) i (ranks (set states f (Closed group)))
ranks_given old fs i states n group f size given =
    let same : ranks (set states f (Closed group)) ≡ set (ranks states) f (n + 1 + group) =
    ranks-set states f (Closed group) ∙ ap (λ k. set (ranks states) f (k + 1 + group)) size in
    subst (IsGivenTo old fs (n + 1 + group) i) (sym same) given

pub ranked_along : {old old' fs fs' : List ℕ} {rank rank' : ℕ} {new new' : List ℕ} → old ≡ old' → fs ≡ fs'
    → rank ≡ rank' → new ≡ new'
    → IsRanked old fs rank new → IsRanked old' fs' rank' new'
ranked_along {old = old} {fs = fs} {fs' = fs'} {rank = rank} {rank' = rank'} {new = new} {new' = new'} a b c d r =
    subst (λ x. IsRanked x fs' rank' new') a
    (subst (λ x. IsRanked old x rank' new') b
    (subst (λ x. IsRanked old fs x new') c (subst (λ x. IsRanked old fs rank x) d r)))

pub fair_along : {old old' new new' : List VisitState} → old ≡ old' → new ≡ new' → KeepsFair old new → KeepsFair old' new'
fair_along {old = old} {new' = new'} a b k = subst (λ x. KeepsFair x new') a (subst (λ x. KeepsFair old x) b k)
