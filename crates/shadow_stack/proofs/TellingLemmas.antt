-- What is told of frames, in its order.
use Rattle.std.proofs.Common.{◌≡◌, ℕ, suc, List, [], ◌∷◌, ◌++◌, take, drop, sym, ap, subst, ◌∙◌, arith}
use Rattle.event_costs.specs.Arcs.{Telling, TakesAll}
use Rattle.shadow_stack.specs.declared.frame.Frame.{Frame}
use Rattle.shadow_stack.specs.Frames.{closing, closings, StartWithin}

module _ {S : Type 0} (takes : S → Telling → S → Type 0) where
  pub TakesAll-append : (first mid last : S) (ts us : List Telling) → TakesAll takes first ts mid
      → TakesAll takes mid us last → TakesAll takes first (ts ++ us) last
  TakesAll-append first mid last [] us here later = subst (λ s. TakesAll takes s us last) (sym here) later
  TakesAll-append first mid last (t ∷ ts) us here later =
      (here.0, here.1, TakesAll-append here.0 mid last ts us here.2 later)

  pub takes_later : (can_take : S → List Telling → Type 0)
      → ((old new : S) (t : Telling) (rest : List Telling) → can_take old (t ∷ rest) → takes old t new
      → can_take new rest)
      → (first mid : S) (ts us : List Telling) → can_take first (ts ++ us) → TakesAll takes first ts mid → can_take mid us
  takes_later can_take more first mid [] us can here = subst (λ s. can_take s us) here can
  takes_later can_take more first mid (t ∷ ts) us can here =
      takes_later can_take more here.0 mid ts us (more first here.0 t (ts ++ us) can here.1) here.2

-- the first of some frames, and the others
pub closings-step : (total : List ℕ) (fs gs : List Frame) (f : Frame) (n m : ℕ) → fs ≡ f ∷ gs → n ≡ suc m
    → closings total (take n fs) ≡ closing total f ++ closings total (take m gs)
closings-step total fs gs f n m frames deep = ap (λ k. closings total (take k fs)) deep
    ∙ ap (λ (l : List Frame). closings total (take (suc m) l)) frames

pub drop-step : (fs gs : List Frame) (f : Frame) (n m : ℕ) → fs ≡ f ∷ gs → n ≡ suc m → drop n fs ≡ drop m gs
drop-step fs gs f n m frames deep = ap (λ k. drop k fs) deep ∙ ap (λ (l : List Frame). drop (suc m) l) frames

pub StartWithin-tail : (total : List ℕ) (fs gs : List Frame) (f : Frame) → fs ≡ f ∷ gs → StartWithin total fs
    → StartWithin total gs
StartWithin-tail total fs gs f frames all =
    λ k d h. (subst (λ (l : List Frame). StartWithin total l) frames all) (suc k) d (omega arith)
