-- Reach, one way and both ways.
use Rattle.std.proofs.Common.{◌≡◌, ℕ, sym, subst, inl, inr}
use Rattle.call_graph.specs.Reach.{Reach, one, more, SameGroup}
use Rattle.call_graph.specs.inner.Pass.{Leads}

module _ {Step : ℕ → ℕ → Type 0} where
  pub reach_after : {f g h : ℕ} → Reach Step f g → Reach Step g h → Reach Step f h
  reach_after (one s) r = more s r
  reach_after (more s q) r = more s (reach_after q r)

  pub reach_from : {f g h : ℕ} → Leads Step f g → Reach Step g h → Reach Step f h
  reach_from {h = h} (inl e) r = subst (λ x. Reach Step x h) (sym e) r
  reach_from (inr q) r = reach_after q r

  pub leads_after : {f g h : ℕ} → Leads Step f g → Leads Step g h → Leads Step f h
  leads_after {h = h} (inl e) l = subst (λ x. Leads Step x h) (sym e) l
  leads_after {f = f} (inr q) (inl e) = inr (subst (λ x. Reach Step f x) e q)
  leads_after (inr q) (inr r) = inr (reach_after q r)

  pub same_from_leads : {f g : ℕ} → Leads Step f g → Leads Step g f → SameGroup Step f g
  same_from_leads (inl e) l = inl e
  same_from_leads (inr q) (inl e) = inl (sym e)
  same_from_leads (inr q) (inr r) = inr (q, r)

  pub leads_from_same : {f g : ℕ} → SameGroup Step f g → Leads Step f g
  leads_from_same (inl e) = inl e
  leads_from_same (inr qr) = inr qr.0

  pub same_back : {f g : ℕ} → SameGroup Step f g → SameGroup Step g f
  same_back (inl e) = inl (sym e)
  same_back (inr qr) = inr (qr.1, qr.0)

  pub same_after : {f g h : ℕ} → SameGroup Step f g → SameGroup Step g h → SameGroup Step f h
  same_after p q = same_from_leads (leads_after (leads_from_same p) (leads_from_same q))
      (leads_after (leads_from_same (same_back q)) (leads_from_same (same_back p)))

-- what each step keeps, the way keeps
pub along : {Step : ℕ → ℕ → Type 0} (P : ℕ → Type 0) → ((f g : ℕ) → P f → Step f g → P g) → {f g : ℕ}
    → Reach Step f g → P f → P g
along P keeps {f = f} {g = g} (one s) p = keeps f g p s
along P keeps {f = f} (more {g = h} s q) p = along P keeps q (keeps f h p s)

pub along_leads : {Step : ℕ → ℕ → Type 0} (P : ℕ → Type 0) → ((f g : ℕ) → P f → Step f g → P g) → {f g : ℕ}
    → Leads Step f g → P f → P g
along_leads P keeps (inl e) p = subst P e p
along_leads P keeps (inr q) p = along P keeps q p

-- the same steps reach the same
pub reach_by : {S T : ℕ → ℕ → Type 0} → ((f g : ℕ) → S f g → T f g) → {f g : ℕ} → Reach S f g → Reach T f g
reach_by to {f = f} {g = g} (one s) = one (to f g s)
reach_by to {f = f} (more {g = h} s q) = more (to f h s) (reach_by to q)

pub same_by : {S T : ℕ → ℕ → Type 0} → ((f g : ℕ) → S f g → T f g) → {f g : ℕ} → SameGroup S f g → SameGroup T f g
same_by to (inl e) = inl e
same_by to (inr qr) = inr (reach_by to qr.0, reach_by to qr.1)

module _ {Step : ℕ → ℕ → Type 0} {f f' g g' : ℕ} where
  pub leads_at : f ≡ f' → g ≡ g' → Leads Step f g → Leads Step f' g'
  leads_at a b l = subst (λ x. Leads Step x g') a (subst (λ y. Leads Step f y) b l)

  pub reach_at : f ≡ f' → g ≡ g' → Reach Step f g → Reach Step f' g'
  reach_at a b l = subst (λ x. Reach Step x g') a (subst (λ y. Reach Step f y) b l)
