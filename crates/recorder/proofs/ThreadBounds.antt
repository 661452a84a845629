-- The sums of all threads.
use Rattle.std.proofs.Common.{◌≡◌, ◌≢◌, ◌⊎◌, inl, inr, ℕ, ◌≤◌, ◌==◌, true, false, List, []}
use Rattle.std.proofs.Common.{Result, Ok, Err, OnOk, OnErr, sym, ap, subst, arith}
use Rattle.std.proofs.lemmas.Bool.Decides.{eqb_tells}
use Rattle.event_costs.specs.Costs.{event_kinds}
use Rattle.event_costs.specs.declared.numbers.ThreadNo.{ThreadNo}
use Rattle.recorder.proofs.Others.{zero_replicate}
use Rattle.recorder.specs.Accounts.{account, Account, ledger, Ledger, ledger_in, nobody, Recording}
use Rattle.recorder.specs.Bounds.{AllWithin, SumsWithin}
use Rattle.recorder.proofs.RecordingLemmas.{same_thread}

-- a thread that isn't known has no sums
none_within : (steps : ℕ) (thread : ThreadNo) → SumsWithin steps (nobody thread).account
none_within steps thread = record {
  total = λ kind. let none = zero_replicate event_kinds kind in omega (arith, none);
  lines = λ kind place. omega arith;
  arcs = λ kind arc. omega arith;
  calls = λ arc. omega arith;
}

pub new_within : (steps : ℕ) (r : Recording) → r.threads ≡ [] → AllWithin steps r
new_within steps r none thread =
    subst (λ (ks : List Ledger). SumsWithin steps (ledger_in thread ks).account) (sym none) (none_within steps thread)

pub within_later : (steps more : ℕ) (a : Account) → steps ≤ more → SumsWithin steps a → SumsWithin more a
within_later steps more a up within = record {
  total = λ kind. omega (arith, up, within.total kind);
  lines = λ kind place. omega (arith, up, within.lines kind place);
  arcs = λ kind arc. omega (arith, up, within.arcs kind arc);
  calls = λ arc. omega (arith, up, within.calls arc);
}

-- one thread's account changes
pub all_within : (steps more : ℕ) (r s : Recording) (t : ThreadNo) → steps ≤ more → AllWithin steps r
    → SumsWithin more (account s t) → ((o : ThreadNo) → o.0 ≢ t.0 → ledger s o ≡ ledger r o) → AllWithin more s
all_within steps more r s t up all own others o = by (eqb_tells o.0 t.0)
  where
    by : ((o.0 == t.0 ≡ true) × (o.0 ≡ t.0)) ⊎ ((o.0 == t.0 ≡ false) × (o.0 ≢ t.0)) → SumsWithin more (account s o)
    by (inl same) = subst (λ (u : ThreadNo). SumsWithin more (account s u)) (sym (same_thread o t same.1)) own
    by (inr differs) = subst (λ (k : Ledger). SumsWithin more k.account) (sym (others o differs.1))
        (within_later steps more (account r o) up (all o))

-- none changes
pub all_same : (steps : ℕ) (r s : Recording) → ((o : ThreadNo) → account s o ≡ account r o) → AllWithin steps r
    → AllWithin steps s
all_same steps r s same all o = subst (λ (a : Account). SumsWithin steps a) (sym (same o)) (all o)

-- a thread begins, or memory is wanting
pub begun_within : {U E : Type 0} (answer : Result U E) (steps : ℕ) (r s : Recording) (t : ThreadNo) → AllWithin steps r
    → OnOk answer (SumsWithin 0 (account s t)) → OnOk answer ((o : ThreadNo) → o.0 ≢ t.0 → ledger s o ≡ ledger r o)
    → OnErr answer (s.threads ≡ r.threads) → AllWithin steps s
begun_within (Ok u) steps r s t all own others same =
    all_within steps steps r s t (omega arith) all (within_later 0 steps (account s t) (omega arith) own) others
begun_within (Err e) steps r s t all own others same =
    all_same steps r s (λ o. ap (λ (ks : List Ledger). (ledger_in o ks).account) same) all
