-- What holds of the sums when something is added.
use Rattle.std.proofs.Common.{◌≡◌, ◌≢◌, ℕ, ◌+◌, ◌^◌, ◌<◌, ◌≤◌, List, length, get_or, Vec, sym, ap, subst, ◌∙◌, inl, inr}
use Rattle.std.proofs.Common.{arith}
use Rattle.std.specs.declared.alloc.Global.{Global}
use Rattle.std.proofs.lemmas.Bool.{cases_eq, cases_lt}
use Rattle.cg_read.specs.Profiles.{Contents}
use Rattle.cycles.specs.Limits.{IsOver}
use Rattle.cycles.specs.inner.Counting.{list_at, IsAdded, IsAddedAt, IsExact, HasWidth, HasShape, Holds, AddsToTotals}
use Rattle.cycles.specs.inner.Counting.{AddsToGroup, AddsToPair, AddsCalls}
use Rattle.cycles.specs.declared.sums.Sums.{Sums}

abbrev pub at : List ℕ → ℕ → ℕ
at xs k = get_or xs k 0

pub exact_less : {limit less : ℕ} (sum : ℕ → ℕ) (cells : List ℕ) → less ≤ limit → IsExact limit sum cells
    → IsExact less sum cells
exact_less sum cells le exact k lt within = exact k (omega arith) within

pub exact_by : {limit : ℕ} (sum other : ℕ → ℕ) (cells : List ℕ) → ((k : ℕ) → k < length cells → sum k ≡ other k)
    → IsExact limit sum cells → IsExact limit other cells
exact_by sum other cells same exact k lt within = let e = exact k lt within in
    (e.0 ∙ same k within, omega (arith, e.1, same k within))

-- the sums at the places of one list
exact_added : {limit less : ℕ} (sum more : ℕ → ℕ) (old cost new : List ℕ) → IsAdded old cost limit new less
    → ((k : ℕ) → k < length old → more k ≡ sum k + at cost k)
    → IsExact limit sum old → IsExact less more new
exact_added sum more old cost new added is exact k lt within =
    let place : k < length old = omega (arith, added.size) in
    let before = exact k (omega (arith, added.less)) place in
    let now = added.exact k lt place in
    (omega (arith, now.0, before.0, is k place), omega (arith, now.1, before.0, is k place))

-- where the limit fell, the sum there passes 2^64 - 1
over_added : {limit less : ℕ} (sum more : ℕ → ℕ) (old cost new : List ℕ) → IsAdded old cost limit new less
    → ((k : ℕ) → k < length old → more k ≡ sum k + at cost k)
    → IsExact limit sum old → less < limit → (less < length old) × (2 ^ 64 ≤ more less)
over_added {less = less} sum more old cost new added is exact lt =
    let fell = added.too_large lt in
    (fell.0, omega (arith, fell.1, (exact less lt fell.0).0, is less fell.0))

-- the lists of a table keep their lengths
table_width : {events count limit less place : ℕ} (old : List (Vec ℕ Global)) (cost : List ℕ)
    (new : List (Vec ℕ Global)) → IsAddedAt old place cost limit new less
    → HasWidth events old → length old ≡ count → place < count → HasWidth events new
table_width {place = place} old cost new added width size within n lt = elim (cases_eq n place) [
  | inl e ↦ ap (λ i. length (list_at new i)) e ∙ added.here.size
      ∙ width place (subst (λ m. place < m) (sym size) within)
  | inr ne ↦ ap length (added.others n ne) ∙ width n (subst (λ m. n < m) added.size lt)
]

-- the sums at the places of a table
module _ {events count limit less place : ℕ} (sum more : ℕ → ℕ → ℕ) (old : List (Vec ℕ Global)) (cost : List ℕ)
    (new : List (Vec ℕ Global))
    (added : IsAddedAt old place cost limit new less) (width : HasWidth events old) (size : length old ≡ count)
    (within : place < count)
    (here : (k : ℕ) → k < events → more place k ≡ sum place k + at cost k)
    (others : (i k : ℕ) → i < count → k < events → i ≢ place → more i k ≡ sum i k)
    (exact : (i : ℕ) → i < count → IsExact limit (sum i) (list_at old i)) where
  same_here : (k : ℕ) → k < length (list_at old place) → more place k ≡ sum place k + at cost k
  same_here k lt = here k (subst (λ n. k < n) (width place (subst (λ n. place < n) (sym size) within)) lt)

  table_exact : (i : ℕ) → i < count → IsExact less (more i) (list_at new i)
  table_exact i lt = elim (cases_eq i place) [
    | inl e ↦ subst (λ j. IsExact less (more j) (list_at new j)) (sym e)
        (exact_added (sum place) (more place) (list_at old place) cost (list_at new place) added.here same_here
        (exact place within))
    | inr ne ↦ subst (λ l. IsExact less (more i) l) (sym (added.others i ne))
        (exact_by (sum i) (more i) (list_at old i)
        (λ k kt. sym (others i k lt (subst (λ n. k < n) (width i (subst (λ n. i < n) (sym size) lt)) kt) ne))
        (exact_less (sum i) (list_at old i) added.here.less (exact i lt)))
  ]

  table_over : less < limit → (less < events) × (2 ^ 64 ≤ more place less)
  table_over lt =
      let fell = over_added (sum place) (more place) (list_at old place) cost (list_at new place) added.here same_here
      (exact place within) lt in
      (subst (λ n. less < n) (width place (subst (λ n. place < n) (sym size) within)) fell.0, fell.1)

-- the shape stays
module _ {events group_count pair_count : ℕ} {old new : Sums} (shape : HasShape events group_count pair_count old) where
  pub totals_shape : {cost : List ℕ} → AddsToTotals old cost new → HasShape events group_count pair_count new
  totals_shape adds = record {
    totals = adds.totals.size ∙ shape.totals;
    group_count = ap length adds.groups ∙ shape.group_count;
    groups = subst (HasWidth events) (sym adds.groups) shape.groups;
    pair_count = ap length adds.pairs ∙ shape.pair_count;
    pairs = subst (HasWidth events) (sym adds.pairs) shape.pairs;
    calls = ap length adds.calls ∙ shape.calls;
  }

  pub group_shape : {place : ℕ} {cost : List ℕ} → AddsToGroup old place cost new → place < group_count
      → HasShape events group_count pair_count new
  group_shape {place = place} {cost = cost} adds within = record {
    totals = ap length adds.totals ∙ shape.totals;
    group_count = adds.groups.size ∙ shape.group_count;
    groups = table_width old.groups.items cost new.groups.items adds.groups shape.groups shape.group_count within;
    pair_count = ap length adds.pairs ∙ shape.pair_count;
    pairs = subst (HasWidth events) (sym adds.pairs) shape.pairs;
    calls = ap length adds.calls ∙ shape.calls;
  }

  pair_shape : {place : ℕ} {cost : List ℕ} → AddsToPair old place cost new → place < pair_count
      → HasShape events group_count pair_count new
  pair_shape {place = place} {cost = cost} adds within = record {
    totals = ap length adds.totals ∙ shape.totals;
    group_count = ap length adds.groups ∙ shape.group_count;
    groups = subst (HasWidth events) (sym adds.groups) shape.groups;
    pair_count = adds.pairs.size ∙ shape.pair_count;
    pairs = table_width old.pairs.items cost new.pairs.items adds.pairs shape.pairs shape.pair_count within;
    calls = ap length adds.calls ∙ shape.calls;
  }

  calls_shape : {place calls : ℕ} → AddsCalls old place calls new → HasShape events group_count pair_count new
  calls_shape adds = record {
    totals = ap length adds.totals ∙ shape.totals;
    group_count = ap length adds.groups ∙ shape.group_count;
    groups = subst (HasWidth events) (sym adds.groups) shape.groups;
    pair_count = ap length adds.pairs ∙ shape.pair_count;
    pairs = subst (HasWidth events) (sym adds.pairs) shape.pairs;
    calls = adds.size ∙ shape.calls;
  }

-- what a limit that falls or stays says
over_now : (p : Contents) (events limit less : ℕ) → less ≤ limit → (less < limit → IsOver p less)
    → (limit ≤ events → IsOver p limit) → less ≤ events → IsOver p less
over_now p events limit less le fell before within = elim (cases_lt less limit) [
  | inl lt ↦ fell lt
  | inr same ↦ let e : limit ≡ less = omega arith in subst (IsOver p) e (before (omega arith))
]

module _ {p : Contents} {group_count pair_count : ℕ} {total : ℕ → ℕ} {group pair : ℕ → ℕ → ℕ} {call : ℕ → ℕ}
    {old new : Sums}
    (holds : Holds p group_count pair_count total group pair call old) where
  pub totals_added : {cost : List ℕ} (more : ℕ → ℕ) → AddsToTotals old cost new
      → ((k : ℕ) → k < length p.events → more k ≡ total k + at cost k)
      → ((k : ℕ) → k < length p.events → 2 ^ 64 ≤ more k → IsOver p k)
      → Holds p group_count pair_count more group pair call new
  totals_added {cost = cost} more adds is big =
      let same : (k : ℕ) → k < length old.totals.items → more k ≡ total k + at cost k
      = λ k lt. is k (subst (λ n. k < n) holds.shape.totals lt) in
      record {
        shape = totals_shape holds.shape adds;
        last = omega (arith, adds.totals.less, holds.last);
        too_large = over_now p (length p.events) old.limit new.limit adds.totals.less
            (λ lt. let fell =
            over_added total more old.totals.items cost new.totals.items adds.totals same holds.totals lt in
            big new.limit (subst (λ n. new.limit < n) holds.shape.totals fell.0) fell.1)
            holds.too_large;
        totals = exact_added total more old.totals.items cost new.totals.items adds.totals same holds.totals;
        groups = λ g lt. subst (λ t. IsExact new.limit (group g) (list_at t g)) (sym adds.groups)
            (exact_less (group g) (list_at old.groups.items g) adds.totals.less (holds.groups g lt));
        pairs = λ n lt. subst (λ t. IsExact new.limit (pair n) (list_at t n)) (sym adds.pairs)
            (exact_less (pair n) (list_at old.pairs.items n) adds.totals.less (holds.pairs n lt));
        calls = λ n lt past. let before = holds.calls n lt (omega (arith, adds.totals.less)) in
            (ap (λ l. at l n) adds.calls ∙ before.0, before.1);
      }

  pub group_added : {place : ℕ} {cost : List ℕ} (more : ℕ → ℕ → ℕ) → AddsToGroup old place cost new
      → place < group_count
      → ((k : ℕ) → k < length p.events → more place k ≡ group place k + at cost k)
      → ((i k : ℕ) → i < group_count → k < length p.events → i ≢ place → more i k ≡ group i k)
      → ((k : ℕ) → k < length p.events → 2 ^ 64 ≤ more place k → IsOver p k)
      → Holds p group_count pair_count total more pair call new
  group_added {place = place} {cost = cost} more adds within here others big = record {
    shape = group_shape holds.shape adds within;
    last = omega (arith, adds.groups.here.less, holds.last);
    too_large = over_now p (length p.events) old.limit new.limit adds.groups.here.less
        (λ lt.
        let fell =
        table_over group more old.groups.items cost new.groups.items adds.groups holds.shape.groups
        holds.shape.group_count within here others holds.groups lt in big new.limit fell.0 fell.1)
        holds.too_large;
    totals =
        subst (IsExact new.limit total) (sym adds.totals)
        (exact_less total old.totals.items adds.groups.here.less holds.totals);
    groups =
        table_exact group more old.groups.items cost new.groups.items adds.groups holds.shape.groups
        holds.shape.group_count within here others holds.groups;
    pairs = λ n lt. subst (λ t. IsExact new.limit (pair n) (list_at t n)) (sym adds.pairs)
        (exact_less (pair n) (list_at old.pairs.items n) adds.groups.here.less (holds.pairs n lt));
    calls = λ n lt past. let before = holds.calls n lt (omega (arith, adds.groups.here.less)) in
        (ap (λ l. at l n) adds.calls ∙ before.0, before.1);
  }

  pub pair_added : {place : ℕ} {cost : List ℕ} (more : ℕ → ℕ → ℕ) → AddsToPair old place cost new → place < pair_count
      → ((k : ℕ) → k < length p.events → more place k ≡ pair place k + at cost k)
      → ((i k : ℕ) → i < pair_count → k < length p.events → i ≢ place → more i k ≡ pair i k)
      → ((k : ℕ) → k < length p.events → 2 ^ 64 ≤ more place k → IsOver p k)
      → Holds p group_count pair_count total group more call new
  pair_added {place = place} {cost = cost} more adds within here others big = record {
    shape = pair_shape holds.shape adds within;
    last = omega (arith, adds.pairs.here.less, holds.last);
    too_large = over_now p (length p.events) old.limit new.limit adds.pairs.here.less
        (λ lt.
        let fell =
        table_over pair more old.pairs.items cost new.pairs.items adds.pairs holds.shape.pairs
        holds.shape.pair_count within here others holds.pairs lt in big new.limit fell.0 fell.1)
        holds.too_large;
    totals =
        subst (IsExact new.limit total) (sym adds.totals)
        (exact_less total old.totals.items adds.pairs.here.less holds.totals);
    groups = λ g lt. subst (λ t. IsExact new.limit (group g) (list_at t g)) (sym adds.groups)
        (exact_less (group g) (list_at old.groups.items g) adds.pairs.here.less (holds.groups g lt));
    pairs =
        table_exact pair more old.pairs.items cost new.pairs.items adds.pairs holds.shape.pairs holds.shape.pair_count
        within here others holds.pairs;
    calls = λ n lt past. let before = holds.calls n lt (omega (arith, adds.pairs.here.less)) in
        (ap (λ l. at l n) adds.calls ∙ before.0, before.1);
  }

  pub calls_added : {place calls : ℕ} (more : ℕ → ℕ) → AddsCalls old place calls new → place < pair_count
      → more place ≡ call place + calls → ((i : ℕ) → i < pair_count → i ≢ place → more i ≡ call i)
      → (2 ^ 64 ≤ more place → IsOver p (length p.events)) → Holds p group_count pair_count total group pair more new
  calls_added {place = place} {calls = calls} more adds within here others big = record {
    shape = calls_shape holds.shape adds;
    last = omega (arith, adds.less, holds.last);
    too_large = over_now p (length p.events) old.limit new.limit adds.less
        (λ lt. let fell = adds.too_large lt in
        let past : length p.events < old.limit = omega (arith, fell.0, holds.shape.totals) in
        subst (IsOver p) (sym (fell.0 ∙ holds.shape.totals))
        (big (omega (arith, fell.1, (holds.calls place within past).0, here))))
        holds.too_large;
    totals =
        subst (IsExact new.limit total) (sym adds.totals) (exact_less total old.totals.items adds.less holds.totals);
    groups = λ g lt. subst (λ t. IsExact new.limit (group g) (list_at t g)) (sym adds.groups)
        (exact_less (group g) (list_at old.groups.items g) adds.less (holds.groups g lt));
    pairs = λ n lt. subst (λ t. IsExact new.limit (pair n) (list_at t n)) (sym adds.pairs)
        (exact_less (pair n) (list_at old.pairs.items n) adds.less (holds.pairs n lt));
    calls = λ n lt past.
        let before = holds.calls n lt (omega (arith, adds.less)) in
        elim (cases_eq n place) [
          | inl e ↦
              let now = adds.exact (omega (arith, holds.shape.totals)) in
              let old_call = holds.calls place within (omega (arith, adds.less)) in
              subst (λ i. (at new.calls.items i ≡ more i) × (more i < 2 ^ 64)) (sym e)
              (omega (arith, now.0, old_call.0, here), omega (arith, now.1, old_call.0, here))
          | inr ne ↦ (adds.others n ne ∙ before.0 ∙ sym (others n lt ne), omega (arith, before.1, others n lt ne))
        ];
  }

-- the same sums, said otherwise
pub holds_by : {p : Contents} {group_count pair_count : ℕ} {total more_total : ℕ → ℕ}
    {group more_group pair more_pair : ℕ → ℕ → ℕ} {call more_call : ℕ → ℕ} {sums : Sums}
    → ((k : ℕ) → k < length p.events → total k ≡ more_total k)
    → ((g k : ℕ) → g < group_count → k < length p.events → group g k ≡ more_group g k)
    → ((n k : ℕ) → n < pair_count → k < length p.events → pair n k ≡ more_pair n k)
    → ((n : ℕ) → n < pair_count → call n ≡ more_call n)
    → Holds p group_count pair_count total group pair call sums
    → Holds p group_count pair_count more_total more_group more_pair more_call sums
holds_by {total = total} {more_total = more_total} {group = group} {more_group = more_group} {pair = pair}
    {more_pair = more_pair} {sums = sums} tot gro pai cal holds = record {
      shape = holds.shape;
      last = holds.last;
      too_large = holds.too_large;
      totals =
          exact_by total more_total sums.totals.items
          (λ k lt. tot k (subst (λ n. k < n) holds.shape.totals lt)) holds.totals;
      groups =
          λ g gt. exact_by (group g) (more_group g) (list_at sums.groups.items g)
          (λ k lt. gro g k gt
          (subst (λ n. k < n) (holds.shape.groups g (subst (λ n. g < n) (sym holds.shape.group_count) gt)) lt))
          (holds.groups g gt);
      pairs =
          λ n nt. exact_by (pair n) (more_pair n) (list_at sums.pairs.items n)
          (λ k lt. pai n k nt
          (subst (λ m. k < m) (holds.shape.pairs n (subst (λ m. n < m) (sym holds.shape.pair_count) nt)) lt))
          (holds.pairs n nt);
      calls = λ n nt past. let before = holds.calls n nt past in
          (before.0 ∙ cal n nt, omega (arith, before.1, cal n nt));
    }
