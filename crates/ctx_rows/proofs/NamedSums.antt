-- Sums over rows by number, with contexts in the place of their numbers.
use Rattle.std.proofs.Common.{◌≡◌, ℕ, ◌+◌, Bool, true, false, List, [], ◌∷◌, map, refl, ap}
use Rattle.std.proofs.Common.{◌∙◌, arith, if◌then◌else◌}
use Rattle.std.specs.List.{AllByRecursion}
use Rattle.std.proofs.lemmas.List.Sums.{sum_by-cons}
use Rattle.arc_costs.specs.Rows as rows

-- ---- what holds of each row still does once one is added

module _ {R K : Type 0} (key : R → K) (same : K → K → Bool) (plus : R → R → R) (P : R → Type 0)
    (holds : (r q : R) → P r → P q → P (plus r q)) where
  pub all_add : (rs : List R) (new : R) → AllByRecursion P rs → P new
      → AllByRecursion P (rows.add_row key same plus rs new)
  all_add [] new all one = (one, tt)
  all_add (r ∷ rs) new all one = by (same (key new) (key r)) (all_add rs new all.1 one)
    where
      by : (b : Bool) → AllByRecursion P (rows.add_row key same plus rs new)
          → AllByRecursion P (if b then plus r new ∷ rs else r ∷ rows.add_row key same plus rs new)
      by true rest = (holds r new all.0 one, all.1)
      by false rest = (all.0, rest)

  pub all_adds : (news rs : List R) → AllByRecursion P rs → AllByRecursion P news
      → AllByRecursion P (rows.add_rows key same plus rs news)
  all_adds [] rs all more = all
  all_adds (new ∷ news) rs all more =
      all_adds news (rows.add_row key same plus rs new) (all_add rs new all more.0) more.1

-- ---- a row that is added counts in the sum of its name

module _ {R K C CK : Type 0} (key : R → K) (same : K → K → Bool) (alike : (a b : K) → same a b ≡ true → a ≡ b)
    (name : R → C) (ckey : C → CK) (csame : CK → CK → Bool) (rename : K → CK)
    (keyed : (r : R) → ckey (name r) ≡ rename (key r)) (plus : R → R → R)
    (plus_key : (r q : R) → key (plus r q) ≡ key r) (Whole : R → Type 0) (number : C → ℕ)
    (plus_number : (r q : R) → Whole r → Whole q → number (name (plus r q)) ≡ number (name r) + number (name q)) where
  abbrev cshare : CK → C → ℕ
  cshare k c = if csame k (ckey c) then number c else 0

  plus_share : (k : CK) (r q : R) → key q ≡ key r → Whole r → Whole q
      → cshare k (name (plus r q)) ≡ cshare k (name r) + cshare k (name q)
  plus_share k r q is whole_r whole_q = by (csame k (rename (key r))) refl
    where
      one : csame k (ckey (name (plus r q))) ≡ csame k (rename (key r))
      one = ap (csame k) (keyed (plus r q) ∙ ap rename (plus_key r q))

      two : csame k (ckey (name r)) ≡ csame k (rename (key r))
      two = ap (csame k) (keyed r)

      three : csame k (ckey (name q)) ≡ csame k (rename (key r))
      three = ap (csame k) (keyed q ∙ ap rename is)

      by : (b : Bool) → csame k (rename (key r)) ≡ b
          → cshare k (name (plus r q)) ≡ cshare k (name r) + cshare k (name q)
      by true there =
          let all : cshare k (name (plus r q)) ≡ number (name (plus r q))
          = ap (λ c. if c then number (name (plus r q)) else 0) (one ∙ there) in
          let here : cshare k (name r) ≡ number (name r) = ap (λ c. if c then number (name r) else 0) (two ∙ there) in
          let more : cshare k (name q) ≡ number (name q) = ap (λ c. if c then number (name q) else 0) (three ∙ there) in
          omega (arith, all, here, more, plus_number r q whole_r whole_q)
      by false there =
          let all : cshare k (name (plus r q)) ≡ 0 = ap (λ c. if c then number (name (plus r q)) else 0)
          (one ∙ there) in
          let here : cshare k (name r) ≡ 0 = ap (λ c. if c then number (name r) else 0) (two ∙ there) in
          let more : cshare k (name q) ≡ 0 = ap (λ c. if c then number (name q) else 0) (three ∙ there) in
          omega (arith, all, here, more)

  pub named_add : (rs : List R) (new : R) (k : CK) → AllByRecursion Whole rs → Whole new
      → rows.sum_at ckey csame number k (map name (rows.add_row key same plus rs new))
      ≡ rows.sum_at ckey csame number k (map name rs) + (if csame k (ckey (name new)) then number (name new) else 0)
  named_add [] new k all whole = let one = sum_by-cons (cshare k) (name new) [] in omega (arith, one)
  named_add (r ∷ rs) new k all whole = by (same (key new) (key r)) refl (named_add rs new k all.1 whole)
    where
      was : rows.sum_at ckey csame number k (map name (r ∷ rs))
          ≡ cshare k (name r) + rows.sum_at ckey csame number k (map name rs)
      was = sum_by-cons (cshare k) (name r) (map name rs)

      by : (b : Bool) → same (key new) (key r) ≡ b
          → rows.sum_at ckey csame number k (map name (rows.add_row key same plus rs new))
          ≡ rows.sum_at ckey csame number k (map name rs) + cshare k (name new)
          → rows.sum_at ckey csame number k (map name (rows.add_row key same plus (r ∷ rs) new))
          ≡ rows.sum_at ckey csame number k (map name (r ∷ rs)) + cshare k (name new)
      by true is rest =
          let now = ap (λ c. rows.sum_at ckey csame number k
          (map name (if c then plus r new ∷ rs else r ∷ rows.add_row key same plus rs new))) is in
          let whole_sum = sum_by-cons (cshare k) (name (plus r new)) (map name rs) in
          let here = plus_share k r new (alike (key new) (key r) is) all.0 whole in
          omega (arith, now, whole_sum, here, was)
      by false is rest =
          let now = ap (λ c. rows.sum_at ckey csame number k
          (map name (if c then plus r new ∷ rs else r ∷ rows.add_row key same plus rs new))) is in
          let whole_sum = sum_by-cons (cshare k) (name r) (map name (rows.add_row key same plus rs new)) in
          omega (arith, now, whole_sum, rest, was)

  module _ (stays : (r q : R) → Whole r → Whole q → Whole (plus r q)) where
    pub named_adds : (news rs : List R) (k : CK) → AllByRecursion Whole rs → AllByRecursion Whole news
        → rows.sum_at ckey csame number k (map name (rows.add_rows key same plus rs news))
        ≡ rows.sum_at ckey csame number k (map name rs) + rows.sum_at ckey csame number k (map name news)
    named_adds [] rs k all more = omega arith
    named_adds (new ∷ news) rs k all more =
        let rest =
        named_adds news (rows.add_row key same plus rs new) k
        (all_add key same plus Whole stays rs new all more.0) more.1
        in
        let one = named_add rs new k all more.0 in
        let news_sum = sum_by-cons (cshare k) (name new) (map name news) in
        omega (arith, rest, one, news_sum)
