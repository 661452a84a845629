use Rattle.std.proofs.Common.{◌≡◌, ◌<◌, ◌⊎◌, inl, inr, ◌+◌, ◌==◌, ◌||◌, ℕ, Bool, true, false, not, cond, if◌then◌else◌}
use Rattle.std.proofs.Common.{List, [], ◌∷◌, ◌++◌, Option, Some, None, length, position, refl, sym, ap, ◌∙◌, arith, true≢false}
use Rattle.std.specs.List.{list_any, position_or_len}
use Rattle.std.specs.Map.{keys_of}
use Rattle.std.proofs.lemmas.Bool.{lt-ltb, ltb-true}
use Rattle.std.proofs.lemmas.List.{length-map, map-append}
use Rattle.std.proofs.lemmas.Option.{cond_some, none-some}
use Rattle.cg_format.specs.Marks.{add_number, id, is_in}
use Rattle.cg_format.proofs.ids.Ids.id_of.Goals as goal
use Rattle.cg_format.proofs.ids.Ids.id_of.Goals.{In-Some, In_default}

-- a number stands among others, and has a place there, or it doesn't
known_or : (n : ℕ) (ks : List ℕ) → ((is_in ks n ≡ true) × (position_or_len (λ k. n == k) ks < length ks))
    ⊎ ((is_in ks n ≡ false) × (position_or_len (λ k. n == k) ks ≡ length ks))
known_or n [] = inr (refl, refl)
known_or n (k ∷ ks) = by (n == k) refl (known_or n ks)
  where
    by : (b : Bool) → (n == k) ≡ b → ((is_in ks n ≡ true) × (position_or_len (λ k. n == k) ks < length ks))
        ⊎ ((is_in ks n ≡ false) × (position_or_len (λ k. n == k) ks ≡ length ks))
        → ((is_in (k ∷ ks) n ≡ true) × (position_or_len (λ k. n == k) (k ∷ ks) < length (k ∷ ks)))
        ⊎ ((is_in (k ∷ ks) n ≡ false) × (position_or_len (λ k. n == k) (k ∷ ks) ≡ length (k ∷ ks)))
    by true is rest =
        let at : position_or_len (λ k. n == k) (k ∷ ks) ≡ 0
        = ap (λ b. cond (not b) (1 + position_or_len (λ k. n == k) ks) 0) is in
        inl (ap (λ b. b || is_in ks n) is, omega (arith, at))
    by false is (inl e) =
        let at : position_or_len (λ k. n == k) (k ∷ ks) ≡ 1 + position_or_len (λ k. n == k) ks
        = ap (λ b. cond (not b) (1 + position_or_len (λ k. n == k) ks) 0) is in
        let lt = e.1 in
        inl (ap (λ b. b || is_in ks n) is ∙ e.0, omega (arith, at, lt))
    by false is (inr e) =
        let at : position_or_len (λ k. n == k) (k ∷ ks) ≡ 1 + position_or_len (λ k. n == k) ks
        = ap (λ b. cond (not b) (1 + position_or_len (λ k. n == k) ks) 0) is in
        let end = e.1 in
        inr (ap (λ b. b || is_in ks n) is ∙ e.0, omega (arith, at, end))

known_at : (n : ℕ) (ks : List ℕ) (i : ℕ) → Some i ≡ position (λ k. n == k) ks → is_in ks n ≡ true
known_at n ks i is = by (known_or n ks)
  where
    by : ((is_in ks n ≡ true) × (position_or_len (λ k. n == k) ks < length ks))
        ⊎ ((is_in ks n ≡ false) × (position_or_len (λ k. n == k) ks ≡ length ks)) → is_in ks n ≡ true
    by (inl e) = e.0
    by (inr e) =
        let lt = ltb-true _ _ (cond_some _ _ _ (sym is)).0 in
        let end = e.1 in
        absurd (omega (arith, lt, end))

unknown : (n : ℕ) (ks : List ℕ) → None ≡ position (λ k. n == k) ks
    → (is_in ks n ≡ false) × (position_or_len (λ k. n == k) ks ≡ length ks)
unknown n ks is = by (known_or n ks)
  where
    by : ((is_in ks n ≡ true) × (position_or_len (λ k. n == k) ks < length ks))
        ⊎ ((is_in ks n ≡ false) × (position_or_len (λ k. n == k) ks ≡ length ks))
        → (is_in ks n ≡ false) × (position_or_len (λ k. n == k) ks ≡ length ks)
    by (inl e) =
        absurd (none-some (position_or_len (λ k. n == k) ks)
        (is ∙ ap (λ b. cond b (Some (position_or_len (λ k. n == k) ks)) None)
        (lt-ltb (position_or_len (λ k. n == k) ks) (length ks) e.1)))
    by (inr e) = e

there : (c : In-Some) → is_in c.args.self.now c.args.number ≡ true
there c =
    ap (λ ks. is_in ks c.args.number) (sym c.self.view_is)
    ∙ known_at c.args.number (keys_of c.self.inside.written.entries) c.in-Some.place c.in-Some.ensures.index

pub returns-in-Some-clause-written : goal.returns-in-Some-clause-written
returns-in-Some-clause-written c =
    ap (λ b. if b then c.args.self.now else c.args.self.now ++ c.args.number ∷ [])
    (sym (there (goal.at.returns-in-Some-clause-written c).In-Some))

pub returns-in-Some-clause-is_new : goal.returns-in-Some-clause-is_new
returns-in-Some-clause-is_new c = ap not (sym (there (goal.at.returns-in-Some-clause-is_new c).In-Some))

new : (c : In_default) → (is_in c.args.self.now c.args.number ≡ false)
    × (position_or_len (λ k. c.args.number == k) c.args.self.now ≡ length c.args.self.now)
new c =
    unknown c.args.number c.args.self.now
    (sym c.in_default.is ∙ c.index_of.ensures.index ∙ ap (position (λ k. c.args.number == k)) c.self.view_is)

pub returns-clause-written : goal.returns-clause-written
returns-clause-written c =
    let entries = c.self.inside.written.entries in
    ap keys_of c.in_ok-push.ensures.entries ∙ map-append (λ e. e.0) entries ((c.args.number, tt) ∷ [])
    ∙ ap (λ ks. ks ++ c.args.number ∷ []) c.self.view_is
    ∙ ap (λ b. if b then c.args.self.now else c.args.self.now ++ c.args.number ∷ [])
    (sym (new (goal.at.returns-clause-written c).In_default).0)

pub returns-clause-number : goal.returns-clause-number
returns-clause-number c =
    ap (λ n. n + 1)
    (c.len-written.ensures.len ∙ sym (length-map c.self.inside.written.entries (λ e. e.0))
    ∙ ap length c.self.view_is ∙ sym (new (goal.at.returns-clause-number c).In_default).1)

pub returns-clause-is_new : goal.returns-clause-is_new
returns-clause-is_new c = ap not (sym (new (goal.at.returns-clause-is_new c).In_default).0)
