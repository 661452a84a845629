use Rattle.std.proofs.Common.{◌≡◌, ◌+◌, ◌*◌, ◌/◌, ◌%◌, ◌^◌, ◌&&◌, ◌==◌, ℕ, Bool, true, false, refl, sym, ap, ◌∙◌, rules}
use Rattle.std.proofs.lemmas.Bool.Decides.{Decides-eqb}
use Rattle.arc_costs.proofs.digits.PlaceDigits.is.Goals as goal

-- numbers of two parts are equal where both parts are
same_parts : (a b f g l m : ℕ) → a ≡ f + l * 2 ^ 32 → b ≡ g + m * 2 ^ 32 → a % 2 ^ 32 ≡ f → b % 2 ^ 32 ≡ g
    → a / 2 ^ 32 ≡ l → b / 2 ^ 32 ≡ m → (a == b) ≡ (f == g && l == m)
same_parts a b f g l m one other file file' line line' = by (a == b) refl
  where
    apart : (c d : Bool) → (f == g) ≡ c → (l == m) ≡ d → (a == b) ≡ false → false ≡ (c && d)
    apart true true files lines differ =
        let same = (Decides-eqb f g).0 files in
        let alike = (Decides-eqb l m).0 lines in
        sym differ ∙ (Decides-eqb a b).1 (one ∙ (λ i. same i + alike i * 2 ^ 32) ∙ sym other)
    apart true false files lines differ = refl
    apart false d files lines differ = refl

    by : (c : Bool) → (a == b) ≡ c → c ≡ (f == g && l == m)
    by true is =
        let same = (Decides-eqb a b).0 is in
        let files = (Decides-eqb f g).1 (sym file ∙ ap (λ n. n % 2 ^ 32) same ∙ file') in
        let lines = (Decides-eqb l m).1 (sym line ∙ ap (λ n. n / 2 ^ 32) same ∙ line') in
        λ i. sym files i && sym lines i
    by false is = apart (f == g) (l == m) refl refl is

pub returns-then-wide : goal.returns-then-wide
returns-then-wide g c =
    let p = c.args.self.now in
    let q = c.args.other.now in
    let a = c.source_of.result in
    let b = c.source_of-then-wide.result in
    let one = c.source_of.ensures in
    let other = c.source_of-then-wide.ensures in
    let parts = same_parts a b p.file.0 q.file.0 p.line q.line one.both other.both one.file other.file one.line
    other.line in
    let func : p.func.0 ≡ q.func.0 = search rules in
    parts ∙ sym (ap (λ s. s && (p.file.0 == q.file.0 && p.line == q.line)) ((Decides-eqb p.func.0 q.func.0).1 func))
