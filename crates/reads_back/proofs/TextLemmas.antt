-- Texts of printable characters, and what is left of them where their ends are stripped.
use Rattle.std.proofs.Common.{◌≡◌, ℕ, ◌+◌, ◌-◌, ◌<◌, Bool, true, false, ◌&&◌, ◌==◌, nat_lt, cond, List, ◌∷◌}
use Rattle.std.proofs.Common.{◌++◌, length, get_or, take, drop, refl, ap, ◌∙◌, arith}
use Rattle.std.specs.List.{list_all, prefix_len, suffix_len}
use Rattle.std.specs.Str.Lines.{strip_carriage_return}
use Rattle.std.proofs.lemmas.Bool.Decides.{nat_tests}
use Rattle.std.proofs.lemmas.List.{get_or-append_right, length-append, take_all}
use Rattle.std.proofs.lemmas.List.Folds.{list_all-append}
use Rattle.std.proofs.lemmas.List.Sums.{suffix_len_is}
use Rattle.byte_text.specs.Names.{is_printable}
use Rattle.cg_lines.specs.Lines.{is_blank, strip, trim}
use Rattle.std.proofs.lemmas.Bool.{and_from}

-- a character that is seen
abbrev pub is_seen : ℕ → Bool
is_seen b = nat_lt 32 b && nat_lt b 127

pub seen_no_blank : (b : ℕ) → is_seen b ≡ true → is_blank b ≡ false
seen_no_blank b e = grind (arith, nat_tests)

-- all characters are printable, and the last one is seen
pub record IsText (bytes : List ℕ) : Type 0 where
  pub clear : list_all is_printable bytes ≡ true
  pub some : 0 < length bytes
  pub last : is_seen (get_or bytes (length bytes - 1) 0) ≡ true

pub clear-append : (xs ys : List ℕ) → list_all is_printable xs ≡ true → list_all is_printable ys ≡ true
    → list_all is_printable (xs ++ ys) ≡ true
clear-append xs ys p q =
    list_all-append is_printable xs ys ∙ and_from (list_all is_printable xs) (list_all is_printable ys) p q

pub text-append : (xs ys : List ℕ) → list_all is_printable xs ≡ true → IsText ys → IsText (xs ++ ys)
text-append xs ys p t =
    let long : length (xs ++ ys) ≡ length xs + length ys = length-append xs ys in
    let some : 0 < length ys = t.some in
    let at : length (xs ++ ys) - 1 - length xs ≡ length ys - 1 = omega arith in
    record {
      clear = clear-append xs ys p t.clear;
      some = omega arith;
      last = ap is_seen (get_or-append_right xs ys (length xs) (length (xs ++ ys) - 1) 0 refl (omega arith)
          ∙ ap (λ k. get_or ys k 0) at) ∙ t.last;
    }

seen_no_return : (b : ℕ) → is_seen b ≡ true → (b == 13) ≡ false
seen_no_return b e = grind (arith, nat_tests)

no_return : (bytes : List ℕ) → IsText bytes → strip_carriage_return bytes ≡ bytes
no_return bytes t =
    ap (λ c. cond c (take (length bytes - 1) bytes) bytes) (seen_no_return (get_or bytes (length bytes - 1) 0) t.last)

no_blank_end : (bytes : List ℕ) → IsText bytes → suffix_len is_blank bytes ≡ 0
no_blank_end bytes t =
    suffix_len_is is_blank bytes (length bytes) 0 (omega arith) (λ k low high. absurd (omega (arith, low, high)))
    (λ some. seen_no_blank (get_or bytes (length bytes - 1) 0) t.last) ∙ omega arith

abbrev end_trimmed : List ℕ → List ℕ
end_trimmed rest = take (length rest - suffix_len is_blank rest) rest

end_kept : (bytes : List ℕ) → IsText bytes → end_trimmed bytes ≡ bytes
end_kept bytes t =
    ap (λ n. take (length bytes - n) bytes) (no_blank_end bytes t) ∙ take_all (length bytes - 0) bytes (omega arith)

no_blank_front : (b : ℕ) (bs : List ℕ) → is_blank b ≡ false → prefix_len is_blank (b ∷ bs) ≡ 0
no_blank_front b bs first = ap (λ c. cond c (1 + prefix_len is_blank bs) 0) first

-- a text that begins with no blank stays as it is
pub trimmed_kept : (b : ℕ) (bs : List ℕ) → is_blank b ≡ false → IsText (b ∷ bs) → trim (b ∷ bs) ≡ b ∷ bs
trimmed_kept b bs first t =
    ap (λ n. end_trimmed (drop n (b ∷ bs))) (no_blank_front b bs first) ∙ end_kept (b ∷ bs) t

pub stripped_kept : (b : ℕ) (bs : List ℕ) → is_blank b ≡ false → IsText (b ∷ bs) → strip (b ∷ bs) ≡ b ∷ bs
stripped_kept b bs first t = ap trim (no_return (b ∷ bs) t) ∙ trimmed_kept b bs first t

-- a space before it is dropped
pub trimmed_space : (b : ℕ) (bs : List ℕ) → is_blank b ≡ false → IsText (b ∷ bs) → trim (32 ∷ b ∷ bs) ≡ b ∷ bs
trimmed_space b bs first t =
    ap (λ n. end_trimmed (drop (1 + n) (32 ∷ b ∷ bs))) (no_blank_front b bs first) ∙ end_kept (b ∷ bs) t
