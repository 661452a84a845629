-- A name cleaned byte by byte.
use Rattle.std.proofs.Common.{◌≡◌, ◌≢◌, ℕ, ◌+◌, ◌<◌, ◌≤◌, List, [], ◌∷◌, ◌++◌, length, map, take, get_or, ap, ◌∙◌, refl}
use Rattle.std.proofs.Common.{zero-add, arith}
use Rattle.std.proofs.lemmas.List.{take_more, map-append, take_all}
use Rattle.std.proofs.lemmas.List.FromFn.{get_or-enumerate_from, length-enumerate_from}
use Rattle.std.specs.List.{enumerate_from}
use Rattle.byte_text.specs.Names.{clean_name, clean_byte}

-- one more byte of a list that a function of the place and the byte makes
pub map_enumerated_more : (f : ℕ → ℕ → ℕ) (xs : List ℕ) (place : ℕ) → place < length xs
    → map (λ p. f p.0 p.1) (take (place + 1) (enumerate_from 0 xs))
    ≡ map (λ p. f p.0 p.1) (take place (enumerate_from 0 xs)) ++ f place (get_or xs place 0) ∷ []
map_enumerated_more f xs place lt =
    let g : ℕ × ℕ → ℕ = λ p. f p.0 p.1 in
    ap (map g) (take_more (enumerate_from 0 xs) place (0, 0) (let e = length-enumerate_from 0 xs in omega arith))
    ∙ map-append g (take place (enumerate_from 0 xs)) _
    ∙ ap (λ (p : ℕ × ℕ). map g (take place (enumerate_from 0 xs)) ++ f p.0 p.1 ∷ [])
    (get_or-enumerate_from 0 xs place (0, 0) lt)
    ∙ ap (λ n. map g (take place (enumerate_from 0 xs)) ++ f n (get_or xs place 0) ∷ []) (zero-add place)

-- the cleaned form of a name that isn't empty
pub cleaned_whole : (name : List ℕ) (place : ℕ) → name ≢ [] → length name ≤ place
    → map (λ p. clean_byte (length name) p.0 p.1) (take place (enumerate_from 0 name)) ≡ clean_name name
cleaned_whole [] place some end = absurd (some refl)
cleaned_whole (byte ∷ bytes) place some end =
    ap (map (λ p. clean_byte (length (byte ∷ bytes)) p.0 p.1))
    (take_all place (enumerate_from 0 (byte ∷ bytes)) (let e = length-enumerate_from 0 (byte ∷ bytes) in omega arith))
