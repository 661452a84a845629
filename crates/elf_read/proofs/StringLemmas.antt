-- Strings that are cut short.
use Rattle.std.proofs.Common.{◌≡◌, ℕ, zero, suc, ◌+◌, ◌-◌, ◌≤◌, ◌<◌, Bool, true, false, not, cond, eqb, ltb, min, List}
use Rattle.std.proofs.Common.{[], ◌∷◌, length, take, drop, Some, None, refl, ap, ◌∙◌, arith, length-take, length-drop}
use Rattle.std.proofs.lemmas.List.{drop-take, drop-drop}
use Rattle.std.specs.Option.{unwrap_or}
use Rattle.std.specs.List.{position, slice_range}
use Rattle.std.proofs.lemmas.List.Sums.{prefix_len-le-length}
use Rattle.std.proofs.lemmas.Bool.{ltb-false, lt-ltb}
use Rattle.elf_read.specs.declared.text.Range.{Range}
use Rattle.elf_read.specs.inner.Fronts.{front_of}
use Rattle.elf_read.specs.Strings.{string_len, string_at, part_of}

-- no more bytes than there are
pub string_len-le : (xs : List ℕ) → string_len xs ≤ length xs
string_len-le xs = prefix_len-le-length (λ c. not (eqb c 0)) xs

-- the string of the first n bytes
pub string_len-take : (n : ℕ) (xs : List ℕ) → string_len (take n xs) ≡ min n (string_len xs)
string_len-take zero xs = omega arith
string_len-take (suc n) [] = omega arith
string_len-take (suc n) (x ∷ xs) = step (eqb x 0) n _ _ (string_len-take n xs)
  where
    step : (b : Bool) (n short long : ℕ) → short ≡ min n long
        → cond (not b) (1 + short) 0 ≡ min (suc n) (cond (not b) (1 + long) 0)
    step true n short long e = omega arith
    step false n short long e = omega arith

pub first_zero-is : (xs : List ℕ) → unwrap_or (position (λ c. eqb c 0) xs) (length xs) ≡ string_len xs
first_zero-is xs = go (string_len xs) (length xs) (ltb (string_len xs) (length xs)) refl (string_len-le xs)
  where
    go : (m n : ℕ) (b : Bool) → ltb m n ≡ b → m ≤ n → unwrap_or (cond b (Some m) None) n ≡ m
    go m n true e h = refl
    go m n false e h = let g = ltb-false m n e in omega arith

-- the first bytes of a string, read from that many bytes alone
pub front_of-string_at : (bytes : List ℕ) (strings : Range) (place most len r : ℕ) → strings.start + place < strings.end
    → len ≡ min most (strings.end - (strings.start + place))
    → r ≡ string_len (slice_range bytes (strings.start + place) (strings.start + place + len))
    → ◌≡◌ {A = Range} (record { start = strings.start + place; end = strings.start + place + r })
    (front_of most (string_at bytes strings place))
unfolding string_at
front_of-string_at bytes strings place most len r inside at_len at_r =
    let start = strings.start + place in
    let rest = drop start bytes in
    let cut : start + len - start ≡ len = omega arith in
    let short : r ≡ min len (string_len rest) = at_r ∙ ap (λ n. string_len (take n rest)) cut
    ∙ string_len-take len rest in
    let long : string_len (slice_range bytes start strings.end) ≡ min (strings.end - start) (string_len rest)
    = string_len-take (strings.end - start) rest in
    let ends : start + r ≡ min (start + string_len (slice_range bytes start strings.end)) (start + most)
    = omega arith in
    rw (lt-ltb _ _ inside) (ap (λ (n : ℕ). let x : Range = record { start = strings.start + place; end = n } in x) ends)

-- ---- a table of strings, by its own bytes

-- how many bytes a table has
table_len : (bytes texts : List ℕ) (table : Range) → texts ≡ part_of bytes table → table.end ≤ length bytes
    → length texts ≡ table.end - table.start
table_len bytes texts table is fits =
    let drops = length-drop table.start bytes in
    let takes = length-take (table.end - table.start) (drop table.start bytes) in
    ap length is ∙ takes ∙ (let e : min (table.end - table.start) (length (drop table.start bytes))
    ≡ table.end - table.start = omega arith in e)

-- a string begins in the table
in_table : (bytes texts : List ℕ) (table : Range) (place : ℕ) → texts ≡ part_of bytes table
    → table.end ≤ length bytes → place < length texts → table.start + place < table.end
in_table bytes texts table place is fits inside = let long = table_len bytes texts table is fits in omega arith

-- and ends in it
pub ends_in_table : (bytes texts : List ℕ) (table : Range) (place len : ℕ) → texts ≡ part_of bytes table
    → table.end ≤ length bytes → place < length texts → len ≡ string_len (drop place texts)
    → table.start + place + len ≤ table.end
ends_in_table bytes texts table place len is fits inside at_len =
    let long = table_len bytes texts table is fits in
    let rest = length-drop place texts in
    let short = string_len-le (drop place texts) in
    omega arith

rest_of_table : (bytes texts : List ℕ) (table : Range) (place : ℕ) → texts ≡ part_of bytes table
    → table.start + place < table.end
    → drop place texts ≡ slice_range bytes (table.start + place) table.end
rest_of_table bytes texts table place is inside =
    let left : ℕ = table.end - (table.start + place) in
    let split : table.end - table.start ≡ place + left = omega arith in
    ap (drop place) is ∙ ap (λ n. drop place (take n (drop table.start bytes))) split
    ∙ drop-take place left (drop table.start bytes)
    ∙ ap (take left) (drop-drop place table.start bytes)

-- a string of a table
pub string_of_table : (bytes texts : List ℕ) (table : Range) (place len : ℕ) → texts ≡ part_of bytes table
    → table.end ≤ length bytes → place < length texts → len ≡ string_len (drop place texts)
    → ◌≡◌ {A = Range} (record { start = table.start + place; end = table.start + place + len })
    (string_at bytes table place)
unfolding string_at
string_of_table bytes texts table place len is fits inside at_len =
    let within = in_table bytes texts table place is fits inside in
    let same = at_len ∙ ap string_len (rest_of_table bytes texts table place is within) in
    rw (lt-ltb _ _ within)
    (ap (λ (n : ℕ). let x : Range = record { start = table.start + place; end = table.start + place + n } in x) same)
