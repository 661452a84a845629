-- Numbers from one place to another.
use Rattle.std.proofs.Common.{◌≡◌, ℕ, zero, suc, ◌+◌, ◌-◌, ◌%◌, ◌<◌, ◌≤◌, Bool, true, false, cond, ltb, refl, arith}
use Rattle.std.proofs.Common.{pos, negsuc, ltb-true, ltb-false}
use Rattle.rv_decode.specs.Encoded.{IsWithin, IsMultipleOf}
use Rattle.demo_make.specs.Instructions.{offset}

-- two numbers that are near are a small difference apart
pub within : (half from to : ℕ) → from ≤ to + half → to < from + half → IsWithin half (offset from to)
within half zero to low high = omega arith
within half (suc from) to low high = go (ltb to (suc from)) refl
  where
    go : (b : Bool) → ltb to (suc from) ≡ b
        → IsWithin half (cond b (negsuc (suc from - suc to)) (pos (to - suc from)))
    go true e = let lt = ltb-true to (suc from) e in omega arith
    go false e = let ge = ltb-false to (suc from) e in omega arith

-- the difference of two even numbers is even
pub even : (from to : ℕ) → from % 2 ≡ 0 → to % 2 ≡ 0 → IsMultipleOf 2 (offset from to)
even zero to f t = omega arith
even (suc from) to f t = go (ltb to (suc from)) refl
  where
    go : (b : Bool) → ltb to (suc from) ≡ b
        → IsMultipleOf 2 (cond b (negsuc (suc from - suc to)) (pos (to - suc from)))
    go true e = let lt = ltb-true to (suc from) e in omega arith
    go false e = let ge = ltb-false to (suc from) e in omega arith
