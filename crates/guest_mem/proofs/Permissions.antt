-- Permissions below 8, in which to write is to read.
use Rattle.std.proofs.Common.{◌≡◌, ℕ, zero, suc, ◌<◌, arith, refl, true}
use Rattle.std.specs.Prelude.{IsTrue, bit_or}
use Rattle.guest_mem.specs.Memory.{allows, granted_permission}
use Rattle.guest_mem.specs.inner.Page.{is_granted}

-- a permission below 8 that may be written is lawful once reading is added
pub lawful_or_read : (p : ℕ) → p < 8 → IsTrue (is_granted (bit_or p 1))
lawful_or_read zero h = refl
lawful_or_read (suc zero) h = refl
lawful_or_read (suc (suc zero)) h = refl
lawful_or_read (suc (suc (suc zero))) h = refl
lawful_or_read (suc (suc (suc (suc zero)))) h = refl
lawful_or_read (suc (suc (suc (suc (suc zero))))) h = refl
lawful_or_read (suc (suc (suc (suc (suc (suc zero)))))) h = refl
lawful_or_read (suc (suc (suc (suc (suc (suc (suc zero))))))) h = refl
lawful_or_read (suc (suc (suc (suc (suc (suc (suc (suc p)))))))) h = absurd (omega arith)

-- what is lawful and may be written may be read
pub read_where_written : (p : ℕ) → p < 8 → IsTrue (is_granted p) → allows 2 p ≡ true → allows 1 p ≡ true
read_where_written zero b h w = cc
read_where_written (suc zero) b h w = cc
read_where_written (suc (suc zero)) b h w = cc
read_where_written (suc (suc (suc zero))) b h w = refl
read_where_written (suc (suc (suc (suc zero)))) b h w = cc
read_where_written (suc (suc (suc (suc (suc zero))))) b h w = cc
read_where_written (suc (suc (suc (suc (suc (suc zero)))))) b h w = cc
read_where_written (suc (suc (suc (suc (suc (suc (suc zero))))))) b h w = refl
read_where_written (suc (suc (suc (suc (suc (suc (suc (suc p)))))))) b h w = absurd (omega arith)

-- and so is any other as it is given
pub lawful_granted : (p : ℕ) → p < 8 → IsTrue (is_granted (granted_permission p))
lawful_granted zero h = refl
lawful_granted (suc zero) h = refl
lawful_granted (suc (suc zero)) h = refl
lawful_granted (suc (suc (suc zero))) h = refl
lawful_granted (suc (suc (suc (suc zero)))) h = refl
lawful_granted (suc (suc (suc (suc (suc zero))))) h = refl
lawful_granted (suc (suc (suc (suc (suc (suc zero)))))) h = refl
lawful_granted (suc (suc (suc (suc (suc (suc (suc zero))))))) h = refl
lawful_granted (suc (suc (suc (suc (suc (suc (suc (suc p)))))))) h = absurd (omega arith)
