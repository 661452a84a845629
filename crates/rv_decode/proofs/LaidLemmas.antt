-- The masks of the table: each shape has one, but LR's also covers rs2.
use Rattle.std.proofs.Common.{◌≡◌, ℕ, ◌⊎◌, inl, inr, bit_and, ◌^◌, ◌<◌, lit<, refl}
use Rattle.rv_decode.specs.Fields.{field}
use Rattle.rv_decode.specs.Table.{row_of}
use Rattle.rv_decode.specs.declared.instr.Op.{Op}
use Rattle.rv_decode.specs.declared.instr.Op.TheVariants.{LUI, LR, SC, AMOSWAP, AMOADD, AMOXOR, AMOAND, AMOOR, AMOMIN}
use Rattle.rv_decode.specs.declared.instr.Op.TheVariants.{AMOMAX, AMOMINU, AMOMAXU}
use Rattle.rv_decode.specs.declared.row.Row.{Row}
use Rattle.rv_decode.specs.declared.row.Shape.{Shape}
use Rattle.rv_decode.specs.declared.row.Shape.TheVariants.{R, I, S, B, U, J, Shift, Fence, Whole, Atomic}

-- the mask of a shape
abbrev pub HasMask : Shape → ℕ → ℕ → Op → Type 0
HasMask R mask bits o = mask ≡ 0xfe00707f
HasMask I mask bits o = mask ≡ 0x707f
HasMask S mask bits o = mask ≡ 0x707f
HasMask B mask bits o = mask ≡ 0x707f
HasMask U mask bits o = mask ≡ 0x7f
HasMask J mask bits o = mask ≡ 0x7f
HasMask Shift mask bits o = mask ≡ 0xfe00707f
HasMask Fence mask bits o = mask ≡ 0x707f
HasMask Whole mask bits o = mask ≡ 0xffffffff
HasMask Atomic mask bits o =
    ((mask ≡ 0xf800707f) × (o ≡ LR → ⊥)) ⊎ ((mask ≡ 0xf9f0707f) × (o ≡ LR) × (field 20 5 bits ≡ 0))

-- a row's bits lie under its mask, which is that of its shape; only Atomic rows are LR
pub record IsLaid (o : Op) (row : Row) : Type 0 where
  pub under : bit_and row.bits row.mask ≡ row.bits
  pub small : row.bits < 2 ^ 32
  pub mask : HasMask row.shape row.mask row.bits o

pub laid : (o : Op) → IsLaid o (row_of o)
unfolding row_of
laid LUI = record { under = refl; small = lit< tt; mask = refl }
laid LR = record { under = refl; small = lit< tt; mask = inr (refl, refl, refl) }
laid SC = record { under = refl; small = lit< tt; mask = inl (refl, λ e. cc) }
laid AMOSWAP = record { under = refl; small = lit< tt; mask = inl (refl, λ e. cc) }
laid AMOADD = record { under = refl; small = lit< tt; mask = inl (refl, λ e. cc) }
laid AMOXOR = record { under = refl; small = lit< tt; mask = inl (refl, λ e. cc) }
laid AMOAND = record { under = refl; small = lit< tt; mask = inl (refl, λ e. cc) }
laid AMOOR = record { under = refl; small = lit< tt; mask = inl (refl, λ e. cc) }
laid AMOMIN = record { under = refl; small = lit< tt; mask = inl (refl, λ e. cc) }
laid AMOMAX = record { under = refl; small = lit< tt; mask = inl (refl, λ e. cc) }
laid AMOMINU = record { under = refl; small = lit< tt; mask = inl (refl, λ e. cc) }
laid AMOMAXU = record { under = refl; small = lit< tt; mask = inl (refl, λ e. cc) }
laid o = record { under = refl; small = lit< tt; mask = refl }

-- LR's row has the shape of an atomic
pub lr-atomic : (o : Op) → o ≡ LR → (row_of o).shape ≡ Atomic
unfolding row_of
lr-atomic LR e = refl
lr-atomic o e = cc
