-- A segment with its bytes.
use Rattle.std.specs.Prelude.{ℕ, List}

-- the address of the first byte, the bytes that the file holds, how many bytes there are in memory, and p_flags
pub record SegmentContent : Type 0 where
  pub addr : ℕ
  pub bytes : List ℕ
  pub mem_len : ℕ
  pub flags : ℕ
