-- Ranges that are made of a pile of spans from the lowest one up.
use Rattle.std.specs.Prelude.{◌≡◌, ℕ, ◌<◌, ◌≤◌, Bool, ◌||◌, nat_le, nat_lt}
use Rattle.std.specs.Prelude.{if◌then◌else◌, List}
use Rattle.std.specs.List.{fold}
use Rattle.sym_map.specs.declared.range.Range.{Range}
use Rattle.sym_map.specs.declared.range.Cover.{Cover}
use Rattle.sym_map.specs.declared.range.Cover.TheVariants as what
use Rattle.sym_map.specs.declared.range.Span.{Span}
use Rattle.sym_map.specs.inner.Ranges.{cover_at}
use Rattle.sym_map.specs.inner.Rising.{Rise}
use Rattle.sym_map.specs.inner.Spans.{reach, cover, label_cover}

-- what is seen at an address of spans that begin no higher, where the last one lies on top and each hides the others
abbrev pub stack_cover : List Span → ℕ → Cover
stack_cover stack address = fold (λ below span. if nat_lt address span.end then label_cover span.label else below) what.Nothing stack

-- a span covers nothing, or begins no lower than the topmost one
abbrev pub takes : ℕ → ℕ → ℕ → Bool
takes topmost start end = nat_le end start || nat_le topmost start

-- the ranges say what is seen of the spans below an address
pub record IsSettled (spans : List Span) (ranges : List Range) (start : ℕ) : Type 0 where
  pub rise : Rise ranges
  pub below : reach ranges ≤ start
  pub same : (address : ℕ) → address < start → cover_at ranges address ≡ cover spans address

-- the ranges say what is seen of the spans below an address, and the stack has those that are seen from there on
pub record IsPileOf (spans : List Span) (ranges : List Range) (start : ℕ) (stack : List Span) : Type 0 where
  pub settled : IsSettled spans ranges start
  pub ahead : (address : ℕ) → start ≤ address → cover spans address ≡ stack_cover stack address
