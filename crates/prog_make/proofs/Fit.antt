-- The condition on segments where they stand in the file is that on the parts themselves.
use Rattle.std.proofs.Common.{ℕ, ◌+◌, ◌&&◌, leb, List, [], ◌∷◌, length, refl, sym, ◌∙◌, arith}
use Rattle.std.specs.List.{All}
use Rattle.std.proofs.lemmas.Bool.{leb-true, le-leb, and_parts}
use Rattle.prog_make.specs.SegmentContent.{SegmentContent}
use Rattle.prog_make.specs.Parts.{Parts}
use Rattle.prog_make.specs.Conditions.{IsLoadable, AreSegmentsSound, CanBeMade}
use Rattle.prog_make.specs.inner.Conditions.{IsPlaced, AreSegmentsFit, AreFit}
use Rattle.prog_make.specs.Programs.{placed_at, file_segments_from, content_offset}
use Rattle.prog_make.proofs.SegmentsRead.{All-rest, All-more, count_placed, code_placed}

loadable_placed : (offset : ℕ) (s : SegmentContent) → IsLoadable (placed_at offset s) → IsPlaced s
loadable_placed offset s is =
    let outer = and_parts (leb (length s.bytes) s.mem_len && leb 0x1000 s.addr)
    (leb (s.addr + s.mem_len) 0x4000_0000) is.placed in
    let inner = and_parts (leb (length s.bytes) s.mem_len) (leb 0x1000 s.addr) outer.0 in
    record { loaded = is.loaded; sizes = leb-true _ _ inner.0; low = leb-true _ _ inner.1; high = leb-true _ _ outer.1 }

placed_loadable : (offset : ℕ) (s : SegmentContent) → IsPlaced s → IsLoadable (placed_at offset s)
placed_loadable offset s is = record {
  loaded = is.loaded;
  placed = rw (
    le-leb (length s.bytes) s.mem_len is.sizes,
    le-leb 0x1000 s.addr is.low,
    le-leb
        (s.addr + s.mem_len) 0x4000_0000 is.high,
  ) refl;
}

all_placed : (offset : ℕ) (segments : List SegmentContent) → All IsLoadable (file_segments_from offset segments)
    → All IsPlaced segments
all_placed offset [] all = λ k d lt. absurd (omega arith)
all_placed offset (s ∷ segments) all =
    All-more IsPlaced s segments (loadable_placed offset s (all 0 (placed_at offset s) (omega arith)))
    (all_placed (offset + length s.bytes) segments
    (All-rest IsLoadable (placed_at offset s) (file_segments_from (offset + length s.bytes) segments) all))

all_loadable : (offset : ℕ) (segments : List SegmentContent) → All IsPlaced segments
    → All IsLoadable (file_segments_from offset segments)
all_loadable offset [] all = λ k d lt. absurd (omega arith)
all_loadable offset (s ∷ segments) all =
    All-more IsLoadable (placed_at offset s) (file_segments_from (offset + length s.bytes) segments)
    (placed_loadable offset s (all 0 s (omega arith)))
    (all_loadable (offset + length s.bytes) segments (All-rest IsPlaced s segments all))

pub segments_fit : (parts : Parts) → AreSegmentsSound parts → AreSegmentsFit parts
segments_fit parts sound =
    let offset = content_offset parts.segments in
    record {
      count = sound.count;
      placed = all_placed offset parts.segments sound.loadable;
      apart = λ a. rw (← count_placed a offset parts.segments) (sound.apart a);
      entry_aligned = sound.entry_aligned;
      entry_in_code = sym (code_placed parts.entry offset parts.segments) ∙ sound.entry_in_code;
    }

pub segments_sound : (parts : Parts) → AreSegmentsFit parts → AreSegmentsSound parts
segments_sound parts fit =
    let offset = content_offset parts.segments in
    record {
      count = fit.count;
      loadable = all_loadable offset parts.segments fit.placed;
      apart = λ a. rw (count_placed a offset parts.segments) (fit.apart a);
      entry_aligned = fit.entry_aligned;
      entry_in_code = code_placed parts.entry offset parts.segments ∙ fit.entry_in_code;
    }

pub parts_fit : (parts : Parts) → CanBeMade parts → AreFit parts
parts_fit parts can = record {
  segments = segments_fit parts can.segments;
  functions = can.functions;
  file = can.file;
  total = can.total;
}
