-- A section, one unit after the other.
use Rattle.std.proofs.Common.{◌≡◌, ℕ, zero, suc, ◌+◌, ◌<◌, ◌≤◌, List, ◌++◌, length, Some, None, refl, sym, subst, ◌^◌, ◌∙◌, arith}
use Rattle.dwarf_line.specs.Entry.{StringSections}
use Rattle.dwarf_line.specs.Unit.{Front, body, wide, front_at, bodies_of, units_within, units, accepted_units, line_sequences}
use Rattle.dwarf_line.specs.inner.Fronts.{unit_len}
use Rattle.dwarf_line.specs.inner.Tables.{IsTable}
use Rattle.dwarf_line.specs.inner.Building.{Building, nothing_read, with_units, lines_of}
use Rattle.dwarf_line.proofs.Tables.{units_follow, nothing_built}

-- So far the units in front were added, and those that are left lead to the whole.
pub record ReadsOn (sections : StringSections) (section : List ℕ) (building : Building) (bytes : List ℕ) : Type 0 where
  pub limit : ℕ
  pub enough : length bytes ≤ limit
  pub rest : with_units sections building (units_within limit bytes) ≡ with_units sections nothing_read (units section)
  pub closed : building.matrix.first ≡ length building.matrix.rows
  pub room : length building.files + length bytes ≤ 1 + length section
  pub count : building.unit_count + length bytes ≤ length section
  pub few : length building.files + 4 ≤ 2 ^ 32

pub reads_from : (sections : StringSections) (section : List ℕ) → ReadsOn sections section nothing_read section
reads_from sections section = record {
  few = omega arith;
  limit = length section;
  enough = omega arith;
  rest = refl;
  closed = refl;
  room = omega arith;
  count = omega arith;
}

in_front : (sections : StringSections) (building : Building) (front : Front) (rest : List (List ℕ))
    → with_units sections building (bodies_of front ++ rest)
    ≡ with_units sections (with_units sections building (bodies_of front)) rest
in_front sections building (body bytes) rest = refl
in_front sections building wide rest = refl

one_unit : (sections : StringSections) (building : Building) (limit : ℕ) (bytes after : List ℕ) (front : Front)
    → length bytes ≤ limit → length after + unit_len front + 4 ≤ length bytes → front_at bytes ≡ Some (front, after)
    → (less : ℕ) × (length after ≤ less)
    × (with_units sections (with_units sections building (bodies_of front)) (units_within less after)
    ≡ with_units sections building (units_within limit bytes))
one_unit sections building zero bytes after front enough shorter read = absurd (omega arith)
one_unit sections building (suc limit) bytes after front enough shorter read =
    (limit, omega arith, rw read (sym (in_front sections building front (units_within limit after))))

pub reads_on : (sections : StringSections) (section : List ℕ) (building next : Building) (bytes after : List ℕ)
    (front : Front) → ReadsOn sections section building bytes → front_at bytes ≡ Some (front, after)
    → length after + unit_len front + 4 ≤ length bytes
    → length section < 2 ^ 32
    → next ≡ with_units sections building (bodies_of front) → next.matrix.first ≡ length next.matrix.rows
    → length next.files ≤ length building.files + unit_len front → next.unit_count ≤ building.unit_count + 1
    → ReadsOn sections section next after
reads_on sections section building next bytes after front so_far read shorter short is closed room count =
    let one = one_unit sections building so_far.limit bytes after front so_far.enough shorter read in
    record {
      limit = one.0;
      enough = one.1;
      rest = rw is (one.2 ∙ so_far.rest);
      closed = closed;
      room = omega (arith, so_far.room);
      count = omega (arith, so_far.count);
      few = omega (arith, so_far.room);
    }

no_more : (sections : StringSections) (building : Building) (limit : ℕ) (bytes : List ℕ) → front_at bytes ≡ None
    → with_units sections building (units_within limit bytes) ≡ building
no_more sections building zero bytes read = refl
no_more sections building (suc limit) bytes read = rw read refl

-- where reading stops, the building reads as the section
pub record IsRead (sections : StringSections) (section : List ℕ) (building : Building) : Type 0 where
  pub table : IsTable building.matrix.rows building.matrix.sequences building.files
  pub lines : lines_of building ≡ line_sequences sections section
  pub count : building.unit_count ≡ length (accepted_units sections section)

pub is_read : (sections : StringSections) (section : List ℕ) (building : Building) (bytes : List ℕ)
    → ReadsOn sections section building bytes → front_at bytes ≡ None → IsRead sections section building
is_read sections section building bytes so_far read =
    let whole : building ≡ with_units sections nothing_read (units section) =
    sym (no_more sections building so_far.limit bytes read) ∙ so_far.rest in
    let all = units_follow sections (units section) nothing_read nothing_built in
    let few : length (with_units sections nothing_read (units section)).files + 4 ≤ 2 ^ 32 =
    subst (λ (b : Building). length b.files + 4 ≤ 2 ^ 32) whole so_far.few in
    rw whole (record {
      table = record {
        sequences_placed = all.built.sequences_placed;
        sequences_rise = all.built.sequences_rise;
        files_known = all.built.files_known;
        few_files = few;
      };
      lines = all.lines;
      count = omega (arith, all.count);
    })
