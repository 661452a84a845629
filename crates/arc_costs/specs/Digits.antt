-- The digits of keys, by which they are found. Which they are decides how long a search takes, and nothing else.
use Rattle.std.specs.Prelude.{ℕ, ◌+◌, ◌-◌, ◌*◌, ◌/◌, ◌%◌, ◌^◌, if◌then◌else◌, min, nat_lt}
use Rattle.event_costs.specs.Keys.{ArcKey, Place}

-- two bits of a number of 128, from the highest on
unfoldable pub digit_of : ℕ → ℕ → ℕ
digit_of number place = number / 2 ^ (2 * (63 - min place 63)) % 4

unfoldable pub spread : ℕ → ℕ
spread number = number * 0x9e37_79b9_7f4a_7c15_f39c_c060_5ced_c835 % 2 ^ 128

abbrev pub place_number : Place → ℕ
place_number place = place.func.0 + (place.file.0 + place.line * 2 ^ 32) * 2 ^ 64

abbrev pub arc_number : ArcKey → ℕ
arc_number arc =
    (arc.caller.0 + arc.callee.0 * 2 ^ 32 + (arc.file.0 + arc.line * 2 ^ 32) * 2 ^ 64) % 2 ^ 128

-- An arc's digits. Where its functions' numbers are too great for one number with the rest, they come once more behind.
abbrev pub arc_digit : ArcKey → ℕ → ℕ
arc_digit arc place =
    if nat_lt 63 place then digit_of (arc.caller.0 + arc.callee.0 * 2 ^ 64) (place - 64)
    else digit_of (spread (arc_number arc)) place
