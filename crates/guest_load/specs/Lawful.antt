-- What contracts see of a guest, and what holds of every guest.
use Rattle.std.specs.Prelude.{◌≡◌, ℕ, ◌≤◌, ◌%◌, length, map, slice_index}
use Rattle.std.specs.List.{All}
use Rattle.std.specs.List.Sorted.{IsStrictlyIncreasing}
use Rattle.guest_load.specs.declared.thread.Thread.{Thread}
use Rattle.guest_load.specs.declared.guest.Guest.TheInside.{Inside}
use Rattle.guest_load.specs.Guest.{Guest}

abbrev pub guest_of : Inside → Guest
guest_of g = record {
  mem = g.mem;
  threads = g.threads.items;
  first_break = g.first_break;
  now_break = g.now_break;
  input = g.input.items;
  place = g.place;
  made = g.made;
  steps = g.steps;
}

-- a thread's number is one of those that were given, it stands at the place of an instruction, and x0 is 0
pub record IsThread (made : ℕ) (thread : Thread) : Type 0 where
  pub numbered : 1 ≤ thread.no.0
  pub given : thread.no.0 ≤ made
  pub aligned : thread.regs.pc % 4 ≡ 0
  pub zero : slice_index thread.regs.x 0 ≡ 0

-- how many threads may be live, and how many may be made
abbrev pub most_live : ℕ
most_live = 1024

abbrev pub most_made : ℕ
most_made = 65535

pub record IsLawful (guest : Guest) : Type 0 where
  pub read_within : guest.place ≤ length guest.input
  pub made_few : guest.made ≤ most_made
  pub few_live : length guest.threads ≤ most_live
  pub rising : IsStrictlyIncreasing (map (λ t. t.no.0) guest.threads)
  pub each_thread : All (IsThread guest.made) guest.threads
  pub break_grown : guest.first_break ≤ guest.now_break
  pub break_low : guest.now_break ≤ 0x4000_0000
