-- Three chains in one arena stay apart while one of them changes.
use Rattle.std.proofs.Common.{◌≡◌, ℕ, ◌≤◌, Bool, true, false, List, [], ◌∷◌, arith, sym, ◌∙◌, ap, subst, inl, inr}
use Rattle.std.specs.Prelude.{Option}
use Rattle.std.specs.List.{AllZip}
use Rattle.std.proofs.lemmas.Bool.{cases_Bool}
use Rattle.shadow_stack.specs.declared.arena.Head.{Head}
use Rattle.shadow_stack.specs.Arenas.{Node}
use Rattle.shadow_stack.specs.declared.frame.Frame.{Frame}
use Rattle.shadow_stack.specs.Frames.{restarted_frame, StartWithin}
use Rattle.shadow_stack.specs.Arenas.{Link, links, frames, frames_in, keys_in, is_in, is_in_chain, AreApart}
use Rattle.shadow_stack.specs.Arenas.{LeavesOthers, LiesIn, StillLies}
use Rattle.shadow_stack.proofs.FrameLemmas.{StartWithin-grown, StartWithin-restarted}
use Rattle.shadow_stack.proofs.ChainLemmas.{lies_empty, links_from-none, true_false}
use Rattle.cases_counting.specs.Lanes.{AreLanes, IsLane, no_frames}

abbrev Slots : Type 0
Slots = List (Option Node)

apart-sym : (s : Slots) (head other : Head) → AreApart s head other → AreApart s other head
apart-sym s head other apart key inside =
    elim (cases_Bool (is_in_chain s head key)) [
      | inl there ↦ absurd (true_false _ inside (apart key there))
      | inr not_there ↦ not_there
    ]

-- the same links, in another arena
lane_kept : (s t : Slots) (total : List ℕ) (head other : Head) → IsLane s total other → StillLies s t head other
    → IsLane t total other
lane_kept s t total head other lane still = record {
  lies = still.lies;
  starts = subst (λ (ls : List Link). StartWithin total (frames_in ls)) (sym still.links) lane.starts;
}

-- the total has grown
lane_grown : (s : Slots) (before total : List ℕ) (head : Head) → AllZip (λ t u. u ≤ t) total before
    → IsLane s before head → IsLane s total head
lane_grown s before total head covers lane = record {
  lies = lane.lies;
  starts = StartWithin-grown total before (frames s head) covers lane.starts;
}

pub lanes_grown : (s : Slots) (before total : List ℕ) (one two three : Head) → AllZip (λ t u. u ≤ t) total before
    → AreLanes s before one two three → AreLanes s total one two three
lanes_grown s before total one two three covers lanes = record {
  first = lane_grown s before total one covers lanes.first;
  second = lane_grown s before total two covers lanes.second;
  third = lane_grown s before total three covers lanes.third;
  first_second = lanes.first_second;
  second_third = lanes.second_third;
  third_first = lanes.third_first;
}

rotated : (s : Slots) (total : List ℕ) (one two three : Head) → AreLanes s total one two three
    → AreLanes s total two three one
rotated s total one two three lanes = record {
  first = lanes.second;
  second = lanes.third;
  third = lanes.first;
  first_second = lanes.second_third;
  second_third = lanes.third_first;
  third_first = lanes.first_second;
}

pub first_changed : (s t : Slots) (total : List ℕ) (one two three next : Head) → AreLanes s total one two three
    → IsLane t total next → LeavesOthers s one t next → AreLanes t total next two three
first_changed s t total one two three next lanes lane others =
    let kept_two = others two lanes.second.lies lanes.first_second in
    let kept_three = others three lanes.third.lies (apart-sym s three one lanes.third_first) in
    record {
      first = lane;
      second = lane_kept s t total next two lanes.second kept_two;
      third = lane_kept s t total next three lanes.third kept_three;
      first_second = kept_two.apart;
      second_third = λ key inside.
          ap (λ (ls : List Link). is_in key (keys_in ls)) kept_three.links
          ∙ lanes.second_third key (sym (ap (λ (ls : List Link). is_in key (keys_in ls)) kept_two.links) ∙ inside);
      third_first = apart-sym t next three kept_three.apart;
    }

pub second_changed : (s t : Slots) (total : List ℕ) (one two three next : Head) → AreLanes s total one two three
    → IsLane t total next → LeavesOthers s two t next → AreLanes t total one next three
second_changed s t total one two three next lanes lane others =
    rotated t total three one next
    (rotated t total next three one
    (first_changed s t total two three one next (rotated s total one two three lanes) lane others))

pub third_changed : (s t : Slots) (total : List ℕ) (one two three next : Head) → AreLanes s total one two three
    → IsLane t total next → LeavesOthers s three t next → AreLanes t total one two next
third_changed s t total one two three next lanes lane others =
    rotated t total next one two
    (first_changed s t total three one two next
    (rotated s total two three one (rotated s total one two three lanes)) lane others)

-- ---- threads that haven't begun

begun_lane : (s : Slots) (total : List ℕ) → IsLane s total no_frames
begun_lane s total = record {
  lies = lies_empty s 0;
  starts = subst (λ (ls : List Link). StartWithin total (frames_in ls)) (sym (links_from-none s 0))
      (λ k d h. absurd (omega arith));
}

begun_apart : (s : Slots) (head : Head) → AreApart s head no_frames
begun_apart s head key inside = ap (λ (ls : List Link). is_in key (keys_in ls)) (links_from-none s 0)

pub begun_lanes : (s : Slots) (total : List ℕ) (one two three : Head) → one ≡ no_frames → two ≡ no_frames
    → three ≡ no_frames → AreLanes s total one two three
begun_lanes s total one two three first second third =
    subst (λ (a : Head). AreLanes s total a two three) (sym first)
    (subst (λ (b : Head). AreLanes s total no_frames b three) (sym second)
    (subst (λ (c : Head). AreLanes s total no_frames no_frames c) (sym third) (record {
      first = begun_lane s total;
      second = begun_lane s total;
      third = begun_lane s total;
      first_second = begun_apart s no_frames;
      second_third = begun_apart s no_frames;
      third_first = begun_apart s no_frames;
    })))

pub root_lane : (s : Slots) (total : List ℕ) (head : Head) (root : Frame) → LiesIn s head
    → frames s head ≡ restarted_frame total root ∷ [] → IsLane s total head
root_lane s total head root lies is = record {
  lies = lies;
  starts = subst (λ (fs : List Frame). StartWithin total fs) (sym is) (StartWithin-restarted total (root ∷ []));
}
