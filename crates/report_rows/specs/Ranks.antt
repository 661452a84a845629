-- Functions with their numbers, and groups with what they stand by.
use Rattle.std.specs.Prelude.{◌≡◌, ℕ, ◌*◌, ◌<◌, nat_le, Bool, List, [], ◌∷◌, length, filter, slice_index}
use Rattle.std.specs.Prelude.{slice_index_or}
use Rattle.std.specs.Ordering.{nat_cmp, ordering_then}
use Rattle.std.specs.declared.cmp.Ordering.{Ordering}
use Rattle.call_graph.specs.Groups.{Grouping}
use Rattle.cg_read.specs.Profiles.{Contents}
use Rattle.cg_read.specs.Ranks.{rank_at}
use Rattle.cg_read.specs.declared.function_numbers.FunctionNumbers.{FunctionNumbers}
use Rattle.report_rows.specs.Orders.{AreInOrder, IsArranged, cost_at, members, numbers}
use Rattle.report_rows.specs.Tables.{AreLists}
use Rattle.report_rows.specs.declared.options.ReportOptions.{ReportOptions}
use Rattle.report_rows.specs.declared.order.NumberedFunction.{NumberedFunction}
use Rattle.report_rows.specs.declared.order.Rank.{Rank}
use Rattle.report_rows.specs.declared.order.Sequence.{Sequence}

-- a function by the ranks of its texts
abbrev pub numbered_function : List FunctionNumbers → ℕ → NumberedFunction
numbered_function ranks number = record {
  file = (rank_at ranks number).file;
  name = (rank_at ranks number).name;
  object = (rank_at ranks number).object;
  number = number;
}

-- the place of the first function of a list
abbrev pub first_place : List ℕ → List ℕ → ℕ
first_place places [] = length places
first_place places (f ∷ fs) = slice_index places f

abbrev pub least_at : List (List ℕ) → List ℕ → ℕ → ℕ
least_at members places group = first_place places (slice_index_or members group [])

abbrev pub rank_of : List (List ℕ) → ℕ → List (List ℕ) → List ℕ → ℕ → Rank
rank_of costs sort members places group = record {
  cost = record { 0 = cost_at costs sort group };
  least = least_at members places group;
  group = group;
}

-- groups by falling cost, and then by their least functions
abbrev pub rank_order : List (List ℕ) → ℕ → List (List ℕ) → List ℕ → ℕ → ℕ → Ordering
rank_order costs sort members places c d =
    ordering_then (nat_cmp (cost_at costs sort d) (cost_at costs sort c))
    (nat_cmp (least_at members places c) (least_at members places d))

abbrev pub is_enough : List (List ℕ) → ReportOptions → ℕ → ℕ → Bool
is_enough costs options total group = nat_le (options.threshold * total) (cost_at costs options.sort group * 100)

-- of all groups in their order, those that are shown
pub record AreShown (costs : List (List ℕ)) (options : ReportOptions) (total : ℕ) (members : List (List ℕ))
    (places shown : List ℕ) : Type 0 where
  pub ranked : List ℕ
  pub arranged : IsArranged (rank_order costs options.sort members places) (numbers (length costs)) ranked
  pub exact : shown ≡ filter (is_enough costs options total) ranked

-- each function stands at its place
pub record ArePlaces (functions places : List ℕ) : Type 0 where
  pub size : length places ≡ length functions
  pub exact : (i : ℕ) → i < length functions → slice_index places (slice_index functions i) ≡ i

-- all functions in order, the place of each, and the functions of each group
pub record IsSequence (p : Contents) (groups : Grouping) (order : Sequence) : Type 0 where
  pub functions : AreInOrder p order.functions.items
  pub places : ArePlaces order.functions.items order.places.items
  pub members : AreLists (length groups.cyclic) (members groups order.functions.items) order.members.items
