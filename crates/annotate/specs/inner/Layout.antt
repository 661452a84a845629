-- What the lines of a report are made of.
use Rattle.std.specs.Prelude.{◌≡◌, ℕ, ◌<◌, List, [], length, filter, slice_index, slice_index_or, All, ◌==◌}
use Rattle.std.specs.Prelude.{◌++◌, flat_map, codes, decimal, if◌then◌else◌}
use Rattle.std.specs.List.{list_any}
use Rattle.call_graph.specs.Groups.{Grouping, is_member}
use Rattle.cg_read.specs.Profiles.{Contents, IsProfile}
use Rattle.cycles.specs.Costs.{IsGroupsOf, group_at}
use Rattle.cycles.specs.Limits.{AreAllWithin}
use Rattle.annotate.specs.Calls.{callees_text, callers_text}
use Rattle.annotate.specs.Names.{costs_text}
use Rattle.report_rows.specs.Orders.{AreInOrder, members, numbers}
use Rattle.annotate.specs.Functions.{function_text, self_text}
use Rattle.report_rows.specs.Entries.{AreWithin, EntryValue, calls_of, costs_of, is_at}
use Rattle.report_rows.specs.Lists.{AreCallLists}
use Rattle.report_rows.specs.Ranks.{ArePlaces}
use Rattle.report_rows.specs.Tables.{AreLists}
use Rattle.annotate.specs.declared.calls.Calls.{Calls}
use Rattle.report_rows.specs.declared.entries.End.{End}
use Rattle.report_rows.specs.declared.entries.End.TheVariants.{Caller, Callee}
use Rattle.annotate.specs.declared.view.View.{View}

abbrev pub text_at : List (List ℕ) → ℕ → List ℕ
text_at texts n = slice_index_or texts n []

-- the functions of a list are those of the profile
abbrev pub AreFunctions : Contents → List ℕ → Type 0
AreFunctions p functions = All (λ f. f < length p.functions) functions

-- so many texts, and each is what stands for its number
pub record AreTexts (count : ℕ) (expected : ℕ → List ℕ) (texts : List (List ℕ)) : Type 0 where
  pub size : length texts ≡ count
  pub exact : (n : ℕ) → n < count → text_at texts n ≡ expected n

pub record IsView (v : View) : Type 0 where
  pub grouped : IsGroupsOf v.profile.now v.groups.now
  pub costs : length v.costs.now ≡ length v.groups.now.cyclic
  pub in_order : AreInOrder v.profile.now v.functions.now
  pub members : AreLists (length v.groups.now.cyclic) (members v.groups.now v.functions.now) v.members.now
  pub selfs : AreTexts (length v.profile.now.functions) (λ f. self_text v.profile.now (λ g. g == f)) v.selfs.items
  pub group_selfs : AreTexts (length v.groups.now.cyclic)
      (λ c. self_text v.profile.now (is_member v.groups.now c)) v.group_selfs.items

pub record IsCalls (c : Calls) : Type 0 where
  pub profile : IsProfile c.view.now.profile.now
  pub view : IsView c.view.now
  pub within : AreAllWithin c.view.now.profile.now
  pub places : ArePlaces c.view.now.functions.now c.places.now
  pub callers : AreCallLists c.view.now.profile.now c.places.now Callee c.callers.items
  pub callees : AreCallLists c.view.now.profile.now c.places.now Caller c.callees.items

-- how the lines begin of the functions at the other ends of the calls that have a function at this end
abbrev pub mark_of : End → List ℕ
mark_of Caller = codes "  > "
mark_of Callee = codes "  < "

abbrev pub side_text : Contents → Grouping → List ℕ → End → ℕ → List ℕ
side_text p groups functions Caller f = callees_text p groups functions f
side_text p groups functions Callee f = callers_text p groups functions f

-- what was counted under calls between two functions
abbrev pub cost_between : View → ℕ → ℕ → List ℕ → List ℕ
cost_between v f g cost =
    if group_at v.groups.now f == group_at v.groups.now g then codes "-" else costs_text cost

-- the calls between a function and another one, where these are their rows
abbrev pub neighbour_line : View → List ℕ → ℕ → ℕ → List EntryValue → List ℕ
neighbour_line v mark f g ks =
    mark ++ decimal (calls_of ks) ++ codes " | " ++ cost_between v f g (costs_of (length v.profile.now.events) ks)
    ++ codes " | " ++ function_text v.profile.now g ++ codes "\n"

-- by places, those at which rows stand
abbrev pub neighbours_text : View → List ℕ → ℕ → List EntryValue → List ℕ
neighbours_text v mark f ks =
    flat_map (λ place. neighbour_line v mark f (slice_index v.functions.now place) (filter (is_at place) ks))
    (filter (λ place. list_any (is_at place) ks) (numbers (length v.functions.now)))

-- the rows stand at places of functions, and no sum of those at a place passes 2^64 - 1
pub record AreNeighbours (v : View) (ks : List EntryValue) : Type 0 where
  pub below : All (λ k. k.at < length v.functions.now) ks
  pub within : (place : ℕ) → place < length v.functions.now
      → AreWithin (length v.profile.now.events) (filter (is_at place) ks)
