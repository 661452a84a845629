-- What an addition makes of the rows of a table, where its key is in the map, in the slot beside it, or new.
use Rattle.std.proofs.Common.{◌≡◌, ◌+◌, ◌≤◌, ℕ, Bool, true, false, ◌||◌, List, [], ◌∷◌, ◌++◌, Option, Some, None}
use Rattle.std.proofs.Common.{length, position}
use Rattle.std.proofs.Common.{IfSome, is_some, unwrap_or, refl, sym, ap, subst, ◌∙◌, arith, true≢false, if◌then◌else◌}
use Rattle.std.specs.Map.{keys_of, lookup}
use Rattle.std.specs.Option.{option_to_list}
use Rattle.indexmap.specs.IndexMap.{set_value_at}
use Rattle.arc_costs.specs.Amounts.{add_amount, amount_at, has_key}
use Rattle.arc_costs.specs.Contents.{Entries}
use Rattle.arc_costs.specs.inner.Shape.{all_rows, AllWhole, IsSound, table_entries}
use Rattle.arc_costs.proofs.EntryLemmas.{IsAbsent, IsAt, absent_lookup, absent-set_value_at, add_at, add_past, at_front}
use Rattle.arc_costs.proofs.EntryLemmas.{has_key_at, has_key_past, lookup_absent, lookup_at, lookup_past}
use Rattle.arc_costs.proofs.EntryLemmas.{at_past, at_written, place_at, whole-add_amount}

-- what a look-up in the map that finds nothing says
pub unfound : {K A : Type 0} (same : K → K → Bool) (k : K) (known : List (K × A)) (r : Option ℕ) → r ≡ None
    → is_some r ≡ is_some (lookup (same k) known) → IsAbsent same k known
unfound {K} {A} same k known r none found =
    absent_lookup same k known (nothing_there (lookup (same k) known) (sym found ∙ ap is_some none))
  where
    nothing_there : (o : Option A) → is_some o ≡ false → o ≡ None
    nothing_there None e = refl
    nothing_there (Some t) e = absurd (true≢false e)

-- an addition of an amount to the table as it is seen before
module _ {K A : Type 0} (same : K → K → Bool) (plus : A → A → A) (nothing : A) (k : K) (amount : A)
    (known : List (K × A)) (newest : Option (K × A)) (ahead : ℕ) (table : Entries K A)
    (is : table_entries known newest ahead ≡ table) where
  rows_are : all_rows known newest ≡ table.rows
  rows_are = ap (λ v. v.rows) is

  room_is : (if is_some newest then 0 else 1) ≡ table.room
  room_is = ap (λ v. v.room) is

  -- whole amounts stay whole
  whole_now : (is_whole : A → Type 0) → ((a b : A) → is_whole a → is_whole b → is_whole (plus a b)) → is_whole amount
      → IsSound same is_whole known newest → (rows : List (K × A)) → rows ≡ add_amount same plus table.rows k amount
      → AllWhole is_whole rows
  whole_now is_whole keeps one sound rows now =
      subst (AllWhole is_whole) (sym now)
      (whole-add_amount same k plus is_whole keeps table.rows amount
      (subst (AllWhole is_whole) rows_are sound.whole) one)

  -- the key is in the map
  module _ (i : ℕ) (held sum : A) (at : IsAt same k known i held) where
    known_at : IsAt same k (all_rows known newest) i held
    known_at = at_front same k known (option_to_list newest) i held at

    pub known_held : amount_at same nothing table.rows k ≡ held
    known_held =
        ap (λ rs. amount_at same nothing rs k) (sym rows_are)
        ∙ ap (λ o. unwrap_or o nothing) (lookup_at same k (all_rows known newest) i held known_at)

    pub known_rows : sum ≡ plus held amount
        → all_rows (set_value_at known i sum) newest ≡ add_amount same plus table.rows k amount
    known_rows sums =
        ap (λ u. all_rows (set_value_at known i u) newest) sums
        ∙ sym (add_at same k plus known (option_to_list newest) i held amount at)
        ∙ ap (λ rs. add_amount same plus rs k amount) rows_are

    pub known_place : position (same k) (keys_of (all_rows (set_value_at known i sum) newest)) ≡ Some i
    known_place =
        place_at same k (all_rows (set_value_at known i sum) newest) i sum
        (at_front same k (set_value_at known i sum) (option_to_list newest) i sum
        (at_written same k known i held sum at))

    pub known_room : (if is_some newest then 0 else 1) + (if has_key same k table.rows then 0 else 1) ≡ table.room
    known_room =
        let has : has_key same k table.rows ≡ true
        = ap (has_key same k) (sym rows_are) ∙ has_key_at same k (all_rows known newest) i held known_at in
        let room = room_is in
        ap (λ b. (if is_some newest then 0 else 1) + (if b then 0 else 1)) has ∙ omega (arith, room)

    apart : (o : Option (K × A)) → IfSome o (λ row. lookup (same row.0) known ≡ None)
        → IfSome o (λ row. lookup (same row.0) (set_value_at known i sum) ≡ None)
    apart None h = tt
    apart (Some row) h =
        lookup_absent same row.0 (set_value_at known i sum)
        (absent-set_value_at same row.0 known i sum (absent_lookup same row.0 known h))

    pub known_sound : (is_whole : A → Type 0) → ((a b : A) → is_whole a → is_whole b → is_whole (plus a b))
        → is_whole amount
        → IsSound same is_whole known newest → sum ≡ plus held amount
        → IsSound same is_whole (set_value_at known i sum) newest
    known_sound is_whole keeps one sound sums = record {
      apart = apart newest sound.apart;
      whole = whole_now is_whole keeps one sound (all_rows (set_value_at known i sum) newest) (known_rows sums);
    }

  -- it isn't in the map: the newest row has it, or it is new
  module _ (absent : IsAbsent same k known) where
    module _ (row : K × A) (newest_is : newest ≡ Some row)
        (room : has_key same k table.rows ≡ false → 1 ≤ table.room) where
      slot_rows_are : all_rows known (Some row) ≡ table.rows
      slot_rows_are = ap (all_rows known) (sym newest_is) ∙ rows_are

      slot_room_is : 0 ≡ table.room
      slot_room_is = ap (λ o. if is_some o then 0 else 1) (sym newest_is) ∙ room_is

      own_cases : (b : Bool) → same k row.0 ≡ b → same k row.0 ≡ true
      own_cases true own = own
      own_cases false other =
          let none =
          room (ap (has_key same k) (sym slot_rows_are) ∙ has_key_past same k known (row ∷ []) absent
          ∙ ap (λ b. b || false) other) in
          let full = slot_room_is in
          absurd (omega (arith, none, full))

      own : same k row.0 ≡ true
      own = own_cases (same k row.0) refl

      pub slot_place : (sum : A) → position (same k) (keys_of (all_rows known (Some (row.0, sum))))
          ≡ Some (length known)
      slot_place sum =
          place_at same k (known ++ (row.0, sum) ∷ []) (length known) sum (at_past same k known (row.0, sum) absent own)

      pub slot_held : amount_at same nothing table.rows k ≡ row.1
      slot_held =
          ap (λ rs. amount_at same nothing rs k) (sym slot_rows_are)
          ∙ ap (λ o. unwrap_or o nothing)
          (lookup_past same k known (row ∷ []) absent ∙ ap (λ b. if b then Some row.1 else None) own)

      pub slot_room : 0 + (if has_key same k table.rows then 0 else 1) ≡ table.room
      slot_room =
          let has : has_key same k table.rows ≡ true
          = ap (has_key same k) (sym slot_rows_are) ∙ has_key_past same k known (row ∷ []) absent
          ∙ ap (λ b. b || false) own in
          ap (λ b. 0 + (if b then 0 else 1)) has ∙ slot_room_is

      module _ (sum : A) (sums : sum ≡ plus row.1 amount) where
        pub slot_rows : all_rows known (Some (row.0, sum)) ≡ add_amount same plus table.rows k amount
        slot_rows =
            ap (λ u. all_rows known (Some (row.0, u))) sums
            ∙ sym (add_past same k plus known (row ∷ []) amount absent
            ∙ ap (λ b. known ++ (if b then (row.0, plus row.1 amount) ∷ [] else row ∷ (k, amount) ∷ [])) own)
            ∙ ap (λ rs. add_amount same plus rs k amount) slot_rows_are

        pub slot_sound : (is_whole : A → Type 0) → ((a b : A) → is_whole a → is_whole b → is_whole (plus a b))
            → is_whole amount
            → IsSound same is_whole known newest → IsSound same is_whole known (Some (row.0, sum))
        slot_sound is_whole keeps one sound = record {
          apart = (subst (IsSound same is_whole known) newest_is sound).apart;
          whole = whole_now is_whole keeps one sound (all_rows known (Some (row.0, sum))) slot_rows;
        }

    pub new_place : (sum : A) → same k k ≡ true
        → position (same k) (keys_of (all_rows known (Some (k, sum)))) ≡ Some (length known)
    new_place sum own =
        place_at same k (known ++ (k, sum) ∷ []) (length known) sum (at_past same k known (k, sum) absent own)

    module _ (newest_is : newest ≡ None) where
      new_rows_are : all_rows known None ≡ table.rows
      new_rows_are = ap (all_rows known) (sym newest_is) ∙ rows_are

      pub new_held : amount_at same nothing table.rows k ≡ nothing
      new_held =
          ap (λ rs. amount_at same nothing rs k) (sym new_rows_are)
          ∙ ap (λ o. unwrap_or o nothing) (lookup_past same k known [] absent)

      pub new_room : 0 + (if has_key same k table.rows then 0 else 1) ≡ table.room
      new_room =
          let has : has_key same k table.rows ≡ false = ap (has_key same k) (sym new_rows_are)
          ∙ has_key_past same k known [] absent in
          ap (λ b. 0 + (if b then 0 else 1)) has ∙ ap (λ o. if is_some o then 0 else 1) (sym newest_is) ∙ room_is

      module _ (sum : A) (sums : sum ≡ amount) where
        pub new_rows : all_rows known (Some (k, sum)) ≡ add_amount same plus table.rows k amount
        new_rows =
            ap (λ u. all_rows known (Some (k, u))) sums ∙ sym (add_past same k plus known [] amount absent)
            ∙ ap (λ rs. add_amount same plus rs k amount) new_rows_are

        pub new_sound : (is_whole : A → Type 0) → ((a b : A) → is_whole a → is_whole b → is_whole (plus a b))
            → is_whole amount
            → IsSound same is_whole known newest → IsSound same is_whole known (Some (k, sum))
        new_sound is_whole keeps one sound = record {
          apart = lookup_absent same k known absent;
          whole = whole_now is_whole keeps one sound (all_rows known (Some (k, sum))) new_rows;
        }
