-- What each line of a part by address says by itself.
use Rattle.std.proofs.Common.{◌≡◌, ℕ, zero, suc, ◌+◌, ◌<◌, ◌^◌, Bool, true, false, not, ◌==◌, nat_eq, cond, List, []}
use Rattle.std.proofs.Common.{◌∷◌, ◌++◌, length, take, drop, codes, Option, None}
use Rattle.std.proofs.Common.{Some, refl, sym, ap, ◌∙◌, subst, arith}
use Rattle.std.proofs.Common.{append_assoc}
use Rattle.std.specs.Char.{is_ascii_digit}
use Rattle.std.specs.Fmt.{decimal, digits}
use Rattle.std.specs.List.{All, filter, list_all, position_or_len, prefix_len, starts_with}
use Rattle.std.proofs.lemmas.Bool.Decides.{nat_tests}
use Rattle.std.proofs.lemmas.List.{take_at}
use Rattle.std.proofs.lemmas.List.Splits.{slice_split_at}
use Rattle.std.proofs.lemmas.Slice.Eq.{starts_is}
use Rattle.byte_text.specs.Names.{is_printable}
use Rattle.sym_map.specs.SymbolMap.{SymbolMap}
use Rattle.cg_format.specs.Marks.{cost_text}
use Rattle.addr_rows.specs.Texts.{position}
use Rattle.cg_lines.specs.Addressed.{addressed_calls, addressed_of, addressed_other, addressed_shape, alone, with_address}
use Rattle.cg_lines.specs.Lines.{is_some_word, is_space, strip, without_front, words}
use Rattle.cg_lines.specs.Numbers.{number_of}
use Rattle.cg_lines.specs.Shapes.{begins_position, calls_line, calls_with, cost_line, cost_with, line_of, sub_position_of, shape}
use Rattle.cg_lines.specs.declared.addressed.AddressedLine.{AddressedLine}
use Rattle.cg_lines.specs.declared.line.Line.{Line}
use Rattle.cg_lines.specs.declared.line.Line.TheVariants as kind
use Rattle.cg_lines.specs.declared.number.Number.{Number}
use Rattle.cg_lines.specs.declared.number.Number.TheVariants.{Fits}
use Rattle.cg_lines.specs.declared.sub_position.SubPosition.{SubPosition}
use Rattle.cg_lines.specs.declared.sub_position.SubPosition.TheVariants.{At}
use Rattle.key_tables.specs.Same.{both_true}
use Rattle.reads_back.proofs.NumberLemmas.{decimal_parts, number_decimal, text-decimal, words_more, words_one}
use Rattle.report_laws.proofs.Others.{costs_after, costs_read, digit_begins, digit_no_blank, digit_no_place, front}
use Rattle.report_laws.proofs.Others.{place_decimal, spells_costs, IsText, stripped_kept, text-append}
use Rattle.report_laws.proofs.HexLemmas.{hex, hex_no_space, place_hex, text-hex}
use Rattle.shadow_stack.proofs.ChainLemmas.{true_false, not_true}

-- what a line says, where its text is as it should be
pub record SaysAt (text : List ℕ) (a : AddressedLine) : Type 0 where
  pub clear : list_all is_printable text ≡ true
  pub said : addressed_of text ≡ a

-- ---- lines without a position

-- a line that is no row's, no call's and says nothing of positions
abbrev pub is_quiet : Line → Bool
is_quiet kind.Blank = true
is_quiet kind.Header = true
is_quiet (kind.Command text) = true
is_quiet (kind.Events text) = true
is_quiet (kind.Object name) = true
is_quiet (kind.File name) = true
is_quiet (kind.Function name) = true
is_quiet (kind.CalleeObject name) = true
is_quiet (kind.CalleeFile name) = true
is_quiet (kind.Callee name) = true
is_quiet _ = false

quiet_alone : (l : Line) → is_quiet l ≡ true → addressed_other l ≡ alone l
quiet_alone kind.Blank is = refl
quiet_alone kind.Header is = refl
quiet_alone (kind.Command text) is = refl
quiet_alone (kind.Events text) is = refl
quiet_alone (kind.Positions text) is = absurd (cc)
quiet_alone (kind.Object name) is = refl
quiet_alone (kind.File name) is = refl
quiet_alone (kind.Function name) is = refl
quiet_alone (kind.CalleeObject name) is = refl
quiet_alone (kind.CalleeFile name) is = refl
quiet_alone (kind.Callee name) is = refl
quiet_alone (kind.Calls n place) is = refl
quiet_alone kind.BadCalls is = refl
quiet_alone (kind.Cost place costs) is = refl
quiet_alone kind.BadCost is = refl
quiet_alone kind.Jump is = refl
quiet_alone kind.Bad is = refl

cost_not_quiet : (place : Option SubPosition) (costs : List ℕ) → is_quiet (cost_with place costs) ≡ false
cost_not_quiet None costs = refl
cost_not_quiet (Some place) costs = refl

calls_not_quiet : (ws : List (List ℕ)) → is_quiet (calls_line ws) ≡ false
calls_not_quiet [] = refl
calls_not_quiet (n ∷ []) = refl
calls_not_quiet (n ∷ place ∷ []) = by (number_of n) (sub_position_of place)
  where
    by : (o : Option Number) (p : Option SubPosition) → is_quiet (calls_with o p) ≡ false
    by None p = refl
    by (Some k) None = refl
    by (Some k) (Some p) = refl
calls_not_quiet (n ∷ place ∷ more ∷ rest) = refl

begins_no_comment : (b : ℕ) → begins_position b ≡ true → (b == 35) ≡ false
begins_no_comment b e = grind (arith, nat_tests)

eq_decides : (a b : ℕ) → ((nat_eq a b ≡ true) → a ≡ b) × (a ≡ b → nat_eq a b ≡ true)
eq_decides a b = (λ e. grind (arith, nat_tests), λ e. grind (arith, nat_tests))

quiet_shape : (text : List ℕ) (l : Line) → shape text ≡ l → is_quiet l ≡ true → addressed_shape text ≡ alone l
quiet_shape [] l is quiet = ap alone is
quiet_shape (b ∷ rest) l is quiet =
    by (begins_position b) (starts_with nat_eq (b ∷ rest) (codes "calls=")) refl refl
  where
    text : List ℕ
    text = b ∷ rest

    by : (place calls : Bool) → begins_position b ≡ place → starts_with nat_eq (b ∷ rest) (codes "calls=") ≡ calls
        → addressed_shape (b ∷ rest) ≡ alone l
    by true calls is_place is_calls =
        let cost : shape (b ∷ rest) ≡ cost_line (b ∷ rest) = rw (begins_no_comment b is_place, is_place) refl in
        absurd (true_false (is_quiet l) quiet (ap is_quiet (sym is ∙ cost) ∙ cost_not_quiet _ _))
    by false true is_place is_calls =
        let split : b ∷ rest ≡ codes "calls=" ++ drop 6 (b ∷ rest)
        = (starts_is eq_decides (b ∷ rest) (codes "calls=") (starts_with nat_eq (b ∷ rest) (codes "calls=")) refl).0
        is_calls in
        absurd (true_false (is_quiet l) quiet
        (ap is_quiet (sym is ∙ ap shape split) ∙ calls_not_quiet (words (drop 6 (b ∷ rest)))))
    by false false is_place is_calls =
        let other : addressed_shape (b ∷ rest) ≡ addressed_other (shape (b ∷ rest)) = rw (is_place, is_calls) refl in
        other ∙ ap addressed_other is ∙ quiet_alone l quiet

pub says_alone : (text : List ℕ) (l : Line) → line_of text ≡ l → is_quiet l ≡ true → addressed_of text ≡ alone l
says_alone text l is quiet = quiet_shape (strip text) l is quiet

-- ---- lines with a position

digit_no_space : (d : ℕ) → is_ascii_digit d ≡ true → is_space d ≡ false
digit_no_space d e = grind (arith, nat_tests)

each : (xs : List ℕ) → list_all (λ x. not (is_space x)) xs ≡ true → All (λ x. (x == 32) ≡ false) xs
each [] all k d lt = absurd (omega arith)
each (x ∷ xs) all zero d lt = not_true (is_space x)
    (both_true (not (is_space x)) (list_all (λ y. not (is_space y)) xs) all).0
each (x ∷ xs) all (suc k) d lt =
    each xs (both_true (not (is_space x)) (list_all (λ y. not (is_space y)) xs) all).1 k d (omega arith)

-- a text up to its first space
no_space_before : (xs rest : List ℕ) → list_all (λ x. not (is_space x)) xs ≡ true
    → position_or_len is_space (xs ++ 32 ∷ rest) ≡ length xs
no_space_before xs rest none = front (λ x. not (is_space x)) xs 32 rest none refl

behind : (xs rest : List ℕ) → drop (length xs + 1) (xs ++ 32 ∷ rest) ≡ rest
behind [] rest = refl
behind (x ∷ xs) rest =
    ap (λ n. drop n (x ∷ (xs ++ 32 ∷ rest))) (let e : suc (length xs) + 1 ≡ suc (length xs + 1) = omega arith in e)
    ∙ behind xs rest

module _ (m : SymbolMap) where
  -- a line of costs, without its address
  cost_is : (at cost : ℕ) (costs : List ℕ) → at < 2 ^ 64
      → cost_line (decimal at ++ cost_text (cost ∷ costs)) ≡ kind.Cost (At (Fits at)) (costs_read (cost ∷ costs))
  cost_is at cost costs small =
      let parts = decimal_parts at in
      let other = digit_no_place parts.first parts.digit in
      let shaped : shape (decimal at ++ cost_text (cost ∷ costs)) ≡ cost_line (decimal at ++ cost_text (cost ∷ costs))
      = subst (λ (xs : List ℕ). shape (xs ++ cost_text (cost ∷ costs)) ≡ cost_line (xs ++ cost_text (cost ∷ costs)))
      (sym parts.is) (rw (other.3, digit_begins parts.first parts.digit) refl) in
      let whole = costs_after (decimal at) (cost ∷ costs) (text-decimal at) in
      let kept : strip (decimal at ++ cost_text (cost ∷ costs)) ≡ decimal at ++ cost_text (cost ∷ costs)
      = subst (λ (xs : List ℕ). IsText (xs ++ cost_text (cost ∷ costs))
      → strip (xs ++ cost_text (cost ∷ costs)) ≡ xs ++ cost_text (cost ∷ costs)) (sym parts.is)
      (stripped_kept parts.first (parts.rest ++ cost_text (cost ∷ costs)) (digit_no_blank parts.first parts.digit))
      whole in
      sym shaped ∙ ap shape (sym kept) ∙ (spells_costs m [] at cost costs small).said

  -- an address, a line and costs
  pub says_costs : (address at cost : ℕ) (costs : List ℕ) → address < 2 ^ 64 → at < 2 ^ 64
      → SaysAt (position address at ++ cost_text (cost ∷ costs))
      (record { line = kind.Cost (At (Fits at)) (costs_read (cost ∷ costs)); address = Some (At (Fits address)) })
  says_costs address at cost costs address_small small =
      subst (λ (text : List ℕ). SaysAt text (record {
        line = kind.Cost (At (Fits at)) (costs_read (cost ∷ costs));
        address = Some (At (Fits address));
      })) (sym text_is) (record { clear = whole.clear; said = said })
    where
      rest : List ℕ
      rest = decimal at ++ cost_text (cost ∷ costs)

      text_is : position address at ++ cost_text (cost ∷ costs) ≡ hex address ++ 32 ∷ rest
      text_is =
          append_assoc (hex address ++ codes " ") (decimal at) (cost_text (cost ∷ costs))
          ∙ append_assoc (hex address) (codes " ") (decimal at ++ cost_text (cost ∷ costs))

      whole : IsText (hex address ++ 32 ∷ rest)
      whole =
          text-append (hex address) (32 ∷ rest) (text-hex address address_small).clear
          (text-append (codes " ") rest refl (costs_after (decimal at) (cost ∷ costs) (text-decimal at)))

      no_front : without_front is_space rest ≡ rest
      no_front =
          let parts = decimal_parts at in
          subst (λ (xs : List ℕ). without_front is_space (xs ++ cost_text (cost ∷ costs))
          ≡ xs ++ cost_text (cost ∷ costs)) (sym parts.is)
          (ap (λ b. drop (cond b (1 + prefix_len is_space (parts.rest ++ cost_text (cost ∷ costs))) 0)
          (parts.first ∷ (parts.rest ++ cost_text (cost ∷ costs)))) (digit_no_space parts.first parts.digit))

      said : addressed_of (hex address ++ 32 ∷ rest) ≡ record {
        line = kind.Cost (At (Fits at)) (costs_read (cost ∷ costs));
        address = Some (At (Fits address));
      }
      said =
          ap addressed_shape (stripped_kept 48 (120 ∷ (digits 16 false address ++ 32 ∷ rest)) refl whole)
          ∙ ap (λ n. with_address (sub_position_of (take n (hex address ++ 32 ∷ rest))) kind.BadCost
          (cost_line (without_front is_space (drop (n + 1) (hex address ++ 32 ∷ rest)))))
          (no_space_before (hex address) rest (hex_no_space address address_small))
          ∙ ap (λ (xs : List ℕ). with_address (sub_position_of xs) kind.BadCost
          (cost_line (without_front is_space (drop (length (hex address) + 1) (hex address ++ 32 ∷ rest)))))
          (take_at (hex address) (32 ∷ rest) (length (hex address)) refl)
          ∙ ap (λ (p : Option SubPosition). with_address p kind.BadCost
          (cost_line (without_front is_space (drop (length (hex address) + 1) (hex address ++ 32 ∷ rest)))))
          (place_hex address address_small)
          ∙ ap (λ (l : Line). record { line = l; address = Some (At (Fits address)) })
          (ap (λ (xs : List ℕ). cost_line (without_front is_space xs)) (behind (hex address) rest)
          ∙ ap cost_line no_front ∙ cost_is at cost costs small)

  -- how often a callee was called, and the address and line of its entry
  pub says_calls : (calls address at : ℕ) → calls < 2 ^ 64 → address < 2 ^ 64 → at < 2 ^ 64
      → SaysAt (codes "calls=" ++ decimal calls ++ codes " " ++ position address at)
      (record { line = kind.Calls (Fits calls) (At (Fits at)); address = Some (At (Fits address)) })
  says_calls calls address at calls_small address_small small =
      subst (λ (text : List ℕ). SaysAt text (record {
        line = kind.Calls (Fits calls) (At (Fits at));
        address = Some (At (Fits address));
      })) (sym text_is) (record { clear = whole.clear; said = said })
    where
      place : List ℕ
      place = hex address ++ 32 ∷ decimal at

      rest : List ℕ
      rest = decimal calls ++ 32 ∷ place

      text_is : codes "calls=" ++ decimal calls ++ codes " " ++ position address at ≡ codes "calls=" ++ rest
      text_is =
          ap (λ (xs : List ℕ). codes "calls=" ++ xs)
          (append_assoc (decimal calls) (codes " ") (position address at)
          ∙ ap (λ (xs : List ℕ). decimal calls ++ 32 ∷ xs) (append_assoc (hex address) (codes " ") (decimal at)))

      whole : IsText (codes "calls=" ++ rest)
      whole =
          text-append (codes "calls=") rest refl
          (text-append (decimal calls) (32 ∷ place) (text-decimal calls).clear
          (text-append (codes " ") place refl
          (text-append (hex address) (32 ∷ decimal at) (text-hex address address_small).clear
          (text-append (codes " ") (decimal at) refl (text-decimal at)))))

      words_hex : words (hex address ++ 32 ∷ decimal at) ≡ hex address ∷ words (decimal at)
      words_hex =
          ap (filter is_some_word) (slice_split_at (λ byte. byte == 32) (hex address) 32 (decimal at)
          (each (hex address) (hex_no_space address address_small)) refl)

      said : addressed_of (codes "calls=" ++ rest) ≡ record {
        line = kind.Calls (Fits calls) (At (Fits at));
        address = Some (At (Fits address));
      }
      said =
          ap addressed_shape (stripped_kept 99 (97 ∷ 108 ∷ 108 ∷ 115 ∷ 61 ∷ rest) refl whole)
          ∙ ap addressed_calls (words_more calls place
          ∙ ap (λ ws. decimal calls ∷ ws) (words_hex ∙ ap (λ ws. hex address ∷ ws) (words_one at)))
          ∙ ap (λ (p : Option SubPosition). with_address p kind.BadCalls (calls_line (decimal calls ∷ decimal at ∷ [])))
          (place_hex address address_small)
          ∙ ap (λ (l : Line). record { line = l; address = Some (At (Fits address)) })
          (ap (λ n. calls_with n (sub_position_of (decimal at))) (number_decimal calls calls_small)
          ∙ ap (calls_with (Some (Fits calls))) (place_decimal at small))
