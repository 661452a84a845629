use Rattle.std.proofs.Common.{◌≡◌, ◌<◌, ◌^◌, ℕ, List, length, get_or, Some, None, Option, sym, ap, subst, ◌∙◌, arith}
use Rattle.std.specs.Prelude.{All, IfSome}
use Rattle.std.proofs.lemmas.List.{take_all, length-set, with_items_is}
use Rattle.std.proofs.lemmas.List.Elements.{All-more}
use Rattle.sym_map.specs.declared.range.Range.{Range}
use Rattle.sym_map.specs.declared.range.SymbolHere.{SymbolHere}
use Rattle.std.specs.Option.{option_or}
use Rattle.std.proofs.Math.ListN.{set}
use Rattle.event_costs.specs.declared.numbers.FuncId.{FuncId}
use Rattle.sym_map.specs.inner.Entries.{entered_func}
use Rattle.sym_map.specs.declared.range.Cover.TheVariants as what
use Rattle.sym_map.specs.inner.Ranges.{cover_at, symbol_of}
use Rattle.sym_map.specs.inner.Rising.{Rise}
use Rattle.sym_map.proofs.Ranges.{cover_at-start}
use Rattle.sym_map.proofs.EntryTables.{noted, unentered, entered_symbol}
use Rattle.sym_map.proofs.entries.entries.Goals as goal
use Rattle.sym_map.proofs.entries.entries.Goals.{in-Some, in_default}

abbrev origin : Range
origin = record { start = 0; cover = what.Nothing }

-- the function of a range that is entered is among those that are counted
counted : (ranges : List Range) (k : ℕ) (d : Range) (g : FuncId) (count : ℕ) → Rise ranges → k < length ranges
    → (get_or ranges k d).start < 2 ^ 32
    → ((a : ℕ) → a < 2 ^ 32 → IfSome (symbol_of (cover_at ranges a)) (λ s. s.func.0 < count))
    → entered_func (get_or ranges k d) ≡ Some g → g.0 < count
counted ranges k d g count rise lt small known is =
    let s = entered_symbol (get_or ranges k d) g is in
    let at : symbol_of (cover_at ranges (get_or ranges k d).start) ≡ Some s.0 =
    ap symbol_of (cover_at-start ranges k d rise lt) ∙ s.1 in
    let within : s.0.func.0 < count =
    subst (λ (o : Option SymbolHere). IfSome o (λ s. s.func.0 < count)) at
    (known (get_or ranges k d).start small) in
    subst (λ (f : FuncId). f.0 < count) s.2 within

pub note-requires : goal.note-requires
note-requires c =
    let so = c.every.invariant.as_many in
    let lt = counted c.args.ranges.now c.every.range-index origin c.in-Some.func c.args.count c.requires.rise
    c.every-test.true c.entered_func.ensures.start c.requires.known (sym c.in-Some.ensures.func) in
    rw (c.deref_mut.ensures.value, so) lt

pub every-preserved : goal.every-preserved
every-preserved c =
    let starts = All-more (λ (r : Range). r.start < 2 ^ 32) c.args.ranges.now c.every.range-index origin
    c.every-test.true c.every.invariant.starts c.entered_func.ensures.start in
    let so = c.every.invariant in
    elim c.match-entered_func.branch [
      | in-Some w ↦
          let func = w.in-Some.func in
          let is : entered_func (get_or c.args.ranges.now c.every.range-index origin) ≡ Some w.in-Some.func =
          sym w.in-Some.ensures.func in
          let set_to : w.note.new.entries
          ≡ set c.every.entries.items w.in-Some.func.0
          (option_or (get_or c.every.entries.items w.in-Some.func.0 None)
          (Some (get_or c.args.ranges.now c.every.range-index origin).start)) =
          w.note.ensures ∙ ap (λ (xs : List (Option ℕ)). set xs w.in-Some.func.0
          (option_or (get_or xs w.in-Some.func.0 None)
          (Some (get_or c.args.ranges.now c.every.range-index origin).start))) w.deref_mut.ensures.value in
          let long : length w.note.new.entries ≡ length c.every.entries.items = ap length set_to
          ∙ length-set c.every.entries.items _ _ in
          let items : c.match-entered_func.entries.items ≡ w.note.new.entries = ap (λ v. v.items) w.entries-is
          ∙ with_items_is c.every.entries w.note.new.entries
          (long ∙ sym (ap length w.deref_mut.ensures.value) ∙ w.deref_mut.ensures.len) in
          let within = counted c.args.ranges.now c.every.range-index origin w.in-Some.func c.args.count c.requires.rise
          c.every-test.true c.entered_func.ensures.start c.requires.known is in
          record {
            as_many = ap length items ∙ long ∙ so.as_many;
            each = λ f lt.
                ap (λ (xs : List (Option ℕ)). get_or xs f None) (items ∙ set_to)
                ∙ noted c.every.entries.items c.args.ranges.now c.every.range-index origin w.in-Some.func f
                c.every-test.true (rw so.as_many within) is (so.each f lt);
            starts = starts;
          }
      | in_default w ↦
          let items : c.match-entered_func.entries.items ≡ c.every.entries.items = ap (λ v. v.items) w.entries-is in
          record {
            as_many = ap length items ∙ so.as_many;
            each = λ f lt.
                ap (λ (xs : List (Option ℕ)). get_or xs f None) items
                ∙ unentered c.every.entries.items c.args.ranges.now c.every.range-index origin f c.every-test.true
                (sym c.entered_func.ensures.func ∙ w.in_default.is) (so.each f lt);
            starts = starts;
          }
    ]

pub returns-clause-starts : goal.returns-clause-starts
returns-clause-starts c =
    subst (All (λ (r : Range). r.start < 2 ^ 32)) (take_all c.every.range-index c.args.ranges.now (omega arith))
    c.every.invariant.starts
