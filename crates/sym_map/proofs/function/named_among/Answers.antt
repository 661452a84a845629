use Rattle.std.proofs.Common.{◌≡◌, ◌≢◌, ℕ, ◌<◌, ◌+◌, ◌∷◌, [], ◌++◌, List, Some, option_map, map, sym, ap, ◌∙◌, arith}
use Rattle.std.proofs.Common.{rules}
use Rattle.std.specs.Prelude.{slice_get}
use Rattle.std.proofs.lemmas.List.{length-map}
use Rattle.std.proofs.lemmas.List.Elements.{All-push, All-weaker}
use Rattle.std.proofs.lemmas.Option.{slice_get_within, slice_get-map, same_Some}
use Rattle.std.proofs.lemmas.Slice.Eq.{bytes_eq-Decides}
use Rattle.event_costs.specs.declared.numbers.FuncId.{FuncId}
use Rattle.sym_map.specs.declared.function.Function.{Function}
use Rattle.sym_map.proofs.NamedFunctions.{named_more, named_skipped, rise_more}
use Rattle.sym_map.proofs.function.named_among.Goals as goal
use Rattle.sym_map.proofs.function.named_among.Goals.{then-eq+in_ok-push, else-eq}

pub functions-preserved : goal.functions-preserved
functions-preserved c =
    let i : ℕ = c.functions.number in
    let so = c.functions.invariant in
    let here : slice_get (map (λ (f : Function). f.name) c.args.functions.now) i ≡ Some c.as_bytes.result.now =
    slice_get-map (λ (f : Function). f.name) c.args.functions.now i
    ∙ ap (option_map (λ (f : Function). f.name)) c.get.ensures
    ∙ ap (λ (n : List ℕ). Some n) (sym c.as_bytes.ensures) in
    let below = All-weaker (λ (f : FuncId). f.0 < i) (λ (f : FuncId). f.0 < i + 1)
    (λ f lt. omega arith) c.functions.found.items so.below in
    elim c.if-eq.branch [
      | then-eq+in_ok-push w ↦
          let same : c.as_bytes.result.now ≡ c.args.name.now =
          search (rules, bytes_eq-Decides, c.eq.ensures, w.if-eq.true) in
          let items : c.if-eq.found.items ≡ c.functions.found.items ++ record { 0 = i } ∷ [] =
          ap (λ v. v.items) w.found-is ∙ w.in_ok-push.ensures.items in
          rw items (record {
            rise = rise_more c.functions.found.items i so.rise so.below;
            below = All-push (λ (f : FuncId). f.0 < i + 1) c.functions.found.items (record { 0 = i }) below
                (omega arith);
            each = named_more c.args.functions.now c.args.name.now c.functions.found.items i
                (here ∙ ap (λ (n : List ℕ). Some n) same) so.each;
          })
      | else-eq w ↦
          let other : c.as_bytes.result.now ≢ c.args.name.now =
          search (rules, bytes_eq-Decides, c.eq.ensures, w.if-eq.false) in
          let items : c.if-eq.found.items ≡ c.functions.found.items = ap (λ v. v.items) w.found-is in
          rw items (record {
            rise = so.rise;
            below = below;
            each = named_skipped c.args.functions.now c.args.name.now c.functions.found.items i
                (λ e. other (same_Some c.as_bytes.result.now c.args.name.now (sym here ∙ e))) so.each;
          })
    ]

pub returns-clause-each : goal.returns-clause-each
returns-clause-each c = λ func. (
  (λ h. ((c.functions.invariant.each func).0 h).1),
  (λ h.
      let long = length-map c.args.functions.now (λ (f : Function). f.name) in
      let lt = slice_get_within (map (λ (f : Function). f.name) c.args.functions.now) func.0 c.args.name.now h in
      (c.functions.invariant.each func).1 ((omega arith), h)),
)
