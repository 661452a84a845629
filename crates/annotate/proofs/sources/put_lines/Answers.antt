use Rattle.std.proofs.Common.{◌≡◌, ◌++◌, ◌+◌, ℕ, List, [], Vec, Bor, Option, None, Some, get_or, map, codes, refl, sym}
use Rattle.std.proofs.Common.{ap, ◌∙◌}
use Rattle.std.specs.Option.{option_copied, option_map}
use Rattle.std.specs.declared.alloc.Global.{Global}
use Rattle.std.proofs.lemmas.List.{get_or-map}
use Rattle.annotate.specs.Sources.{shown_byte}
use Rattle.report_rows.specs.Entries.{entry_values, values_at}
use Rattle.annotate.specs.inner.SourceRows.{costs_or_dot, pieces}
use Rattle.report_rows.specs.declared.entries.Entry.{Entry}
use Rattle.report_rows.proofs.ListLemmas.{numbers_text_more}
use Rattle.annotate.proofs.sources.put_lines.Goals as goal

copied : (r : Option (Bor (Vec Entry Global))) → option_map (λ (es : Bor (Vec Entry Global)). entry_values es.now.items) r
    ≡ option_map (λ (v : Vec Entry Global). entry_values v.items) (option_copied r)
copied None = refl
copied (Some x) = refl

pub lines-preserved : goal.lines-preserved
lines-preserved c =
    let lines = c.args.lines.now in
    let i = c.lines.i in
    let events = c.args.events in
    let f : ℕ → List ℕ = λ k. costs_or_dot events (values_at c.args.rows.now (k + 1)) ++ codes " | "
    ++ map shown_byte (get_or (pieces lines) k []) ++ codes "\n" in
    let line = sym (get_or-map (λ (l : Bor (List ℕ)). l.now) lines i
    (record { ref_ptr = (0, 0); now = [] }) [] c.lines-test.true) in
    numbers_text_more f c.args.text.now c.lines.text c.put_line.new.text i c.lines.invariant
    (c.in_ok-put_line.ensures
    ∙ ap (λ o. c.lines.text ++ (costs_or_dot events o ++ codes " | "
    ++ map shown_byte (get_or lines i (record { ref_ptr = (0, 0); now = [] })).now ++ codes "\n"))
    (copied c.get.result ∙ ap (option_map (λ (v : Vec Entry Global). entry_values v.items)) c.get.ensures.value)
    ∙ ap (λ t. c.lines.text ++ (costs_or_dot events (values_at c.args.rows.now (i + 1)) ++ codes " | "
    ++ map shown_byte t ++ codes "\n")) line)
