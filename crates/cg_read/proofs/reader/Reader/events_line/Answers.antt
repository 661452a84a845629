use Rattle.std.proofs.Common.{◌≡◌, ◌<◌, ◌∙◌, sym, ap, Some, None, length, true, arith, refl}
use Rattle.std.proofs.lemmas.Bool.Decides.{nat_tests}
use Rattle.cg_lines.specs.Lines.{words}
use Rattle.cg_read.specs.Meaning as meaning
use Rattle.cg_read.specs.Meaning.{events_fault}
use Rattle.cg_lines.specs.Names.{is_distinct}
use Rattle.cg_read.proofs.KnowingLemmas.{at_exit, too_many, repeated, names_are, events_kept}
use Rattle.cg_read.proofs.KnowingLemmas.{first_sound, Numbered-empty}
use Rattle.cg_read.proofs.TextLemmas.{closed_opens}
use Rattle.cg_read.proofs.reader.Reader.events_line.Goals as goal

pub returns-in_err-names : goal.returns-in_err-names
returns-in_err-names c = λ before k.
    at_exit _ c.in_err-names.field-0.0 _ _ c.from_residual.ensures.1
    (too_many c.in_err-names.field-0.0 (meaning.events before) (words c.args.text.now) k.rows.sound
    (rw c.as_bytes.ensures at c.in_err-names.ensures.err))

pub returns-in-Some : goal.returns-in-Some
returns-in-Some c = λ before k.
    let first : Some c.in-Some.first.items ≡ meaning.events before = rw c.in-Some.is at k.rows.names in
    repeated c.repeat.result _ (meaning.events before) c.in-Some.first.items (words c.args.text.now) first
    (rw (
      c.deref.ensures.value,
      c.deref-in-Some.ensures.value,
      c.in_ok-names.ensures.names,
      c.as_bytes.ensures,
    ) at c.repeat.ensures.same)
    (rw (
      c.deref.ensures.value,
      c.deref-in-Some.ensures.value,
      c.in_ok-names.ensures.names,
      c.as_bytes.ensures,
    ) at c.repeat.ensures.err)
    (λ same. events_kept _ before _ k c.requires (sym first ∙ ap Some (names_are _ _ same)))

pub returns : goal.returns
returns c = λ before k.
    let none : None ≡ meaning.events before = rw c.in_default.is at k.rows.names in
    let named : c.in_ok-names.names.items ≡ words c.args.text.now
    = rw c.as_bytes.ensures at c.in_ok-names.ensures.names in
    let some : 0 < length c.in_ok-names.names.items
    = grind (arith, nat_tests, c.is_empty.ensures, c.if-is_empty.false, c.in_ok-names.names.ok.0) in
    let apart : is_distinct c.in_ok-names.names.items ≡ true
    = rw c.deref-2.ensures.value at (sym c.are_distinct.ensures ∙ c.if-not-are_distinct.false) in
    let empty = rw (← none) at k.rows.none in (
      record {
        rows = record {
          names = ap Some named;
          sound = rw (← named) (record { limit = c.in_ok-names.ensures.limit; differ = apart });
          none = tt;
          rows = Numbered-empty _ _ _ _ _ _ _ _ _ empty.0 empty.1 k.rows.rows;
        };
        command = k.command;
        ids = k.ids;
        current = k.current;
        position = refl;
        callee = k.callee;
        open_call = closed_opens c.args.self.now.texts c.args.self.now.open_call c.requires;
      },
      rw (← none, ← named) (first_sound c.in_ok-names.names.items some c.in_ok-names.ensures.limit apart),
    )
