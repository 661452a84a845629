use Rattle.std.proofs.Common.{◌≡◌, ◌∙◌, ◌++◌, ap, unwrap_or, [], Some, None, option_map, refl, length, subst, sym}
use Rattle.cg_read.specs.inner.Knowing.{KnowsIds, KnowsCurrent, KnowsCallee, Opens}
use Rattle.cg_read.specs.inner.Drafts.{Holds}
use Rattle.cg_read.specs.Meaning as meaning
use Rattle.cg_read.specs.Meaning.{numbers_fault, numbers, cost_of, self_if, call_if}
use Rattle.cg_lines.specs.Positions.{position_at}
use Rattle.cg_read.specs.declared.reader.Reader.{Reader}
use Rattle.cg_read.proofs.KnowingLemmas.{draft_row, length-padded}
use Rattle.cg_read.proofs.reader.Reader.cost_line.Goals as goal

pub returns : goal.returns
returns c = λ before k.
    let same = c.in_ok-row.ensures.rest in
    let some : Some c.in-Some.events.items ≡ meaning.events before = rw c.in-Some.is at k.rows.names in
    let count : c.len.result ≡ meaning.event_count before = c.len.ensures ∙ c.in-Some.events.ok.0
    ∙ ap (λ o. length (unwrap_or o [])) some in
    let sound : numbers_fault (meaning.event_count before) (numbers c.args.costs.now) ≡ None
    = rw (count, c.as_bytes.ensures) at c.in_ok-cost.ensures.sound in
    let cost_is : c.in_ok-cost.cost ≡ cost_of before c.args.costs.now
    = rw (count, c.as_bytes.ensures) at c.in_ok-cost.ensures.costs in
    let place_is : Some c.in-Some-position_at.line ≡ position_at (meaning.position before) c.args.place
    = rw k.position at c.in-Some-position_at.ensures in (
      record {
        rows = record {
          names = ap (λ (r : Reader). option_map (λ v. v.items) r.events) same ∙ k.rows.names;
          sound = k.rows.sound;
          none = rw (← some) tt;
          rows = (let P : Reader → Type 0
              = λ r. Holds r.texts (meaning.event_count before) c.row.new.self.draft
              (meaning.self_rows before ++ self_if (meaning.open_call before)
              (meaning.self_row before c.args.place c.args.costs.now))
              (meaning.call_rows before ++ call_if (meaning.open_call before)
              (meaning.call_row before c.args.place c.args.costs.now)) in
              subst P (sym same)
              (draft_row c.args.self.now.texts (meaning.event_count before) c.row.new.self.draft
              (meaning.self_rows before) (meaning.call_rows before) (meaning.open_call before)
              (meaning.current_function before) (meaning.current_file before) _ _ _ _
              (ap (λ o. unwrap_or o 0) place_is) cost_is
              (c.in_ok-row.ensures.rows (meaning.event_count before) (meaning.self_rows before)
              (meaning.call_rows before) (meaning.open_call before) (meaning.current_function before)
              (meaning.current_file before) k.rows.rows
              (ap length cost_is ∙ length-padded (meaning.event_count before) (numbers c.args.costs.now) sound)
              k.open_call k.current.function k.current.file)));
        };
        command = ap (λ (r : Reader). r.command) same ∙ k.command;
        ids =
            (let P : Reader → Type 0
            = λ r. KnowsIds r.texts r.ids (meaning.object_ids before) (meaning.file_ids before)
            (meaning.function_ids before) in subst P (sym same) k.ids);
        current =
            (let P : Reader → Type 0
            = λ r. KnowsCurrent r.texts r.current (meaning.current_object before) (meaning.current_file before)
            (meaning.current_function before) in subst P (sym same) k.current);
        position = refl;
        callee =
            (let P : Reader → Type 0
            = λ r. KnowsCallee r.texts r.callee (meaning.callee_object before) (meaning.callee_file before)
            (meaning.callee_name before) in subst P (sym same) k.callee);
        open_call = (let P : Reader → Type 0 = λ r. Opens r.texts r.open_call None in subst P (sym same) tt);
      },
      rw (← some, ← place_is, ap (λ o. length (unwrap_or o [])) some, sound) refl,
    )
