use Rattle.std.proofs.Common.{◌≡◌, ◌&&◌, ◌<◌, Bool, true, false, cond, get_or, length, sym, ap, subst, refl, ◌∙◌, arith}
use Rattle.std.specs.Prelude.{not}
use Rattle.std.specs.List.{list_any}
use Rattle.std.specs.Str.{bytes_eq}
use Rattle.std.specs.BTreeMap.{is_at}
use Rattle.std.specs.BTreeSet.{contains}
use Rattle.std.proofs.lemmas.List.{get_or_default, length-set, take_all}
use Rattle.std.proofs.lemmas.Result.{IfOk-weaker}
use Rattle.cg_read.specs.Profiles.{Contents, IsProfile, file_at, unknown}
use Rattle.annotate.specs.Files.{AreFilesShown, is_in_file}
use Rattle.report_rows.specs.Orders.{text_order}
use Rattle.annotate.proofs.FileLemmas.{file_within, set_holds, name_added, name_passed, name_seen, one_more_seen, still_seen}
use Rattle.annotate.proofs.file_names.files.Goals as goal
use Rattle.annotate.proofs.file_names.files.Goals.{then-ne+in_ok-insert, else-ne}

fails : (b : Bool) → not b ≡ true → b ≡ false
fails true e = sym e
fails false e = refl

holds : (b : Bool) → not b ≡ false → b ≡ true
holds true e = refl
holds false e = sym e

pub rows-preserved-then-index : goal.rows-preserved-then-index
rows-preserved-then-index c =
    let p = c.args.profile.now in
    let same = c.profile.view_is in
    let rows = c.deref-row-items.result.now in
    let row = c.row-item.result in
    let i = c.rows.row-index in
    let lt = c.rows-test.true in
    let at = c.row-item.is in
    let seen = c.rows.seen.items in
    let within = file_within p (subst IsProfile same c.profile.invariant) rows i row
    (c.deref-row-items.ensures.value ∙ ap (λ (q : Contents). q.self_rows) same) lt at in
    let low : row.file < length seen = omega (arith, within, c.rows.invariant.size) in
    let marked : get_or seen row.file false ≡ true =
    sym (c.index.ensures ∙ get_or_default seen row.file c.index.result.now false low) ∙ c.if-index.true in
    record {
      names = name_seen p rows i row lt at c.rows.names (c.rows.invariant.seen row.file marked) c.rows.invariant.names;
      seen = still_seen p rows i row lt at seen c.rows.invariant.seen;
      size = c.rows.invariant.size;
    }

pub rows-preserved : goal.rows-preserved
rows-preserved c =
    let p = c.args.profile.now in
    let same = c.profile.view_is in
    let rows = c.deref-row-items.result.now in
    let row = c.row-item.result in
    let i = c.rows.row-index in
    let lt = c.rows-test.true in
    let at = c.row-item.is in
    let name = c.as_ref-name.result in
    let within = file_within p (subst IsProfile same c.profile.invariant) rows i row
    (c.deref-row-items.ensures.value ∙ ap (λ (q : Contents). q.self_rows) same) lt at in
    let read = c.index-in-rows.result.now in
    let is : name ≡ file_at p.files row.file =
    c.as_ref-name.ensures
    ∙ subst (λ fs. read ≡ get_or fs row.file read) (ap (λ (q : Contents). q.files) same) c.index-in-rows.ensures
    ∙ get_or_default p.files row.file read unknown within in
    let test : bytes_eq c.as_bytes.result.now unknown ≡ bytes_eq (file_at p.files row.file) unknown =
    ap (λ t. bytes_eq t unknown) (c.as_bytes.ensures ∙ is) in
    record {
      names = elim c.if-ne.branch [
        | then-ne+in_ok-insert w ↦ λ q.
            ap (λ s. contains text_order s q) w.names-is
            ∙ name_added p rows i row lt at c.rows.names w.insert.new.self
            (sym test ∙ fails (bytes_eq c.as_bytes.result.now unknown) (sym c.ne.ensures ∙ w.if-ne.true))
            (λ t. w.in_ok-insert.ensures.updates.0 t
            ∙ ap (λ f. cond (is_at (text_order f) t) true (contains text_order c.rows.names t)) is)
            c.rows.invariant.names q
        | else-ne w ↦ λ q.
            ap (λ s. contains text_order s q) w.names-is
            ∙ name_passed p rows i row lt at c.rows.names
            (sym test ∙ holds (bytes_eq c.as_bytes.result.now unknown) (sym c.ne.ensures ∙ w.if-ne.false))
            c.rows.invariant.names q
      ];
      seen = one_more_seen p rows i row lt at c.rows.seen.items c.rows.invariant.seen;
      size = length-set c.rows.seen.items row.file true ∙ c.rows.invariant.size;
    }

pub returns : goal.returns
returns c =
    let p = c.args.profile.now in
    let names = c.rows.names in
    let rows = c.deref-row-items.ensures.value ∙ ap (λ (q : Contents). q.self_rows) c.profile.view_is in
    let shown : AreFilesShown p names.keys = record {
      rising = c.copies.ensures.rising;
      exact = λ name. set_holds names name ∙ c.rows.invariant.names name
          ∙ ap (λ rs. list_any (is_in_file p name) rs && not (bytes_eq name unknown))
          (take_all c.rows.row-index c.deref-row-items.result.now c.rows-test.false ∙ rows);
    } in
    IfOk-weaker c.copies.result (λ copied. copied.items ≡ names.keys) (λ copied. AreFilesShown p copied.items)
    (λ copied is. subst (AreFilesShown p) (sym is) shown) c.copies.ensures.names
