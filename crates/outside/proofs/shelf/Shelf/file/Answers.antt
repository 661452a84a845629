use Rattle.std.proofs.Common.{◌+◌, ◌∙◌, Bool, cond, Some, sym, ap, drop, arith}
use Rattle.std.specs.Str.{bytes_eq}
use Rattle.std.proofs.lemmas.List.{drop_all}
use Rattle.outside.specs.Files.{file}
use Rattle.outside.specs.Shelf.{files_of}
use Rattle.outside.proofs.ShelfLemmas.{file_from_place, no_file}
use Rattle.outside.proofs.shelf.Shelf.file.Goals as goal

pub returns-then-eq : goal.returns-then-eq
returns-then-eq c =
    let entries = c.deref-entry-items.result.now in
    let name = c.args.name.now in
    let found = file_from_place entries c.entries.entry-index c.entry-item.result name c.eq.result
    (omega arith) c.entry-item.is (c.eq.ensures ∙ ap (λ text. bytes_eq text name) c.as_str.ensures.value) in
    ap (λ bytes. Some bytes) c.as_slice.ensures.value
    ∙ sym (found
    ∙ ap (λ (b : Bool). cond b (Some c.entry-item.result.1.items)
    (file (files_of (drop (c.entries.entry-index + 1) entries)) name)) c.if-eq.true)
    ∙ c.entries.invariant
    ∙ ap (λ es. file (files_of es) name) c.deref-entry-items.ensures.value
    ∙ ap (λ files. file files name) c.self.view_is

pub entries-preserved : goal.entries-preserved
entries-preserved c =
    let entries = c.deref-entry-items.result.now in
    let name = c.args.name.now in
    let passed = file_from_place entries c.entries.entry-index c.entry-item.result name c.eq.result
    (omega arith) c.entry-item.is (c.eq.ensures ∙ ap (λ text. bytes_eq text name) c.as_str.ensures.value) in
    sym (passed
    ∙ ap (λ (b : Bool). cond b (Some c.entry-item.result.1.items)
    (file (files_of (drop (c.entries.entry-index + 1) entries)) name)) c.if-eq.false)
    ∙ c.entries.invariant

pub returns : goal.returns
returns c =
    let entries = c.deref-entry-items.result.now in
    let name = c.args.name.now in
    sym (no_file name)
    ∙ ap (λ es. file (files_of es) name) (sym (drop_all c.entries.entry-index entries c.entries-test.false))
    ∙ c.entries.invariant
    ∙ ap (λ es. file (files_of es) name) c.deref-entry-items.ensures.value
    ∙ ap (λ files. file files name) c.self.view_is
