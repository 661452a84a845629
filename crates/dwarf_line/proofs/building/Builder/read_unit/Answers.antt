use Rattle.std.proofs.Common.{◌≡◌, Some, ap, sym, ◌∙◌, map, arith}
use Rattle.std.proofs.lemmas.List.{length-map}
use Rattle.dwarf_line.specs.UnitContents.{UnitContents}
use Rattle.dwarf_line.specs.Unit.{contents_of}
use Rattle.dwarf_line.specs.inner.Contents.{PlacedContents, contents_in}
use Rattle.dwarf_line.specs.inner.Paths.{entry_in}
use Rattle.dwarf_line.proofs.Adding.{adds}
use Rattle.dwarf_line.proofs.building.Builder.read_unit.Goals as goal

pub returns-clause-ok : goal.returns-clause-ok
returns-clause-ok c =
    let see = entry_in c.args.strings.now in
    let placed : PlacedContents = record {
      constants = c.contents.inside.constants;
      program = c.contents.inside.program.now;
      directories = c.contents.inside.directories.items;
      files = c.contents.inside.files.items;
    } in
    let contents : UnitContents = contents_in c.args.strings.now placed in
    let read : contents_of c.args.strings.now c.args.body.now ≡ Some contents = c.in_ok-contents.ensures.read
    ∙ ap (λ (x : PlacedContents). Some (contents_in c.args.strings.now x)) (sym c.contents.view_is) in
    rw (← c.self.view_is) (adds c.args.strings.now c.args.body.now contents
    (record {
      matrix = c.self.inside.matrix;
      files = c.self.inside.files;
      unit_count = c.self.inside.unit_count;
    }) c.run.new.matrix c.push_texts.new.texts c.len.result c.len-2.result
    (map (entry_in c.args.strings.now) c.deref.result.now) (map (entry_in c.args.strings.now) c.deref-2.result.now)
    read (omega (arith, c.len.ensures))
    (omega (arith, c.len-2.ensures, c.contents.inside.files.ok.0, length-map c.contents.inside.files.items see))
    (ap (map (entry_in c.args.strings.now)) c.deref.ensures.value)
    (ap (map (entry_in c.args.strings.now)) c.deref-2.ensures.value)
    c.in_ok-run.ensures.ok c.in_ok-push_texts.ensures)
