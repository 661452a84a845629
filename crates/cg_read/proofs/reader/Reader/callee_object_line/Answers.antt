use Rattle.std.proofs.Common.{refl}
use Rattle.cg_read.specs.Meaning.{text_of, object_ids}
use Rattle.cg_read.proofs.KnowingLemmas.{at_exit}
use Rattle.cg_read.proofs.TextLemmas.{no_fault, closed_opens, knows_kept}
use Rattle.cg_read.proofs.reader.Reader.callee_object_line.Goals as goal

pub returns : goal.returns
returns c = λ before k.
    let known = knows_kept c.args.self.now c.resolve.new.texts before c.in_ok-object.ensures.kept k in
    let number = c.in_ok-object.ensures.number (object_ids before) k.ids.objects in (
      record {
        rows = known.rows;
        command = known.command;
        ids = record {
          objects = c.in_ok-object.ensures.ids (object_ids before) k.ids.objects;
          files = known.ids.files;
          functions = known.ids.functions;
        };
        current = known.current;
        position = refl;
        callee = record { object = number; file = known.callee.file; name = known.callee.name };
        open_call = closed_opens c.resolve.new.texts c.args.self.now.open_call c.requires;
      },
      no_fault c.resolve.new.texts c.in_ok-object.object (text_of (object_ids before) c.args.name.now) number,
    )

pub returns-in_err-object : goal.returns-in_err-object
returns-in_err-object c = λ before k. at_exit _ c.in_err-object.field-0.0 _ _ c.from_residual.ensures.1
    (c.in_err-object.ensures.err (object_ids before) k.ids.objects)
