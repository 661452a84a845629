use Rattle.std.proofs.Common.{[], refl}
use Rattle.cg_read.specs.Meaning.{text_of, object_ids}
use Rattle.cg_read.proofs.KnowingLemmas.{at_exit}
use Rattle.cg_read.proofs.TextLemmas.{no_fault, closed_opens, knows_kept, stands_or}
use Rattle.cg_read.proofs.reader.Reader.object_line.Goals as goal

pub returns : goal.returns
returns c = λ before k.
    let known = knows_kept c.args.self.now c.resolve.new.texts before c.in_ok-self.ensures.kept k in
    let number = c.in_ok-self.ensures.number (object_ids before) k.ids.objects in (
      record {
        rows = known.rows;
        command = known.command;
        ids = record {
          objects = c.in_ok-self.ensures.ids (object_ids before) k.ids.objects;
          files = known.ids.files;
          functions = known.ids.functions;
        };
        current = record {
          object = stands_or c.resolve.new.texts c.in_ok-self.field-0 (text_of (object_ids before) c.args.name.now)
              [] number;
          file = known.current.file;
          function = known.current.function;
        };
        position = refl;
        callee = known.callee;
        open_call = closed_opens c.resolve.new.texts c.args.self.now.open_call c.requires;
      },
      no_fault c.resolve.new.texts c.in_ok-self.field-0 (text_of (object_ids before) c.args.name.now) number,
    )

pub returns-in_err-self : goal.returns-in_err-self
returns-in_err-self c = λ before k. at_exit _ c.in_err-self.field-0.0 _ _ c.from_residual.ensures.1
    (c.in_err-self.ensures.err (object_ids before) k.ids.objects)
