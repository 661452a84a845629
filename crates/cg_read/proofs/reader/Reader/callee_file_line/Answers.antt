use Rattle.std.proofs.Common.{refl}
use Rattle.cg_read.specs.Meaning.{text_of, file_ids}
use Rattle.cg_read.proofs.KnowingLemmas.{at_exit}
use Rattle.cg_read.proofs.TextLemmas.{no_fault, closed_opens, knows_kept}
use Rattle.cg_read.proofs.reader.Reader.callee_file_line.Goals as goal

pub returns : goal.returns
returns c = λ before k.
    let known = knows_kept c.args.self.now c.resolve.new.texts before c.in_ok-file.ensures.kept k in
    let number = c.in_ok-file.ensures.number (file_ids before) k.ids.files in (
      record {
        rows = known.rows;
        command = known.command;
        ids = record {
          objects = known.ids.objects;
          files = c.in_ok-file.ensures.ids (file_ids before) k.ids.files;
          functions = known.ids.functions;
        };
        current = known.current;
        position = refl;
        callee = record { object = known.callee.object; file = number; name = known.callee.name };
        open_call = closed_opens c.resolve.new.texts c.args.self.now.open_call c.requires;
      },
      no_fault c.resolve.new.texts c.in_ok-file.file (text_of (file_ids before) c.args.name.now) number,
    )

pub returns-in_err-file : goal.returns-in_err-file
returns-in_err-file c = λ before k. at_exit _ c.in_err-file.field-0.0 _ _ c.from_residual.ensures.1
    (c.in_err-file.ensures.err (file_ids before) k.ids.files)
