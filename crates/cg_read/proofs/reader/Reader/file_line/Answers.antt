use Rattle.std.proofs.Common.{refl}
use Rattle.cg_read.specs.Meaning.{text_of, file_ids}
use Rattle.cg_read.specs.Profiles.{unknown}
use Rattle.cg_read.proofs.KnowingLemmas.{at_exit}
use Rattle.cg_read.proofs.TextLemmas.{no_fault, closed_opens, knows_kept, stands_or}
use Rattle.cg_read.proofs.reader.Reader.file_line.Goals as goal

pub returns : goal.returns
returns c = λ before k.
    let known = knows_kept c.args.self.now c.resolve.new.texts before c.in_ok-self.ensures.kept k in
    let number = c.in_ok-self.ensures.number (file_ids before) k.ids.files in (
      record {
        rows = known.rows;
        command = known.command;
        ids = record {
          objects = known.ids.objects;
          files = c.in_ok-self.ensures.ids (file_ids before) k.ids.files;
          functions = known.ids.functions;
        };
        current = record {
          object = known.current.object;
          file = stands_or c.resolve.new.texts c.in_ok-self.field-0 (text_of (file_ids before) c.args.name.now)
              unknown number;
          function = known.current.function;
        };
        position = refl;
        callee = known.callee;
        open_call = closed_opens c.resolve.new.texts c.args.self.now.open_call c.requires;
      },
      no_fault c.resolve.new.texts c.in_ok-self.field-0 (text_of (file_ids before) c.args.name.now) number,
    )

pub returns-in_err-self : goal.returns-in_err-self
returns-in_err-self c = λ before k. at_exit _ c.in_err-self.field-0.0 _ _ c.from_residual.ensures.1
    (c.in_err-self.ensures.err (file_ids before) k.ids.files)
