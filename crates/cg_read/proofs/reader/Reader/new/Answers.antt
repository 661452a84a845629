use Rattle.std.proofs.Common.{refl}
use Rattle.cg_read.proofs.reader.Reader.new.Goals as goal

pub returns : goal.returns
returns c =
    let empty = c.in_ok-texts.ensures.empty in
    let unknown = c.in_ok-texts.ensures.unknown in
    record {
      rows = record {
        names = refl;
        sound = tt;
        none = c.new-3.ensures.empty;
        rows = c.new-3.ensures.holds 0 c.in_ok-texts.field-0.texts;
      };
      command = refl;
      ids = record {
        objects = λ id. rw c.new.ensures.objects tt;
        files = λ id. rw c.new.ensures.files tt;
        functions = λ id. rw c.new.ensures.functions tt;
      };
      current = record {
        object = rw c.new-2.ensures.object empty;
        file = rw c.new-2.ensures.file unknown;
        function = rw c.new-2.ensures.function (record { object = empty; file = unknown; name = unknown });
      };
      position = refl;
      callee = record { object = tt; file = tt; name = tt };
      open_call = tt;
    }
