use Rattle.outside.specs.Outside.{stream_of}
use Rattle.outside.specs.declared.sink.WriteError.TheVariants.{Failed, OutOfMemory}
use Rattle.profile_run.proofs.OutputLemmas.{taken_front}
use Rattle.profile_run.proofs.output.write_to.Goals as goal

pub returns-in-Err-Failed-clause-answer : goal.returns-in-Err-Failed-clause-answer
returns-in-Err-Failed-clause-answer g c =
    let w = rw c.in-Err-Failed.field-0-is at c.in-Err-Failed.ensures.answer in (
      w.0,
      taken_front Failed c.args.bytes.now (stream_of g.S.Sink c.args.sink.now)
          (stream_of g.S.Sink c.write_all.new.sink) w.1
          (rw c.in-Err-Failed.field-0-is at c.in-Err-Failed.ensures.told),
    )

pub returns-in-Err-OutOfMemory-clause-answer : goal.returns-in-Err-OutOfMemory-clause-answer
returns-in-Err-OutOfMemory-clause-answer g c =
    taken_front (OutOfMemory c.in-Err-OutOfMemory.refused) c.args.bytes.now (stream_of g.S.Sink c.args.sink.now)
    (stream_of g.S.Sink c.write_all.new.sink)
    (rw c.in-Err-OutOfMemory.field-0-is at c.in-Err-OutOfMemory.ensures.answer)
    (rw c.in-Err-OutOfMemory.field-0-is at c.in-Err-OutOfMemory.ensures.told)
