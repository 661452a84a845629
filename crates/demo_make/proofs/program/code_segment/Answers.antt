-- What can be put together is put together.
use Rattle.demo_make.proofs.program.code_segment.Goals as goal

pub unwrap-code-requires : goal.unwrap-code-requires
unwrap-code-requires c = c.in_ok-assemble.ensures.some.1 c.requires.assembled
