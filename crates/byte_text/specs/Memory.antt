-- Want of memory: there is one such value, since it tells nothing but that memory was refused.
use Rattle.byte_text.specs.declared.memory.OutOfMemory.{OutOfMemory}

pub memory : OutOfMemory
memory = record { refused = tt }
