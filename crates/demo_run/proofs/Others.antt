-- What proofs of other crates are cited.
pub use Rattle.demo_make.proofs.CodeFits.{code-fits}
pub use Rattle.demo_make.proofs.Lengths.{length-all, length-code_of}
pub use Rattle.guest_futex.proofs.WaitLaws.{times_in-append, times_in-cons}
pub use Rattle.guest_load.proofs.ArgumentLemmas.{length-le-arguments_len}
pub use Rattle.guest_load.proofs.StackLemmas.{in_order, length-stack_words}
pub use Rattle.guest_mem.proofs.Accesses.{elsewhere-stored, loaded_bytes, stored_when}
pub use Rattle.guest_mem.proofs.Memories.{get-memory_of}
pub use Rattle.guest_mem.proofs.Ranges.{bytes_at-is, bytes_at-written, may-from, may-written, may_at}
pub use Rattle.guest_sched.proofs.MoveLemmas.{moved, run_is, runner_there, turned_exit, turned_sys}
pub use Rattle.guest_sched.proofs.TurnLemmas.{begins_times, first_queue, ran_times}
pub use Rattle.rv_decode.proofs.CodingLemmas.{decoded-encoded, encoded-below}
pub use Rattle.rv_step.proofs.StoreLemmas.{step-found}
