-- The machine before the first step.
use Rattle.std.proofs.Common.{ℕ, ◌+◌, ◌-◌, ◌≤◌, List, [], ◌∷◌, refl, sym, arith, subst}
use Rattle.std.proofs.Common.{Option, inr}
use Rattle.elf_read.specs.Image.{Image, image_of}
use Rattle.guest_load.specs.Arguments.{arguments_len}
use Rattle.guest_load.specs.First.{first_memory, guest_at_start, thread_at}
use Rattle.guest_load.specs.Stack.{stack_pointer}
use Rattle.demo_run.proofs.Others.{in_order, length-le-arguments_len, length-stack_words}
use Rattle.guest_sched.specs.Engine.{first_engine}
use Rattle.demo_make.specs.Program.{demo, IsFileOf}
use Rattle.demo_run.proofs.Amid.{Will}
use Rattle.demo_run.proofs.HeldLemmas.{held}
use Rattle.demo_run.proofs.Places.{IsAt, Registers, cloning, listed, start_addr}
use Rattle.demo_run.proofs.WayLemmas as way
use Rattle.demo_run.proofs.Ways.{Brings, IsAtStop, IsOnWay, IsUnderWay, Stop, own_base, own_len}
use Rattle.demo_run.proofs.ThenLemmas.{will-map}

module _ (size : ℕ) (file : List ℕ) (args : List (List ℕ)) (most : size ≤ 100000) (is : IsFileOf (demo size) file)
    (short : arguments_len args ≤ 65536) where
  abbrev image : Image
  image = image_of file

  abbrev pointer : ℕ
  pointer = stack_pointer image args

  -- all are 0 but the stack pointer
  abbrev zeros : Registers
  zeros = record {
    ra = 0;
    sp = pointer;
    gp = 0;
    tp = 0;
    t0 = 0;
    t1 = 0;
    t2 = 0;
    s0 = 0;
    s1 = 0;
    a0 = 0;
    a1 = 0;
    a2 = 0;
    a3 = 0;
    a4 = 0;
    a5 = 0;
    a6 = 0;
    a7 = 0;
    others = 0 ∷ 0 ∷ 0 ∷ 0 ∷ 0 ∷ 0 ∷ 0 ∷ 0 ∷ 0 ∷ 0 ∷ 0 ∷ 0 ∷ 0 ∷ 0 ∷ [];
  }

  room : Brings (Stop.makes 0) zeros
  room =
      let at = in_order image args short in
      let words = length-stack_words image args in
      let few = length-le-arguments_len args in
      let below = at.words_below in
      let greatest = at.greatest in
      let ends = at.arguments_end in (
        pointer - 16,
        omega arith,
        record {
          low = omega arith;
          high = omega arith;
          room = omega arith;
          top = omega arith;
          s0 = omega arith;
          above = tt;
        },
      )

  main_way : IsOnWay size (first_memory image args) (Stop.makes 0, 8) (thread_at image.entry pointer)
  main_way = record {
    number = refl;
    some = omega arith;
    few = omega arith;
    clears = refl;
    slots = [];
    held = held size file args most is (own_base 1) (own_len 1) (inr (omega arith, omega arith));
    will = subst (λ pc. Will size (own_base 1) (own_len 1) 8 pc (listed zeros) [] (IsAtStop (Stop.makes 0)))
        (sym is.entry)
        (will-map size (own_base 1) (own_len 1) 8 (start_addr 0) (listed zeros) []
        (IsAt (start_addr 0 + 32) (cloning 0 zeros) [])
        (IsAtStop (Stop.makes 0)) (λ pc x slots at. (zeros, at, room))
        (way.first size (own_base 1) (own_len 1) [] zeros));
  }

  pub begins : (input : List ℕ) (quantum : ℕ) (seed : Option ℕ)
      → IsUnderWay size ((Stop.makes 0, 8) ∷ []) [] (first_engine (guest_at_start image args input) quantum seed)
  unfolding first_engine
  begins input quantum seed = record {
    goes_on = refl;
    threads = (main_way, tt, tt);
    made = refl;
    given = (omega arith, tt);
    few = omega arith;
    words_are = λ k lt. absurd (omega arith);
  }
