-- Loads, and the gates of what was loaded.
use Rattle.std.proofs.Common.{◌≡◌, ℕ, ◌≤◌, ◌<◌, ◌-◌, ◌^◌, min, Bool, cond, List, [], Option, Some, None, Ok, Err}
use Rattle.std.proofs.Common.{refl, sym, ap, ◌∙◌, arith, Result, Vec}
use Rattle.std.specs.declared.alloc.Global.{Global}
use Rattle.std.specs.Result.{result_ok}
use Rattle.std.specs.Option.{option_map_or}
use Rattle.std.proofs.lemmas.Bool.{le-ltb, lt-ltb}
use Rattle.outside.specs.Files.{Files, file}
use Rattle.outside.specs.Load.{Load, LoadAnswers, load_of}
use Rattle.outside.specs.declared.folder.LoadError.{LoadError}
use Rattle.outside.specs.declared.folder.LoadError.TheVariants as load
use Rattle.elf_read.specs.Image.{Image}
use Rattle.guest_load.specs.Arguments.{NeedsTooMany, arguments_len}
use Rattle.guest_load.specs.Segments.{pages_of}
use Rattle.command_status.specs.declared.status.Status.TheVariants.{ArgsTooLong, GuestFull}
use Rattle.profile_files.specs.Loads.{IsLoad}
use Rattle.profile_files.proofs.LoadLemmas.{IsLoad-within}
use Rattle.command_steps.specs.Loading.{IsLoadIf}
use Rattle.profile_cli.specs.Order.{arguments_fault, pages_fault}
use Rattle.byte_text.specs.Memory.{memory}

-- want of memory has no cause
free : (files : Option Files) (name : List ℕ) (limit before now : ℕ)
    → LoadAnswers files name limit before now (Err (load.OutOfMemory memory))
free None name limit before now = tt
free (Some files) name limit before now = tt

pub IsLoad-wanting : (files : Option Files) (name : List ℕ) (limit before now : ℕ)
    → IsLoad files name limit before now (Err (load.OutOfMemory memory))
IsLoad-wanting files name limit before now =
    record { answer = Err (load.OutOfMemory memory); answers = free files name limit before now; is = refl }

-- the input where it isn't known how its load went
abbrev pub unknown_input : Option (List ℕ) → Load
unknown_input None = Ok []
unknown_input (Some name) = Err (load.OutOfMemory memory)

pub IsLoadIf-unknown : (files : Option Files) (name : Option (List ℕ)) (limit before now : ℕ)
    → IsLoadIf files name limit before now (unknown_input name)
IsLoadIf-unknown files None limit before now = refl
IsLoadIf-unknown files (Some name) limit before now = IsLoad-wanting files name limit before now

-- ---- from one load to the whole call

pub IsLoadIf-within : (files : Option Files) (name : Option (List ℕ)) (limit first before now last : ℕ) (found : Load)
    → first ≤ before → now ≤ last
    → IsLoadIf files name limit before now found → IsLoadIf files name limit first last found
IsLoadIf-within files None limit first before now last found early late is = is
IsLoadIf-within files (Some name) limit first before now last found early late loads =
    IsLoad-within files name limit first before now last found early late loads

-- ---- what was loaded of a folder that tells its contents

told_bytes : (contents : Files) (name : List ℕ) (limit before now : ℕ) (bytes : List ℕ)
    (answer : Result (Vec ℕ Global) LoadError) → LoadAnswers (Some contents) name limit before now answer
    → Ok bytes ≡ load_of answer → file contents name ≡ Some bytes
told_bytes contents name limit before now bytes (Ok vec) answers is = answers.0 ∙ sym (ap result_ok is)
told_bytes contents name limit before now bytes (Err error) answers is = absurd (cc)

pub one_load : (contents : Files) (name : List ℕ) (limit a b c d : ℕ) (one other : List ℕ)
    → IsLoad (Some contents) name limit a b (Ok one) → IsLoad (Some contents) name limit c d (Ok other) → one ≡ other
one_load contents name limit a b c d one other first second =
    ap (λ o. option_map_or (λ (bytes : List ℕ). bytes) o [])
    (sym (told_bytes contents name limit a b one first.answer first.answers first.is)
    ∙ told_bytes contents name limit c d other second.answer second.answers second.is)

pub one_input : (contents : Files) (name : Option (List ℕ)) (limit a b c d : ℕ) (one other : List ℕ)
    → IsLoadIf (Some contents) name limit a b (Ok one) → IsLoadIf (Some contents) name limit c d (Ok other)
    → one ≡ other
one_input contents None limit a b c d one other first second =
    ap (λ o. option_map_or (λ (bytes : List ℕ). bytes) o []) (ap result_ok (first ∙ sym second))
one_input contents (Some name) limit a b c d one other first second =
    one_load contents name limit a b c d one other first second

-- ---- what must fit

pub few_arguments : (args : List (List ℕ)) → arguments_len args ≤ 65536 → arguments_fault args ≡ None
few_arguments args few =
    ap (λ (b : Bool). cond b (Some (ArgsTooLong (min (arguments_len args) (2 ^ 64 - 1)))) None)
    (le-ltb 65536 (arguments_len args) few)

pub many_arguments : (args : List (List ℕ)) (len : ℕ) → NeedsTooMany args len
    → arguments_fault args ≡ Some (ArgsTooLong len)
many_arguments args len needs =
    ap (λ (b : Bool). cond b (Some (ArgsTooLong (min (arguments_len args) (2 ^ 64 - 1)))) None)
    (lt-ltb 65536 (arguments_len args) (let a = needs.0 in let b = needs.1 in omega arith))
    ∙ ap (λ n. Some (ArgsTooLong n)) (sym needs.0)

pub few_pages : (image : Image) → pages_of image ≤ 65536 → pages_fault image ≡ None
few_pages image few = ap (λ (b : Bool). cond b (Some GuestFull) None) (le-ltb 65536 (pages_of image) few)

pub many_pages : (image : Image) → 65536 < pages_of image → pages_fault image ≡ Some GuestFull
many_pages image many = ap (λ (b : Bool). cond b (Some GuestFull) None) (lt-ltb 65536 (pages_of image) many)
