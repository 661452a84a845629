-- The front of a file is read piece by piece.
use Rattle.std.proofs.Common.{◌≡◌, inl, inr, ℕ, ◌+◌, ◌<◌, ◌≤◌, List, [], ◌++◌, Option, Result, Ok, Err, Vec}
use Rattle.std.proofs.Common.{length, take, drop, length-drop, refl, sym, ap, subst, ◌∙◌, arith, append_assoc}
use Rattle.std.specs.Prelude.{IsErrAnd}
use Rattle.std.specs.IoError.{error_kind}
use Rattle.std.specs.declared.alloc.Global.{Global}
use Rattle.std.specs.declared.io.Error.{Error}
use Rattle.std.specs.declared.io.ErrorKind.TheVariants.{OutOfMemory}
use Rattle.std.proofs.lemmas.List.{append-nil, length-take, take-append-le, take_all, length-append}
use Rattle.outside.specs.Calls.{Disk, IsRefused, OpenFile, Reads, Stays, Tell}
use Rattle.outside.specs.Files.{Rose}
use Rattle.outside.specs.inner.Front.{HasRead, IsFront, IsPiece}
use Rattle.outside.proofs.TellLemmas.{tell_as, tell_both, tell_here, tell_then}

pub stays_here : (x : Disk) → Stays x x
stays_here x = record { files = refl; tells_lengths = refl; faults = omega arith }

pub stays_then : (x y z : Disk) → Stays x y → Stays y z → Stays x z
stays_then x y z p q = record {
  files = q.files ∙ p.files;
  tells_lengths = q.tells_lengths ∙ p.tells_lengths;
  faults = omega (arith, p.faults, q.faults);
}

-- a count that rose since, rose since before
pub rose_since : (before mid now : ℕ) → before ≤ mid → Rose mid now → Rose before now
rose_since before mid now le rose = omega (arith, le, rose)

pub refused_since : (error : Error) (x y z : Disk) → x.faults ≤ y.faults → IsRefused error y z → IsRefused error x z
refused_since error x y z le (inl memory) = inl memory
refused_since error x y z le (inr rose) = inr (rose_since x.faults y.faults z.faults le rose)

pub nothing_read : (a : Option Disk) (read : List ℕ) (opened : OpenFile) → read ≡ []
    → Tell a a (HasRead opened.rest read opened)
nothing_read a read opened none =
    tell_here (HasRead opened.rest read opened) a
    (λ x. record { stays = stays_here x; parts = sym (ap (λ r. r ++ opened.rest) none) })

pub read_stays : (a b : Option Disk) (left read : List ℕ) (opened : OpenFile) → Tell a b (HasRead left read opened)
    → Tell a b Stays
read_stays a b left read opened = tell_as (HasRead left read opened) Stays a b (λ x y p. p.stays)

pub read_on : (a b c : Option Disk) (left read : List ℕ) (opened : OpenFile) → Tell a b (HasRead left read opened)
    → Tell b c Stays → Tell a c Stays
read_on a b c left read opened =
    tell_then (HasRead left read opened) Stays Stays a b c (λ x y z p q. stays_then x y z p.stays q)

-- a piece more
pub read_more : (a b c : Option Disk) (left read more : List ℕ) (old new : OpenFile) (count : ℕ)
    → Tell a b (HasRead left read old) → Tell b c (IsPiece old new read more (Ok count)) → Tell b c Stays
    → Tell a c (HasRead left more new)
read_more a b c left read more old new count before piece stays =
    tell_then (HasRead left read old) (λ y z. IsPiece old new read more (Ok count) y z × Stays y z)
    (HasRead left more new) a b c
    (λ x y z p q. record { stays = stays_then x y z p.stays q.1; parts = p.parts ∙ q.0.0 })
    before
    (tell_both (IsPiece old new read more (Ok count)) Stays
    (λ y z. IsPiece old new read more (Ok count) y z × Stays y z) b c (λ y z p q. (p, q)) piece stays)

-- a front that is full
pub front_full : (a b : Option Disk) (left : List ℕ) (read : Vec ℕ Global) (opened : OpenFile) (limit : ℕ)
    → length read.items ≡ limit + 1 → Tell a b (HasRead left read.items opened) → Tell a b (IsFront left limit (Ok read))
front_full a b left read opened limit full =
    tell_as (HasRead left read.items opened) (IsFront left limit (Ok read)) a b
    (λ x y p. sym (ap (take (limit + 1)) p.parts
    ∙ take-append-le (limit + 1) read.items opened.rest (omega (arith, full))
    ∙ take_all (limit + 1) read.items (omega (arith, full))))

-- all that there is
pub front_ends : (a b c : Option Disk) (left read : List ℕ) (more : Vec ℕ Global) (old new : OpenFile)
    (limit count : ℕ) → count ≡ 0 → length more.items ≤ limit + 1 → Tell a b (HasRead left read old)
    → Tell b c (IsPiece old new read more.items (Ok count)) → Tell a c (IsFront left limit (Ok more))
front_ends a b c left read more old new limit count none within =
    tell_then (HasRead left read old) (IsPiece old new read more.items (Ok count)) (IsFront left limit (Ok more)) a b c
    (λ x y z p q.
    sym (ap (take (limit + 1)) (p.parts ∙ q.0 ∙ ap (λ l. more.items ++ l) (q.1 none) ∙ append-nil more.items)
    ∙ take_all (limit + 1) more.items within))

front_exit : (left : List ℕ) (limit : ℕ) (error : Error) (result : Result (Vec ℕ Global) Error) (x z : Disk)
    → IsErrAnd result (λ e. e ≡ error) → IsRefused error x z → IsFront left limit result x z
front_exit left limit error (Ok read) x z is refused = absurd is
front_exit left limit error (Err e) x z is refused = subst (λ e. IsRefused e x z) (sym is) refused

-- a piece that was refused
pub front_refused : (a b c : Option Disk) (left read more : List ℕ) (old new : OpenFile) (limit : ℕ) (error : Error)
    (result : Result (Vec ℕ Global) Error) → IsErrAnd result (λ e. e ≡ error) → Tell a b (HasRead left read old)
    → Tell b c (IsPiece old new read more (Err error)) → Tell a c (IsFront left limit result)
front_refused a b c left read more old new limit error result is =
    tell_then (HasRead left read old) (IsPiece old new read more (Err error)) (IsFront left limit result) a b c
    (λ x y z p q. front_exit left limit error result x z is (refused_since error x y z p.stays.faults q))

-- the room is as long as it was, once its front was read into
pub room_stays : (n : ℕ) (new old : List ℕ) → n ≡ length old → 0 < length old
    → 0 < length (take n (new ++ drop (length new) old))
room_stays n new old is some =
    omega (
      arith,
      is,
      some,
      length-take n (new ++ drop (length new) old),
      length-append new (drop (length new) old),
      length-drop (length new) old,
    )

-- a piece that goes to the end of what was read
pub piece_goes_on : (a b : Option Disk) (read more room : List ℕ) (old new : OpenFile) (count : ℕ)
    → more ≡ read ++ take count room → Tell a b (Reads old new room (Ok count))
    → Tell a b (IsPiece old new read more (Ok count))
piece_goes_on a b read more room old new count is =
    tell_as (Reads old new room (Ok count)) (IsPiece old new read more (Ok count)) a b
    (λ x y p. (
      ap (λ l. read ++ l) p.0 ∙ sym (append_assoc read (take count room) new.rest)
          ∙ ap (λ m. m ++ new.rest) (sym is),
      p.1,
    ))

piece_exit : (read more : List ℕ) (old new : OpenFile) (result : Result ℕ Error) (error : Error) (x y : Disk)
    → IsErrAnd result (λ e. e ≡ error) → IsRefused error x y → IsPiece old new read more result x y
piece_exit read more old new (Ok count) error x y is refused = absurd is
piece_exit read more old new (Err e) error x y is refused = subst (λ e. IsRefused e x y) (sym is) refused

pub piece_refused : (a b : Option Disk) (read more room : List ℕ) (old new : OpenFile) (result : Result ℕ Error)
    (error : Error) → IsErrAnd result (λ e. e ≡ error) → Tell a b (Reads old new room (Err error))
    → Tell a b (IsPiece old new read more result)
piece_refused a b read more room old new result error is =
    tell_as (Reads old new room (Err error)) (IsPiece old new read more result) a b
    (λ x y p. piece_exit read more old new result error x y is p)

memory_exit : (read more : List ℕ) (old new : OpenFile) (result : Result ℕ Error) (x y : Disk)
    → IsErrAnd result (λ e. error_kind e ≡ OutOfMemory) → IsPiece old new read more result x y
memory_exit read more old new (Ok count) x y is = absurd is
memory_exit read more old new (Err e) x y is = inl is

-- a piece for which memory was refused
pub piece_memory : (a b : Option Disk) (read more : List ℕ) (old new : OpenFile) (result : Result ℕ Error)
    → IsErrAnd result (λ e. error_kind e ≡ OutOfMemory) → Tell a b Stays → Tell a b (IsPiece old new read more result)
piece_memory a b read more old new result is =
    tell_as Stays (IsPiece old new read more result) a b (λ x y p. memory_exit read more old new result x y is)
