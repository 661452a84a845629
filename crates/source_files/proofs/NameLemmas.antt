-- The names under which the folder is asked for files.
use Rattle.std.proofs.Common.{◌≡◌, ℕ, ◌<◌, ◌≤◌, ◌==◌, ◌+◌, ◌||◌, ◌&&◌, not, nat_le, if◌then◌else◌, Bool, true, List}
use Rattle.std.proofs.Common.{[], ◌∷◌, length, map, Option, Result, IfOk, sym, ap, subst, ◌∙◌, arith}
use Rattle.std.specs.List.{AllByRecursion, enumerate_from}
use Rattle.std.specs.Str.{IsUtf8, is_utf8}
use Rattle.std.proofs.lemmas.Bool.{and_parts, cond_both, false_from_ne_true, leb-true}
use Rattle.std.proofs.lemmas.List.Elements.{All-from_recursion}
use Rattle.std.proofs.lemmas.Str.{IsUtf8-from_ascii, IsUtf8-from_is_utf8, is_utf8-from_IsUtf8}
use Rattle.std.proofs.lemmas.Str.Ascii.{IsAscii-from_all}
use Rattle.outside.specs.Files.{Files}
use Rattle.byte_text.specs.Names.{clean_name, clean_byte, is_printable, stays}
use Rattle.byte_text.specs.declared.memory.OutOfMemory.{OutOfMemory}
use Rattle.annotate.specs.declared.source.Source.{Source}
use Rattle.profile_files.specs.Loads.{IsLoad}
use Rattle.outside.specs.Limits.{text_limit}
use Rattle.source_files.specs.Sources.{folder_name, load_behind}

printable : (byte : ℕ) → is_printable byte ≡ true → byte < 128
printable byte is =
    let low : byte ≤ 0x7e = leb-true byte 0x7e (and_parts (nat_le 0x20 byte) (nat_le byte 0x7e) is).1 in omega arith

below : (len place byte : ℕ) → clean_byte len place byte < 128
below len place byte =
    cond_both (stays len place byte) byte 0x3f (λ b. b < 128)
    (λ kept. printable byte
    (and_parts (is_printable byte) (not (byte == 0x20 && (place == 0 || place + 1 == len))) kept).0)
    (λ other. omega arith)

all_below : (len : ℕ) (bytes : List (ℕ × ℕ)) → AllByRecursion (λ b. b < 128) (map (λ p. clean_byte len p.0 p.1) bytes)
all_below len [] = tt
all_below len (byte ∷ bytes) = (below len byte.0 byte.1, all_below len bytes)

ascii : (bytes : List ℕ) → AllByRecursion (λ b. b < 128) bytes → IsUtf8 bytes
ascii bytes all = IsUtf8-from_ascii bytes (IsAscii-from_all bytes (All-from_recursion (λ b. b < 128) bytes all))

pub clean_name-IsUtf8 : (name : List ℕ) → IsUtf8 (clean_name name)
clean_name-IsUtf8 [] =
    ascii (clean_name []) (omega arith, (omega arith, (omega arith, tt)))
clean_name-IsUtf8 (byte ∷ bytes) =
    ascii (clean_name (byte ∷ bytes)) (all_below (length (byte ∷ bytes)) (enumerate_from 0 (byte ∷ bytes)))

-- a text that is a name
pub named_whole : (text name : List ℕ) → IsUtf8 text → name ≡ text → name ≡ folder_name text
named_whole text name is same =
    same ∙ sym (ap (λ (b : Bool). if b then text else clean_name text) (is_utf8-from_IsUtf8 text is))

-- a text that isn't
pub named_cleaned : (text name : List ℕ) → (IsUtf8 text → ⊥) → name ≡ clean_name text → name ≡ folder_name text
named_cleaned text name other same =
    same
    ∙ sym (ap (λ (b : Bool). if b then text else clean_name text)
    (false_from_ne_true (is_utf8 text) (λ is. other (IsUtf8-from_is_utf8 text is))))

-- the load under another name that is the same
pub loaded_as : (told : Option Files) (before now : ℕ) (name wanted : List ℕ) (result : Result Source OutOfMemory)
    → name ≡ wanted
    → IfOk result (λ source. IsLoad told name text_limit before now (load_behind source))
    → IfOk result (λ source. IsLoad told wanted text_limit before now (load_behind source))
loaded_as told before now name wanted result same loaded =
    subst (λ n. IfOk result (λ source. IsLoad told n text_limit before now (load_behind source))) same loaded
