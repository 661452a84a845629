-- Calls as data.
use Rattle.std.specs.Prelude.{◌≡◌, ◌⊎◌, ℕ, Bool, true, false, List, Option, Some, None, Result, refl}
use Rattle.std.specs.Coded.{Coded, code_by, coded×, coded⊎, coded_ℕ, coded_bool, coded_list, coded_option, coded_result}
use mathlib.Core.Logic.{inl, inr}
use base.Stored.{coded_unit}
use Rattle.byte_text.specs.Memory.{memory}
use Rattle.outside.specs.Load.{Load}
use Rattle.outside.specs.Journal.{Call, Loaded, Put}
use Rattle.outside.specs.declared.folder.LoadError.{LoadError}
use Rattle.outside.specs.declared.folder.LoadError.TheVariants as load
use Rattle.outside.specs.declared.folder.PutError.{PutError}
use Rattle.outside.specs.declared.folder.PutError.TheVariants as put

abbrev pub load_error_parts : LoadError → Option (Option ℕ)
load_error_parts load.Failed = None
load_error_parts (load.OutOfMemory _) = Some None
load_error_parts (load.TooLong len) = Some (Some len)

abbrev pub load_error_of : Option (Option ℕ) → LoadError
load_error_of None = load.Failed
load_error_of (Some None) = load.OutOfMemory memory
load_error_of (Some (Some len)) = load.TooLong len

pub load_error_again : (error : LoadError) → load_error_of (load_error_parts error) ≡ error
load_error_again load.Failed = refl
load_error_again (load.OutOfMemory _) = refl
load_error_again (load.TooLong len) = refl

abbrev pub load_error_code : Coded LoadError
load_error_code =
    code_by (Option (Option ℕ)) (coded_option (coded_option coded_ℕ)) load_error_parts load_error_of load_error_again

abbrev pub put_error_part : PutError → Bool
put_error_part put.Failed = true
put_error_part (put.OutOfMemory _) = false

abbrev pub put_error_of : Bool → PutError
put_error_of true = put.Failed
put_error_of false = put.OutOfMemory memory

pub put_error_again : (error : PutError) → put_error_of (put_error_part error) ≡ error
put_error_again put.Failed = refl
put_error_again (put.OutOfMemory _) = refl

abbrev pub put_error_code : Coded PutError
put_error_code = code_by Bool coded_bool put_error_part put_error_of put_error_again

abbrev pub CallParts : Type 0
CallParts = (List ℕ × (ℕ × Load)) ⊎ (List ℕ × (List ℕ × Result (Unit {0}) PutError))

abbrev pub call_parts : Call → CallParts
call_parts (Loaded name limit answer) = inl (name, (limit, answer))
call_parts (Put name bytes answer) = inr (name, (bytes, answer))

abbrev pub call_of_parts : CallParts → Call
call_of_parts (inl p) = Loaded p.0 p.1.0 p.1.1
call_of_parts (inr p) = Put p.0 p.1.0 p.1.1

pub call_again : (call : Call) → call_of_parts (call_parts call) ≡ call
call_again (Loaded name limit answer) = refl
call_again (Put name bytes answer) = refl

abbrev pub calls_code : Coded (Option (List Call))
calls_code =
    coded_option
    (coded_list
    (code_by CallParts
    (coded⊎
    (coded× (coded_list coded_ℕ) (coded× coded_ℕ (coded_result (coded_list coded_ℕ) load_error_code)))
    (coded× (coded_list coded_ℕ) (coded× (coded_list coded_ℕ) (coded_result coded_unit put_error_code))))
    call_parts call_of_parts call_again))
