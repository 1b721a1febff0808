-- The header at the front of octets, or its first fault from left to right.
use Rattle.std.specs.Prelude.{ℕ, zero, suc, ◌+◌, ◌-◌, ◌*◌, ◌%◌, Bool, ◌||◌, List, [], ◌∷◌, length, take, drop, nat_lt, nat_le, nat_eq, Result, Ok, Err, if◌then◌else◌}
use Rattle.guard_model.specs.declared.tag.Class.{Class}
use Rattle.guard_model.specs.declared.tag.Class.TheVariants.{Universal, Application, Context, Private}
use Rattle.guard_model.specs.declared.tag.Tag.{Tag}
use Rattle.guard_model.specs.Answer.{◌>>=◌}
use Rattle.guard_der.specs.declared.breach.Code.{Code}
use Rattle.guard_der.specs.declared.breach.Code.TheVariants.{Truncated, TagForm, IndefiniteLength, NonMinimalLength, LengthTooLarge}
use Rattle.guard_der.specs.Octets.{big_endian}

pub record Head : Type 0 where
  pub tag : Tag
  pub constructed : Bool
  -- octets of the header, and of the contents
  pub size : ℕ
  pub contents : ℕ

-- bits 8 and 7 (X.690 8.1.2.2)
abbrev pub class_of : ℕ → Class
class_of octet =
    if nat_lt octet 64 then Universal
    else if nat_lt octet 128 then Application
    else if nat_lt octet 192 then Context
    else Private

-- The rest of a tag number to the base 128, with at most so many octets more: the number and the octets after it.
unfoldable pub number_from : ℕ → ℕ → List ℕ → Result (ℕ × List ℕ) Code
number_from tries n [] = Err Truncated
number_from zero n (o ∷ os) = Err TagForm
number_from (suc tries) n (o ∷ os) =
    if nat_lt o 128 then Ok (n * 128 + o, os) else number_from tries (n * 128 + (o - 128)) os

-- A number above 30 in octets of its own, at most four, of which the first isn't 80 (X.690 8.1.2.4).
unfoldable pub high_number : List ℕ → Result (ℕ × List ℕ) Code
high_number [] = Err Truncated
high_number (o ∷ os) =
    if nat_eq o 128
    then Err TagForm
    else (number_from 4 0 (o ∷ os) >>= λ r. if nat_lt r.0 31 then Err TagForm else Ok r)

unfoldable pub tag_number : ℕ → List ℕ → Result (ℕ × List ℕ) Code
tag_number low os = if nat_lt low 31 then Ok (low, os) else high_number os

-- The long form: so many octets of length, no leading zero, and no value that the short form has (X.690 10.1).
unfoldable pub long_length : ℕ → List ℕ → Result (ℕ × List ℕ) Code
long_length k os =
    if nat_lt (length os) k then Err Truncated
    else if nat_lt (big_endian (take k os)) 128 || nat_eq (big_endian (take 1 os)) 0 then Err NonMinimalLength
    else Ok (big_endian (take k os), drop k os)

unfoldable pub length_at : List ℕ → Result (ℕ × List ℕ) Code
length_at [] = Err Truncated
length_at (o ∷ os) =
    if nat_lt o 128 then Ok (o, os)
    else if nat_eq o 128 then Err IndefiniteLength
    else if nat_lt 132 o then Err LengthTooLarge
    else long_length (o - 128) os

unfoldable pub head_of : List ℕ → Result Head Code
head_of [] = Err Truncated
head_of (o ∷ os) =
    tag_number (o % 32) os >>= λ t. length_at t.1 >>= λ l.
    if nat_lt (length l.1) l.0 then Err Truncated
    else Ok (record {
      tag = record { class = class_of o; number = t.0 };
      constructed = nat_le 32 (o % 64);
      size = length (o ∷ os) - length l.1;
      contents = l.0;
    })
