-- Objects of lines, and what they tell.
use Rattle.std.proofs.Common.{◌≡◌, ℕ, true, false, cond, List, [], ◌∷◌, refl, sym, ap, ◌∙◌, codes}
use Rattle.std.specs.Prelude.{Some, None, IfSome, option_map, unwrap_or}
use Rattle.std.specs.Str.{is_utf8}
use Rattle.json.specs.Token.{Token, begin_object, end_object, key, string}
use Rattle.json.specs.Lex.{tokens}
use Rattle.json.specs.Print.{print}
use Rattle.hex.specs.Hex.{IsBytes}
use Rattle.hex.proofs.HexLemmas.{decode_of-encode_lower}
use Rattle.guard_json.specs.Members.{Part, all_of, mark, members_in}
use Rattle.guard_json.specs.Objects.{lone_member, text_object, octets_object, json_line}
use Rattle.guard_json.specs.Taken.{told_by, octets_or_none}
use Rattle.guard_json.specs.inside.Drafting.{Reads}
use Rattle.guard_json.proofs.Drafts.{some_is}

pub unwrapped : (full : Part) (lone : List Token) (text : List ℕ) → Some text ≡ option_map print full → text ≡ print (unwrap_or full lone)
unwrapped None lone text h = cc
unwrapped (Some ts) lone text h = some_is h

pub Reads_unwrapped : (full : Part) (lone : List Token) (text : List ℕ) → Some text ≡ option_map print full → IfSome full Reads
    → Reads (unwrap_or full lone)
Reads_unwrapped None lone text h r = absurd (cc)
Reads_unwrapped (Some ts) lone text h r = r

pub nothing_full : (full : Part) → None ≡ option_map print full → full ≡ None
nothing_full None h = refl
nothing_full (Some ts) h = cc

pub text_line : (line : List ℕ) → is_utf8 line ≡ true → print (text_object line) ≡ json_line line
unfolding json_line
text_line line e = sym (ap (λ b. print (cond b (text_object line) (octets_object line))) e)

pub octets_line : (line : List ℕ) → is_utf8 line ≡ false → print (octets_object line) ≡ json_line line
unfolding json_line
octets_line line e = sym (ap (λ b. print (cond b (text_object line) (octets_object line))) e)

told_with : (m : Part) (line : List ℕ) →
    told_by (unwrap_or (all_of (mark begin_object ∷ mark (key (codes "text")) ∷ mark (string line) ∷ m ∷ mark end_object ∷ [])) (lone_member (codes "text") line)) ≡ line
told_with None line = refl
told_with (Some ts) line = refl

pub told_text : (line : List ℕ) → told_by (text_object line) ≡ line
told_text line = told_with (members_in line) line

pub told_octets : (line : List ℕ) → IsBytes line → told_by (octets_object line) ≡ line
told_octets line h = ap octets_or_none (decode_of-encode_lower line h)

-- what is read back of printed tokens
pub told_printed : (ts : List Token) (text line : List ℕ) → Reads ts → print ts ≡ text → told_by ts ≡ line → told_by (tokens text) ≡ line
told_printed ts text line r e h = ap (λ t. told_by (tokens t)) (sym e) ∙ ap told_by r.back ∙ h
