-- Headers at an offset.
use Rattle.std.proofs.Common.{◌≡◌, ℕ, ◌+◌, ◌-◌, ◌^◌, ◌<◌, ◌≤◌, List, ◌++◌, length, take, drop, Some, Result, Ok, Err, refl, sym, ap, ◌∙◌, arith}
use Rattle.std.specs.Prelude.{IfOk}
use Rattle.std.proofs.lemmas.List.{length-append, length-take, length-drop, take-append-drop}
use Rattle.guard_model.specs.Answer.{Gives}
use Rattle.guard_der.specs.declared.breach.Code.{Code}
use Rattle.guard_der.specs.declared.breach.Breach.{Breach}
use Rattle.guard_der.specs.declared.element.Header.{Header}
use Rattle.guard_der.specs.Element.{identifier_octets, length_octets}
use Rattle.guard_der.specs.Head.{Head, head_of}
use Rattle.guard_der.specs.Header.{IsHeader, header_at, placed}
use Rattle.guard_der.specs.Breach.{AbstractBreach}
use Rattle.guard_der.specs.Views.{breach_view}
use Rattle.guard_der.proofs.Numbers.Digits.{AreDigits}
use Rattle.guard_der.proofs.Headers.TagsAndLengths.{digits_take, digits_drop}
use Rattle.guard_der.proofs.Headers.Heads.{head_takes, head_again, head}
use Rattle.guard_model.proofs.Results.{same_Ok}

-- an element ends within the octets in which it was read
pub head_room : (os : List ℕ) (h : Head) → AreDigits 256 os → head_of os ≡ Ok h → h.size + h.contents ≤ length os
head_room os h octets e =
    let s = head_takes os h octets e in
    omega (arith, ap length s.parts, length-append (identifier_octets h.tag h.constructed) (length_octets h.contents ++ s.rest), length-append (length_octets h.contents) s.rest, s.size, s.room)

placed_stands : (octets : List ℕ) (at : ℕ) (read : Result Head Code) (h : Header) → AreDigits 256 (drop at octets) → head_of (drop at octets) ≡ read → placed at read ≡ Ok h → IsHeader octets at h
placed_stands octets at (Err c) h digits e is = absurd cc
placed_stands octets at (Ok read) h digits e is =
    let s = head_takes (drop at octets) read digits e in
    let made : Header = record { tag = read.tag; constructed = read.constructed; contents = at + read.size; end = at + read.size + read.contents } in
    let same : made ≡ h = same_Ok {F = AbstractBreach} made h is in
    let len : length (take read.contents s.rest) ≡ read.contents = omega (arith, length-take read.contents s.rest, s.room) in
    rw (← same) (record {
      contents = take read.contents s.rest;
      rest = drop read.contents s.rest;
      octets_are = rw (len, take-append-drop read.contents s.rest) s.parts;
      contents_at = rw len (omega (arith, s.size));
      end_at = omega (arith, len);
      number_small = s.number;
      contents_small = rw len s.contents;
    })

pub header_stands : (octets : List ℕ) (at : ℕ) (r : Result Header Breach) → AreDigits 256 octets → Gives (λ h. h) (λ b. Some (breach_view b)) r (header_at at octets) → IfOk r (IsHeader octets at)
header_stands octets at (Ok h) digits given = placed_stands octets at (head_of (drop at octets)) h (digits_drop at octets digits) refl given
header_stands octets at (Err b) digits given = tt

pair : (a b c d : ℕ) → a ≡ b → c ≡ d → ◌≡◌ {A = ℕ × ℕ} (a, c) (b, d)
pair a b c d p q = cc

header_again : (octets : List ℕ) (at : ℕ) (h : Header) → IsHeader octets at h → header_at at octets ≡ Ok h
header_again octets at h is =
    let read = head_again h.tag h.constructed (length is.contents) (is.contents ++ is.rest) is.number_small is.contents_small (omega (arith, length-append is.contents is.rest)) in
    let whole : head_of (drop at octets) ≡ Ok (head h.tag h.constructed (length is.contents)) = ap head_of is.octets_are ∙ read in
    let made : Header = record { tag = h.tag; constructed = h.constructed; contents = at + (length (identifier_octets h.tag h.constructed) + length (length_octets (length is.contents))); end = at + (length (identifier_octets h.tag h.constructed) + length (length_octets (length is.contents))) + length is.contents } in
    let contents_is : made.contents ≡ h.contents = omega (arith, is.contents_at) in
    let end_is : made.end ≡ h.end = omega (arith, is.contents_at, is.end_at) in
    ap (placed at) whole ∙ ap (λ (p : ℕ × ℕ). Ok (record { tag = h.tag; constructed = h.constructed; contents = p.0; end = p.1 })) (pair made.contents h.contents made.end h.end contents_is end_is)

pub header_only : (octets : List ℕ) (at : ℕ) (r : Result Header Breach) → Gives (λ h. h) (λ b. Some (breach_view b)) r (header_at at octets) → (h : Header) → IsHeader octets at h → r ≡ Ok h
header_only octets at (Ok x) given h is = let same : x ≡ h = same_Ok {F = AbstractBreach} x h (sym given ∙ header_again octets at h is) in ap (λ (y : Header). Ok y) same
header_only octets at (Err b) given h is = let e = header_again octets at h is in absurd cc

-- the same of the octets from an offset on
pub head_room_at : (octets : List ℕ) (at : ℕ) (h : Head) → AreDigits 256 octets → at ≤ length octets → head_of (take (length octets - at) (drop at octets)) ≡ Ok h → at + h.size + h.contents ≤ length octets
head_room_at octets at h digits inside e =
    let room = head_room (take (length octets - at) (drop at octets)) h (digits_take (length octets - at) (drop at octets) (digits_drop at octets digits)) e in
    omega (arith, room, length-take (length octets - at) (drop at octets), length-drop at octets)

-- its contents are fewer than 2^32 octets
pub head_small : (os : List ℕ) (h : Head) → AreDigits 256 os → head_of os ≡ Ok h → length (take h.contents (drop h.size os)) < 2 ^ 32
head_small os h digits e = omega (arith, (head_takes os h digits e).contents, length-take h.contents (drop h.size os))
