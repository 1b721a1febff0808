-- Headers of elements that are cut off.
use Rattle.std.proofs.Common.{◌≡◌, ℕ, ◌+◌, Bool, List, [], ◌++◌, length, take, drop, Ok, sym, ap, ◌∙◌, arith}
use Rattle.std.proofs.lemmas.List.{append-nil, length-append, length-take, length-drop}
use Rattle.guard_model.specs.declared.tag.Tag.{Tag}
use Rattle.guard_der.specs.Element.{identifier_octets, length_octets}
use Rattle.guard_der.specs.Head.{Head, head_of}
use Rattle.guard_der.proofs.Elements.AtFront.{front_is, front_again}
use Rattle.guard_der.proofs.Headers.Heads.{head, head_takes}
use Rattle.guard_reader.proofs.Places.{Digits}

abbrev headed : Tag → Bool → ℕ → ℕ → Head
headed t c size contents = record { tag = t; constructed = c; size = size; contents = contents }

-- an element that is cut off has the same header
pub taken_head : (os : List ℕ) (h : Head) → Digits os → head_of os ≡ Ok h → head_of (take (h.size + h.contents) os) ≡ Ok h
taken_head os h digits e =
    let s = head_takes os h digits e in
    let front : List ℕ = take (h.size + h.contents) os in
    let contents : List ℕ = take h.contents (drop h.size os) in
    let f = front_is os h digits e in
    let a = front_again h.tag h.constructed contents front [] s.number f.0 in
    let rest : length (drop h.size os) ≡ length s.rest =
    omega (arith, length-drop h.size os, ap length s.parts, length-append (identifier_octets h.tag h.constructed) (length_octets h.contents ++ s.rest), length-append (length_octets h.contents) s.rest, s.size) in
    let all : length contents ≡ h.contents = omega (arith, length-take h.contents (drop h.size os), rest, s.room) in
    let size : (head h.tag h.constructed (length contents)).size ≡ h.size = ap (λ (n : ℕ). length (identifier_octets h.tag h.constructed) + length (length_octets n)) all ∙ sym s.size in
    ap head_of (sym (append-nil front)) ∙ a.0
    ∙ ap (λ (n : ℕ). Ok (headed h.tag h.constructed n (length contents))) size
    ∙ ap (λ (n : ℕ). Ok (headed h.tag h.constructed h.size n)) all
