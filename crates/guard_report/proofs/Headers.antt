-- An element that begins within octets ends within them.
use Rattle.std.proofs.Common.{◌≤◌, ℕ, List, ◌++◌, Result, Ok, Err, length, ap, arith}
use Rattle.std.specs.Prelude.{IfOk, IfSome}
use Rattle.std.specs.Result.{result_ok}
use Rattle.std.proofs.lemmas.List.{length-append, length-drop}
use Rattle.guard_der.specs.declared.breach.Breach.{Breach}
use Rattle.guard_der.specs.declared.element.Header.{Header}
use Rattle.guard_der.specs.Element.{identifier_octets, length_octets}
use Rattle.guard_der.specs.Header.{IsHeader}

abbrev pub EndsWithin : List ℕ → ℕ → Header → Type 0
EndsWithin octets at h = (at ≤ h.end) × (h.end ≤ length octets)

ends_within : (octets : List ℕ) (at : ℕ) (h : Header) → at ≤ length octets → IsHeader octets at h → EndsWithin octets at h
ends_within octets at h le is =
    let tag = identifier_octets h.tag h.constructed in
    let size = length_octets (length is.contents) in
    let parts = ap length is.octets_are in
    let left = length-drop at octets in
    let first = length-append tag (size ++ (is.contents ++ is.rest)) in
    let second = length-append size (is.contents ++ is.rest) in
    let third = length-append is.contents is.rest in
    (omega (arith, is.contents_at, is.end_at), omega (arith, is.contents_at, is.end_at, parts, left, first, second, third, le))

pub found_within : (octets : List ℕ) (at : ℕ) (read : Result Header Breach) → at ≤ length octets → IfOk read (IsHeader octets at) → IfSome (result_ok read) (EndsWithin octets at)
found_within octets at (Ok h) le is = ends_within octets at h le is
found_within octets at (Err b) le is = tt
