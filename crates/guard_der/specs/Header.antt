-- The header of the element at an offset, offsets counted from the front of all octets.
use Rattle.std.specs.Prelude.{◌≡◌, ℕ, ◌+◌, ◌<◌, ◌^◌, List, [], ◌++◌, length, drop, Result, Ok, Err}
use Rattle.guard_der.specs.declared.breach.Code.{Code}
use Rattle.guard_der.specs.declared.element.Header.{Header}
use Rattle.guard_der.specs.Element.{identifier_octets, length_octets}
use Rattle.guard_der.specs.Head.{Head, head_of}
use Rattle.guard_der.specs.Breach.{AbstractBreach}

abbrev pub placed : ℕ → Result Head Code → Result Header AbstractBreach
placed at (Ok h) = Ok (record {
  tag = h.tag;
  constructed = h.constructed;
  contents = at + h.size;
  end = at + h.size + h.contents;
})
placed at (Err c) = Err (record { code = c; at = at; path = [] })

abbrev pub header_at : ℕ → List ℕ → Result Header AbstractBreach
header_at at octets = placed at (head_of (drop at octets))

-- From the offset on come the identifier and length octets of this header, then the contents, then whatever follows.
pub record IsHeader (octets : List ℕ) (at : ℕ) (h : Header) : Type 0 where
  pub contents : List ℕ
  pub rest : List ℕ
  pub octets_are :
      drop at octets ≡ identifier_octets h.tag h.constructed ++ (length_octets (length contents) ++ (contents ++ rest))
  pub contents_at :
      h.contents ≡ at + length (identifier_octets h.tag h.constructed) + length (length_octets (length contents))
  pub end_at : h.end ≡ h.contents + length contents
  -- this profile's limits
  pub number_small : h.tag.number < 2 ^ 28
  pub contents_small : length contents < 2 ^ 32
