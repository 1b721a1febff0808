-- What is read from octets, of a proper kind whose tags don't clash, fits and has these octets as its encoding.
use Rattle.std.proofs.Common.{◌≡◌, ℕ, ◌+◌, ◌<◌, ◌^◌, true, List, ◌∷◌, [], length, Option, Some, None, Ok, arith}
use Rattle.std.specs.Prelude.{nat_le, IsTrue}
use Rattle.std.specs.List.{AllByRecursion}
use Rattle.std.proofs.lemmas.Bool.{and_parts, leb-true}
use Rattle.guard_model.specs.declared.tag.Tag.{Tag}
use Rattle.guard_model.specs.Tags.{same_tag}
use Rattle.guard_model.specs.AbstractType.{AbstractKind, type_of, no_constraints}
use Rattle.guard_model.specs.AbstractValue.{AbstractValue}
use Rattle.guard_tagcheck.specs.Limits.{are_low, nesting_inside}
use Rattle.guard_tagcheck.specs.Search.{clash_of_kind}
use Rattle.guard_der.specs.Breach.{Encodes, FaultInContents, FaultInTags, FaultUntagged}
use Rattle.guard_der.specs.Der.{der, contents_octets, is_constructed}
use Rattle.guard_der.specs.Element.{tagged}
use Rattle.guard_der.specs.Fits.{fits_kind}
use Rattle.guard_der.specs.Reading.{contents_at, untagged_at, tags_at, alone_at}
use Rattle.guard_der.specs.Sound.{is_proper_kind}
use Rattle.guard_der.proofs.Elements.Laws.{AreLow, tags_lawful, alone_takes}
use Rattle.guard_der.proofs.Elements.Steps.{bind}
use Rattle.guard_der.proofs.Types.AllKinds.{kind_lawful}

abbrev pub AreOctets : List ℕ → Type 0
AreOctets os = AllByRecursion (λ o. o < 256) os

pub contents_back : (kind : AbstractKind) (at start : ℕ) (os : List ℕ) (v : AbstractValue) → is_proper_kind kind ≡ true → clash_of_kind kind ≡ None → AreOctets os → length os < 2 ^ 32
    → contents_at kind at start os ≡ Ok v → IsTrue (fits_kind kind v) × (contents_octets kind v ≡ Some os)
contents_back kind at start os v proper clear digits short e = (kind_lawful kind proper clear).takes at start os v digits short e

all_low : (tags : List Tag) → are_low tags ≡ true → AreLow tags
all_low [] e = tt
all_low (t ∷ ts) e = let p = and_parts (nat_le t.number 268435455) (are_low ts) e in (omega (arith, leb-true t.number 268435455 p.0), all_low ts p.1)

-- in an element of these tags
abbrev encoded : AbstractKind → List Tag → AbstractValue → Option (List ℕ)
encoded kind tags v = bind (contents_octets kind v) (λ contents. tagged tags (is_constructed kind) contents)

pub inside_back : (u : Tag) (ts : List Tag) (kind : AbstractKind) (start : ℕ) (os : List ℕ) (v : AbstractValue) → are_low (u ∷ ts) ≡ true → is_proper_kind kind ≡ true → clash_of_kind kind ≡ None → AreOctets os
    → alone_at (same_tag u) (tags_at (u ∷ ts) (is_constructed kind) (contents_at kind) (untagged_at kind)) start os ≡ Ok v
    → IsTrue (fits_kind kind v) × (der (type_of (u ∷ ts) kind no_constraints) v ≡ Some os)
inside_back u ts kind start os v low proper clear digits e =
    let law = tags_lawful u ts (is_constructed kind) (λ v. fits_kind kind v) (λ v. contents_octets kind v) (contents_at kind) (λ size os b. FaultInContents kind size os b) (untagged_at kind) (λ os b. FaultUntagged kind os b) (nesting_inside kind)
    (all_low (u ∷ ts) low) (kind_lawful kind proper clear) in
    alone_takes (λ tag. same_tag u tag) (λ v. fits_kind kind v) (λ v. encoded kind (u ∷ ts) v) (λ v. u) (tags_at (u ∷ ts) (is_constructed kind) (contents_at kind) (untagged_at kind))
    (FaultInTags (λ tags os. Encodes (λ v. fits_kind kind v) (λ v. encoded kind tags v) os) (is_constructed kind) (λ size os b. FaultInContents kind size os b) (λ os b. FaultUntagged kind os b) (u ∷ ts)) (length (u ∷ ts) + nesting_inside kind)
    law start os v digits e
