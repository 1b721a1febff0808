-- A text of which one octet more was read than it may have, or none.
use Rattle.std.proofs.Common.{◌≡◌, ◌∙◌, ◌<◌, ◌≤◌, ap, min, ℕ, List, [], length, take, length-take, arith}
use Rattle.std.specs.Prelude.{Option, Some, None, option_map}
use Rattle.std.proofs.lemmas.List.{take_all}
use Rattle.guard_files.specs.declared.fault.Fault.{Fault}
use Rattle.guard_files.specs.declared.fault.Fault.TheVariants.{CannotRead, TooLarge, Schema, Policy, Run, NoMemory}
use Rattle.guard_files.specs.Files.{Told, IsAsTold, HasFirst, HasText, IsLarger, IsTooLarge}
use Rattle.guard_files.specs.Reading.{HasNoFront, IsUnreadable}

abbrev octets_of : Option (List ℕ) → List ℕ
octets_of None = []
octets_of (Some octets) = octets

-- as many as were asked for, or all
front_length : (text all : List ℕ) → Some text ≡ Some (take 67108865 all) → length text ≡ min 67108865 (length all)
front_length text all e = ap (λ (o : Option (List ℕ)). length (octets_of o)) e ∙ length-take 67108865 all

-- the octets that were read are all
pub whole : (told : Told) (path text : List ℕ) → HasFirst 67108865 told path text → length text ≤ 67108864 → HasText told path text
whole told path text h few = (go (told 0 path) h.0, few)
  where
    go : (found : Option (Option (List ℕ))) → IsAsTold (option_map (option_map (take 67108865)) found) (Some text) → IsAsTold found (Some text)
    go None e = tt
    go (Some None) e = e
    go (Some (Some all)) e =
        let n = front_length text all e in
        let fits : length all ≤ 67108865 = omega (arith, n, few) in
        e ∙ ap Some (take_all 67108865 all fits)

-- or there are too many
pub larger : (told : Told) (path text : List ℕ) → HasFirst 67108865 told path text → 67108864 < length text → IsTooLarge told path
larger told path text h many = go (told 0 path) h.0
  where
    go : (found : Option (Option (List ℕ))) → IsAsTold (option_map (option_map (take 67108865)) found) (Some text) → IsLarger found
    go None e = tt
    go (Some None) e = absurd cc
    go (Some (Some all)) e = let n = front_length text all e in omega (arith, n, many)

-- or nothing can be read
pub unreadable : (told : Told) (path : List ℕ) (f : Fault) → HasNoFront told path f → IsUnreadable told path f
unreadable told path (CannotRead file obstacle) h = h
unreadable told path NoMemory h = h
unreadable told path (TooLarge file) h = absurd h
unreadable told path (Schema f) h = h
unreadable told path (Policy f) h = h
unreadable told path (Run f) h = h
