-- How long names are.
use Rattle.std.proofs.Common.{◌≡◌, ◌≤◌, ℕ, List, Bool, true, false, ◌&&◌, refl, length, arith}
use Rattle.std.specs.Prelude.{nat_le}
use Rattle.std.specs.List.{list_all}
use Rattle.std.proofs.lemmas.Bool.Decides.{nat_tests}
use Rattle.guard_policy.specs.Names.{is_name_octet, is_name}

second_of : (a b c : Bool) → ((a && b) && c) ≡ true → b ≡ true
second_of true true c e = refl
second_of true false c e = absurd cc
second_of false b c e = absurd cc

pub name_short : (name : List ℕ) → is_name name ≡ true → length name ≤ 63
name_short name e =
    let few : nat_le (length name) 63 ≡ true = second_of (nat_le 1 (length name)) _ (list_all is_name_octet name) e in
    grind (arith, nat_tests)
