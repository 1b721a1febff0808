-- Components of a SET: which were read, and the next one.
use Rattle.std.proofs.Common.{◌≡◌, ℕ, suc, ◌-◌, ◌*◌, ◌^◌, ◌%◌, ◌<◌, ◌≤◌, Bool, true, false, eqb, List, vec_len, None, refl, sym, ap, ◌∙◌, arith}
use Rattle.std.specs.Prelude.{◌||◌, nat_eq}
use Rattle.std.specs.Int.{bit_at}
use Rattle.std.specs.Int.Bits.{bit_or}
use Rattle.std.proofs.lemmas.Bool.{eqb-true, eqb-false, eq-eqb}
use Rattle.std.proofs.lemmas.Nat.Bits.{bit_at_set_same, bit_at_set_other}
use Rattle.std.specs.Int.{w64}
use Rattle.guard_tables.specs.declared.node_list.Nodes.{Nodes}
use Rattle.guard_tables.specs.NodesView.{spots_in}
use Rattle.guard_tables.specs.Plan.{Parts, Plan, Side, no_parts, part}
use Rattle.guard_tables.specs.TableNodes.{spot_at, parts_between}
use Rattle.guard_tables.proofs.Spots.{parts_step, spots_length}
use Rattle.guard_reader.specs.Fronts.{front}
use Rattle.guard_reader.specs.inside.Members.{found_at, member_found}
use Rattle.guard_reader.specs.inside.NodeParts.{sight_at}

-- ---- bits

bit_more : (read place i : ℕ) (b : Bool) → place < 64 → eqb place i ≡ b → nat_eq (bit_at (bit_or read (1 * 2 ^ place % 2 ^ 64)) i) 1 ≡ (b || nat_eq (bit_at read i) 1)
bit_more read place i true low e =
    let is : place ≡ i = eqb-true place i e in
    rw (← is) (eq-eqb _ 1 (bit_at_set_same w64 read place low))
bit_more read place i false low e = ap (λ (n : ℕ). nat_eq n 1) (bit_at_set_other w64 read place low i (λ same. eqb-false place i e (sym same)))

pub one_bit_more : (read place i : ℕ) → place < 64 → nat_eq (bit_at (bit_or read (1 * 2 ^ place % 2 ^ 64)) i) 1 ≡ (nat_eq place i || nat_eq (bit_at read i) 1)
one_bit_more read place i low = bit_more read place i (eqb place i) low refl

-- ---- the next one

first_found : (s : Side) (p : Plan) (ps : Parts) (i : ℕ) (os : List ℕ) → member_found (part s p ps) i os ≡ found_at i (front p os) (member_found ps (suc i) os)
unfolding member_found
first_found s p ps i os = refl

none_found : (i : ℕ) (os : List ℕ) → member_found no_parts i os ≡ None
unfolding member_found
none_found i os = refl

pub member_step : (t : Nodes) (k end i : ℕ) (os : List ℕ) → k < end → end ≤ vec_len t.hots
    → member_found (parts_between (spots_in t) k (end - k)) i os ≡ found_at i (sight_at (spots_in t) k os) (member_found (parts_between (spots_in t) (suc k) (end - suc k)) (suc i) os)
member_step t k end i os lt room =
    let s = spot_at (spots_in t) k in
    ap (λ (ps : Parts). member_found ps i os) (parts_step (spots_in t) k end lt (omega (arith, room, spots_length t)))
    ∙ first_found s.side s.plan (parts_between (spots_in t) (suc k) (end - suc k)) i os

pub member_end : (t : Nodes) (k end i : ℕ) (os : List ℕ) → end ≤ k → member_found (parts_between (spots_in t) k (end - k)) i os ≡ None
member_end t k end i os past =
    let over : end - k ≡ 0 = omega (arith, past) in
    ap (λ (n : ℕ). member_found (parts_between (spots_in t) k n) i os) over ∙ none_found i os
