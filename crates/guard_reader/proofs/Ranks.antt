-- Components that are surely not at the front, by the ranks of their identifier octets.
use Rattle.std.proofs.Common.{◌≡◌, ℕ, zero, suc, ◌+◌, ◌-◌, ◌<◌, ◌≤◌, false, List, [], ◌∷◌, vec_len, true, refl, sym, ap, subst, ◌∙◌, arith, inl, inr}
use Rattle.std.proofs.lemmas.Bool.{ne_eqb, cases_lt}
use Rattle.guard_tables.specs.declared.node_list.Nodes.{Nodes}
use Rattle.guard_tables.specs.NodesView.{spots_in}
use Rattle.guard_tables.specs.Plan.{Plan}
use Rattle.guard_tables.specs.TableNodes.{parts_between}
use Rattle.guard_reader.specs.Fronts.{Front, after_one, elsewhere, begins, front, front_cut}
use Rattle.guard_reader.specs.Judging.{identifier_in, other_in}
use Rattle.guard_reader.specs.inside.Members.{found_at, member_found}
use Rattle.guard_reader.specs.inside.NodeParts.{sight_at}
use Rattle.guard_reader.specs.inside.Ranks.{AreBelow, IsBelow, IsLow, rank, rank_of}
use Rattle.guard_reader.proofs.MemberSteps.{member_step}
use Rattle.guard_reader.specs.Octets.{split}
use Rattle.guard_reader.proofs.NodeTags.{near, octet_elsewhere, octet_there}

not_first : (octet floor : ℕ) (os : List ℕ) → rank octet ≤ floor → floor < rank_of os → begins octet os ≡ false
not_first octet floor [] low above = refl
not_first octet floor (o ∷ os) low above = ne_eqb o octet (λ e. absurd (omega (arith, ap rank e, low, above)))

pub below_elsewhere : (p : Plan) (os : List ℕ) (floor : ℕ) → IsLow (identifier_in p) floor × IsLow (other_in p) floor → floor < rank_of os → front p os ≡ elsewhere
below_elsewhere p os floor low above =
    near p os (identifier_in p) (other_in p) refl refl (ne_eqb (identifier_in p) 256 (λ e. absurd (omega (arith, e, low.0.0))))
    ∙ octet_elsewhere (identifier_in p) (other_in p) os (not_first (identifier_in p) floor os low.0.1 above) (not_first (other_in p) floor os low.1.1 above)

pub higher : (t : Nodes) (first below floor more : ℕ) → AreBelow t first below floor → floor ≤ more → AreBelow t first below more
higher t first below floor more h le =
    λ k from to. let low = h k from to in ((low.0.0, omega (arith, low.0.1, le)), (low.1.0, omega (arith, low.1.1, le)))

pub one_below : (t : Nodes) (first below floor : ℕ) → AreBelow t first below floor → IsBelow t (first + below) floor → AreBelow t first (below + 1) floor
one_below t first below floor h next =
    λ k from to. elim (cases_lt k (first + below)) [
      | inl before ↦ h k from before
      | inr past ↦ let same : first + below ≡ k = omega (arith, past, to) in subst (λ (k : ℕ). IsBelow t k floor) same next
    ]

pub skipped : (t : Nodes) (first end passed : ℕ) (os : List ℕ) → first + passed ≤ end → end ≤ vec_len t.hots
    → ((k : ℕ) → first ≤ k → k < first + passed → sight_at (spots_in t) k os ≡ elsewhere)
    → member_found (parts_between (spots_in t) (first + passed) (end - (first + passed))) passed os ≡ member_found (parts_between (spots_in t) first (end - first)) 0 os
skipped t first end zero os within room none =
    let same : first + 0 ≡ first = omega arith in
    ap (λ (k : ℕ). member_found (parts_between (spots_in t) k (end - k)) 0 os) same
skipped t first end (suc n) os within room none =
    let next : first + suc n ≡ suc (first + n) = omega arith in
    let rest = member_found (parts_between (spots_in t) (suc (first + n)) (end - suc (first + n))) (suc n) os in
    ap (λ (k : ℕ). member_found (parts_between (spots_in t) k (end - k)) (suc n) os) next
    ∙ sym (member_step t (first + n) end n os (omega (arith, within)) room ∙ ap (λ (f : Front). found_at n f rest) (none (first + n) (omega arith) (omega arith)))
    ∙ skipped t first end n os (omega (arith, within)) room (λ k from to. none k from (omega (arith, to)))

-- ---- octets that begin with a node's identifier octet

pub near_cut : (p : Plan) (os : List ℕ) → identifier_in p < 256 → begins (identifier_in p) os ≡ true → front p os ≡ front_cut (split (after_one os))
near_cut p os octet e =
    near p os (identifier_in p) (other_in p) refl refl (ne_eqb (identifier_in p) 256 (λ is. absurd (omega (arith, is, octet))))
    ∙ octet_there (identifier_in p) (other_in p) os e
