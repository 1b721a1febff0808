-- The octets of arcs, one arc after the other.
use Rattle.std.proofs.Common.{◌≡◌, ℕ, suc, ◌+◌, ◌-◌, ◌*◌, ◌<◌, ◌≤◌, List, [], ◌∷◌, ◌++◌, length, take, drop, get_or, flat_map, ap, sym, ◌∙◌, append_assoc, arith}
use Rattle.std.proofs.Math.Seq.{drop-cons}
use Rattle.std.proofs.lemmas.List.{take_all}
use Rattle.guard_der.specs.Octets.{base_128}
use Rattle.guard_der.specs.Contents.{arcs_octets}

first_two : (arcs : List ℕ) → 2 ≤ length arcs → base_128 (40 * get_or arcs 0 0 + get_or arcs 1 0) ++ flat_map base_128 (take (length arcs - 2) (drop 2 arcs)) ≡ arcs_octets arcs
first_two [] h = absurd (omega arith)
first_two (x ∷ []) h = absurd (omega arith)
first_two (x ∷ y ∷ arcs) h =
    let n : length arcs ≤ length (x ∷ y ∷ arcs) - 2 = omega arith in
    ap (λ (zs : List ℕ). base_128 (40 * x + y) ++ flat_map base_128 zs) (take_all (length (x ∷ y ∷ arcs) - 2) arcs n)

pub first_written : (arcs new out : List ℕ) → 2 ≤ length arcs → new ≡ [] → out ≡ new ++ base_128 (40 * get_or arcs 0 0 + get_or arcs 1 0) → out ++ flat_map base_128 (take (length arcs - 2) (drop 2 arcs)) ≡ arcs_octets arcs
first_written arcs new out le none first = rw (first, none) (first_two arcs le)

pub one_more : (xs : List ℕ) (i : ℕ) (before after whole : List ℕ) → i < length xs → after ≡ before ++ base_128 (get_or xs i 0) → before ++ flat_map base_128 (drop i xs) ≡ whole → after ++ flat_map base_128 (drop (i + 1) xs) ≡ whole
one_more xs i before after whole lt new old =
    let e : i + 1 ≡ suc i = omega arith in
    rw (new, e) (append_assoc before _ _ ∙ ap (λ (ys : List ℕ). before ++ flat_map base_128 ys) (sym (drop-cons xs i 0 lt)) ∙ old)
