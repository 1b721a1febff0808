-- The names with their lengths are the route's text, once each length is replaced.
use Rattle.std.proofs.Common.{◌≡◌, ◌∙◌, ℕ, ◌+◌, List, [], ◌∷◌, ◌++◌, ap, append_assoc, arith, length, sym, slice_set}
use Rattle.std.specs.Prelude.{codes}
use Rattle.std.proofs.lemmas.List.{length-append, set_at}
use Rattle.guard_policy.specs.NamedRoutes.{route_octets}
use Rattle.guard_policy.specs.Policies.{AbstractRoute}
use Rattle.guard_policy.specs.PolicyView.{route_view}
use Rattle.guard_report.specs.Lines.{route_text}
use Rattle.guard_report.proofs.lines.add_names.Goals as goal

replaced : (old : List ℕ) (r : AbstractRoute) (start : ℕ) → length old ≡ start
    → slice_set (slice_set (slice_set (old ++ route_octets r) start 32) (start + 1 + length r.from) 62) (start + 1 + length r.from + 1 + length r.to) 32
    ≡ old ++ 32 ∷ route_text r
replaced old r start long =
    let name = length r.message ∷ r.message in
    let to = length r.to ∷ (r.to ++ name) in
    let first = old ++ 32 ∷ r.from in
    let second = first ++ 62 ∷ r.to in
    let middle = start + 1 + length r.from in
    let end = middle + 1 + length r.to in
    let one : length first ≡ middle = omega (arith, length-append old (32 ∷ r.from), long) in
    let two : length second ≡ end = omega (arith, length-append first (62 ∷ r.to), one) in
    ap (λ (xs : List ℕ). slice_set (slice_set xs middle 62) end 32)
    (set_at old (length r.from) (r.from ++ to) 32 start long ∙ sym (append_assoc old (32 ∷ r.from) to))
    ∙ ap (λ (xs : List ℕ). slice_set xs end 32)
    (set_at first (length r.to) (r.to ++ name) 62 middle one ∙ sym (append_assoc first (62 ∷ r.to) name))
    ∙ set_at second (length r.message) r.message 32 end two
    ∙ ap (λ (xs : List ℕ). xs ++ 32 ∷ r.message) (append_assoc old (32 ∷ r.from) (62 ∷ r.to))
    ∙ append_assoc old (32 ∷ r.from ++ 62 ∷ r.to) (32 ∷ r.message)
    ∙ ap (λ (xs : List ℕ). old ++ 32 ∷ xs)
    (ap (λ (xs : List ℕ). xs ++ 32 ∷ r.message) (sym (append_assoc r.from (62 ∷ []) r.to))
    ∙ sym (append_assoc (r.from ++ codes ">" ++ r.to) (32 ∷ []) r.message))

pub returns : goal.returns
returns c =
    rw (c.in_ok-extend_from_slice.ensures.items, c.requires)
    (replaced c.args.line.now.items (route_view c.args.route.now) c.len-start.result (sym (c.len-start.ensures ∙ c.args.line.now.ok.0)))
