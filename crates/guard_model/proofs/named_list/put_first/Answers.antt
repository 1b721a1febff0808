use Rattle.std.proofs.Common.{rules, ◌≡◌, ℕ, ℤ, List, Some, false, ap, sym, subst, ◌∙◌}
use Rattle.std.specs.Prelude.{is_some, string_bytes}
use Rattle.std.specs.BTreeMap.{UpdatesBy}
use Rattle.std.specs.Cmp.Lexicographic.{slice_cmp}
use Rattle.std.specs.Ordering.{nat_cmp}
use Rattle.std.proofs.lemmas.Int.{to_z-of_z}
use mir.Syntax.{w128}
use mir.Val.{SFits, to_z, of_z}
use Rattle.guard_model.specs.NamedLists.{named_view}
use Rattle.guard_model.specs.inside.NamedOrders.{number_at}
use Rattle.guard_model.proofs.NamedOrders.{by_octets, put}
use Rattle.guard_model.proofs.named_list.put_first.Goals as goal

pub returns : goal.returns
returns c = λ name.
    let before = c.args.numbers.now in
    let after = c.insert.new.self in
    let number = c.args.entry.now.number in
    let fit : SFits w128 number = search rules in
    let same : c.in_ok-from_slice.field-0.items ≡ string_bytes c.args.entry.now.name = c.in_ok-from_slice.ensures.items ∙ c.as_bytes-name.ensures.value in
    let none = ap (λ (bs : List ℕ). is_some (number_at before bs)) (sym c.as_bytes-name.ensures.value) ∙ sym c.contains_key.ensures ∙ c.if-contains_key.false in
    let updates : UpdatesBy by_octets (λ k. slice_cmp nat_cmp (string_bytes c.args.entry.now.name) k.items) before after (Some (to_z w128 (of_z w128 number))) =
    subst (λ (bs : List ℕ). UpdatesBy by_octets (λ k. slice_cmp nat_cmp bs k.items) before after (Some (to_z w128 (of_z w128 number)))) same c.in_ok-insert.ensures.updates in
    put before after (named_view c.args.entry.now) name none
    (subst (λ (z : ℤ). UpdatesBy by_octets (λ k. slice_cmp nat_cmp (string_bytes c.args.entry.now.name) k.items) before after (Some z)) (to_z-of_z w128 number fit) updates)
