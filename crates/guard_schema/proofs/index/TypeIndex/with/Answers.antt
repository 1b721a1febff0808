use Rattle.std.proofs.Common.{ℕ, Option, map, option_and_then, ap, sym, ◌∙◌}
use Rattle.std.specs.Option.{option_or}
use Rattle.guard_schema.specs.Entries.{looked_up, first_place}
use Rattle.guard_schema.specs.Views.{entry_view, found_in}
use Rattle.guard_schema.proofs.ByNames.Lookups.{renewed, own_named}
use Rattle.guard_schema.proofs.ByNames.Definitions.{all_own}
use Rattle.guard_schema.proofs.index.TypeIndex.with.Goals as goal
use Rattle.guard_schema.proofs.index.TypeIndex.with.Goals.{in-Some, in-None}

pub returns : goal.returns
returns c = λ home name.
    let own = map entry_view c.args.definitions.now in
    renewed (λ key. key.items) (λ n places. looked_up (λ key. key.items) n places.entries) c.args.home.now
    c.args.self.homes.entries c.shift_remove.new.self.entries c.insert.new.self.entries c.in_ok-from_slice.field-0
    c.in_ok-places.places c.shift_remove.result (λ n. first_place n own)
    c.shift_remove.ensures.value
    c.shift_remove.ensures.entries c.in_ok-insert.ensures.entries
    c.in_ok-from_slice.ensures.items
    (λ n. c.in_ok-places.ensures n
    ∙ ap (λ (o : Option (Option ℕ)). option_or o (first_place n own))
    (elim c.match-shift_remove.branch [
      | in-Some w ↦ ap (λ places. looked_up (λ key. key.items) n places.entries) w.places-is
          ∙ ap (option_and_then (λ places. looked_up (λ key. key.items) n places.entries)) (sym w.in-Some.is)
      | in-None w ↦ ap (λ places. looked_up (λ key. key.items) n places.entries) w.places-is
          ∙ ap (looked_up (λ key. key.items) n) w.new-places.ensures.empty
          ∙ ap (option_and_then (λ places. looked_up (λ key. key.items) n places.entries)) (sym w.in-None.is)
    ])) home name
    ∙ ap (option_or (found_in c.args.self home name))
    (sym (own_named c.args.home.now home name own (all_own c.args.home.now c.args.definitions.now c.requires)))
