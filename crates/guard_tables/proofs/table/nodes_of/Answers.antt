use Rattle.std.proofs.Common.{List, ◌∷◌, ap, ◌∙◌, subst, length, ◌≤◌, sym, ℕ}
use Rattle.std.specs.Borrow.{Bor}
use Rattle.guard_model.specs.TypeView.{type_view}
use Rattle.guard_model.specs.declared.ty.Ty.{Ty}
use Rattle.guard_tables.specs.Tables.{types_view, most_rules}
use Rattle.guard_tables.specs.inside.DemandViews.{slot_demands_view}
use Rattle.guard_tables.specs.inside.Sharing.{demands_by}
use Rattle.guard_tables.proofs.OfTables.{kept_apt, kept_room, kept_stand, kept_types, few_places}
use Rattle.guard_tables.proofs.table.nodes_of.Goals as goal

pub demands_of-requires : goal.demands_of-requires
demands_of-requires c =
    subst (λ (ps : List ℕ). length ps ≤ most_rules) (sym c.deref-2.ensures.value)
    (few_places (type_view c.args.declared.now) (types_view c.args.rules.now) c.in_ok-sharing.sharing.places.items c.requires c.in_ok-sharing.ensures.places)

pub lay_nodes-requires-clause-apt : goal.lay_nodes-requires-clause-apt
lay_nodes-requires-clause-apt c =
    let d = type_view c.args.declared.now in
    let s = c.in_ok-sharing.sharing in
    kept_apt d (types_view c.args.rules.now) (types_view s.others.items) s.places.items (slot_demands_view c.deref-3.result.now) c.requires
    (ap slot_demands_view c.deref-3.ensures.value ∙ c.in_ok-demands.ensures ∙ ap (λ (ts : List (Bor Ty)). demands_by 0 (d ∷ types_view ts) (0 ∷ c.deref-2.result.now)) c.deref.ensures.value ∙ ap (λ (ps : List ℕ). demands_by 0 (d ∷ types_view s.others.items) (0 ∷ ps)) c.deref-2.ensures.value)
    c.in_ok-sharing.ensures.others c.in_ok-sharing.ensures.places

pub lay_nodes-requires-clause-room : goal.lay_nodes-requires-clause-room
lay_nodes-requires-clause-room c =
    let d = type_view c.args.declared.now in
    let s = c.in_ok-sharing.sharing in
    kept_room d (types_view c.args.rules.now) (types_view s.others.items) s.places.items (slot_demands_view c.deref-3.result.now) c.requires
    (ap slot_demands_view c.deref-3.ensures.value ∙ c.in_ok-demands.ensures ∙ ap (λ (ts : List (Bor Ty)). demands_by 0 (d ∷ types_view ts) (0 ∷ c.deref-2.result.now)) c.deref.ensures.value ∙ ap (λ (ps : List ℕ). demands_by 0 (d ∷ types_view s.others.items) (0 ∷ ps)) c.deref-2.ensures.value)
    c.in_ok-sharing.ensures.others c.in_ok-sharing.ensures.places

pub returns-clause-stands : goal.returns-clause-stands
returns-clause-stands c =
    let d = type_view c.args.declared.now in
    let s = c.in_ok-sharing.sharing in
    kept_stand c.in_ok-nodes.nodes d (types_view c.args.rules.now) (types_view s.others.items) s.places.items (slot_demands_view c.deref-3.result.now) c.requires
    (ap slot_demands_view c.deref-3.ensures.value ∙ c.in_ok-demands.ensures ∙ ap (λ (ts : List (Bor Ty)). demands_by 0 (d ∷ types_view ts) (0 ∷ c.deref-2.result.now)) c.deref.ensures.value ∙ ap (λ (ps : List ℕ). demands_by 0 (d ∷ types_view s.others.items) (0 ∷ ps)) c.deref-2.ensures.value)
    c.in_ok-sharing.ensures.others c.in_ok-sharing.ensures.places c.in_ok-nodes.ensures

pub returns-clause-types : goal.returns-clause-types
returns-clause-types c =
    kept_types (type_view c.args.declared.now) (types_view c.args.rules.now) (types_view c.in_ok-sharing.sharing.others.items) c.in_ok-sharing.sharing.places.items
    c.in_ok-sharing.ensures.others c.in_ok-sharing.ensures.places
