use Rattle.std.proofs.Common.{None, Some, sym, ◌∙◌, ap, option_map}
use Rattle.guard_names.specs.Meanings.{number_meant_from}
use Rattle.guard_names.specs.NamesView.{modules_of, order_of}
use Rattle.guard_tagging.specs.ScopeView.{meaning_view, done_view}
use Rattle.guard_tagging.proofs.Definitions.AtPlaces.{known_placed}
use Rattle.guard_tagging.proofs.scope.Scope.referred.Goals as goal

pub returns-in_err-place : goal.returns-in_err-place
returns-in_err-place c =
    let s = c.args.self.now in
    ap (option_map meaning_view) c.from_residual-in_err-place.ensures
    ∙ sym (known_placed (order_of s.names.now) (done_view s.done) (number_meant_from (modules_of s.names.now) s.id c.args.name.now)
    c.in_ok-id.id None (sym c.meaning_from.ensures ∙ c.in_ok-id.was)
    (sym c.place.ensures.computed ∙ c.in_err-place.was))

pub returns : goal.returns
returns c =
    let s = c.args.self.now in
    c.at.ensures
    ∙ sym (known_placed (order_of s.names.now) (done_view s.done) (number_meant_from (modules_of s.names.now) s.id c.args.name.now)
    c.in_ok-id.id (Some c.in_ok-place.place)
    (sym c.meaning_from.ensures ∙ c.in_ok-id.was)
    (sym c.place.ensures.computed ∙ c.in_ok-place.was))
