use Rattle.std.proofs.Common.{sym, ◌∙◌, ap, option_map}
use Rattle.guard_names.proofs.Declared.LookedUp.{read}
use Rattle.guard_tagging.proofs.Definitions.AtPlaces.{no_type, no_flag, type_and_flag}
use Rattle.guard_tagging.proofs.scope.Done.at.Goals as goal

pub returns-in_err-shared : goal.returns-in_err-shared
returns-in_err-shared c =
    no_type c.args.self.now.types.now c.args.self.now.automatic.now c.args.place c.from_residual.result c.from_residual.ensures
    (sym (ap (option_map (λ x. x.now)) c.in_err-shared.was)
    ∙ read c.args.self.now.types.now c.args.place c.get.result c.get.ensures.lookup)

pub returns-in_err-is_automatic : goal.returns-in_err-is_automatic
returns-in_err-is_automatic c =
    no_flag c.args.self.now.types.now c.args.self.now.automatic.now c.args.place c.from_residual-in_err-is_automatic.result c.from_residual-in_err-is_automatic.ensures
    (sym (ap (option_map (λ x. x.now)) c.in_err-is_automatic.was)
    ∙ read c.args.self.now.automatic.now c.args.place c.get-2.result c.get-2.ensures.lookup)

pub returns : goal.returns
returns c =
    rw c.deref.ensures (type_and_flag c.args.self.now.types.now c.args.self.now.automatic.now c.args.place c.in_ok-shared.shared.now c.in_ok-is_automatic.field-0.now
    (sym (ap (option_map (λ x. x.now)) c.in_ok-shared.was)
    ∙ read c.args.self.now.types.now c.args.place c.get.result c.get.ensures.lookup)
    (sym (ap (option_map (λ x. x.now)) c.in_ok-is_automatic.was)
    ∙ read c.args.self.now.automatic.now c.args.place c.get-2.result c.get-2.ensures.lookup))
