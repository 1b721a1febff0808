use Rattle.std.proofs.Common.{◌∙◌, sym, ap}
use Rattle.guard_model.specs.TypeView.{type_view, kind_view}
use Rattle.guard_model.specs.declared.ty.Kind.TheViews.{out-Ty}
use Rattle.guard_tagcheck.specs.FirstTags.{begins_with}
use Rattle.guard_der.specs.Reading.{alone_at, element_at}
use Rattle.guard_der.proofs.Functions.Decoding.{whole, message_is, tags_proper}
use Rattle.guard_der.proofs.Functions.SoundTypes.{sound_proper}
use Rattle.guard_der.proofs.decoding.message.Goals as goal

pub returns-in-Ok : goal.returns-in-Ok
returns-in-Ok c =
    message_is c.args.ty.now c.args.octets.now ∙ ap (λ ts. alone_at (begins_with (whole ts (kind_view (out-Ty c.args.ty.now).kind))) (element_at (whole ts (kind_view (out-Ty c.args.ty.now).kind))) 0 c.args.octets.now) (sym c.deref.ensures.value)
    ∙ c.in-Ok.ensures

pub returns-in-Err-Breach : goal.returns-in-Err-Breach
returns-in-Err-Breach c =
    message_is c.args.ty.now c.args.octets.now ∙ ap (λ ts. alone_at (begins_with (whole ts (kind_view (out-Ty c.args.ty.now).kind))) (element_at (whole ts (kind_view (out-Ty c.args.ty.now).kind))) 0 c.args.octets.now) (sym c.deref.ensures.value)
    ∙ (rw c.in-Err-Breach.field-0-is at c.in-Err-Breach.ensures)

pub alone-requires-clause-proper : goal.alone-requires-clause-proper
alone-requires-clause-proper c = tags_proper c.args.ty.now c.deref.result.now c.deref.ensures.value (sound_proper (type_view c.args.ty.now) c.requires)
