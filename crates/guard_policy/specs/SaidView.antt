-- The messages and rules that those of the code represent, as they are said.
use Rattle.guard_model.specs.TypeView.{type_view}
use Rattle.guard_policy.specs.declared.policy.SaidRule.{SaidRule}
use Rattle.guard_policy.specs.declared.said.SaidMessage.{SaidMessage}
use Rattle.guard_policy.specs.Policies.{AbstractMessage, AbstractRule}

abbrev pub said_message_view : SaidMessage → AbstractMessage
said_message_view m = record { name = m.name.now; home = m.home.now; ty = type_view m.ty.now }

abbrev pub said_view : SaidRule → AbstractRule
said_view r = record {
  name = r.name.now;
  effect = r.effect;
  from = r.from.now;
  to = r.to.now;
  message = r.message.now;
  home = r.home.now;
  type_name = r.type_name.now;
  ty = type_view r.ty.now;
}
