use Rattle.std.proofs.Common.{◌≡◌, ◌∙◌, sym, subst, None, Some}
use Rattle.std.proofs.lemmas.Str.{IsUtf8-string_bytes}
use Rattle.std.specs.Prelude.{string_bytes}
use Rattle.guard_values.proofs.SingleValues.CharactersInTurn.{text_in, is_read, is_not_read, not_spelled}
use Rattle.guard_values.proofs.simple.text_of.Goals as goal

pub returns-in_default : goal.returns-in_default
returns-in_default c = not_spelled c.args.kind c.args.octets.items c.in_default.ensures.succeeds

pub returns-then-has_all : goal.returns-then-has_all
returns-then-has_all c =
    subst (λ v. Some (string_bytes c.in-Ok.text) ≡ text_in c.args.kind v.items) c.in-Ok.ensures.ok
    (is_read c.args.kind (string_bytes c.in-Ok.text) (IsUtf8-string_bytes c.in-Ok.text) (rw c.deref.ensures at (sym c.has_all.ensures ∙ c.if-has_all.true)))

pub returns-else-has_all : goal.returns-else-has_all
returns-else-has_all c =
    subst (λ v. None ≡ text_in c.args.kind v.items) c.in-Ok.ensures.ok
    (is_not_read c.args.kind (string_bytes c.in-Ok.text) (IsUtf8-string_bytes c.in-Ok.text) (rw c.deref.ensures at (sym c.has_all.ensures ∙ c.if-has_all.false)))
