use Rattle.std.proofs.Common.{codes, refl, sym, ap, ◌∙◌}
use Rattle.guard_json.specs.Cutting.{up_to, blank, is_number}
use Rattle.guard_json.specs.Members.{member, number_in, frame_in, link_fault_in}
use Rattle.guard_json.proofs.Drafts.{Adds_is, Adds_two, Adds_nothing, Adds_then, Adds_else}
use Rattle.guard_json.proofs.members.add_link.Goals as goal

pub returns-then-is_number : goal.returns-then-is_number
returns-then-is_number c =
    Adds_two c.number.ensures (ap (λ w. member (codes "link") (number_in w)) c.up_to.ensures)
    (Adds_two (Adds_then _ (Adds_is c.add_frame.ensures (ap frame_in c.behind-rest.ensures))
    (sym (c.is_number.ensures ∙ ap is_number (c.up_to-2.ensures ∙ ap (up_to blank) c.behind-rest.ensures)) ∙ c.if-is_number.true)) refl
    (Adds_nothing _))

pub returns-else-is_number : goal.returns-else-is_number
returns-else-is_number c =
    Adds_two c.number.ensures (ap (λ w. member (codes "link") (number_in w)) c.up_to.ensures)
    (Adds_two (Adds_else _ (Adds_is c.add_link_fault.ensures (ap link_fault_in c.behind-rest.ensures))
    (sym (c.is_number.ensures ∙ ap is_number (c.up_to-2.ensures ∙ ap (up_to blank) c.behind-rest.ensures)) ∙ c.if-is_number.false)) refl
    (Adds_nothing _))
