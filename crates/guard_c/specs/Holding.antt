-- What a handle holds, as the definitions see it.
use Rattle.std.specs.Prelude.{List, ℕ, [], Option, Some, None, option_and_then}
use Rattle.std_alloc.specs.Arc.{arc_value}
use Rattle.guard_policy.specs.Policies.{AbstractPolicy}
use Rattle.guard_policy.specs.PolicyView.{policy_view}
use Rattle.guard_frames.specs.LinkView.{AbstractLink, link_view, new_link}
use Rattle.guard_frames.specs.KeptView.{kept_octets}
use Rattle.guard_c.specs.declared.held.Held.{Held}
use Rattle.guard_c.specs.declared.held.Held.TheVariants.{Policy, Link}
use Rattle.guard_c.specs.declared.held.HeldLink.{HeldLink}

-- a link, and the lines that were reported of its frames and aren't fetched yet
pub record AbstractHeldLink : Type 0 where
  pub link : AbstractLink
  pub reports : List ℕ

abbrev pub held_link_view : HeldLink → AbstractHeldLink
held_link_view l = record { link = link_view l.link; reports = kept_octets l.reports }

-- an open link before its first frame
abbrev pub new_held_link : AbstractHeldLink
new_held_link = record { link = new_link; reports = [] }

abbrev pub policy_in : Held → Option AbstractPolicy
policy_in (Policy owner) = Some (policy_view (arc_value owner))
policy_in (Link l) = None

abbrev pub link_in : Held → Option AbstractHeldLink
link_in (Policy owner) = None
link_in (Link l) = Some (held_link_view l)

-- what a handle holds that may hold nothing
abbrev pub policy_of : Option Held → Option AbstractPolicy
policy_of kept = option_and_then policy_in kept

abbrev pub link_of : Option Held → Option AbstractHeldLink
link_of kept = option_and_then link_in kept
