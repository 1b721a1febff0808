use Rattle.std.proofs.Common.{inl, inr, refl, sym, ap, ◌∙◌}
use Rattle.guard_schema.specs.Faults.{DefaultOutside}
use Rattle.guard_schema.proofs.Built.Readings.{site_there}
use Rattle.guard_schema.proofs.readings.read_member.Goals as goal

pub returns-else-is_member-clause-read : goal.returns-else-is_member-clause-read
returns-else-is_member-clause-read c =
    inl (
      _,
      c.in_ok-found.ensures.read,
      inr (
        _,
        (ap (λ s. DefaultOutside s) (sym (site_there c.args.tree.now)), rw c.deref.ensures at (sym c.in_ok-is_member.ensures ∙ c.if-is_member.false)),
        refl,
      ),
    )
