use Rattle.std.proofs.Common.{rules, ◌≡◌, sym, ◌∙◌, Some, None}
use Rattle.guard_policy.specs.inside.Listings.{listed_view}
use Rattle.guard_policy.specs.KeptView.{kept_message_view}
use Rattle.guard_policy.specs.PolicyView.{policy_view}
use Rattle.guard_policy.proofs.Keeping.{place_found}
use Rattle.guard_policy.proofs.Listed.{viewed, item_there, listed_nothing, listed_type}
use Rattle.guard_policy.proofs.policy.Policy.found.Goals as goal

pub returns-in_err-listed-clause-listed : goal.returns-in_err-listed-clause-listed
returns-in_err-listed-clause-listed c =
    let p = policy_view c.args.self.now in
    let name = c.args.message.now in
    let gone : c.from_residual.result ≡ None = search rules in
    rw gone (sym (listed_nothing p.messages p.rules name (sym (c.args.self.now.kept.indexed name) ∙ sym c.in_err-listed.ensures)))

pub returns-in_err-found-clause-listed : goal.returns-in_err-found-clause-listed
returns-in_err-found-clause-listed c =
    let p = policy_view c.args.self.now in
    let name = c.args.message.now in
    let l = c.in_ok-listed.listed.now in
    let gone : c.from_residual-in_err-found.result ≡ None = search rules in
    rw gone (sym (listed_type p.messages p.rules name (listed_view l) None (sym (c.args.self.now.kept.indexed name) ∙ sym c.in_ok-listed.ensures)
    (sym (viewed kept_message_view c.args.self.now.kept.messages.items l.place None (rw c.deref.ensures.value at c.in_err-found.ensures.lookup)))))

pub returns-clause-listed : goal.returns-clause-listed
returns-clause-listed c =
    let p = policy_view c.args.self.now in
    let name = c.args.message.now in
    let l = c.in_ok-listed.listed.now in
    rw c.deref-2.ensures.value
    (sym (listed_type p.messages p.rules name (listed_view l) (Some (kept_message_view c.in_ok-found.found.now)) (sym (c.args.self.now.kept.indexed name) ∙ sym c.in_ok-listed.ensures)
    (sym (viewed kept_message_view c.args.self.now.kept.messages.items l.place (Some c.in_ok-found.found) (rw c.deref.ensures.value at c.in_ok-found.ensures.lookup)))))

pub returns-clause-first : goal.returns-clause-first
returns-clause-first c =
    let p = policy_view c.args.self.now in
    let name = c.args.message.now in
    let messages = c.args.self.now.kept.messages.items in
    let at = rw c.deref.ensures.value at c.in_ok-found.ensures.lookup in
    record {
      place = c.in_ok-listed.listed.now.place;
      first = place_found p.messages p.rules name (Some c.in_ok-listed.listed) (c.in_ok-listed.ensures ∙ c.args.self.now.kept.indexed name);
      there = sym (item_there messages c.in_ok-listed.listed.now.place (Some c.in_ok-found.found) at);
    }
