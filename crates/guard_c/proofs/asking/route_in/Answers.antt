use Rattle.std.proofs.Common.{rules, ◌≡◌, ◌∙◌, ◌==◌, ap, sym, length, List, ℕ}
use Rattle.std.proofs.lemmas.Bool.{false≢true}
use Rattle.guard_frames.specs.Bodies.{body_view}
use Rattle.guard_c.proofs.Naming.{no_names, names_alone, are_names, empty_list}
use Rattle.guard_c.proofs.asking.route_in.Goals as goal

pub returns-in_err-body : goal.returns-in_err-body
returns-in_err-body c = rw c.from_residual.ensures (no_names c.args.names.now c.in_err-body.ensures)

pub returns-then-not-is_empty : goal.returns-then-not-is_empty
returns-then-not-is_empty c route are =
    let alone = names_alone c.args.names.now (body_view c.in_ok-body.body) c.in_ok-body.ensures route are in
    false≢true (sym c.if-not-is_empty.true ∙ c.is_empty.ensures ∙ ap (λ (xs : List ℕ). length xs == 0) alone)

pub returns : goal.returns
returns c =
    let none : length c.in_ok-body.body.message_octets.now ≡ 0 = search rules in
    rw c.route_of.ensures (are_names c.args.names.now (body_view c.in_ok-body.body) c.in_ok-body.ensures (empty_list c.in_ok-body.body.message_octets.now none))
