use Rattle.std.proofs.Common.{◌∙◌, ◌++◌, ℕ, List, ap, sym}
use Rattle.std.proofs.lemmas.List.{append-nil, drop_all}
use Rattle.guard_authors.specs.Testing.{digits_in}
use Rattle.guard_authors.proofs.testing.digits_in.Goals as goal

pub returns : goal.returns
returns c =
    let done = c.loop-octet.digits.items in
    let octets = c.as_bytes-octets.result.now in
    sym (append-nil done)
    ∙ ap (λ (rest : List ℕ). done ++ digits_in rest) (sym (drop_all c.loop-octet.octet-index octets c.loop-octet-test.false))
    ∙ c.loop-octet.invariant
    ∙ ap digits_in c.as_bytes-octets.ensures.value
