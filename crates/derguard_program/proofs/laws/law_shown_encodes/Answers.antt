use Rattle.std.proofs.Common.{◌≡◌, ◌∙◌, ℕ, List, [], Option, Some, ap, sym}
use Rattle.std.specs.Prelude.{unwrap_or}
use Rattle.guard_der.specs.Der.{der}
use Rattle.guard_report.specs.Shown.{value_shown}
use Rattle.derguard_program.proofs.laws.law_shown_encodes.Goals as goal

pub returns-clause-there : goal.returns-clause-there
returns-clause-there c m t octets v sound names fit seen short few encoded =
    record { value = c.law_shown_reads_back.ensures m t octets v sound names fit seen short few; encoded = encoded }

pub returns-clause-one : goal.returns-clause-one
returns-clause-one c m t octets v sound names fit seen short few encoded w others is =
    let same = c.law_one_value_of_text.ensures m t (value_shown t octets v) w v is.value (c.law_shown_reads_back.ensures m t octets v sound names fit seen short few) in
    let both : Some others ≡ Some octets = sym is.encoded ∙ ap (der t) same ∙ encoded in
    ap (λ (o : Option (List ℕ)). unwrap_or o []) both
