use Rattle.std.proofs.Common.{subst}
use Rattle.std.specs.Prelude.{IfSome, IsTrue}
use Rattle.guard_der.specs.Sound.{is_sound}
use Rattle.reads_back.specs.Names.{HasNames}
use Rattle.reads_back.proofs.laws.law_schema_reads_back.Goals as goal

pub returns-clause-text : goal.returns-clause-text
returns-clause-text c texts s a home name t is meaning layout v =
    c.law_reads_back.ensures meaning layout t v
    (subst (λ o. IfSome o (λ u. IsTrue (is_sound u))) is (c.law_types_have_names.ensures.sound texts s a home name))
    (subst (λ o. IfSome o HasNames) is (c.law_types_have_names.ensures.names texts s a home name))

pub returns-clause-shown : goal.returns-clause-shown
returns-clause-shown c texts s a home name t is meaning octets v =
    c.law_shown_reads_back.ensures meaning t octets v
    (subst (λ o. IfSome o (λ u. IsTrue (is_sound u))) is (c.law_types_have_names.ensures.sound texts s a home name))
    (subst (λ o. IfSome o HasNames) is (c.law_types_have_names.ensures.names texts s a home name))
