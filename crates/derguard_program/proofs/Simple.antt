-- The command line is one of which clap says all.
use Rattle.std.proofs.Common.{◌≡◌, true, refl}
use Rattle.clap.specs.Faults.{is_simple_and_free}
use Rattle.derguard_program.specs.Words.{the_app}

pub the_app_simple : is_simple_and_free the_app ≡ true
the_app_simple = refl
