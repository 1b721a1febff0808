-- What comes to a sink behind one of plain lines.
use Rattle.std.proofs.Common.{◌≡◌, ◌∙◌, ℕ, Bool, true, false, List, [], Option, ap, sym, subst}
use Rattle.std.specs.Io.KnownBytes.{Appends}
use Rattle.guard_files.specs.Devices.{Device, device}
use Rattle.guard_json.specs.Taken.{IsJsonOf, told, lines_begin, lines_taken_by}
use Rattle.guard_json.proofs.Takings.{json_came}
use Rattle.derguard_program.specs.AsJson.{ComesAsJson}
use Rattle.derguard_program.specs.Meeting.{ComesBy}

-- The sink behind ends as what the sink of lines has, where that is still the one that was given.
pub comes_as_json : {S : Type 0} (taken : S → Option (List ℕ)) (old new now : S) (name name₁ : ℕ) (torn : Bool) (written : ℕ) (begun : List ℕ)
    (plain : Device) (failed : Bool) → plain.before ≡ lines_begin name (taken old)
    → plain.after ≡ lines_taken_by name₁ torn written begun (taken now) → plain.failed ≡ torn → (name₁ ≡ name → new ≡ now)
    → ComesAsJson plain (device (taken old) (taken new) failed)
comes_as_json taken old new now name name₁ torn written begun plain failed begins ends torn_is same =
    record {
      tells = λ before e. (told name before [] [], begins ∙ ap (lines_begin name) e);
      comes = λ before text e h.
          let put = subst (λ o. Appends o (lines_taken_by name₁ torn written begun (taken now)) text) (begins ∙ ap (lines_begin name) e)
          (subst (λ o. Appends plain.before o text) ends h) in
          let j = json_came name name₁ torn written begun before (taken now) text put in
          (j.since, ap taken (same j.same) ∙ j.grew, subst (λ t. IsJsonOf t j.since text) (sym torn_is) j.json);
    }

pub by_lines : (b : Bool) (plain : Device) {real : Device} → b ≡ true → ComesAsJson plain real → ComesBy b plain real
by_lines true plain e h = h
by_lines false plain e h = absurd cc
