-- Octets that are put, one after another.
use Rattle.std.proofs.Common.{◌≡◌, ℕ, Bool, true, List, ◌++◌, subst}
use Rattle.std.specs.Prelude.{Option, Result, Ok, Err, OnOk, OnErr}
use Rattle.std.specs.Result.{IsErrAnd}
use Rattle.std.specs.Io.KnownBytes.{Appends}
use Rattle.guard_frames.specs.declared.devices.Failed.{Failed}
use Rattle.guard_frames.specs.Prefix.{IsProperPrefix}
use Rattle.guard_frames.proofs.Appending.{Appends_trans, Prefix_first, Prefix_second}
use Rattle.guard_files.specs.Devices.{Device, device}
use Rattle.guard_files.specs.Writing.{TookPart}
use Rattle.guard_streams.specs.inside.Putting.{Puts}

-- what a call of a device tells
pub puts : (x octets : List ℕ) (put : Result (Unit {0}) Failed) (sink : Device) → x ≡ octets
    → OnOk put (Appends sink.before sink.after x)
    → OnErr put ((part : List ℕ) × IsProperPrefix part x × Appends sink.before sink.after part)
    → OnErr put (sink.failed ≡ true) → Puts octets put sink
puts x octets (Ok done) sink is all part failed = subst (Appends sink.before sink.after) is all
puts x octets (Err f) sink is all part failed = (part.0, subst (IsProperPrefix part.0) is part.1, part.2, failed)

-- behind octets that the sink took
pub puts_behind : (first second : List ℕ) (put : Result (Unit {0}) Failed) (a b c : Option (List ℕ)) (failed : Bool)
    → Appends a b first → Puts second put (device b c failed) → Puts (first ++ second) put (device a c failed)
puts_behind first second (Ok done) a b c failed h k = Appends_trans a b c first second h k
puts_behind first second (Err f) a b c failed h k =
    (first ++ k.0, Prefix_second k.0 first second k.1, Appends_trans a b c first k.0 h k.2, k.3)

-- before octets that don't come then
pub part_first : (first second : List ℕ) (sink : Device) → TookPart first sink → TookPart (first ++ second) sink
part_first first second sink h = (h.0, Prefix_first h.0 first second h.1, h.2, h.3)

-- what the exit of a `?` returns
pub puts_part : (Q : Failed → Type 0) (octets : List ℕ) (put : Result (Unit {0}) Failed) (sink : Device)
    → IsErrAnd put Q → TookPart octets sink → Puts octets put sink
puts_part Q octets (Ok done) sink is h = absurd is
puts_part Q octets (Err f) sink is h = h
