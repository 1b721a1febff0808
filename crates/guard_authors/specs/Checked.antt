-- What comes of `check`: whether a policy and its modules are accepted, and what is said of it then.
use Rattle.std.specs.Prelude.{◌⊎◌, ℕ, Bool, ◌&&◌, ◌||◌, true, false, List, [], ◌∷◌, ◌++◌, codes, decimal, length, if◌then◌else◌}
use Rattle.hex.specs.Hex.{encode_lower}
use Rattle.guard_policy.specs.Policies.{AbstractPolicy}
use Rattle.guard_files.specs.declared.fault.Fault.{Fault}
use Rattle.guard_files.specs.Devices.{Input, Device, IsUnread, IsUntouched}
use Rattle.guard_files.specs.Digest.{IsNumberedAt}
use Rattle.guard_files.specs.Explaining.{IsNoPolicyWith, TellsWith}
use Rattle.guard_files.specs.Files.{Told}
use Rattle.guard_files.specs.Remarked.{AbstractRemarked, WritesRemarked}
use Rattle.guard_files.specs.Writing.{TellsNoMemory, TellsText}
use Rattle.guard_authors.specs.declared.checking.Checking.{Checking}
use Rattle.guard_authors.specs.Listing.{listing, strict_remarks}

-- What the words ask for of the policy at a path: that it is listed or a fault explained, that remarks count, and the
-- number of its texts.
pub record AbstractChecking : Type 0 where
  pub policy : List ℕ
  pub explain : Bool
  pub strict : Bool
  pub digest : Bool

abbrev pub checking_view : Checking → AbstractChecking
checking_view c = record { policy = c.policy.now; explain = c.explain; strict = c.strict; digest = c.digest }

-- ---- of a policy that is accepted

abbrev pub counts_text : AbstractPolicy → List ℕ
counts_text p =
    codes "ok: messages "
    ++ (decimal (length p.messages) ++ (codes ", rules " ++ (decimal (length p.rules) ++ codes "\n")))

-- the number of its texts, in hexadecimal digits; or to explain it each message with its rules
abbrev pub below_counts : AbstractChecking → AbstractPolicy → List ℕ → List ℕ
below_counts asked p digest =
    if asked.digest then codes "digest " ++ encode_lower digest ++ codes "\n"
    else if asked.explain then listing p
    else []

abbrev pub remarks_text : Bool → AbstractPolicy → List ℕ
remarks_text strict p = if strict then strict_remarks p else []

abbrev pub remarked_status : List ℕ → ℕ
remarked_status [] = 0
remarked_status (c ∷ cs) = 1

abbrev pub checked : AbstractChecking → AbstractPolicy → List ℕ → AbstractRemarked
checked asked p digest =
    record {
      out = counts_text p ++ below_counts asked p digest;
      remarks = remarks_text asked.strict p;
      status = remarked_status (remarks_text asked.strict p);
    }

-- ---- of any

-- what is reported where `--digest` doesn't stand alone
abbrev pub not_alone : List ℕ
not_alone =
    codes "error: the argument '--digest' cannot be used with '--explain' or '--strict'\n\nFor more information, try '--help'."

abbrev pub asks_too_much : AbstractChecking → Bool
asks_too_much asked = asked.digest && (asked.explain || asked.strict)

-- why there is no policy at the path, explained where that is asked for
abbrev pub TellsNoPolicy : Told → AbstractChecking → Device → ℕ → Type 0
TellsNoPolicy told asked err status =
    (f : Fault) × (note : List ℕ) × IsNoPolicyWith asked.explain told asked.policy f note × TellsWith f note err status

-- By whether too much is asked for. The policy at the path is accepted, and what is remarked of it goes to standard
-- error; or there is none.
abbrev pub ChecksPolicy : Bool → Told → AbstractChecking → Device → Device → ℕ → Type 0
ChecksPolicy true told asked out err status = IsUntouched out × TellsText not_alone 2 err status
ChecksPolicy false told asked out err status =
    ((p : AbstractPolicy) × (digest : List ℕ) × IsNumberedAt told asked.policy p digest
    × WritesRemarked (checked asked p digest) out err status)
    ⊎ (IsUntouched out × TellsNoPolicy told asked err status)
    ⊎ (IsUntouched out × TellsNoMemory err status)

-- nothing is read
abbrev pub Checks : Told → AbstractChecking → Input → Device → Device → ℕ → Type 0
Checks told asked input out err status = IsUnread input × ChecksPolicy (asks_too_much asked) told asked out err status
