-- The module, the policy and the four messages that are built in, and what is printed for them.
use Rattle.std.specs.Prelude.{ℕ, List, [], ◌∷◌, ◌++◌, codes, ◌≡◌}
use Rattle.guard_policy.specs.Policies.{AbstractPolicy}
use Rattle.guard_frames.specs.Texts.{SayPolicy}
use Rattle.guard_files.specs.declared.fault.Fault.{Fault}
use Rattle.guard_files.specs.Reading.{SayNoneLoaded}
use Rattle.guard_files.specs.Answers.{AbstractAnswer}
use Rattle.guard_messages.specs.Printing.{AbstractMessageSent, AreLines}

abbrev pub first_module : List ℕ
first_module =
    codes "First DEFINITIONS EXPLICIT TAGS ::= BEGIN\n"
    ++ codes "Level ::= INTEGER (0..100)\n"
    ++ codes "Low ::= INTEGER (0..9)\n"
    ++ codes "Ping ::= SEQUENCE { level INTEGER (0..100), urgent BOOLEAN }\n"
    ++ codes "END\n"

abbrev pub first_policy : List ℕ
first_policy =
    codes "modules = [\"first.asn1\"]\n"
    ++ codes "[[message]]\nname = \"level\"\nmodule = \"First\"\ntype = \"Level\"\n"
    ++ codes "[[message]]\nname = \"ping\"\nmodule = \"First\"\ntype = \"Ping\"\n"
    ++ codes "[[rule]]\nname = \"low\"\neffect = \"allow\"\nfrom = \"a\"\nto = \"b\"\nmessage = \"level\"\nmodule = \"First\"\ntype = \"Low\"\n"
    ++ codes "[[rule]]\nname = \"ping\"\neffect = \"allow\"\nfrom = \"a\"\nto = \"b\"\nmessage = \"ping\"\nmodule = \"First\"\ntype = \"Ping\"\n"

-- from a to b
abbrev pub sent : List ℕ → List ℕ → AbstractMessageSent
sent message octets = record { route = record { from = codes "a"; to = codes "b"; message = message }; octets = octets }

abbrev pub first_messages : List AbstractMessageSent
first_messages =
    sent (codes "level") (0x02 ∷ 0x01 ∷ 0x05 ∷ [])
    ∷ sent (codes "level") (0x02 ∷ 0x01 ∷ 0x14 ∷ [])
    ∷ sent (codes "ping") (0x30 ∷ 0x06 ∷ 0x02 ∷ 0x01 ∷ 0x05 ∷ 0x01 ∷ 0x01 ∷ 0xFF ∷ [])
    ∷ sent (codes "ping") (0x30 ∷ 0x06 ∷ 0x02 ∷ 0x01 ∷ 0x05 ∷ 0x01 ∷ 0x01 ∷ 0x01 ∷ [])
    ∷ []

-- the octets are a line for each message, by the policy that the built-in texts say
abbrev pub IsFirstRun : List ℕ → Type 0
IsFirstRun out = (p : AbstractPolicy) × SayPolicy (first_module ∷ []) first_policy p × AreLines p first_messages out

abbrev pub IsFirst : AbstractAnswer → Type 0
IsFirst a = IsFirstRun a.out × (a.status ≡ 0)

-- The texts that are built in say no policy, which the run without words disproves; or memory ran out.
abbrev pub IsNoFirst : Fault → List ℕ → Type 0
IsNoFirst f note = SayNoneLoaded (first_module ∷ []) first_policy f × (note ≡ [])
