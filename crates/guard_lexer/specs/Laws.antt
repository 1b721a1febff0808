-- What holds of the definitions of tokens and faults, for every text.
use Rattle.std.specs.Prelude.{◌≡◌, ℕ, ◌⊎◌, List}
use Rattle.guard_lexer.specs.Lexing.{Lexes, FirstFault}
use Rattle.guard_lexer.specs.declared.fault.LexFault.{LexFault}
use Rattle.guard_lexer.specs.declared.token.Token.{Token}

-- a text has at most one list of tokens
abbrev pub OneLexing : Type 0
OneLexing =
    (place : ℕ) (text : List ℕ) (one other : List Token)
    → Lexes place text one → Lexes place text other → one ≡ other

-- a text has at most one first fault
abbrev pub OneFault : Type 0
OneFault =
    (place : ℕ) (text : List ℕ) (one other : LexFault)
    → FirstFault place text one → FirstFault place text other → one ≡ other

-- a text that has a fault has no tokens
abbrev pub NoneWithFault : Type 0
NoneWithFault =
    (place : ℕ) (text : List ℕ) (tokens : List Token) (fault : LexFault)
    → Lexes place text tokens → FirstFault place text fault → ⊥

-- a text has tokens or a fault
abbrev pub TokensOrFault : Type 0
TokensOrFault =
    (place : ℕ) (text : List ℕ)
    → ((tokens : List Token) × Lexes place text tokens) ⊎ ((fault : LexFault) × FirstFault place text fault)
