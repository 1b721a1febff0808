-- When two tokens are of one kind.
use Rattle.std.specs.Prelude.{Bool, true, false}
use denote.Enum.Bare.{sameb}
use Rattle.guard_lexer.specs.declared.token.TokenKind.{TokenKind}
use Rattle.guard_lexer.specs.declared.token.TokenKind.TheVariants.{Reserved, Unsupported, UpperName, LowerName, Number, CharacterString, BitString, HexadecimalString, Mark}
use Rattle.guard_lexer.specs.contracts.token.Reserved as reserved
use Rattle.guard_lexer.specs.contracts.token.Mark as mark

abbrev pub same_kind : TokenKind → TokenKind → Bool
same_kind (Reserved a) (Reserved b) = sameb reserved.the_type a b
same_kind (Mark a) (Mark b) = sameb mark.the_type a b
same_kind Unsupported Unsupported = true
same_kind UpperName UpperName = true
same_kind LowerName LowerName = true
same_kind Number Number = true
same_kind CharacterString CharacterString = true
same_kind BitString BitString = true
same_kind HexadecimalString HexadecimalString = true
same_kind _ _ = false
