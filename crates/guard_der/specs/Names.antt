-- The names of what is wrong, as they are reported.
use Rattle.std.specs.Prelude.{ℕ, List, codes}
use Rattle.guard_der.specs.declared.breach.Code.{Code}
use Rattle.guard_der.specs.declared.breach.Code.TheVariants as code

abbrev pub breach_name : Code → List ℕ
breach_name code.Truncated = codes "Truncated"
breach_name code.TagForm = codes "TagForm"
breach_name code.IndefiniteLength = codes "IndefiniteLength"
breach_name code.NonMinimalLength = codes "NonMinimalLength"
breach_name code.LengthTooLarge = codes "LengthTooLarge"
breach_name code.UnexpectedTag = codes "UnexpectedTag"
breach_name code.MissingComponent = codes "MissingComponent"
breach_name code.WrongForm = codes "WrongForm"
breach_name code.BooleanContents = codes "BooleanContents"
breach_name code.IntegerContents = codes "IntegerContents"
breach_name code.IntegerTooLong = codes "IntegerTooLong"
breach_name code.UnknownEnumeration = codes "UnknownEnumeration"
breach_name code.NullContents = codes "NullContents"
breach_name code.BitStringContents = codes "BitStringContents"
breach_name code.UnusedBits = codes "UnusedBits"
breach_name code.ObjectIdContents = codes "ObjectIdContents"
breach_name code.ObjectIdTooLong = codes "ObjectIdTooLong"
breach_name code.Characters = codes "Characters"
breach_name code.SetOrder = codes "SetOrder"
breach_name code.SetOfOrder = codes "SetOfOrder"
breach_name code.DefaultPresent = codes "DefaultPresent"
breach_name code.TrailingOctets = codes "TrailingOctets"
breach_name code.TrailingZeroBit = codes "TrailingZeroBit"
