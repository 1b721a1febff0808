-- What more is said of components that tags don't tell apart.
use Rattle.std.specs.Prelude.{ℕ, List, [], ◌++◌, codes, decimal, Option, Some, None}
use Rattle.guard_model.specs.declared.tag.Tag.{Tag}
use Rattle.guard_model.specs.declared.tag.Class.TheVariants as class
use Rattle.guard_model.specs.declared.tag.Class.{Class}
use Rattle.guard_tagcheck.specs.InCommon.{AbstractCommon}

-- a tag as X.680 31.2 writes it, the class UNIVERSAL too
abbrev pub class_word : Class → List ℕ
class_word class.Universal = codes "UNIVERSAL "
class_word class.Application = codes "APPLICATION "
class_word class.Context = []
class_word class.Private = codes "PRIVATE "

abbrev pub tag_text : Tag → List ℕ
tag_text tag = codes "[" ++ (class_word tag.class ++ (decimal tag.number ++ codes "]"))

-- the names of both and the tag
abbrev pub clash_line : Option AbstractCommon → List ℕ
clash_line None = []
clash_line (Some c) =
    codes "  " ++ (c.first ++ (codes " and " ++ (c.second ++ (codes ": both " ++ (tag_text c.tag ++ codes "\n")))))
