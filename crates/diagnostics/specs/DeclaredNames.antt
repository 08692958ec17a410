-- The classes of declared names.
use Rattle.std.specs.Prelude.{ℕ, List, codes}
use Rattle.diagnostics.specs.declared.declared_names.Class.{Class}
use Rattle.diagnostics.specs.declared.declared_names.Class.TheVariants as class

abbrev pub class_word : Class → List ℕ
class_word class.Datatype = codes "datatype"
class_word class.Constructor = codes "constructor"
class_word class.Nametype = codes "nametype"
class_word class.Channel = codes "channel"
class_word class.Equation = codes "equation"
