-- Declared names that are listed.
use Rattle.std.specs.Prelude.{◌≡◌, ℕ, List, ◌++◌, Result, OnOk}
use Rattle.std.specs.Borrow.{Bor}
use Rattle.std.specs.declared.vec.Vec.{Vec}
use Rattle.theory_text.specs.Raw.{RawDeclaration, RawScript}
use Rattle.theory_checking.specs.Names as checking
use Rattle.theory_checking.specs.Names.{Class, DatatypeName, ConstructorName, NametypeName, ChannelName, EquationName, declared_as, spellings}
use Rattle.theory_notation.specs.Names.{in_bytes}
use Rattle.csp_print.specs.declared.names.Names.{Names}
use Rattle.csp_print.specs.Names.{spellings_of}

-- These spellings were put behind those of the list. Where memory was refused, nothing is said.
abbrev pub Lists : {T E A : Type 0} → Result T E → Vec (Bor (List ℕ)) A → Vec (Bor (List ℕ)) A → List (List ℕ) → Type 0
Lists result old new ss = OnOk result (spellings_of new.items ≡ spellings_of old.items ++ in_bytes ss)

-- the names of a class
abbrev pub listed : {A : Type 0} → Class → Names A → List (List ℕ)
listed DatatypeName names = spellings_of names.datatypes.items
listed ConstructorName names = spellings_of names.constructors.items
listed NametypeName names = spellings_of names.nametypes.items
listed ChannelName names = spellings_of names.channels.items
listed EquationName names = spellings_of names.equations.items

-- Between the two each name of the declaration was put behind those of its class.
abbrev pub Declares : {A : Type 0} → Names A → Names A → RawDeclaration → Type 0
Declares old new d = (class : Class) → listed class new ≡ listed class old ++ in_bytes (spellings (declared_as class d))

-- the names of each class are those of the tree
abbrev pub AreDeclaredIn : {A : Type 0} → RawScript → Names A → Type 0
AreDeclaredIn raw names = (class : Class) → listed class names ≡ in_bytes (checking.names_of class raw)
