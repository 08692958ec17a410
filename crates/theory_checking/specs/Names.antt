-- The names of a tree: what is declared, what is bound, and what a name means where it stands.
use Rattle.std.specs.Prelude.{ℕ, suc, Bool, cond, List, [], ◌∷◌, ◌++◌, length, map, flat_map, slice_get, Option, Some, None, is_some, option_map}
use Rattle.std.specs.Option.{option_or}
use Rattle.std.specs.Str.{bytes_eq}
use Rattle.theory_text.specs.Raw.{RawName, RawField, RawGiven, RawInput, RawInputFrom, RawProcess, RawStop, RawSkip, RawCall, RawPrefix, RawGuard, RawIf, RawInfix, RawGeneralisedParallel, RawAlphabetisedParallel, RawHiding, RawRenaming, RawReplicated, RawProperty, RawRefinementOf, RawClause, RawDeclaration, RawDatatype, RawNametype, RawChannels, RawEquation, RawAssertion, RawScript}

-- the classes of declared names
pub data Class : Type 0 where
  DatatypeName ConstructorName NametypeName ChannelName EquationName : Class

abbrev pub clause_names : List RawClause → List RawName
clause_names clauses = map (λ c. c.name) clauses

-- the names that a declaration declares, in the order of the text
abbrev pub declared : RawDeclaration → List RawName
declared (RawDatatype name clauses) = name ∷ clause_names clauses
declared (RawNametype name domain) = name ∷ []
declared (RawChannels names domains) = names
declared (RawEquation name parameters body) = name ∷ []
declared (RawAssertion place negated property implementation) = []

-- those of one class
abbrev pub declared_as : Class → RawDeclaration → List RawName
declared_as DatatypeName (RawDatatype name clauses) = name ∷ []
declared_as ConstructorName (RawDatatype name clauses) = clause_names clauses
declared_as NametypeName (RawNametype name domain) = name ∷ []
declared_as ChannelName (RawChannels names domains) = names
declared_as EquationName (RawEquation name parameters body) = name ∷ []
declared_as _ _ = []

abbrev pub spellings : List RawName → List (List ℕ)
spellings names = map (λ n. n.spelling) names

-- the spellings of a class, in the order of the text
abbrev pub names_of : Class → RawScript → List (List ℕ)
names_of class raw = spellings (flat_map (declared_as class) raw)

-- A name's number is the place of its spelling among those of its class, from 0.
abbrev pub number_in : List (List ℕ) → List ℕ → Option ℕ
number_in [] s = None
number_in (t ∷ ts) s = cond (bytes_eq t s) (Some 0) (option_map suc (number_in ts s))

abbrev pub has_spelling : List (List ℕ) → List ℕ → Bool
has_spelling ss s = is_some (number_in ss s)

-- the names that the inputs of a prefix bind
abbrev pub bound_by_fields : List RawField → List RawName
bound_by_fields [] = []
bound_by_fields (RawGiven e ∷ fs) = bound_by_fields fs
bound_by_fields (RawInput n ∷ fs) = n ∷ bound_by_fields fs
bound_by_fields (RawInputFrom n e ∷ fs) = n ∷ bound_by_fields fs

-- those that are bound in a process, in the order of the text
abbrev pub bound_in : RawProcess → List RawName
bound_in RawStop = []
bound_in RawSkip = []
bound_in (RawCall n es) = []
bound_in (RawPrefix c fs p) = bound_by_fields fs ++ bound_in p
bound_in (RawGuard e p) = bound_in p
bound_in (RawIf e p q) = bound_in p ++ bound_in q
bound_in (RawInfix op p q) = bound_in p ++ bound_in q
bound_in (RawGeneralisedParallel p a q) = bound_in p ++ bound_in q
bound_in (RawAlphabetisedParallel p a b q) = bound_in p ++ bound_in q
bound_in (RawHiding p a) = bound_in p
bound_in (RawRenaming p rs) = bound_in p
bound_in (RawReplicated op n e p) = n ∷ bound_in p

-- those of the specification that an assertion compares with, if there is one
abbrev pub bound_in_property : RawProperty → List RawName
bound_in_property (RawRefinementOf model spec) = bound_in spec
bound_in_property _ = []

-- those of a declaration, its parameters among them
abbrev pub bound_in_declaration : RawDeclaration → List RawName
bound_in_declaration (RawEquation name parameters body) = parameters ++ bound_in body
bound_in_declaration (RawAssertion place n a p) = bound_in_property a ++ bound_in p
bound_in_declaration _ = []

-- the list with further spellings behind it, each once
abbrev pub with_spellings : List (List ℕ) → List (List ℕ) → List (List ℕ)
with_spellings ss [] = ss
with_spellings ss (t ∷ ts) = with_spellings (cond (has_spelling ss t) ss (ss ++ t ∷ [])) ts

-- The spellings of all bound names of a script, each where it first stands. Bound names of one spelling have one number.
abbrev pub bound_spellings : RawScript → List (List ℕ)
bound_spellings raw = with_spellings [] (spellings (flat_map bound_in_declaration raw))

-- What a name means: something declared, by its class and its number there, or a bound name, by its number.
pub data Meaning : Type 0 where
  Declared : (class : Class) (number : ℕ) → Meaning
  Bound : (number : ℕ) → Meaning

abbrev pub meaning_as : Class → RawScript → List ℕ → Option Meaning
meaning_as class raw s = option_map (Declared class) (number_in (names_of class raw) s)

-- what a name means as a declared one; all classes share one space of names
abbrev pub declared_meaning : RawScript → List ℕ → Option Meaning
declared_meaning raw s =
    option_or (meaning_as DatatypeName raw s) (option_or (meaning_as ConstructorName raw s) (option_or (meaning_as NametypeName raw s)
    (option_or (meaning_as ChannelName raw s) (meaning_as EquationName raw s))))

-- What a name can mean where it stands: the declarations whose names can be used there, the spellings of the script's
-- bound names, and those that are bound there.
pub record Environment : Type 0 where
  pub declarations : RawScript
  pub numbered : List (List ℕ)
  pub bound : List (List ℕ)

-- the environment of a declaration's processes, and that of the set of a nametype or field, which uses only what is declared above
abbrev pub environment_of : RawScript → Environment
environment_of raw = record { declarations = raw; numbered = bound_spellings raw; bound = [] }

abbrev pub environment_above : RawScript → Environment
environment_above above = record { declarations = above; numbered = []; bound = [] }

-- the environment in which some more names are bound
abbrev pub binding : Environment → List RawName → Environment
binding env [] = env
binding env (n ∷ ns) = binding (record { declarations = env.declarations; numbered = env.numbered; bound = n.spelling ∷ env.bound }) ns

-- what a name means there, if anything; a bound name hides a declared one
abbrev pub meaning : Environment → RawName → Option Meaning
meaning env n = cond (has_spelling env.bound n.spelling) (option_map Bound (number_in env.numbered n.spelling)) (declared_meaning env.declarations n.spelling)

-- how many fields each constructor has
abbrev pub constructor_fields : RawDeclaration → List ℕ
constructor_fields (RawDatatype name clauses) = map (λ c. length c.fields) clauses
constructor_fields _ = []

-- and the one of this number
abbrev pub fields_of_constructor : RawScript → ℕ → Option ℕ
fields_of_constructor raw k = slice_get (flat_map constructor_fields raw) k
