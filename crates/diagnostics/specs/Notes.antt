-- What is told of the text around a refusal.
use Rattle.std.specs.Prelude.{ℕ, ◌++◌, ◌==◌, List, [], ◌∷◌, Option, None, Some, codes, decimal, if◌then◌else◌}
use Rattle.std.specs.List.{concat}
use Rattle.csp_lex.specs.declared.kinds.Token.{Token}
use Rattle.csp_lex.specs.declared.places.Place.{Place}
use Rattle.csp_parse.specs.declared.refusals.GrammarFault.{GrammarFault}
use Rattle.csp_parse.specs.declared.refusals.GrammarFault.TheVariants as grammar
use Rattle.diagnostics.specs.declared.declared_names.Class.{Class}
use Rattle.diagnostics.specs.declared.declared_names.Class.TheVariants as class
use Rattle.diagnostics.specs.declared.declared_names.DeclaredName.{DeclaredName}
use Rattle.diagnostics.specs.DeclaredNames.{class_word}

abbrev pub place_text : Place → List ℕ
place_text p = decimal p.line ++ (codes ":" ++ decimal p.column)

abbrev pub bracket_note : Option Token → List ℕ
bracket_note None = []
bracket_note (Some t) = concat (codes "note: the `" ∷ t.text.now ∷ codes "` at " ∷ place_text t.place ∷ codes " is open here\n" ∷ [])

abbrev pub last_note : Option Token → List ℕ
last_note None = []
last_note (Some t) = concat (codes "note: the last token is the `" ∷ t.text.now ∷ codes "` at " ∷ place_text t.place ∷ codes "\n" ∷ [])

-- where a text ends too early, its last token
abbrev pub end_note : GrammarFault → Option Token → List ℕ
end_note grammar.UnexpectedEnd last = last_note last
end_note _ last = []

-- a value where the process of an equation has to stand
abbrev pub value_note : Place → List ℕ
value_note p = concat (codes "note: at " ∷ place_text p ∷ codes " a value stands in place of the process of an equation\n" ∷ [])

abbrev pub below_note : DeclaredName → List ℕ
below_note d =
    concat (codes "note: `" ∷ d.name.text.now ∷ codes "` is declared at " ∷ place_text d.name.place ∷ codes ", and a set uses only names that are declared above it\n" ∷ [])

-- so many of these
abbrev pub counted : ℕ → List ℕ → List ℕ
counted n noun = if n == 1 then codes ", with 1 " ++ noun else concat (codes ", with " ∷ decimal n ∷ codes " " ∷ noun ∷ codes "s" ∷ [])

abbrev pub parts_text : Class → ℕ → List ℕ
parts_text class.Datatype n = []
parts_text class.Nametype n = []
parts_text class.Constructor n = counted n (codes "field")
parts_text class.Channel n = counted n (codes "field")
parts_text class.Equation n = counted n (codes "parameter")

abbrev pub declared_note : DeclaredName → List ℕ
declared_note d =
    concat (codes "note: `" ∷ d.name.text.now ∷ codes "` is the " ∷ class_word d.class ∷ codes " declared at " ∷ place_text d.name.place ∷ parts_text d.class d.parts ∷ codes "\n" ∷ [])
