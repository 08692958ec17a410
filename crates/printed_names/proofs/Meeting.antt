-- Names that are met part by part.
use Rattle.std.proofs.lemmas.List.{map-append}
use Rattle.std.proofs.Common.{◌≡◌, ◌∙◌, ℕ, Bool, List, ◌++◌, map, Result, Ok, Err, Vec, Box, ap, ap₂, sym}
use Rattle.theory_text.specs.Raw.{RawName}
use Rattle.theory_checking.specs.Names.{bound_in, bound_in_declaration, bound_in_property, spellings, with_spellings}
use Rattle.theory_checking.proofs.Spellings.{with_more}
use Rattle.csp_lex.specs.declared.places.Place.{Place}
use Rattle.csp_parse.specs.declared.declarations.Declaration.{Declaration}
use Rattle.csp_parse.specs.declared.declarations.Declaration.TheVariants as forms
use Rattle.csp_parse.specs.declared.declarations.Property.{Property}
use Rattle.csp_parse.specs.declared.names.Name.{Name}
use Rattle.csp_parse.specs.declared.processes.Field.{Field}
use Rattle.csp_parse.specs.declared.processes.Process.{Process}
use Rattle.csp_parse.specs.Declarations.{declaration_of, property_of}
use Rattle.csp_parse.specs.Names.{name_of}
use Rattle.csp_parse.specs.Processes.{field_of, process_of}
use Rattle.csp_names.proofs.Fields.{met_by, met_by_more}
use Rattle.printed_names.specs.declared.bound_names.BoundNames.{BoundNames}
use Rattle.printed_names.specs.Binding.{Meets, met}

-- the same names, as they are written
pub as_written : {T E A : Type 0} (result : Result T E) (old new : BoundNames A) (ns ms : List RawName) → ns ≡ ms → Meets result old new (spellings ns) → Meets result old new (spellings ms)
as_written (Ok t) old new ns ms is h = h ∙ ap (λ xs. with_spellings (met old) (spellings xs)) is
as_written (Err e) old new ns ms is h = tt

-- names that are met behind others
pub in_turn : {T E A : Type 0} (result : Result T E) (old mid new : BoundNames A) (ns ms : List RawName) → met mid ≡ with_spellings (met old) (spellings ns) → Meets result mid new (spellings ms) → Meets result old new (spellings (ns ++ ms))
in_turn (Ok t) old mid new ns ms first second =
    second ∙ ap (λ ss. with_spellings ss (spellings ms)) first ∙ sym (with_more (met old) (spellings ns) (spellings ms))
    ∙ ap (with_spellings (met old)) (sym (map-append (λ n. n.spelling) ns ms))
in_turn (Err e) old mid new ns ms first second = tt

-- what names and fields meet, by parts
abbrev pub met_by_names : List Name → List (List ℕ)
met_by_names ns = spellings (map name_of ns)

pub names_in_parts : (ns ms : List Name) → met_by_names (ns ++ ms) ≡ met_by_names ns ++ met_by_names ms
names_in_parts ns ms = ap spellings (map-append name_of ns ms) ∙ map-append (λ n. n.spelling) (map name_of ns) (map name_of ms)

abbrev pub met_by_fields : {A : Type 0} → List (Field A) → List (List ℕ)
met_by_fields fs = met_by (map field_of fs)

pub fields_in_parts : {A : Type 0} (fs gs : List (Field A)) → met_by_fields (fs ++ gs) ≡ met_by_fields fs ++ met_by_fields gs
fields_in_parts fs gs = ap met_by (map-append field_of fs gs) ∙ met_by_more (map field_of fs) (map field_of gs)

-- ---- declarations with processes

module _ {T E A B : Type 0} (result : Result T E) (old mid new : BoundNames A) (written : Declaration B) where
  pub equation_met : (n : Name) (ps : Vec Name B) (b : Box (Process B) B) (parameters : List Name) (body : Process B) → written ≡ forms.Equation n ps b → parameters ≡ ps.items → body ≡ b.value →
      met mid ≡ with_spellings (met old) (met_by_names parameters) → Meets result mid new (spellings (bound_in (process_of body))) → Meets result old new (spellings (bound_in_declaration (declaration_of written)))
  equation_met n ps b parameters body is read same first second =
      as_written result old new (map name_of parameters ++ bound_in (process_of body)) (bound_in_declaration (declaration_of written))
      (ap₂ (λ ns p. map name_of ns ++ bound_in (process_of p)) read same ∙ sym (ap (λ d. bound_in_declaration (declaration_of d)) is))
      (in_turn result old mid new (map name_of parameters) (bound_in (process_of body)) first second)

  pub assertion_met : (t : Place) (n : Bool) (a : Property B) (b : Box (Process B) B) (body : Process B) → written ≡ forms.Assertion t n a b → body ≡ b.value →
      met mid ≡ with_spellings (met old) (spellings (bound_in_property (property_of a))) → Meets result mid new (spellings (bound_in (process_of body))) → Meets result old new (spellings (bound_in_declaration (declaration_of written)))
  assertion_met t n a b body is same first second =
      as_written result old new (bound_in_property (property_of a) ++ bound_in (process_of body)) (bound_in_declaration (declaration_of written))
      (ap (λ p. bound_in_property (property_of a) ++ bound_in (process_of p)) same ∙ sym (ap (λ d. bound_in_declaration (declaration_of d)) is))
      (in_turn result old mid new (bound_in_property (property_of a)) (bound_in (process_of body)) first second)
