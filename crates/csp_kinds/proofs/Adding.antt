-- What a declaration adds to the equations and assertions.
use Rattle.std.specs.Prelude.{map}
use Rattle.std.specs.Box.{box_value}
use Rattle.std.specs.declared.boxed.Box.{Box}
use Rattle.std.specs.declared.vec.Vec.{Vec}
use Rattle.std.proofs.Common.{◌≡◌, Bool, List, [], ◌∷◌, ◌++◌, append-nil, Some, Ok, Err, sym, ap, ◌∙◌, subst}
use Rattle.theory_text.specs.Place.{Place}
use Rattle.theory_text.specs.Raw.{RawName, RawProcess, RawProperty, RawDeclaration, RawEquation, RawAssertion}
use Rattle.theory_checking.specs.Names.{environment_of}
use Rattle.csp_lex.specs.declared.places.Place as placed
use Rattle.csp_lex.specs.Places.{place_of}
use Rattle.csp_parse.specs.declared.declarations.Declaration.{Declaration}
use Rattle.csp_parse.specs.declared.declarations.Declaration.TheVariants as declaration
use Rattle.csp_parse.specs.declared.names.Name.{Name}
use Rattle.csp_parse.specs.declared.processes.Process.{Process}
use Rattle.csp_parse.specs.declared.declarations.Property.{Property}
use Rattle.csp_parse.specs.Declarations.{declaration_of, property_of}
use Rattle.csp_parse.specs.Names.{name_of}
use Rattle.csp_parse.specs.Processes.{process_in, process_of}
use Rattle.csp_term.specs.declared.assertion.Assertion.{Assertion}
use Rattle.csp_term.specs.declared.script.Equation.{Equation}
use Rattle.csp_term.specs.Script.{assertion_of, equation_of}
use Rattle.csp_names.specs.declared.bound_names.BoundNames.{BoundNames}
use Rattle.csp_names.specs.declared.refusals.Refused.{Refused}
use Rattle.csp_names.specs.declared.scope.Scope.{Scope}
use Rattle.csp_names.specs.Walks.{ResolvesAssertion, ResolvesDefinition}
use Rattle.csp_kinds.specs.declared.items.Items.{Items}
use Rattle.csp_kinds.specs.Items.{AddsItem, assertions_made, equations_made}
use Rattle.csp_kinds.proofs.ItemsInTurn.{some_more}

module _ {A : Type 0} (scope : Scope A) (bound bound' : BoundNames A) (d : RawDeclaration) (old new : Items A) where
  module _ (name : RawName) (ns : List RawName) (p : RawProcess) (is : d ≡ RawEquation name ns p) where
    pub equation_stops : (r : Refused) → ResolvesDefinition scope bound bound' ns p (Err r) → AddsItem scope bound bound' d old new (Err r)
    equation_stops r h = let P : RawDeclaration → Type 0 = λ x. AddsItem scope bound bound' x old new (Err r) in subst P (sym is) (λ raw serves. h (environment_of raw) serves)

    pub equation_added : (e : Equation A) → ResolvesDefinition scope bound bound' ns p (Ok e) → new.equations.items ≡ old.equations.items ++ e ∷ [] → new.assertions ≡ old.assertions → AddsItem scope bound bound' d old new (Ok tt)
    equation_added e h pushed same =
        let P : RawDeclaration → Type 0 = λ x. AddsItem scope bound bound' x old new (Ok tt) in
        subst P (sym is) (
          λ raw serves.
              let done = h.fine (environment_of raw) serves in
              record {
                fine = done.0;
                equations = some_more equation_of old.equations.items new.equations.items e pushed ∙ ap (λ x. equations_made old ++ x ∷ []) (sym done.1);
                assertions = ap (λ as_. map Some (map assertion_of as_.items)) same ∙ sym (append-nil (assertions_made old));
              },
          h.bound,
        )

  module _ (place : Place) (n : Bool) (a : RawProperty) (p : RawProcess) (is : d ≡ RawAssertion place n a p) where
    pub assertion_stops : (r : Refused) → ResolvesAssertion scope bound bound' n a p (Err r) → AddsItem scope bound bound' d old new (Err r)
    assertion_stops r h = let P : RawDeclaration → Type 0 = λ x. AddsItem scope bound bound' x old new (Err r) in subst P (sym is) (λ raw serves. h (environment_of raw) serves)

    pub assertion_added : (x : Assertion A) → ResolvesAssertion scope bound bound' n a p (Ok x) → new.assertions.items ≡ old.assertions.items ++ x ∷ [] → new.equations ≡ old.equations → AddsItem scope bound bound' d old new (Ok tt)
    assertion_added x h pushed same =
        let P : RawDeclaration → Type 0 = λ r. AddsItem scope bound bound' r old new (Ok tt) in
        subst P (sym is) (
          λ raw serves.
              let done = h.fine (environment_of raw) serves in
              record {
                fine = done.0;
                equations = ap (λ es. map Some (map equation_of es.items)) same ∙ sym (append-nil (equations_made old));
                assertions = some_more assertion_of old.assertions.items new.assertions.items x pushed ∙ ap (λ r. assertions_made old ++ r ∷ []) (sym done.1);
              },
          h.bound,
        )

-- ---- declarations as they are written

pub written_equation : {A : Type 0} (d : Declaration A) (n : Name) (v : Vec Name A) (b : Box (Process A) A) (ns : List Name) (p : Process A) → d ≡ declaration.Equation n v b → ns ≡ v.items → p ≡ box_value b →
    declaration_of d ≡ RawEquation (name_of n) (map name_of ns) (process_of p)
written_equation d n v b ns p is names body = ap declaration_of is ∙ ap (λ xs. RawEquation (name_of n) (map name_of xs) (process_in b)) (sym names) ∙ ap (λ x. RawEquation (name_of n) (map name_of ns) (process_of x)) (sym body)

pub written_assertion : {A : Type 0} (d : Declaration A) (t : placed.Place) (n : Bool) (a : Property A) (b : Box (Process A) A) (p : Process A) → d ≡ declaration.Assertion t n a b → p ≡ box_value b →
    declaration_of d ≡ RawAssertion (place_of t) n (property_of a) (process_of p)
written_assertion d t n a b p is right = ap declaration_of is ∙ ap (λ x. RawAssertion (place_of t) n (property_of a) (process_of x)) (sym right)
