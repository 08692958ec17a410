-- Equations and assertions are resolved by their parts.
use Rattle.std.specs.Prelude.{map, option_map}
use Rattle.std.proofs.Common.{◌≡◌, ℕ, Bool, List, [], ◌++◌, Option, Ok, Err, refl, sym, ap, subst}
use Rattle.std.specs.declared.vec.Vec.{Vec}
use Rattle.theory_syntax.specs.Process as process
use Rattle.theory_text.specs.Raw.{RawName, RawProcess, RawProperty, RawRefinementOf, RawDeadlockFree, RawDivergenceFree}
use Rattle.theory_checking.specs.Names.{Environment, binding, bound_in, bound_in_property, spellings}
use Rattle.theory_checking.specs.Resolving as resolving
use Rattle.theory_checking.specs.Resolving.{bound_number, every}
use Rattle.theory_checking.specs.Sites.{Site, in_parameters, in_process, in_property}
use Rattle.csp_expression.specs.declared.name.Name.{Name}
use Rattle.csp_term.specs.declared.term.Term.{Term}
use Rattle.csp_term.specs.declared.property.Property.{Property}
use Rattle.csp_term.specs.Script.{property_of}
use Rattle.csp_term.specs.Term.{process_of}
use Rattle.csp_names.specs.declared.bound_names.BoundNames.{BoundNames}
use Rattle.csp_names.specs.declared.refusals.Refused.{Refused}
use Rattle.csp_names.specs.declared.refusals.Refused.TheVariants as refused
use Rattle.csp_names.specs.declared.scope.Scope.{Scope}
use Rattle.csp_names.specs.Scopes.{IsInOrder, Releases}
use Rattle.csp_names.specs.Walks.{BindsParameters, Done, ResolvesAssertion, ResolvesDefinition, ResolvesProcess, ResolvesProperty}
use Rattle.csp_names.proofs.BindingForms.{body_done, body_stops}
use Rattle.csp_names.proofs.Forms.{done_in_turn, halts_after, halts_before, meant, sites_in}
use Rattle.csp_names.proofs.Going.{binds_nothing}
use Rattle.csp_names.proofs.Walking.{stops_for_room}

-- an equation with these parameters and this body
abbrev equation : List ℕ → process.Process → process.Equation
equation xs body = record { parameters = xs; body = body }

module _ {A : Type 0} (scope : Scope A) (old : BoundNames A) where
  module _ (ns : List RawName) (p : RawProcess) where
    abbrev parameter_sites : Environment → List Site
    parameter_sites env = in_parameters env ns

    abbrev parameters_meant : Environment → Option (List ℕ)
    parameters_meant env = every (bound_number env) ns

    pub definition_parameters_stop : (mid new : BoundNames A) (f : Refused) → BindsParameters scope old mid ns (Err f) → ResolvesDefinition scope old new ns p (Err f)
    definition_parameters_stop mid new f h = halts_before scope old parameter_sites (λ env. in_process (binding env ns) p) ns (bound_in p) f h

    pub definition_has_no_room : (new : BoundNames A) (f : Refused) → f ≡ refused.Memory → ResolvesDefinition scope old new ns p (Err f)
    definition_has_no_room new f is env serves = stops_for_room (in_parameters env ns ++ in_process (binding env ns) p) f is

    module _ (mid last new : BoundNames A) (names : Vec Name A) (h : BindsParameters scope old mid ns (Ok names)) where
      abbrev numbers : List ℕ
      numbers = map (λ x. x.0) names.items

      pub definition_body_stops : (f : Refused) → ResolvesProcess scope mid last p (Err f) → ResolvesDefinition scope old new ns p (Err f)
      definition_body_stops f stops = body_stops scope old mid mid mid ns p parameter_sites parameters_meant numbers h f stops

      pub definition_resolved : (body : Term A) → ResolvesProcess scope mid last p (Ok body) → (IsInOrder last → Releases last new (spellings ns)) →
          Done scope old new (λ env. in_parameters env ns ++ in_process (binding env ns) p) (λ env. resolving.equation_of env ns p) (spellings (ns ++ bound_in p)) [] (equation numbers (process_of body))
      definition_resolved body k ends = body_done scope old mid last new ns p parameter_sites parameters_meant numbers h equation (process_of body) k ends

  -- ---- what an assertion asks

  abbrev property_sites : RawProperty → Environment → List Site
  property_sites a = λ env. in_property env a

  abbrev property_meant : RawProperty → Environment → Option process.Property
  property_meant a = λ env. resolving.property_of env a

  abbrev pub IsAsked : BoundNames A → RawProperty → process.Property → Type 0
  IsAsked new a x = Done scope old new (property_sites a) (property_meant a) (spellings (bound_in_property a)) [] x

  refinement_asked : (new : BoundNames A) (m : process.Model) (p : RawProcess) (s : Term A) → ResolvesProcess scope old new p (Ok s) → IsAsked new (RawRefinementOf m p) (process.RefinementOf m (process_of s))
  refinement_asked new m p s h = record {
    fine = λ env serves. let both = h.fine env serves in (both.0, ap (option_map (process.RefinementOf m)) both.1);
    bound = h.bound;
  }

  pub refinement_resolved : (new : BoundNames A) (m : process.Model) (p : RawProcess) (s : Term A) (a : RawProperty) → a ≡ RawRefinementOf m p → ResolvesProcess scope old new p (Ok s) → IsAsked new a (process.RefinementOf m (process_of s))
  refinement_resolved new m p s a is h = subst (λ b. IsAsked new b (process.RefinementOf m (process_of s))) (sym is) (refinement_asked new m p s h)

  pub refinement_stops : (new : BoundNames A) (m : process.Model) (p : RawProcess) (a : RawProperty) (f : Refused) → a ≡ RawRefinementOf m p → ResolvesProcess scope old new p (Err f) → ResolvesProperty scope old new a (Err f)
  refinement_stops new m p a f is h = subst (λ b. ResolvesProperty scope old new b (Err f)) (sym is) h

  pub deadlock_resolved : (a : RawProperty) → a ≡ RawDeadlockFree → IsAsked old a process.DeadlockFree
  deadlock_resolved a is = subst (λ b. IsAsked old b process.DeadlockFree) (sym is) (record { fine = λ env serves. (tt, refl); bound = λ order. binds_nothing old order })

  pub divergence_resolved : (a : RawProperty) → a ≡ RawDivergenceFree → IsAsked old a process.DivergenceFree
  divergence_resolved a is = subst (λ b. IsAsked old b process.DivergenceFree) (sym is) (record { fine = λ env serves. (tt, refl); bound = λ order. binds_nothing old order })

  module _ (n : Bool) (a : RawProperty) (p : RawProcess) where
    abbrev assertion : process.Property → process.Process → process.Assertion
    assertion x i = record { negated = n; property = x; implementation = i }

    pub property_stops : (mid new : BoundNames A) (f : Refused) → ResolvesProperty scope old mid a (Err f) → ResolvesAssertion scope old new n a p (Err f)
    property_stops mid new f h = halts_before scope old (property_sites a) (sites_in p) (bound_in_property a) (bound_in p) f h

    pub implementation_stops : (mid new : BoundNames A) (x : Property A) (f : Refused) → ResolvesProperty scope old mid a (Ok x) → ResolvesProcess scope mid new p (Err f) → ResolvesAssertion scope old new n a p (Err f)
    implementation_stops mid new x f h k = halts_after scope old mid (property_sites a) (sites_in p) (property_meant a) (bound_in_property a) (bound_in p) (property_of x) f h k

    pub assertion_resolved : (mid new : BoundNames A) (x : Property A) (i : Term A) → ResolvesProperty scope old mid a (Ok x) → ResolvesProcess scope mid new p (Ok i) →
        Done scope old new (λ env. in_property env a ++ in_process env p) (λ env. resolving.assertion_of env n a p) (spellings (bound_in_property a ++ bound_in p)) [] (assertion (property_of x) (process_of i))
    assertion_resolved mid new x i h k = done_in_turn scope assertion old mid new (property_sites a) (sites_in p) (property_meant a) (meant p) (bound_in_property a) (bound_in p) (property_of x) (process_of i) h k
