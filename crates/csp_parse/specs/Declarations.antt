-- Declarations and scripts, as the definitions have them.
use Rattle.std.specs.Prelude.{map}
use Rattle.theory_syntax.specs.Models.{model_of}
use Rattle.theory_text.specs.Raw.{RawDomain, RawClause, RawDeclaration, RawDatatype, RawNametype, RawChannels, RawEquation, RawAssertion, RawScript, RawProperty, RawRefinementOf, RawDeadlockFree, RawDivergenceFree}
use Rattle.csp_lex.specs.Places.{place_of}
use Rattle.csp_parse.specs.declared.declarations.Clause.{Clause}
use Rattle.csp_parse.specs.declared.declarations.Domain.{Domain}
use Rattle.csp_parse.specs.declared.declarations.Declaration.{Declaration}
use Rattle.csp_parse.specs.declared.declarations.Declaration.TheVariants as declaration
use Rattle.csp_parse.specs.declared.declarations.Property.{Property}
use Rattle.csp_parse.specs.declared.declarations.Property.TheVariants as property
use Rattle.csp_parse.specs.declared.declarations.Raw.{Raw}
use Rattle.csp_parse.specs.Expressions.{expression_of}
use Rattle.csp_parse.specs.Names.{name_of}
use Rattle.csp_parse.specs.Processes.{process_in}

abbrev pub domain_of : {A : Type 0} → Domain A → RawDomain
domain_of d = record { place = place_of d.place; set = expression_of d.set }

abbrev pub clause_of : {A : Type 0} → Clause A → RawClause
clause_of c = record { name = name_of c.name; fields = map domain_of c.fields.items }

abbrev pub property_of : {A : Type 0} → Property A → RawProperty
property_of (property.Refinement m p) = RawRefinementOf (model_of m) (process_in p)
property_of property.DeadlockFree = RawDeadlockFree
property_of property.DivergenceFree = RawDivergenceFree

abbrev pub declaration_of : {A : Type 0} → Declaration A → RawDeclaration
declaration_of (declaration.Datatype n cs) = RawDatatype (name_of n) (map clause_of cs.items)
declaration_of (declaration.Nametype n d) = RawNametype (name_of n) (domain_of d)
declaration_of (declaration.Channels ns ds) = RawChannels (map name_of ns.items) (map domain_of ds.items)
declaration_of (declaration.Equation n ns p) = RawEquation (name_of n) (map name_of ns.items) (process_in p)
declaration_of (declaration.Assertion t n a p) = RawAssertion (place_of t) n (property_of a) (process_in p)

abbrev pub script_of : {A : Type 0} → Raw A → RawScript
script_of s = map declaration_of s.declarations.items
