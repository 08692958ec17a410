-- Calls are resolved by their equation and their arguments.
use Rattle.std.specs.Prelude.{IfOk, IfErr}
use Rattle.std.proofs.Common.{◌≡◌, ℕ, List, [], ◌∷◌, length, Option, Result, Ok, Err, subst}
use Rattle.std.specs.declared.vec.Vec.{Vec}
use Rattle.theory_syntax.specs.Expression as pure
use Rattle.theory_syntax.specs.Expression.{to_expressions}
use Rattle.theory_syntax.specs.Process as process
use Rattle.theory_text.specs.Raw.{RawName, RawCall}
use Rattle.theory_checking.specs.Names.{Environment, meaning}
use Rattle.theory_checking.specs.Resolving as resolving
use Rattle.theory_checking.specs.Resolving.{number_of}
use Rattle.theory_checking.specs.Sites.{AsEquation, Site, Used, in_expressions, in_process}
use Rattle.csp_parse.specs.declared.expressions.Expression.{Expression}
use Rattle.csp_parse.specs.Expressions.{expressions_of}
use Rattle.csp_expression.specs.declared.expr.Expr.{Expr}
use Rattle.csp_expression.specs.Expression as terms
use Rattle.csp_term.specs.declared.name.EquationId.{EquationId}
use Rattle.csp_term.specs.declared.term.Term.{Term}
use Rattle.csp_term.specs.declared.term.TermForm.TheVariants as views
use Rattle.csp_term.specs.Term.{process_of, process_of_form}
use Rattle.csp_term.proofs.Forms as forms
use Rattle.csp_names.specs.declared.bound_names.BoundNames.{BoundNames}
use Rattle.csp_names.specs.declared.refusals.Refused.{Refused}
use Rattle.csp_names.specs.declared.refusals.Refused.TheVariants as refused
use Rattle.csp_names.specs.declared.scope.Scope.{Scope}
use Rattle.csp_names.specs.Walks.{Resolves, ResolvesEquation, ResolvesExpressions, ResolvesProcess}
use Rattle.csp_names.proofs.Forms.{made_of_form}
use Rattle.csp_names.proofs.Resolves.{both_made, first_stops, goes_still, number_of_list, second_stops}

module _ {A : Type 0} (scope : Scope A) (b : BoundNames A) (n : RawName) (es : List (Expression A)) where
  abbrev name_site : Environment → List Site
  name_site env = Used env (AsEquation (number_of (expressions_of es))) n ∷ []

  abbrev equation_meant : Environment → Option ℕ
  equation_meant env = resolving.as_equation (meaning env n)

  abbrev argument_sites : Environment → List Site
  argument_sites env = in_expressions env (expressions_of es)

  abbrev arguments_meant : Environment → Option pure.Expressions
  arguments_meant env = resolving.expressions_of env (expressions_of es)

  abbrev call_meant : Environment → Option process.Process
  call_meant env = resolving.process_of env (RawCall n (expressions_of es))

  abbrev arguments_of : Vec (Expr A) A → pure.Expressions
  arguments_of v = to_expressions (terms.expressions_of v.items)

  abbrev number : EquationId → ℕ
  number q = q.0

  counted : (r : Result EquationId Refused) → ResolvesEquation scope b (length es) n r → Resolves scope b name_site equation_meant number r
  counted r h = let P : ℕ → Type 0 = λ k. ResolvesEquation scope b k n r in subst P (number_of_list es) h

  pub equation_stops : (f : Refused) → ResolvesEquation scope b (length es) n (Err f) → ResolvesProcess scope b b (RawCall n (expressions_of es)) (Err f)
  equation_stops f h =
      goes_still scope b (λ env. in_process env (RawCall n (expressions_of es))) call_meant (process_of {A = A}) (Err f)
      (first_stops scope b name_site argument_sites equation_meant arguments_meant number (process_of {A = A}) call_meant f (counted (Err f) h))

  pub arguments_stop : (q : EquationId) (f : Refused) → ResolvesEquation scope b (length es) n (Ok q) → ResolvesExpressions scope b (expressions_of es) (Err f) → ResolvesProcess scope b b (RawCall n (expressions_of es)) (Err f)
  arguments_stop q f h k =
      goes_still scope b (λ env. in_process env (RawCall n (expressions_of es))) call_meant (process_of {A = A}) (Err f)
      (second_stops scope b name_site argument_sites equation_meant arguments_meant number arguments_of (process_of {A = A}) call_meant q f (counted (Ok q) h) (λ env stands knows. k env stands))

  pub call_resolved : (q : EquationId) (v : Vec (Expr A) A) (r : Result (Term A) Refused) → ResolvesEquation scope b (length es) n (Ok q) → ResolvesExpressions scope b (expressions_of es) (Ok v) → IfOk r (λ t. process_of t ≡ process_of_form (views.Call q v)) → IfErr r (λ e. e ≡ refused.Memory) →
      ResolvesProcess scope b b (RawCall n (expressions_of es)) r
  call_resolved q v r h k makes stops =
      goes_still scope b (λ env. in_process env (RawCall n (expressions_of es))) call_meant (process_of {A = A}) r
      (both_made scope b name_site argument_sites equation_meant arguments_meant number arguments_of (process_of {A = A}) process.Call q v r (counted (Ok q) h) (λ env stands knows. k env stands)
      (made_of_form r (views.Call q v) (process.Call q.0 (arguments_of v)) (forms.of_call A q v) makes) stops)
