-- Expressions are resolved part by part.
use Rattle.std.specs.Prelude.{flat_map, option_map, pos, IfOk, IfErr}
use Rattle.std.proofs.Common.{◌≡◌, ◌≤◌, ◌<◌, ◌+◌, ℕ, Bool, get_or, length, List, [], ◌∷◌, ◌++◌, Option, Some, None, Result, Ok, Err, refl, sym, ap, ap₂, ◌∙◌, subst}
use Rattle.std.specs.declared.vec.Vec.{Vec}
use Rattle.theory_syntax.specs.Expression as pure
use Rattle.theory_syntax.specs.Expression.{to_expressions}
use Rattle.theory_syntax.specs.Value.{Integer, Truth}
use Rattle.theory_text.specs.Raw.{RawName, RawExpression, RawNumber, RawTruth, RawBooleans, RawApply, RawConstructor, RawExpressions}
use Rattle.theory_checking.specs.Names.{Environment}
use Rattle.theory_checking.specs.Resolving as resolving
use Rattle.theory_checking.specs.Resolving.{of_two, every, number_of}
use Rattle.theory_checking.specs.Sites.{AsConstructor, Site, Used, in_expression, in_expressions}
use Rattle.theory_checking.specs.Walks.{AllFine}
use Rattle.theory_checking.proofs.Walking.{fine_both}
use Rattle.csp_parse.specs.declared.expressions.Expression.{Expression}
use Rattle.csp_parse.specs.Expressions.{expression_of, expressions_of}
use Rattle.csp_value.specs.declared.name.ConId.{ConId}
use Rattle.csp_expression.specs.declared.expr.Expr.{Expr}
use Rattle.csp_expression.specs.Expression as terms
use Rattle.csp_names.specs.declared.bound_names.BoundNames.{BoundNames}
use Rattle.csp_names.specs.declared.refusals.Refused.{Refused}
use Rattle.csp_names.specs.declared.refusals.Refused.TheVariants as refused
use Rattle.csp_names.specs.declared.scope.Scope.{Scope}
use Rattle.csp_names.specs.Scopes.{StandsFor}
use Rattle.csp_names.specs.Walks.{ResolvesConstructor, ResolvesExpression, ResolvesExpressions, Stops}
use Rattle.csp_names.proofs.Resolves.{number_of_list}
use Rattle.csp_names.proofs.Walking.{all_passed, made, one_passed, Passed, passed_stops, stops_behind, stops_first, stops_for_room}

-- ---- several expressions

one_more : (o : Option pure.Expression) (p : Option (List pure.Expression)) → of_two pure.expression_and o (option_map to_expressions p) ≡ option_map to_expressions (of_two ◌∷◌ o p)
one_more None p = refl
one_more (Some x) None = refl
one_more (Some x) (Some xs) = refl

module _ {A : Type 0} (env : Environment) where
  abbrev pub sites_of : Expression A → List Site
  sites_of e = in_expression env (expression_of e)

  abbrev pub meaning_of : Expression A → Option pure.Expression
  meaning_of e = resolving.expression_of env (expression_of e)

  pub sites_in_turn : (es : List (Expression A)) → in_expressions env (expressions_of es) ≡ flat_map sites_of es
  sites_in_turn [] = refl
  sites_in_turn (e ∷ es) = ap (λ xs. sites_of e ++ xs) (sites_in_turn es)

  pub meanings_in_turn : (es : List (Expression A)) → resolving.expressions_of env (expressions_of es) ≡ option_map to_expressions (every meaning_of es)
  meanings_in_turn [] = refl
  meanings_in_turn (e ∷ es) = ap (of_two pure.expression_and (meaning_of e)) (meanings_in_turn es) ∙ one_more (meaning_of e) (every meaning_of es)

-- the first of them are fine
abbrev pub Resolving : {A : Type 0} → Scope A → BoundNames A → List (Expression A) → ℕ → List (Expr A) → Type 0
Resolving {A} scope bound es i done = (env : Environment) → StandsFor scope bound env → Passed (sites_of {A = A} env) (meaning_of {A = A} env) terms.expression_of es i done

module _ {A : Type 0} (scope : Scope A) (bound : BoundNames A) (es : List (Expression A)) where
  pub none_resolved : Resolving scope bound es 0 []
  none_resolved env stands = record { fine = tt; meaning = refl }

  pub one_resolved : (i : ℕ) (done new : List (Expr A)) (e : Expression A) (t : Expr A) → i < length es → e ≡ get_or es i e → Resolving scope bound es i done → ResolvesExpression scope bound (expression_of e) (Ok t) → new ≡ done ++ t ∷ [] → Resolving scope bound es (i + 1) new
  one_resolved i done new e t within read so_far one pushed env stands =
      let h = one env stands in
      one_passed (sites_of {A = A} env) (meaning_of {A = A} env) terms.expression_of es i done new e t within read (so_far env stands) h.0 h.1 pushed

  pub one_stops : (i : ℕ) (done : List (Expr A)) (e : Expression A) (f : Refused) → i < length es → e ≡ get_or es i e → Resolving scope bound es i done → ResolvesExpression scope bound (expression_of e) (Err f) → ResolvesExpressions scope bound (expressions_of es) (Err f)
  one_stops i done e f within read so_far one env stands =
      let P : List Site → Type 0 = λ xs. Stops xs f in
      subst P (sym (sites_in_turn env es)) (passed_stops (sites_of {A = A} env) (meaning_of {A = A} env) terms.expression_of es i done e f within read (so_far env stands) (one env stands))

  pub room_stops : (f : Refused) → f ≡ refused.Memory → ResolvesExpressions scope bound (expressions_of es) (Err f)
  room_stops f is env stands = stops_for_room (in_expressions env (expressions_of es)) f is

  pub all_resolved : (i : ℕ) (v : Vec (Expr A) A) → length es ≤ i → Resolving scope bound es i v.items → ResolvesExpressions scope bound (expressions_of es) (Ok v)
  all_resolved i v over so_far env stands =
      let h = all_passed (sites_of {A = A} env) (meaning_of {A = A} env) terms.expression_of es i v.items over (so_far env stands) in
      let P : List Site → Type 0 = AllFine in
      (subst P (sym (sites_in_turn env es)) h.0, meanings_in_turn env es ∙ ap (option_map to_expressions) h.1)

-- ---- one expression

module _ {A : Type 0} (scope : Scope A) (bound : BoundNames A) (e : RawExpression) where
  abbrev pub Resolved : Result (Expr A) Refused → Type 0
  Resolved r = ResolvesExpression scope bound e r

  pub whole : (x : RawExpression) (r : Result (Expr A) Refused) → e ≡ x → ResolvesExpression scope bound x r → Resolved r
  whole x r is h = let P : RawExpression → Type 0 = λ y. ResolvesExpression scope bound y r in subst P (sym is) h

  pub number_resolved : (n : ℕ) (r : Result (Expr A) Refused) → e ≡ RawNumber n → IfOk r (λ t. terms.expression_of t ≡ pure.Literal (Integer (pos n))) → IfErr r (λ f. f ≡ refused.Memory) → Resolved r
  number_resolved n r is makes stops = whole (RawNumber n) r is (λ env stands. made [] (Some (pure.Literal (Integer (pos n)))) terms.expression_of (pure.Literal (Integer (pos n))) r tt refl makes stops)

  pub truth_resolved : (b : Bool) (t : Expr A) → e ≡ RawTruth b → terms.expression_of t ≡ pure.Literal (Truth b) → Resolved (Ok t)
  truth_resolved b t is makes = whole (RawTruth b) (Ok t) is (λ env stands. (tt, ap Some (sym makes)))

  pub booleans_resolved : (t : Expr A) → e ≡ RawBooleans → terms.expression_of t ≡ pure.Booleans → Resolved (Ok t)
  booleans_resolved t is makes = whole RawBooleans (Ok t) is (λ env stands. (tt, ap Some (sym makes)))

  -- an operator with its operand
  pub apply_stops : (op : pure.Unary) (x : RawExpression) (f : Refused) → e ≡ RawApply op x → ResolvesExpression scope bound x (Err f) → Resolved (Err f)
  apply_stops op x f is h = whole (RawApply op x) (Err f) is h

  pub apply_resolved : (op : pure.Unary) (x : RawExpression) (a : Expr A) (r : Result (Expr A) Refused) → e ≡ RawApply op x → ResolvesExpression scope bound x (Ok a) →
      IfOk r (λ t. terms.expression_of t ≡ pure.Apply op (terms.expression_of a)) → IfErr r (λ f. f ≡ refused.Memory) → Resolved r
  apply_resolved op x a r is h makes stops = whole (RawApply op x) r is (λ env stands.
      let part = h env stands in
      made (in_expression env x) (option_map (pure.Apply op) (resolving.expression_of env x)) terms.expression_of (pure.Apply op (terms.expression_of a)) r part.0 (ap (option_map (pure.Apply op)) part.1) makes stops)

  -- two parts
  module _ (x y : RawExpression) (f : pure.Expression → pure.Expression → pure.Expression) where
    pub left_stops : (z : RawExpression) (refusal : Refused) → e ≡ z → ((env : Environment) → in_expression env z ≡ in_expression env x ++ in_expression env y) → ResolvesExpression scope bound x (Err refusal) → Resolved (Err refusal)
    left_stops z refusal is splits h = whole z (Err refusal) is (λ env stands.
        let P : List Site → Type 0 = λ xs. Stops xs refusal in
        subst P (sym (splits env)) (stops_first (in_expression env x) (in_expression env y) refusal (h env stands)))

    pub right_stops : (z : RawExpression) (refusal : Refused) (a : Expr A) → e ≡ z → ((env : Environment) → in_expression env z ≡ in_expression env x ++ in_expression env y) → ResolvesExpression scope bound x (Ok a) → ResolvesExpression scope bound y (Err refusal) → Resolved (Err refusal)
    right_stops z refusal a is splits h k = whole z (Err refusal) is (λ env stands.
        let P : List Site → Type 0 = λ xs. Stops xs refusal in
        subst P (sym (splits env)) (stops_behind (in_expression env x) (in_expression env y) refusal (h env stands).0 (k env stands)))

    pub two_resolved : (z : RawExpression) (a b : Expr A) (r : Result (Expr A) Refused) → e ≡ z → ((env : Environment) → in_expression env z ≡ in_expression env x ++ in_expression env y) →
        ((env : Environment) → resolving.expression_of env z ≡ of_two f (resolving.expression_of env x) (resolving.expression_of env y)) → ResolvesExpression scope bound x (Ok a) → ResolvesExpression scope bound y (Ok b) →
        IfOk r (λ t. terms.expression_of t ≡ f (terms.expression_of a) (terms.expression_of b)) → IfErr r (λ e. e ≡ refused.Memory) → Resolved r
    two_resolved z a b r is splits means h k makes stops = whole z r is (λ env stands.
        let left = h env stands in
        let right = k env stands in
        let P : List Site → Type 0 = AllFine in
        made (in_expression env z) (resolving.expression_of env z) terms.expression_of (f (terms.expression_of a) (terms.expression_of b)) r
        (subst P (sym (splits env)) (fine_both (in_expression env x) (in_expression env y) left.0 right.0)) (means env ∙ ap₂ (of_two f) left.1 right.1) makes stops)

  -- a list of parts
  module _ (xs : RawExpressions) (f : pure.Expressions → pure.Expression) where
    pub items_stop : (z : RawExpression) (refusal : Refused) → e ≡ z → ((env : Environment) → in_expression env z ≡ in_expressions env xs) → ResolvesExpressions scope bound xs (Err refusal) → Resolved (Err refusal)
    items_stop z refusal is holds h = whole z (Err refusal) is (λ env stands. let P : List Site → Type 0 = λ ys. Stops ys refusal in subst P (sym (holds env)) (h env stands))

    pub items_resolved : (z : RawExpression) (v : Vec (Expr A) A) (t : Expr A) → e ≡ z → ((env : Environment) → in_expression env z ≡ in_expressions env xs) → ((env : Environment) → resolving.expression_of env z ≡ option_map f (resolving.expressions_of env xs)) →
        ResolvesExpressions scope bound xs (Ok v) → terms.expression_of t ≡ f (to_expressions (terms.expressions_of v.items)) → Resolved (Ok t)
    items_resolved z v t is holds means h makes = whole z (Ok t) is (λ env stands.
        let part = h env stands in
        let P : List Site → Type 0 = AllFine in
        (subst P (sym (holds env)) part.0, means env ∙ ap (option_map f) part.1 ∙ ap Some (sym makes)))

  -- a constructor with its fields
  module _ (n : RawName) (es : List (Expression A)) (count : ℕ) (counted : count ≡ length es) (is : e ≡ RawConstructor n (expressions_of es)) where
    abbrev head : Environment → List Site
    head env = Used env (AsConstructor (number_of (expressions_of es))) n ∷ []

    named : (r : Result ConId Refused) → ResolvesConstructor scope bound count n r → ResolvesConstructor scope bound (number_of (expressions_of es)) n r
    named r h = let P : ℕ → Type 0 = λ k. ResolvesConstructor scope bound k n r in subst P (counted ∙ number_of_list es) h

    pub constructor_stops : (f : Refused) → ResolvesConstructor scope bound count n (Err f) → Resolved (Err f)
    constructor_stops f h = whole (RawConstructor n (expressions_of es)) (Err f) is (λ env stands. stops_first (head env) (in_expressions env (expressions_of es)) f (named (Err f) h env stands))

    pub fields_stop : (k : ConId) (f : Refused) → ResolvesConstructor scope bound count n (Ok k) → ResolvesExpressions scope bound (expressions_of es) (Err f) → Resolved (Err f)
    fields_stop k f h rest = whole (RawConstructor n (expressions_of es)) (Err f) is (λ env stands.
        stops_behind (head env) (in_expressions env (expressions_of es)) f (named (Ok k) h env stands).0 (rest env stands))

    pub constructor_resolved : (k : ConId) (v : Vec (Expr A) A) (t : Expr A) → ResolvesConstructor scope bound count n (Ok k) → ResolvesExpressions scope bound (expressions_of es) (Ok v) →
        terms.expression_of t ≡ pure.ConstructorOf k.0 (to_expressions (terms.expressions_of v.items)) → Resolved (Ok t)
    constructor_resolved k v t h rest makes = whole (RawConstructor n (expressions_of es)) (Ok t) is (λ env stands.
        let first = named (Ok k) h env stands in
        let fields = rest env stands in
        (fine_both (head env) (in_expressions env (expressions_of es)) first.0 fields.0, ap₂ (of_two pure.ConstructorOf) first.1 fields.1 ∙ ap Some (sym makes)))
