-- Values are put into the fields of a prefix in turn, and what the parts of a term make up.
use Rattle.std.proofs.Common.{◌≡◌, ℕ, ◌+◌, ◌<◌, ◌≤◌, Result, IfOk, List, [], ◌∷◌, ◌++◌, length, drop, get_or, append-nil, refl, sym, ◌∙◌, ap, ap₂}
use Rattle.std.proofs.lemmas.List.{map-append, append_assoc, drop_all}
use Rattle.std.specs.declared.vec.Vec.{Vec}
use Rattle.theory_syntax.specs.Expression.{to_expressions}
use Rattle.theory_syntax.specs.Process as pure
use Rattle.theory_syntax.specs.declared.process_operator.ProcessOperator.{ProcessOperator}
use Rattle.theory_syntax.specs.declared.process_operator.ReplicatedOperator.{ReplicatedOperator}
use Rattle.theory_syntax.specs.Operators.{binary_process, replicated_process}
use Rattle.theory_syntax.proofs.Places.{cut}
use Rattle.theory_semantics.specs.Meaning.Substitution.{Bindings, behind, put, put_event_set, put_expression, put_fields, put_pairs, without}
use Rattle.csp_value.specs.declared.name.ChannelId.{ChannelId}
use Rattle.csp_term.specs.declared.name.EquationId.{EquationId}
use Rattle.csp_expression.specs.declared.name.Name.{Name}
use Rattle.csp_events.specs.declared.event_set.EventSet.{EventSet}
use Rattle.csp_events.specs.declared.renaming_pair.RenamingPair.{RenamingPair}
use Rattle.csp_expression.specs.declared.expr.Expr.{Expr}
use Rattle.csp_term.specs.declared.field.Field.{Field}
use Rattle.csp_term.specs.declared.term.Term.{Term, out-Term}
use Rattle.csp_term.specs.declared.term.TermForm.{TermForm}
use Rattle.csp_term.specs.declared.term.TermForm.TheVariants as views
use Rattle.csp_expression.specs.Bindings.{puts}
use Rattle.csp_expression.specs.Expression.{expression_of, expressions_of}
use Rattle.csp_events.specs.Events.{event_set_of, renaming_pairs_of}
use Rattle.csp_term.specs.Field.{field_of, fields_of}
use Rattle.csp_term.specs.Term.{process_of, process_of_form}
use Rattle.std.proofs.lemmas.Result.{IfOk-weaker}
use Rattle.csp_expression.proofs.ExpressionPutting.{put_list}
use Rattle.csp_term.proofs.Forms.{of_form, of_call, of_prefix, of_guard, of_conditional, of_binary, of_generalised, of_alphabetised, of_hiding, of_renaming, of_replicated, of_sliding}
use Rattle.csp_term.proofs.OperatorForms.{binary_put, replicated_put}

-- ---- fields, one and then the others

put_first : (bs : Bindings) (f : pure.Field) (fs : List pure.Field) → put_fields bs (f ∷ fs) ≡ put_fields bs (f ∷ []) ++ put_fields (behind bs (f ∷ [])) fs
put_first bs (pure.Given e) fs = refl
put_first bs (pure.Input n) fs = refl
put_first bs (pure.InputFrom n e) fs = refl

behind_first : (bs : Bindings) (f : pure.Field) (fs : List pure.Field) → behind bs (f ∷ fs) ≡ behind (behind bs (f ∷ [])) fs
behind_first bs (pure.Given e) fs = refl
behind_first bs (pure.Input n) fs = refl
behind_first bs (pure.InputFrom n e) fs = refl

module _ {A : Type 0} (bs : Bindings) (fs : List (Field A)) where
  -- what is put in so far, and then into what is left, is put into all of them
  abbrev pub Fills : List (Field A) → Bindings → ℕ → Type 0
  Fills all left i = fields_of all ++ put_fields left (fields_of (drop i fs)) ≡ put_fields bs (fields_of fs)

  -- what is left of the bindings behind all of them
  abbrev pub Leaves : Bindings → ℕ → Type 0
  Leaves left i = behind left (fields_of (drop i fs)) ≡ behind bs (fields_of fs)

  pub filled : (all more : List (Field A)) (left less : Bindings) (i : ℕ) (f new : Field A) → i < length fs → f ≡ get_or fs i f → field_of new ∷ [] ≡ put_fields left (field_of f ∷ []) → less ≡ behind left (field_of f ∷ []) → more ≡ all ++ new ∷ [] →
      Fills all left i → Fills more less (i + 1)
  filled all more left less i f new within read one is pushed fills =
      let rest = fields_of (drop (i + 1) fs) in
      let opened : put_fields left (fields_of (drop i fs)) ≡ (field_of new ∷ []) ++ put_fields less rest =
      ap (λ gs. put_fields left (fields_of gs)) (sym (cut fs i f within read)) ∙ put_first left (field_of f) rest ∙ ap₂ (λ gs cs. gs ++ put_fields cs rest) (sym one) (sym is)
      in
      let joined : fields_of more ++ put_fields less rest ≡ fields_of all ++ ((field_of new ∷ []) ++ put_fields less rest) =
      ap (λ gs. fields_of gs ++ put_fields less rest) pushed ∙ ap (λ gs. gs ++ put_fields less rest) (map-append field_of all (new ∷ [])) ∙ append_assoc (fields_of all) (field_of new ∷ []) (put_fields less rest)
      in joined ∙ ap (λ gs. fields_of all ++ gs) (sym opened) ∙ fills

  pub left_behind : (left less : Bindings) (i : ℕ) (f : Field A) → i < length fs → f ≡ get_or fs i f → less ≡ behind left (field_of f ∷ []) → Leaves left i → Leaves less (i + 1)
  left_behind left less i f within read is leaves =
      let rest = fields_of (drop (i + 1) fs) in
      ap (λ cs. behind cs rest) is ∙ sym (behind_first left (field_of f) rest) ∙ ap (λ gs. behind left (fields_of gs)) (cut fs i f within read) ∙ leaves

  -- where all of them are behind
  pub all_filled : (all : List (Field A)) (left : Bindings) (i : ℕ) → length fs ≤ i → Fills all left i → fields_of all ≡ put_fields bs (fields_of fs)
  all_filled all left i past fills = sym (append-nil (fields_of all)) ∙ ap (λ gs. fields_of all ++ put_fields left (fields_of gs)) (sym (drop_all i fs past)) ∙ fills

  pub all_behind : (left : Bindings) (i : ℕ) → length fs ≤ i → Leaves left i → left ≡ behind bs (fields_of fs)
  all_behind left i past leaves = ap (λ gs. behind left (fields_of gs)) (sym (drop_all i fs past)) ∙ leaves

-- ---- terms

-- a term that is made of a form
pub put_form : {A X : Type 0} (bs : Bindings) (self : Term A) (f form : TermForm A) (r : Result (Term A) X) → f ≡ (out-Term A self).form.value → process_of_form form ≡ put bs (process_of_form f) → IfOk r (λ t. process_of t ≡ process_of_form form) →
    IfOk r (λ t. process_of t ≡ put bs (process_of self))
put_form {A} bs self f form r read done made = IfOk-weaker r _ _ (λ t is. is ∙ done ∙ ap (put bs) (ap process_of_form read ∙ sym (of_form A self))) made

-- values that are put into the process that a form stands for are put into the form
pub put_standing : {A X : Type 0} (bs : Bindings) (self : TermForm A) (p : pure.Process) (r : Result (TermForm A) X) → process_of_form self ≡ p → IfOk r (λ f. process_of_form f ≡ put bs p) → IfOk r (λ f. process_of_form f ≡ put bs (process_of_form self))
put_standing bs self p r stands done = IfOk-weaker r _ _ (λ f is. is ∙ ap (put bs) (sym stands)) done

pub put_call : {A : Type 0} (bs : Bindings) (n : EquationId) (es : List (Expr A)) (all : Vec (Expr A) A) → expressions_of all.items ≡ puts bs es → process_of_form {A = A} (views.Call n all) ≡ put bs (pure.Call n.0 (to_expressions (expressions_of es)))
put_call {A} bs n es all done = of_call A n all ∙ ap (λ fs. pure.Call n.0 (to_expressions fs)) done ∙ ap (pure.Call n.0) (put_list bs es)

pub put_prefix : {A : Type 0} (bs left : Bindings) (c : ChannelId) (fs : List (Field A)) (all : Vec (Field A) A) (p body : Term A) → fields_of all.items ≡ put_fields bs (fields_of fs) → left ≡ behind bs (fields_of fs) → process_of body ≡ put left (process_of p) →
    process_of_form {A = A} (views.Prefix c all body) ≡ put bs (pure.Prefix c.0 (fields_of fs) (process_of p))
put_prefix {A} bs left c fs all p body done rest put_body = of_prefix A c all body ∙ ap₂ (pure.Prefix c.0) done (put_body ∙ ap (λ cs. put cs (process_of p)) rest)

pub put_guard : {A X : Type 0} (bs : Bindings) (self : TermForm A) (e : Expr A) (p body : Term A) (r : Result (TermForm A) X) → self ≡ views.Guard e p → process_of body ≡ put bs (process_of p) →
    IfOk r (λ f. process_of_form f ≡ pure.Guard (put_expression bs (expression_of e)) (process_of body)) → IfOk r (λ f. process_of_form f ≡ put bs (process_of_form self))
put_guard {A} bs self e p body r is put_body done =
    IfOk-weaker r _ _ (λ f made. made ∙ ap (pure.Guard (put_expression bs (expression_of e))) put_body ∙ ap (put bs) (sym (ap process_of_form is ∙ of_guard A e p))) done

pub put_conditional : {A X : Type 0} (bs : Bindings) (self : TermForm A) (e : Expr A) (p first q : Term A) (r : Result (TermForm A) X) → self ≡ views.If e p q → process_of first ≡ put bs (process_of p) →
    IfOk r (λ f. process_of_form f ≡ pure.If (put_expression bs (expression_of e)) (process_of first) (put bs (process_of q))) → IfOk r (λ f. process_of_form f ≡ put bs (process_of_form self))
put_conditional {A} bs self e p first q r is put_first_branch done =
    IfOk-weaker r _ _ (λ f made. made ∙ ap (λ t. pure.If (put_expression bs (expression_of e)) t (put bs (process_of q))) put_first_branch ∙ ap (put bs) (sym (ap process_of_form is ∙ of_conditional A e p q))) done

pub put_binary : {A X : Type 0} (bs : Bindings) (self : TermForm A) (op : ProcessOperator) (p left q : Term A) (r : Result (TermForm A) X) → self ≡ views.Binary op p q → process_of left ≡ put bs (process_of p) →
    IfOk r (λ f. process_of_form f ≡ binary_process op (process_of left) (put bs (process_of q))) → IfOk r (λ f. process_of_form f ≡ put bs (process_of_form self))
put_binary {A} bs self op p left q r is put_left done =
    IfOk-weaker r _ _ (λ f made. made ∙ ap (λ t. binary_process op t (put bs (process_of q))) put_left ∙ sym (binary_put bs op (process_of p) (process_of q)) ∙ ap (put bs) (sym (ap process_of_form is ∙ of_binary A op p q))) done

pub put_generalised : {A X : Type 0} (bs : Bindings) (self : TermForm A) (p left : Term A) (a : EventSet A) (q : Term A) (r : Result (TermForm A) X) → self ≡ views.GeneralisedParallel p a q → process_of left ≡ put bs (process_of p) →
    IfOk r (λ f. process_of_form f ≡ pure.GeneralisedParallel (process_of left) (put_event_set bs (event_set_of a)) (put bs (process_of q))) → IfOk r (λ f. process_of_form f ≡ put bs (process_of_form self))
put_generalised {A} bs self p left a q r is put_left done =
    IfOk-weaker r _ _ (λ f made. made ∙ ap (λ t. pure.GeneralisedParallel t (put_event_set bs (event_set_of a)) (put bs (process_of q))) put_left ∙ ap (put bs) (sym (ap process_of_form is ∙ of_generalised A p a q))) done

pub put_alphabetised : {A X : Type 0} (bs : Bindings) (self : TermForm A) (p left : Term A) (a b : EventSet A) (q : Term A) (r : Result (TermForm A) X) → self ≡ views.AlphabetisedParallel p a b q → process_of left ≡ put bs (process_of p) →
    IfOk r (λ f. process_of_form f ≡ pure.AlphabetisedParallel (process_of left) (put_event_set bs (event_set_of a)) (put_event_set bs (event_set_of b)) (put bs (process_of q))) → IfOk r (λ f. process_of_form f ≡ put bs (process_of_form self))
put_alphabetised {A} bs self p left a b q r is put_left done =
    IfOk-weaker r _ _ (λ f made. made ∙ ap (λ t. pure.AlphabetisedParallel t (put_event_set bs (event_set_of a)) (put_event_set bs (event_set_of b)) (put bs (process_of q))) put_left ∙ ap (put bs) (sym (ap process_of_form is ∙ of_alphabetised A p a b q))) done

pub put_sliding : {A X : Type 0} (bs : Bindings) (self : TermForm A) (p left q : Term A) (r : Result (TermForm A) X) → self ≡ views.SlidingChoice p q → process_of left ≡ put bs (process_of p) →
    IfOk r (λ f. process_of_form f ≡ pure.SlidingChoice (process_of left) (put bs (process_of q))) → IfOk r (λ f. process_of_form f ≡ put bs (process_of_form self))
put_sliding {A} bs self p left q r is put_left done =
    IfOk-weaker r _ _ (λ f made. made ∙ ap (λ t. pure.SlidingChoice t (put bs (process_of q))) put_left ∙ ap (put bs) (sym (ap process_of_form is ∙ of_sliding A p q))) done

pub made_conditional : {A : Type 0} (bs : Bindings) (e condition : Expr A) (first q second : Term A) → expression_of condition ≡ put_expression bs (expression_of e) → process_of second ≡ put bs (process_of q) →
    process_of_form {A = A} (views.If condition first second) ≡ pure.If (put_expression bs (expression_of e)) (process_of first) (put bs (process_of q))
made_conditional {A} bs e condition first q second done put_second = of_conditional A condition first second ∙ ap₂ (λ x t. pure.If x (process_of first) t) done put_second

pub made_binary : {A : Type 0} (bs : Bindings) (op : ProcessOperator) (left q right : Term A) → process_of right ≡ put bs (process_of q) → process_of_form {A = A} (views.Binary op left right) ≡ binary_process op (process_of left) (put bs (process_of q))
made_binary {A} bs op left q right put_right = of_binary A op left right ∙ ap (binary_process op (process_of left)) put_right

pub made_generalised : {A : Type 0} (bs : Bindings) (left : Term A) (a shared : EventSet A) (q right : Term A) → event_set_of shared ≡ put_event_set bs (event_set_of a) → process_of right ≡ put bs (process_of q) →
    process_of_form {A = A} (views.GeneralisedParallel left shared right) ≡ pure.GeneralisedParallel (process_of left) (put_event_set bs (event_set_of a)) (put bs (process_of q))
made_generalised {A} bs left a shared q right put_shared put_right = of_generalised A left shared right ∙ ap₂ (pure.GeneralisedParallel (process_of left)) put_shared put_right

pub made_alphabetised : {A : Type 0} (bs : Bindings) (left : Term A) (a own b other : EventSet A) (q right : Term A) → event_set_of own ≡ put_event_set bs (event_set_of a) → event_set_of other ≡ put_event_set bs (event_set_of b) → process_of right ≡ put bs (process_of q) →
    process_of_form {A = A} (views.AlphabetisedParallel left own other right) ≡ pure.AlphabetisedParallel (process_of left) (put_event_set bs (event_set_of a)) (put_event_set bs (event_set_of b)) (put bs (process_of q))
made_alphabetised {A} bs left a own b other q right put_own put_other put_right =
    of_alphabetised A left own other right ∙ (λ i. pure.AlphabetisedParallel (process_of left) (put_own i) (put_other i) (put_right i))

pub made_sliding : {A : Type 0} (bs : Bindings) (left q right : Term A) → process_of right ≡ put bs (process_of q) →
    process_of_form {A = A} (views.SlidingChoice left right) ≡ pure.SlidingChoice (process_of left) (put bs (process_of q))
made_sliding {A} bs left q right put_right = of_sliding A left right ∙ ap (pure.SlidingChoice (process_of left)) put_right

pub put_hiding : {A X : Type 0} (bs : Bindings) (self : TermForm A) (p body : Term A) (a : EventSet A) (r : Result (TermForm A) X) → self ≡ views.Hiding p a → process_of body ≡ put bs (process_of p) →
    IfOk r (λ f. process_of_form f ≡ pure.Hiding (process_of body) (put_event_set bs (event_set_of a))) → IfOk r (λ f. process_of_form f ≡ put bs (process_of_form self))
put_hiding {A} bs self p body a r is put_body done =
    IfOk-weaker r _ _ (λ f made. made ∙ ap (λ t. pure.Hiding t (put_event_set bs (event_set_of a))) put_body ∙ ap (put bs) (sym (ap process_of_form is ∙ of_hiding A p a))) done

pub put_renaming : {A : Type 0} (bs : Bindings) (p body : Term A) (rs : List (RenamingPair A)) (pairs : Vec (RenamingPair A) A) → process_of body ≡ put bs (process_of p) → renaming_pairs_of pairs.items ≡ put_pairs bs (renaming_pairs_of rs) →
    process_of_form {A = A} (views.Renaming body pairs) ≡ put bs (pure.Renaming (process_of p) (renaming_pairs_of rs))
put_renaming {A} bs p body rs pairs put_body done = of_renaming A body pairs ∙ ap₂ pure.Renaming put_body done

pub put_replicated : {A : Type 0} (bs left : Bindings) (op : ReplicatedOperator) (n : Name) (p body : Term A) (e set : Expr A) → expression_of set ≡ put_expression bs (expression_of e) → left ≡ without n.0 bs → process_of body ≡ put left (process_of p) →
    process_of_form {A = A} (views.Replicated op n set body) ≡ put bs (replicated_process op n.0 (expression_of e) (process_of p))
put_replicated {A} bs left op n p body e set done rest put_body =
    of_replicated A op n set body ∙ ap₂ (replicated_process op n.0) done (put_body ∙ ap (λ cs. put cs (process_of p)) rest) ∙ sym (replicated_put bs op n.0 (expression_of e) (process_of p))
