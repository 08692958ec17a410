-- Events are resolved part by part: the channel, and then the fields.
use Rattle.std.proofs.Common.{◌≡◌, ℕ, ◌∷◌, [], List, Option, Result, Ok, Err, refl, subst}
use Rattle.std.specs.declared.vec.Vec.{Vec}
use Rattle.theory_syntax.specs.Expression.{to_expressions}
use Rattle.theory_syntax.specs.Process as pure
use Rattle.theory_text.specs.Raw.{RawName, RawExpressions}
use Rattle.theory_checking.specs.Names.{Environment, meaning}
use Rattle.theory_checking.specs.Resolving as resolving
use Rattle.theory_checking.specs.Resolving.{number_of}
use Rattle.theory_checking.specs.Sites.{Use, Site, Used, in_expressions}
use Rattle.csp_parse.specs.declared.expressions.Expression as raw
use Rattle.csp_parse.specs.Expressions as written
use Rattle.csp_value.specs.declared.name.ChannelId.{ChannelId}
use Rattle.csp_expression.specs.declared.expr.Expr.{Expr}
use Rattle.csp_expression.specs.Expression.{expressions_of}
use Rattle.csp_events.specs.declared.event_expression.EventExpression.{EventExpression}
use Rattle.csp_events.specs.Events.{event_expression_of}
use Rattle.csp_names.specs.declared.bound_names.BoundNames.{BoundNames}
use Rattle.csp_names.specs.declared.refusals.Refused.{Refused}
use Rattle.csp_names.specs.declared.scope.Scope.{Scope}
use Rattle.csp_names.specs.Walks.{Resolves, ResolvesChannel, ResolvesExpressions}
use Rattle.csp_names.proofs.Resolves.{both_made, first_stops, second_stops}

-- The channel is used with so many fields as are given.
module _ {A : Type 0} (scope : Scope A) (b : BoundNames A) (used : ℕ → Use) (n : RawName) (es : RawExpressions) (k : ℕ) (counted : k ≡ number_of es) where
  abbrev pub ResolvesUsed : Result (EventExpression A) Refused → Type 0
  ResolvesUsed r = Resolves scope b (λ env. Used env (used (number_of es)) n ∷ in_expressions env es) (λ env. resolving.event_of env (record { channel = n; fields = es })) event_expression_of r

  abbrev head : Environment → List Site
  head env = Used env (used (number_of es)) n ∷ []

  abbrev tail : Environment → List Site
  tail env = in_expressions env es

  abbrev channel : Environment → Option ℕ
  channel env = resolving.as_channel (meaning env n)

  abbrev whole : Environment → Option pure.EventExpression
  whole env = resolving.event_of env (record { channel = n; fields = es })

  as_counted : (r : Result ChannelId Refused) → ResolvesChannel scope b (used k) n r → ResolvesChannel scope b (used (number_of es)) n r
  as_counted r h = let P : ℕ → Type 0 = λ j. ResolvesChannel scope b (used j) n r in subst P counted h

  pub channel_stops : (f : Refused) → ResolvesChannel scope b (used k) n (Err f) → ResolvesUsed (Err f)
  channel_stops f h = first_stops scope b head tail channel (λ env. resolving.expressions_of env es) (λ (d : ChannelId). d.0) (event_expression_of {A = A}) whole f (as_counted (Err f) h)

  pub fields_stop : (c : ChannelId) (f : Refused) → ResolvesChannel scope b (used k) n (Ok c) → ResolvesExpressions scope b es (Err f) → ResolvesUsed (Err f)
  fields_stop c f h k =
      second_stops scope b head tail channel (λ env. resolving.expressions_of env es) (λ (d : ChannelId). d.0) (λ (w : Vec (Expr A) A). to_expressions (expressions_of w.items)) (event_expression_of {A = A}) whole c f (as_counted (Ok c) h) (λ env stands knows. k env stands)

  pub event_made : (c : ChannelId) (v : Vec (Expr A) A) → ResolvesChannel scope b (used k) n (Ok c) → ResolvesExpressions scope b es (Ok v) → ResolvesUsed (Ok (record { channel = c; fields = v }))
  event_made c v h k =
      both_made scope b head tail channel (λ env. resolving.expressions_of env es) (λ (d : ChannelId). d.0) (λ (w : Vec (Expr A) A). to_expressions (expressions_of w.items)) (event_expression_of {A = A}) (λ i fs. record { channel = i; fields = fs }) c v
      (Ok (record { channel = c; fields = v })) (as_counted (Ok c) h) (λ env stands knows. k env stands) refl tt

-- the fields that were read are those of the event
pub fields_as_read : {A : Type 0} (scope : Scope A) (b : BoundNames A) (read es : List (raw.Expression A)) (r : Result (Vec (Expr A) A) Refused) → read ≡ es → ResolvesExpressions scope b (written.expressions_of read) r → ResolvesExpressions scope b (written.expressions_of es) r
fields_as_read {A} scope b read es r same h = let P : List (raw.Expression A) → Type 0 = λ xs. ResolvesExpressions scope b (written.expressions_of xs) r in subst P same h
