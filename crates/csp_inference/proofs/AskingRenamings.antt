-- Renamings ask pair by pair.
use denote.RattleType
use mir.Syntax
use lib.Pointwise.{pointwise}
use Rattle.std.proofs.Common.{◌≡◌, ℕ, ◌==◌, Bool, true, false, cond, List, [], ◌∷◌, ◌++◌, length, map, vec_len, Some, None, refl, sym, ◌∙◌, ap, ap₂}
use Rattle.std.proofs.Math.Dec.{eqb-suc-zero}
use Rattle.std.specs.Prelude.{slice_get, option_map}
use Rattle.std.proofs.lemmas.Cmp.{lists_total, tied_itself}
use Rattle.std.proofs.lemmas.Option.{slice_get-map}
use Rattle.std.specs.declared.alloc.Allocator as allocator
use Rattle.std.specs.Cmp.Lexicographic.{slice_cmp}
use Rattle.std.specs.FinMap.{slice_cmp-IsAntisymmetric}
use Rattle.std.specs.Ordering.{is_eq}
use Rattle.theory_syntax.specs.Value as pure
use Rattle.theory_syntax.specs.Expression.{to_expressions}
use Rattle.theory_syntax.specs.Process as process
use Rattle.theory_semantics.specs.Meaning.Events.{is_bare, same_sets}
use Rattle.theory_syntax.proofs.Equalities.{is_eq-Equal, value_same}
use Rattle.theory_syntax.proofs.Orders.{value_total}
use Rattle.theory_checking.specs.Inference.State.{KindEquation}
use Rattle.theory_checking.specs.Inference.Equations as numbers
use Rattle.theory_checking.specs.Inference.Processes.{are_bare_alike, are_same_sets, behind_event, behind_pairs, of_event, of_pair, of_pairs}
use Rattle.csp_value.specs.declared.field_set.FieldSet.{FieldSet}
use Rattle.csp_value.specs.contracts.field_set.FieldSetPartialEq.TheImpl as field_impl
use Rattle.csp_value.specs.Value.{members_of}
use Rattle.csp_value.proofs.Equality.{set_tells}
use Rattle.csp_value.proofs.Sameness.{Tells, lists_tell}
use Rattle.csp_value.proofs.Forms.{unlisted}
use Rattle.csp_expression.specs.declared.expr.Expr.{Expr}
use Rattle.csp_expression.specs.Expression.{expressions_of}
use Rattle.csp_events.specs.declared.event_expression.EventExpression.{EventExpression}
use Rattle.csp_events.specs.declared.renaming_pair.RenamingPair.{RenamingPair}
use Rattle.csp_events.specs.Events.{event_expression_of, renaming_pairs_of}
use Rattle.csp_events.specs.declared.channel.Channel.{Channel}
use Rattle.csp_value.specs.Fields.{field_values}
use Rattle.csp_events.specs.Channels.{field_sets_of}
use Rattle.csp_inference.specs.declared.equations.Equations.{Equations}
use Rattle.csp_inference.specs.Equations.{Asks}
use Rattle.csp_inference.proofs.Asking.{asks_same, asks_then}

same_truth : (a b : Bool) → (a ≡ true → b ≡ true) → (b ≡ true → a ≡ true) → a ≡ b
same_truth true b to back = sym (to refl)
same_truth false true to back = back refl
same_truth false false to back = refl

-- lists of field sets are compared as those that they stand for
module _ (R : RattleType.RattleType) (A : allocator.Ghosts R.Denot) (ad dd : Syntax.Dict) where
  abbrev field_eq : FieldSet R.Denot → FieldSet R.Denot → Bool
  field_eq = (field_impl.ghosts R A ad dd).eq

  field_tells : Tells field_eq (field_values {A = R.Denot})
  field_tells = record {
    sound = λ x y e. ap pure.values_list ((set_tells R A ad dd).sound x.values y.values e);
    complete = λ x y e. (set_tells R A ad dd).complete x.values y.values (sym (unlisted (members_of x.values)) ∙ ap pure.to_values e ∙ unlisted (members_of y.values));
  }

  pub sets_compared : (xs ys : List (FieldSet R.Denot)) → pointwise field_eq xs ys ≡ same_sets (map field_values xs) (map field_values ys)
  sets_compared xs ys =
      let told = lists_tell field_eq field_values field_tells in
      let order = slice_cmp (slice_cmp pure.value_cmp) in
      same_truth (pointwise field_eq xs ys) (same_sets (map field_values xs) (map field_values ys))
      (λ e. ap is_eq (ap (order (map field_values xs)) (sym (told.sound xs ys e)) ∙ tied_itself (lists_total (lists_total value_total)) (map field_values xs)))
      (λ e. told.complete xs ys
      (slice_cmp-IsAntisymmetric (slice_cmp-IsAntisymmetric value_same) (map field_values xs) (map field_values ys) (is_eq-Equal (order (map field_values xs) (map field_values ys)) e)))

-- no fields are no expressions
pub none_is_bare : {A : Type 0} (written : EventExpression A) → (vec_len written.fields == 0) ≡ is_bare (event_expression_of written)
none_is_bare {A} written = ap (λ n. n == 0) written.fields.ok.0 ∙ by_list written.fields.items
  where
    by_list : (es : List (Expr A)) → (length es == 0) ≡ is_bare (record { channel = written.channel.0; fields = to_expressions (expressions_of es) })
    by_list [] = refl
    by_list (e ∷ es) = eqb-suc-zero (length es)

-- two channels that are there
pub both_there : {A : Type 0} (cs : List (Channel A)) (i j : ℕ) (x y : Channel A) →
    slice_get cs i ≡ Some x → slice_get cs j ≡ Some y →
    are_same_sets (slice_get (map field_sets_of cs) i) (slice_get (map field_sets_of cs) j) ≡ same_sets (field_sets_of x) (field_sets_of y)
both_there cs i j x y first second =
    ap₂ are_same_sets (slice_get-map field_sets_of cs i ∙ ap (option_map field_sets_of) first)
    (slice_get-map field_sets_of cs j ∙ ap (option_map field_sets_of) second)

pub second_missing : {A : Type 0} (cs : List (Channel A)) (i j : ℕ) (x : Channel A) →
    slice_get cs i ≡ Some x → slice_get (map field_sets_of cs) j ≡ None →
    false ≡ are_same_sets (slice_get (map field_sets_of cs) i) (slice_get (map field_sets_of cs) j)
second_missing cs i j x first none = sym (ap₂ are_same_sets (slice_get-map field_sets_of cs i ∙ ap (option_map field_sets_of) first) none)

pub first_missing : {A : Type 0} (cs : List (Channel A)) (i j : ℕ) →
    slice_get (map field_sets_of cs) i ≡ None → false ≡ are_same_sets (slice_get (map field_sets_of cs) i) (slice_get (map field_sets_of cs) j)
first_missing cs i j none = sym (ap (λ o. are_same_sets o (slice_get (map field_sets_of cs) j)) none)

abbrev pub asked_pairs : {A : Type 0} → process.Script → numbers.Numbering → numbers.Numbered → ℕ → List (RenamingPair A) → List KindEquation
asked_pairs script o names n rs = of_pairs script o n names (renaming_pairs_of rs)

abbrev pub behind_asked_pairs : {A : Type 0} → ℕ → List (RenamingPair A) → ℕ
behind_asked_pairs n rs = behind_pairs n (renaming_pairs_of rs)

-- a pair of events: both are asked
pub asked_both : {A : Type 0} (script : process.Script) (o : numbers.Numbering) (names : numbers.Numbered) (s t u : Equations A) (r : process.RenamingPair) →
    are_bare_alike script r ≡ false → Asks s t (of_event script.types o s.next names r.from) (behind_event s.next r.from) →
    Asks t u (of_event script.types o t.next names r.to) (behind_event t.next r.to) →
    Asks s u (of_pair script o s.next names r) (behind_event (behind_event s.next r.from) r.to)
asked_both script o names s t u r unlike first second =
    let es = of_event script.types o s.next names r.from ++ of_event script.types o (behind_event s.next r.from) names r.to in
    asks_same s u es (of_pair script o s.next names r) (behind_event (behind_event s.next r.from) r.to) (behind_event (behind_event s.next r.from) r.to) (sym (ap (λ b. cond b [] es) unlike)) refl
    (asks_then s t u (of_event script.types o s.next names r.from) (behind_event s.next r.from) (λ m. of_event script.types o m names r.to) (λ m. behind_event m r.to) first second)
