-- The derived `==` is true exactly where two values stand for the same.
use denote.RattleType
use mir.Syntax
use lib.Pointwise.{pointwise}
use Rattle.std.proofs.Common.{◌≡◌, ℕ, zero, suc, Bool, true, false, ◌&&◌, nat_eq, List, map, refl, sym, ap, ap₂, ◌∙◌}
use Rattle.std.proofs.lemmas.Bool.{and_from}
use Rattle.std.specs.declared.alloc.Allocator as allocator
use Rattle.std.specs.String.{string_bytes}
use Rattle.std.specs.Bool.{beq}
use Rattle.std.specs.Ordering.{is_eq}
use Rattle.theory_syntax.specs.Value as pure
use Rattle.theory_syntax.specs.Process as syntax
use Rattle.theory_syntax.specs.Order.{process_cmp}
use Rattle.theory_syntax.proofs.Equalities.{is_eq-Equal}
use Rattle.theory_syntax.proofs.ProcessOrder.{process_same, process_refl}
use Rattle.theory_syntax.proofs.Truths.{and_first, and_second}
use Rattle.theory_syntax.specs.declared.model.Model.{Model}
use Rattle.theory_syntax.specs.declared.model.Model.TheVariants as model
use Rattle.theory_syntax.specs.contracts.model.ModelPartialEq.TheImpl as model_impl
use Rattle.theory_syntax.specs.declared.reading.Unfolding.{Unfolding}
use Rattle.theory_syntax.specs.declared.reading.Unfolding.TheVariants as reads
use Rattle.theory_syntax.specs.contracts.reading.UnfoldingPartialEq.TheImpl as unfolding_impl
use Rattle.theory_syntax.specs.Models.{model_of, unfolding_of}
use Rattle.csp_value.specs.declared.set.SetOf.{SetOf}
use Rattle.csp_value.specs.Value.{members_of}
use Rattle.csp_value.proofs.Equality.{set_eq, set_tells}
use Rattle.csp_expression.specs.declared.types.Constructors.{Constructors}
use Rattle.csp_expression.specs.declared.types.ConstructorFields.{ConstructorFields}
use Rattle.csp_expression.specs.declared.types.TypeTable.{TypeTable}
use Rattle.csp_term.specs.declared.script.Constructor.{Constructor}
use Rattle.csp_expression.specs.declared.name.Name.{Name}
use Rattle.csp_term.specs.declared.assertion.Assertion.{Assertion}
use Rattle.csp_term.specs.declared.property.Property.{Property}
use Rattle.csp_term.specs.declared.property.Property.TheVariants as property
use Rattle.csp_events.specs.declared.channel.Channel.{Channel}
use Rattle.csp_term.specs.declared.script.Equation.{Equation}
use Rattle.csp_value.specs.declared.field_set.FieldSet.{FieldSet}
use Rattle.csp_value.specs.contracts.field_set.FieldSetPartialEq.TheImpl as field_impl
use Rattle.csp_term.specs.declared.script.ScriptParts.{ScriptParts}
use Rattle.csp_term.specs.declared.term.Term.{Term}
use Rattle.csp_term.specs.contracts.assertion.AssertionPartialEq.TheImpl as assertion_impl
use Rattle.csp_term.specs.contracts.property.PropertyPartialEq.TheImpl as property_impl
use Rattle.csp_expression.specs.contracts.types.ConstructorsPartialEq.TheImpl as constructors_impl
use Rattle.csp_expression.specs.contracts.types.ConstructorFieldsPartialEq.TheImpl as constructor_fields_impl
use Rattle.csp_expression.specs.contracts.types.TypeTablePartialEq.TheImpl as table_impl
use Rattle.csp_events.specs.contracts.channel.ChannelPartialEq.TheImpl as channel_impl
use Rattle.csp_term.specs.contracts.script.ConstructorPartialEq.TheImpl as constructor_impl
use Rattle.csp_term.specs.contracts.script.EquationPartialEq.TheImpl as equation_impl
use Rattle.csp_term.specs.contracts.script.ScriptPartsPartialEq.TheImpl as script_impl
use Rattle.csp_term.specs.contracts.term.TermPartialEq.TheImpl as term_impl
use Rattle.csp_term.specs.contracts.term.TermOrd.TheImpl.Laws as term_laws
use Rattle.csp_term.specs.Term.{process_of}
use Rattle.csp_expression.specs.Evaluation.{constructors_of, members_listed, numbers_up, table_of}
use Rattle.csp_value.specs.Fields.{field_values, sets_of}
use Rattle.csp_events.specs.Channels.{channel_of}
use Rattle.csp_term.specs.Script.{assertion_of, equation_of, property_of, script_of_parts}
use Rattle.csp_events.proofs.Channels.{same_channels, same_names, same_sets}
use Rattle.csp_term.proofs.TermOrder.{cmp, ordered}
use Rattle.csp_value.proofs.Sameness.{Tells, nat_tells, text_tells, lists_tell}
use Rattle.csp_value.proofs.Forms.{unlisted}

abbrev pub model_eq : Model → Model → Bool
model_eq = model_impl.ghosts.eq

model_sound : (x y : Model) → model_eq x y ≡ true → model_of x ≡ model_of y
model_sound model.Traces model.Traces e = refl
model_sound model.Failures model.Failures e = refl
model_sound model.Traces model.Failures e = absurd (cc e)
model_sound model.Failures model.Traces e = absurd (cc e)

model_complete : (x y : Model) → model_of x ≡ model_of y → model_eq x y ≡ true
model_complete model.Traces model.Traces e = refl
model_complete model.Failures model.Failures e = refl
model_complete model.Traces model.Failures e = absurd (cc e)
model_complete model.Failures model.Traces e = absurd (cc e)

abbrev pub unfolding_eq : Unfolding → Unfolding → Bool
unfolding_eq = unfolding_impl.ghosts.eq

unfolding_sound : (x y : Unfolding) → unfolding_eq x y ≡ true → unfolding_of x ≡ unfolding_of y
unfolding_sound reads.ByTau reads.ByTau e = refl
unfolding_sound reads.AtOnce reads.AtOnce e = refl
unfolding_sound reads.ByTau reads.AtOnce e = absurd (cc e)
unfolding_sound reads.AtOnce reads.ByTau e = absurd (cc e)

unfolding_complete : (x y : Unfolding) → unfolding_of x ≡ unfolding_of y → unfolding_eq x y ≡ true
unfolding_complete reads.ByTau reads.ByTau e = refl
unfolding_complete reads.AtOnce reads.AtOnce e = refl
unfolding_complete reads.ByTau reads.AtOnce e = absurd (cc e)
unfolding_complete reads.AtOnce reads.ByTau e = absurd (cc e)

bool_sound : (a b : Bool) → beq a b ≡ true → a ≡ b
bool_sound true true e = refl
bool_sound false false e = refl
bool_sound true false e = absurd (cc e)
bool_sound false true e = absurd (cc e)

bool_complete : (a b : Bool) → a ≡ b → beq a b ≡ true
bool_complete true true e = refl
bool_complete false false e = refl
bool_complete true false e = absurd (cc e)
bool_complete false true e = absurd (cc e)

-- ---- the constructors of a datatype

abbrev pub constructors_eq : Constructors → Constructors → Bool
constructors_eq = constructors_impl.ghosts.eq

as_many_up : (a b m n : ℕ) → numbers_up a m ≡ numbers_up b n → m ≡ n
as_many_up a b zero zero e = refl
as_many_up a b zero (suc n) e = absurd (cc e)
as_many_up a b (suc m) zero e = absurd (cc e)
as_many_up a b (suc m) (suc n) e = ap suc (as_many_up (suc a) (suc b) m n (cc e))

-- the first number, and how many follow it
first_up : (a b m n : ℕ) → numbers_up a (suc m) ≡ numbers_up b (suc n) → a ≡ b
first_up a b m n e = cc e

following_up : (a b m n : ℕ) → numbers_up a (suc m) ≡ numbers_up b (suc n) → m ≡ n
following_up a b m n e = as_many_up (suc a) (suc b) m n (cc e)

constructors_tell : Tells constructors_eq constructors_of
constructors_tell = record {
  sound = λ x y e.
      ap₂ (λ a n. numbers_up a (suc n)) (nat_tells.sound x.first.0 y.first.0 (and_first (nat_eq x.first.0 y.first.0) (nat_eq x.following y.following) e))
      (nat_tells.sound x.following y.following (and_second (nat_eq x.first.0 y.first.0) (nat_eq x.following y.following) e));
  complete = λ x y e.
      and_from (nat_eq x.first.0 y.first.0) (nat_eq x.following y.following) (nat_tells.complete x.first.0 y.first.0 (first_up x.first.0 y.first.0 x.following y.following e))
      (nat_tells.complete x.following y.following (following_up x.first.0 y.first.0 x.following y.following e));
}

module _ (R : RattleType.RattleType) (A : allocator.Ghosts R.Denot) (ad dd : Syntax.Dict) where
  abbrev pub term_eq : Term R.Denot → Term R.Denot → Bool
  term_eq = (term_impl.ghosts R A ad dd).eq

  pub term_tells : Tells term_eq (process_of {A = R.Denot})
  term_tells = record {
    sound = λ x y e.
        process_same (process_of x) (process_of y) (sym (ordered R A ad dd x y) ∙ is_eq-Equal (cmp R A ad dd x y) (sym (term_laws.matches_eq-law R A ad dd x y) ∙ e));
    complete = λ x y e.
        term_laws.matches_eq-law R A ad dd x y ∙ ap is_eq (ordered R A ad dd x y ∙ ap (process_cmp (process_of x)) (sym e) ∙ process_refl (process_of x));
  }

  abbrev pub property_eq : Property R.Denot → Property R.Denot → Bool
  property_eq = (property_impl.ghosts R A ad dd).eq

  property_sound : (x y : Property R.Denot) → property_eq x y ≡ true → property_of x ≡ property_of y
  property_sound (property.Refinement m s) (property.Refinement n t) e =
      ap₂ syntax.RefinementOf (model_sound m n (and_first (model_eq m n) (term_eq s t) e)) (term_tells.sound s t (and_second (model_eq m n) (term_eq s t) e))
  property_sound property.DeadlockFree property.DeadlockFree e = refl
  property_sound property.DivergenceFree property.DivergenceFree e = refl
  property_sound (property.Refinement m s) property.DeadlockFree e = absurd (cc e)
  property_sound (property.Refinement m s) property.DivergenceFree e = absurd (cc e)
  property_sound property.DeadlockFree (property.Refinement m s) e = absurd (cc e)
  property_sound property.DeadlockFree property.DivergenceFree e = absurd (cc e)
  property_sound property.DivergenceFree (property.Refinement m s) e = absurd (cc e)
  property_sound property.DivergenceFree property.DeadlockFree e = absurd (cc e)

  property_complete : (x y : Property R.Denot) → property_of x ≡ property_of y → property_eq x y ≡ true
  property_complete (property.Refinement m s) (property.Refinement n t) e =
      and_from (model_eq m n) (term_eq s t) (model_complete m n (cc e)) (term_tells.complete s t (cc e))
  property_complete property.DeadlockFree property.DeadlockFree e = refl
  property_complete property.DivergenceFree property.DivergenceFree e = refl
  property_complete (property.Refinement m s) property.DeadlockFree e = absurd (cc e)
  property_complete (property.Refinement m s) property.DivergenceFree e = absurd (cc e)
  property_complete property.DeadlockFree (property.Refinement m s) e = absurd (cc e)
  property_complete property.DeadlockFree property.DivergenceFree e = absurd (cc e)
  property_complete property.DivergenceFree (property.Refinement m s) e = absurd (cc e)
  property_complete property.DivergenceFree property.DeadlockFree e = absurd (cc e)

  abbrev pub assertion_eq : Assertion R.Denot → Assertion R.Denot → Bool
  assertion_eq = (assertion_impl.ghosts R A ad dd).eq

  assertion_sound : (x y : Assertion R.Denot) → assertion_eq x y ≡ true → assertion_of x ≡ assertion_of y
  assertion_sound x y e =
      let rest = and_second (beq x.negated y.negated) (property_eq x.property y.property && term_eq x.implementation y.implementation) e in
      let n = bool_sound x.negated y.negated (and_first (beq x.negated y.negated) (property_eq x.property y.property && term_eq x.implementation y.implementation) e) in
      let p = property_sound x.property y.property (and_first (property_eq x.property y.property) (term_eq x.implementation y.implementation) rest) in
      let i = term_tells.sound x.implementation y.implementation (and_second (property_eq x.property y.property) (term_eq x.implementation y.implementation) rest) in
      λ k. record { negated = n k; property = p k; implementation = i k }

  assertion_complete : (x y : Assertion R.Denot) → assertion_of x ≡ assertion_of y → assertion_eq x y ≡ true
  assertion_complete x y e =
      and_from (beq x.negated y.negated) (property_eq x.property y.property && term_eq x.implementation y.implementation)
      (bool_complete x.negated y.negated (ap (λ a. a.negated) e))
      (and_from (property_eq x.property y.property) (term_eq x.implementation y.implementation)
      (property_complete x.property y.property (ap (λ a. a.property) e)) (term_tells.complete x.implementation y.implementation (ap (λ a. a.implementation) e)))

  pub assertion_tells : Tells assertion_eq (assertion_of {A = R.Denot})
  assertion_tells = record { sound = assertion_sound; complete = assertion_complete }

  abbrev pub channel_eq : Channel R.Denot → Channel R.Denot → Bool
  channel_eq = (channel_impl.ghosts R A ad dd).eq

  -- texts, and channels by their spellings and field sets
  spelled : {x y : List ℕ} → pointwise nat_eq x y ≡ true → x ≡ y
  spelled {x} {y} e = text_tells.sound x y e

  abbrev sets_eq : List (SetOf R.Denot) → List (SetOf R.Denot) → Bool
  sets_eq = pointwise (set_eq R A ad dd)

  listed_tells : Tells (set_eq R A ad dd) (members_listed {A = R.Denot})
  listed_tells = record {
    sound = λ x y e. ap pure.values_list ((set_tells R A ad dd).sound x y e);
    complete = λ x y e. (set_tells R A ad dd).complete x y (sym (unlisted (members_of x)) ∙ ap pure.to_values e ∙ unlisted (members_of y));
  }

  sets_tell : Tells sets_eq (map members_listed)
  sets_tell = lists_tell (set_eq R A ad dd) members_listed listed_tells

  abbrev field_eq : FieldSet R.Denot → FieldSet R.Denot → Bool
  field_eq = (field_impl.ghosts R A ad dd).eq

  field_tells : Tells field_eq (field_values {A = R.Denot})
  field_tells = record { sound = λ x y e. listed_tells.sound x.values y.values e; complete = λ x y e. listed_tells.complete x.values y.values e }

  fields_tell : Tells (pointwise field_eq) (map field_values)
  fields_tell = lists_tell field_eq field_values field_tells

  channel_sound : (x y : Channel R.Denot) → channel_eq x y ≡ true → channel_of x ≡ channel_of y
  channel_sound x y e =
      let texts = pointwise nat_eq (string_bytes x.spelling) (string_bytes y.spelling) in
      let sets = pointwise field_eq x.fields.items y.fields.items in
      let t = spelled (and_first texts sets e) in
      let f = fields_tell.sound x.fields.items y.fields.items (and_second texts sets e) in
      λ k. (t k, f k)

  channel_complete : (x y : Channel R.Denot) → channel_of x ≡ channel_of y → channel_eq x y ≡ true
  channel_complete x y e =
      and_from (pointwise nat_eq (string_bytes x.spelling) (string_bytes y.spelling)) (pointwise field_eq x.fields.items y.fields.items)
      (text_tells.complete (string_bytes x.spelling) (string_bytes y.spelling) (ap (λ c. c.0) e)) (fields_tell.complete x.fields.items y.fields.items (ap (λ c. c.1) e))

  pub channel_tells : Tells channel_eq (channel_of {A = R.Denot})
  channel_tells = record { sound = channel_sound; complete = channel_complete }

  abbrev pub constructor_eq : Constructor R.Denot → Constructor R.Denot → Bool
  constructor_eq = (constructor_impl.ghosts R A ad dd).eq

  -- constructors by their spellings
  constructor_tells : Tells constructor_eq (λ c. string_bytes c.spelling)
  constructor_tells = record {
    sound = λ x y e. text_tells.sound (string_bytes x.spelling) (string_bytes y.spelling) e;
    complete = λ x y e. text_tells.complete (string_bytes x.spelling) (string_bytes y.spelling) e;
  }

  abbrev pub table_eq : TypeTable R.Denot → TypeTable R.Denot → Bool
  table_eq = (table_impl.ghosts R A ad dd).eq

  datatypes_tell : Tells (pointwise constructors_eq) (map constructors_of)
  datatypes_tell = lists_tell constructors_eq constructors_of constructors_tell

  abbrev constructor_fields_eq : ConstructorFields R.Denot → ConstructorFields R.Denot → Bool
  constructor_fields_eq = (constructor_fields_impl.ghosts R A ad dd).eq

  -- constructors by the sets of their fields
  constructor_fields_tell : Tells constructor_fields_eq (λ (c : ConstructorFields R.Denot). sets_of c.sets.items)
  constructor_fields_tell = record {
    sound = λ x y e. fields_tell.sound x.sets.items y.sets.items e;
    complete = λ x y e. fields_tell.complete x.sets.items y.sets.items e;
  }

  all_fields_tell : Tells (pointwise constructor_fields_eq) (map (λ (c : ConstructorFields R.Denot). sets_of c.sets.items))
  all_fields_tell = lists_tell constructor_fields_eq (λ (c : ConstructorFields R.Denot). sets_of c.sets.items) constructor_fields_tell

  table_sound : (x y : TypeTable R.Denot) → table_eq x y ≡ true → table_of x ≡ table_of y
  table_sound x y e =
      let types = pointwise constructors_eq x.datatypes.items y.datatypes.items in
      let sets = sets_eq x.nametypes.items y.nametypes.items in
      let fields = pointwise constructor_fields_eq x.constructors.items y.constructors.items in
      let rest = and_second types (sets && fields) e in
      let d = datatypes_tell.sound x.datatypes.items y.datatypes.items (and_first types (sets && fields) e) in
      let n = sets_tell.sound x.nametypes.items y.nametypes.items (and_first sets fields rest) in
      let f = all_fields_tell.sound x.constructors.items y.constructors.items (and_second sets fields rest) in
      λ k. record { datatypes = d k; nametypes = n k; constructors = f k }

  table_complete : (x y : TypeTable R.Denot) → table_of x ≡ table_of y → table_eq x y ≡ true
  table_complete x y e =
      let sets = sets_eq x.nametypes.items y.nametypes.items in
      let fields = pointwise constructor_fields_eq x.constructors.items y.constructors.items in
      and_from (pointwise constructors_eq x.datatypes.items y.datatypes.items) (sets && fields) (datatypes_tell.complete x.datatypes.items y.datatypes.items (ap (λ t. t.datatypes) e))
      (and_from sets fields (sets_tell.complete x.nametypes.items y.nametypes.items (ap (λ t. t.nametypes) e))
      (all_fields_tell.complete x.constructors.items y.constructors.items (ap (λ t. t.constructors) e)))

  pub table_tells : Tells table_eq (table_of {A = R.Denot})
  table_tells = record { sound = table_sound; complete = table_complete }

  abbrev name_eq : Name → Name → Bool
  name_eq m n = nat_eq m.0 n.0

  name_tells : Tells name_eq (λ n. n.0)
  name_tells = record { sound = λ x y e. nat_tells.sound x.0 y.0 e; complete = λ x y e. nat_tells.complete x.0 y.0 e }

  abbrev pub equation_eq : Equation R.Denot → Equation R.Denot → Bool
  equation_eq = (equation_impl.ghosts R A ad dd).eq

  equation_sound : (x y : Equation R.Denot) → equation_eq x y ≡ true → equation_of x ≡ equation_of y
  equation_sound x y e =
      let names = pointwise name_eq x.parameters.items y.parameters.items in
      let ps = (lists_tell name_eq (λ n. n.0) name_tells).sound x.parameters.items y.parameters.items (and_first names (term_eq x.body y.body) e) in
      let b = term_tells.sound x.body y.body (and_second names (term_eq x.body y.body) e) in
      λ k. record { parameters = ps k; body = b k }

  equation_complete : (x y : Equation R.Denot) → equation_of x ≡ equation_of y → equation_eq x y ≡ true
  equation_complete x y e =
      and_from (pointwise name_eq x.parameters.items y.parameters.items) (term_eq x.body y.body)
      ((lists_tell name_eq (λ n. n.0) name_tells).complete x.parameters.items y.parameters.items (ap (λ a. a.parameters) e)) (term_tells.complete x.body y.body (ap (λ a. a.body) e))

  pub equation_tells : Tells equation_eq (equation_of {A = R.Denot})
  equation_tells = record { sound = equation_sound; complete = equation_complete }

  abbrev pub script_eq : ScriptParts R.Denot → ScriptParts R.Denot → Bool
  script_eq = (script_impl.ghosts R A ad dd).eq

  script_sound : (x y : ScriptParts R.Denot) → script_eq x y ≡ true → script_of_parts x ≡ script_of_parts y
  script_sound x y e =
      let ts = table_eq x.types y.types in
      let ks = pointwise constructor_eq x.constructors.items y.constructors.items in
      let cs = pointwise channel_eq x.channels.items y.channels.items in
      let es = pointwise equation_eq x.equations.items y.equations.items in
      let asserted = pointwise assertion_eq x.assertions.items y.assertions.items in
      let read = unfolding_eq x.unfolds y.unfolds in
      let last = asserted && read in
      let second = and_second ts (ks && (cs && (es && last))) e in
      let third = and_second ks (cs && (es && last)) second in
      let fourth = and_second cs (es && last) third in
      let rest = and_second es last fourth in
      let types = table_tells.sound x.types y.types (and_first ts (ks && (cs && (es && last))) e) in
      let constructors = (lists_tell constructor_eq (λ c. string_bytes c.spelling) constructor_tells).sound x.constructors.items y.constructors.items (and_first ks (cs && (es && last)) second) in
      let channels = (lists_tell channel_eq channel_of channel_tells).sound x.channels.items y.channels.items (and_first cs (es && last) third) in
      let equations = (lists_tell equation_eq equation_of equation_tells).sound x.equations.items y.equations.items (and_first es last fourth) in
      let assertions = (lists_tell assertion_eq assertion_of assertion_tells).sound x.assertions.items y.assertions.items (and_first asserted read rest) in
      let reading = unfolding_sound x.unfolds y.unfolds (and_second asserted read rest) in
      let sets = same_sets x.channels.items y.channels.items channels in
      let names = same_names x.channels.items y.channels.items channels in
      λ k. record { types = types k; channels = sets k; equations = equations k; assertions = assertions k; channel_names = names k; constructor_names = constructors k; unfolds = reading k }

  script_complete : (x y : ScriptParts R.Denot) → script_of_parts x ≡ script_of_parts y → script_eq x y ≡ true
  script_complete x y e =
      let ks = pointwise constructor_eq x.constructors.items y.constructors.items in
      let cs = pointwise channel_eq x.channels.items y.channels.items in
      let es = pointwise equation_eq x.equations.items y.equations.items in
      let asserted = pointwise assertion_eq x.assertions.items y.assertions.items in
      let read = unfolding_eq x.unfolds y.unfolds in
      let last = asserted && read in
      let channels = same_channels x.channels.items y.channels.items (ap (λ s. s.channel_names) e) (ap (λ s. s.channels) e) in
      and_from (table_eq x.types y.types) (ks && (cs && (es && last))) (table_tells.complete x.types y.types (ap (λ s. s.types) e))
      (and_from ks (cs && (es && last)) ((lists_tell constructor_eq (λ c. string_bytes c.spelling) constructor_tells).complete x.constructors.items y.constructors.items (ap (λ s. s.constructor_names) e))
      (and_from cs (es && last) ((lists_tell channel_eq channel_of channel_tells).complete x.channels.items y.channels.items channels)
      (and_from es last ((lists_tell equation_eq equation_of equation_tells).complete x.equations.items y.equations.items (ap (λ s. s.equations) e))
      (and_from asserted read ((lists_tell assertion_eq assertion_of assertion_tells).complete x.assertions.items y.assertions.items (ap (λ s. s.assertions) e))
      (unfolding_complete x.unfolds y.unfolds (ap (λ s. s.unfolds) e))))))

  pub script_tells : Tells script_eq (script_of_parts {A = R.Denot})
  script_tells = record { sound = script_sound; complete = script_complete }
