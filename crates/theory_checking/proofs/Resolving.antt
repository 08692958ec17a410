-- Where no name is refused, each expression and each process has its term.
use Rattle.std.specs.Prelude.{⊤, is_some, option_map, flat_map, cond, not, nat_eq}
use Rattle.std.proofs.lemmas.Bool.{eq-eqb}
use Rattle.std.proofs.Common.{◌≡◌, ◌&&◌, ℕ, suc, Bool, true, false, List, [], ◌∷◌, ◌++◌, length, Option, Some, None, refl, sym, ap, ◌∙◌, subst}
use Rattle.std.proofs.lemmas.Slice.Eq.{bytes_eq-Decides}
use Rattle.std.specs.Str.{bytes_eq}
use Rattle.theory_syntax.specs.Process.{RefinementOf, DeadlockFree, DivergenceFree}
use Rattle.theory_text.specs.Raw.{RawProperty, RawRefinementOf, RawDeadlockFree, RawDivergenceFree, RawName, RawExpression, RawNumber, RawTruth, RawBooleans, RawUse, RawApply, RawCombine, RawSequence, RawSet, RawRange, RawConstructor, RawExpressions, no_raw_expressions, raw_expression_and, RawField, RawGiven, RawInput, RawInputFrom, RawEvent, RawEventSet, RawEnumeration, RawProductions, RawEventUnion, RawEventIntersection, RawEventDifference, RawPair, RawProcess, RawStop, RawSkip, RawCall, RawPrefix, RawGuard, RawIf, RawInfix, RawGeneralisedParallel, RawAlphabetisedParallel, RawHiding, RawRenaming, RawReplicated}
use Rattle.theory_checking.specs.Names.{bound_in_property, DatatypeName, ConstructorName, NametypeName, ChannelName, EquationName, Meaning, Declared, Bound, number_in, has_spelling, with_spellings, spellings, Environment, binding, bound_by_fields, bound_in, meaning}
use Rattle.theory_checking.specs.Resolving.{property_of, of_two, of_three, of_four, every, as_expression, as_constructor, as_channel, as_equation, constructor_count, is_count, lacks_fields, constructor_with, number_of, expression_of, expressions_of, bound_number, fields_of, event_of, event_set_of, pair_of, infix_process, replicated_process, process_of, equation_of, assertion_of}
use Rattle.theory_checking.specs.Sites.{in_property, Use, AsExpression, AsConstructor, AsEquation, AsEvent, AsProductions, AsBareLeft, AsBareRight, Site, Used, in_expression, in_expressions, in_fields, in_event, in_production, in_event_set, in_pair, has_no_fields, in_process, in_parameters}
use Rattle.theory_checking.specs.Faults.{KindFault, UnknownName, WrongKind, WrongCount}
use Rattle.theory_checking.specs.Rules.{IsRefusedSite, unknown, wrong_class, bare_constructor, constructor, suits}
use Rattle.theory_checking.specs.Refusals.{IsRefusedAt}
pub use Rattle.theory_checking.specs.Walks.{AllFine, IsThere, AreNumbered}
use Rattle.theory_checking.proofs.FirstRefused.{EachFine}
use Rattle.theory_checking.proofs.Meant.{constructor_counted}

-- ---- sites that are fine

pub all_fine : (before xs : List Site) → EachFine IsRefusedAt before xs → AllFine xs
all_fine before [] h = tt
all_fine before (x ∷ xs) h = (h.0, all_fine (before ++ x ∷ []) xs h.1)

pub fine_left : (xs ys : List Site) → AllFine (xs ++ ys) → AllFine xs
fine_left [] ys h = tt
fine_left (x ∷ xs) ys h = (h.0, fine_left xs ys h.1)

pub fine_right : (xs ys : List Site) → AllFine (xs ++ ys) → AllFine ys
fine_right [] ys h = h
fine_right (x ∷ xs) ys h = fine_right xs ys h.1

-- ---- what is there

pub there_map : {A B : Type 0} (f : A → B) (o : Option A) → IsThere o → IsThere (option_map f o)
there_map f o h = (f h.0, ap (option_map f) h.1)

pub there_two : {A B C : Type 0} (f : A → B → C) (o : Option A) (p : Option B) → IsThere o → IsThere p → IsThere (of_two f o p)
there_two f o p h k = (f h.0 k.0, rw (h.1, k.1) refl)

pub there_three : {A B C D : Type 0} (f : A → B → C → D) (o : Option A) (p : Option B) (q : Option C) → IsThere o → IsThere p → IsThere q → IsThere (of_three f o p q)
there_three f o p q h k l = (f h.0 k.0 l.0, rw (h.1, k.1, l.1) refl)

pub there_four : {A B C D E : Type 0} (f : A → B → C → D → E) (o : Option A) (p : Option B) (q : Option C) (r : Option D) → IsThere o → IsThere p → IsThere q → IsThere r → IsThere (of_four f o p q r)
there_four f o p q r h k l m = (f h.0 k.0 l.0 m.0, rw (h.1, k.1, l.1, m.1) refl)

-- ---- names that are used

-- what a fine name means, and that it suits
pub fine_meaning : (env : Environment) (u : Use) (n : RawName) → ((f : KindFault) → ¬ (IsRefusedSite (Used env u n) f)) → (m : Meaning) × (meaning env n ≡ Some m) × (suits u m ≡ true)
fine_meaning env u n fine = go (meaning env n) refl
  where
    suited : (m : Meaning) → meaning env n ≡ Some m → (b : Bool) → suits u m ≡ b → (k : Meaning) × (meaning env n ≡ Some k) × (suits u k ≡ true)
    suited m e true s = (m, e, s)
    suited m e false s = absurd (fine WrongKind (wrong_class e s))

    go : (o : Option Meaning) → meaning env n ≡ o → (m : Meaning) × (meaning env n ≡ Some m) × (suits u m ≡ true)
    go None e = absurd (fine UnknownName (unknown e))
    go (Some m) e = suited m e (suits u m) refl

as_expression_suits : (m : Meaning) → suits AsExpression m ≡ true → IsThere (as_expression (Some m))
as_expression_suits (Bound n) s = (_, refl)
as_expression_suits (Declared ConstructorName k) s = (_, refl)
as_expression_suits (Declared DatatypeName k) s = (_, refl)
as_expression_suits (Declared NametypeName k) s = (_, refl)
as_expression_suits (Declared ChannelName k) s = absurd (cc s)
as_expression_suits (Declared EquationName k) s = absurd (cc s)

as_equation_suits : (a : ℕ) (m : Meaning) → suits (AsEquation a) m ≡ true → IsThere (as_equation (Some m))
as_equation_suits a (Bound n) s = absurd (cc s)
as_equation_suits a (Declared ConstructorName k) s = absurd (cc s)
as_equation_suits a (Declared DatatypeName k) s = absurd (cc s)
as_equation_suits a (Declared NametypeName k) s = absurd (cc s)
as_equation_suits a (Declared ChannelName k) s = absurd (cc s)
as_equation_suits a (Declared EquationName k) s = (_, refl)

-- the uses of a channel's name
abbrev IsChannelUse : Use → Type 0
IsChannelUse AsExpression = ⊥
IsChannelUse (AsConstructor n) = ⊥
IsChannelUse (AsEquation n) = ⊥
IsChannelUse (AsEvent n) = ⊤
IsChannelUse (AsProductions n) = ⊤
IsChannelUse (AsBareLeft n) = ⊤
IsChannelUse (AsBareRight n) = ⊤

not_suited : (b : Bool) → b ≡ false → b ≡ true → ⊥
not_suited b e f = let both : false ≡ true = sym e ∙ f in cc both

as_channel_suits : (u : Use) (m : Meaning) → IsChannelUse u → suits u m ≡ true → IsThere (as_channel (Some m))
as_channel_suits u (Declared ChannelName k) is s = (k, refl)
as_channel_suits (AsEvent a) (Bound n) is s = absurd (cc s)
as_channel_suits (AsEvent a) (Declared ConstructorName k) is s = absurd (cc s)
as_channel_suits (AsEvent a) (Declared DatatypeName k) is s = absurd (cc s)
as_channel_suits (AsEvent a) (Declared NametypeName k) is s = absurd (cc s)
as_channel_suits (AsEvent a) (Declared EquationName k) is s = absurd (cc s)
as_channel_suits (AsProductions a) (Bound n) is s = absurd (cc s)
as_channel_suits (AsProductions a) (Declared ConstructorName k) is s = absurd (cc s)
as_channel_suits (AsProductions a) (Declared DatatypeName k) is s = absurd (cc s)
as_channel_suits (AsProductions a) (Declared NametypeName k) is s = absurd (cc s)
as_channel_suits (AsProductions a) (Declared EquationName k) is s = absurd (cc s)
as_channel_suits (AsBareLeft a) (Bound n) is s = absurd (cc s)
as_channel_suits (AsBareLeft a) (Declared ConstructorName k) is s = absurd (cc s)
as_channel_suits (AsBareLeft a) (Declared DatatypeName k) is s = absurd (cc s)
as_channel_suits (AsBareLeft a) (Declared NametypeName k) is s = absurd (cc s)
as_channel_suits (AsBareLeft a) (Declared EquationName k) is s = absurd (cc s)
as_channel_suits (AsBareRight a) (Bound n) is s = absurd (cc s)
as_channel_suits (AsBareRight a) (Declared ConstructorName k) is s = absurd (cc s)
as_channel_suits (AsBareRight a) (Declared DatatypeName k) is s = absurd (cc s)
as_channel_suits (AsBareRight a) (Declared NametypeName k) is s = absurd (cc s)
as_channel_suits (AsBareRight a) (Declared EquationName k) is s = absurd (cc s)
as_channel_suits AsExpression (Bound n) is s = absurd is
as_channel_suits AsExpression (Declared ConstructorName k) is s = absurd is
as_channel_suits AsExpression (Declared DatatypeName k) is s = absurd is
as_channel_suits AsExpression (Declared NametypeName k) is s = absurd is
as_channel_suits AsExpression (Declared EquationName k) is s = absurd is
as_channel_suits (AsConstructor a) (Bound n) is s = absurd is
as_channel_suits (AsConstructor a) (Declared ConstructorName k) is s = absurd is
as_channel_suits (AsConstructor a) (Declared DatatypeName k) is s = absurd is
as_channel_suits (AsConstructor a) (Declared NametypeName k) is s = absurd is
as_channel_suits (AsConstructor a) (Declared EquationName k) is s = absurd is
as_channel_suits (AsEquation a) (Bound n) is s = absurd is
as_channel_suits (AsEquation a) (Declared ConstructorName k) is s = absurd is
as_channel_suits (AsEquation a) (Declared DatatypeName k) is s = absurd is
as_channel_suits (AsEquation a) (Declared NametypeName k) is s = absurd is
as_channel_suits (AsEquation a) (Declared EquationName k) is s = absurd is

as_constructor_suits : (a : ℕ) (m : Meaning) → suits (AsConstructor a) m ≡ true → IsThere (as_constructor (Some m))
as_constructor_suits a (Bound n) s = absurd (cc s)
as_constructor_suits a (Declared ConstructorName k) s = (k, refl)
as_constructor_suits a (Declared DatatypeName k) s = absurd (cc s)
as_constructor_suits a (Declared NametypeName k) s = absurd (cc s)
as_constructor_suits a (Declared ChannelName k) s = absurd (cc s)
as_constructor_suits a (Declared EquationName k) s = absurd (cc s)

-- a constructor that stands alone has no fields
pub not_lacking : (env : Environment) (n : RawName) → ((f : KindFault) → ¬ (IsRefusedSite (Used env AsExpression n) f)) → lacks_fields (constructor_count env n) ≡ false
not_lacking env n fine = go (constructor_count env n) refl
  where
    by : (p : ℕ) → constructor_count env n ≡ Some p → (b : Bool) → nat_eq p 0 ≡ b → not b ≡ false
    by p is true e = refl
    by p is false e = absurd (fine WrongCount (bare_constructor is (λ zero. let same = eq-eqb p 0 zero in let both : true ≡ false = sym same ∙ e in cc both)))

    go : (o : Option ℕ) → constructor_count env n ≡ o → lacks_fields o ≡ false
    go None is = refl
    go (Some p) is = by p is (nat_eq p 0) refl

pub expression_named : (env : Environment) (n : RawName) → ((f : KindFault) → ¬ (IsRefusedSite (Used env AsExpression n) f)) →
    IsThere (cond (lacks_fields (constructor_count env n)) None (as_expression (meaning env n)))
expression_named env n fine =
    let h = fine_meaning env AsExpression n fine in
    let there = as_expression_suits h.0 h.2 in
    (there.0, ap (λ b. cond b None (as_expression (meaning env n))) (not_lacking env n fine) ∙ ap as_expression h.1 ∙ there.1)

-- one that is written with fields has so many
pub has_so_many : (env : Environment) (k : ℕ) (n : RawName) → ((f : KindFault) → ¬ (IsRefusedSite (Used env (AsConstructor k) n) f)) → (p : ℕ) → constructor_count env n ≡ Some p →
    is_count k (constructor_count env n) ≡ true
has_so_many env k n fine p is = ap (is_count k) is ∙ by (nat_eq p k) refl
  where
    by : (b : Bool) → nat_eq p k ≡ b → b ≡ true
    by true e = refl
    by false e = absurd (fine WrongCount (constructor is (λ same. let yes = eq-eqb p k same in let both : true ≡ false = sym yes ∙ e in cc both)))

pub equation_named : (env : Environment) (a : ℕ) (n : RawName) → ((f : KindFault) → ¬ (IsRefusedSite (Used env (AsEquation a) n) f)) → IsThere (as_equation (meaning env n))
equation_named env a n fine =
    let h = fine_meaning env (AsEquation a) n fine in
    let there = as_equation_suits a h.0 h.2 in (there.0, ap as_equation h.1 ∙ there.1)

pub channel_named : (env : Environment) (u : Use) (n : RawName) → IsChannelUse u → ((f : KindFault) → ¬ (IsRefusedSite (Used env u n) f)) → IsThere (as_channel (meaning env n))
channel_named env u n is fine =
    let h = fine_meaning env u n fine in
    let there = as_channel_suits u h.0 is h.2 in (there.0, ap as_channel h.1 ∙ there.1)

pub constructor_named : (env : Environment) (k : ℕ) (n : RawName) → ((f : KindFault) → ¬ (IsRefusedSite (Used env (AsConstructor k) n) f)) → IsThere (constructor_with env n k)
constructor_named env k n fine =
    let h = fine_meaning env (AsConstructor k) n fine in
    let there = as_constructor_suits k h.0 h.2 in
    let is = ap as_constructor h.1 ∙ there.1 in
    let count = constructor_counted env n there.0 is in
    (there.0, ap (λ b. cond b (as_constructor (meaning env n)) None) (has_so_many env k n fine count.0 count.1) ∙ is)

-- ---- expressions

mutual
  pub expression_there : (env : Environment) (e : RawExpression) → AllFine (in_expression env e) → IsThere (expression_of env e)
  expression_there env (RawNumber n) fine = (_, refl)
  expression_there env (RawTruth b) fine = (_, refl)
  expression_there env RawBooleans fine = (_, refl)
  expression_there env (RawUse n) fine = expression_named env n fine.0
  expression_there env (RawApply op e) fine = there_map _ (expression_of env e) (expression_there env e fine)
  expression_there env (RawCombine op e f) fine =
      there_two _ (expression_of env e) (expression_of env f) (expression_there env e (fine_left (in_expression env e) (in_expression env f) fine))
      (expression_there env f (fine_right (in_expression env e) (in_expression env f) fine))
  expression_there env (RawSequence es) fine = there_map _ (expressions_of env es) (expressions_there env es fine)
  expression_there env (RawSet es) fine = there_map _ (expressions_of env es) (expressions_there env es fine)
  expression_there env (RawRange e f) fine =
      there_two _ (expression_of env e) (expression_of env f) (expression_there env e (fine_left (in_expression env e) (in_expression env f) fine))
      (expression_there env f (fine_right (in_expression env e) (in_expression env f) fine))
  expression_there env (RawConstructor n es) fine =
      there_two _ (constructor_with env n (number_of es)) (expressions_of env es) (constructor_named env (number_of es) n fine.0) (expressions_there env es fine.1)

  pub expressions_there : (env : Environment) (es : RawExpressions) → AllFine (in_expressions env es) → IsThere (expressions_of env es)
  expressions_there env no_raw_expressions fine = (_, refl)
  expressions_there env (raw_expression_and e es) fine =
      there_two _ (expression_of env e) (expressions_of env es) (expression_there env e (fine_left (in_expression env e) (in_expressions env es) fine))
      (expressions_there env es (fine_right (in_expression env e) (in_expressions env es) fine))

-- ---- events

pub every_there : {A B : Type 0} (f : A → Option B) (g : A → List Site) → ((x : A) → AllFine (g x) → IsThere (f x)) → (xs : List A) → AllFine (flat_map g xs) → IsThere (every f xs)
every_there f g each [] fine = (_, refl)
every_there f g each (x ∷ xs) fine = there_two _ (f x) (every f xs) (each x (fine_left (g x) (flat_map g xs) fine)) (every_there f g each xs (fine_right (g x) (flat_map g xs) fine))

pub event_there : (env : Environment) (e : RawEvent) → AllFine (in_event env e) → IsThere (event_of env e)
event_there env e fine =
    there_two _ (as_channel (meaning env e.channel)) (expressions_of env e.fields) (channel_named env (AsEvent (number_of e.fields)) e.channel tt fine.0) (expressions_there env e.fields fine.1)

pub production_there : (env : Environment) (e : RawEvent) → AllFine (in_production env e) → IsThere (event_of env e)
production_there env e fine =
    there_two _ (as_channel (meaning env e.channel)) (expressions_of env e.fields) (channel_named env (AsProductions (number_of e.fields)) e.channel tt fine.0) (expressions_there env e.fields fine.1)

pub event_set_there : (env : Environment) (a : RawEventSet) → AllFine (in_event_set env a) → IsThere (event_set_of env a)
event_set_there env (RawEnumeration es) fine = there_map _ (every (event_of env) es) (every_there (event_of env) (in_event env) (event_there env) es fine)
event_set_there env (RawProductions es) fine = there_map _ (every (event_of env) es) (every_there (event_of env) (in_production env) (production_there env) es fine)
event_set_there env (RawEventUnion a b) fine =
    there_two _ (event_set_of env a) (event_set_of env b) (event_set_there env a (fine_left (in_event_set env a) (in_event_set env b) fine))
    (event_set_there env b (fine_right (in_event_set env a) (in_event_set env b) fine))
event_set_there env (RawEventIntersection a b) fine =
    there_two _ (event_set_of env a) (event_set_of env b) (event_set_there env a (fine_left (in_event_set env a) (in_event_set env b) fine))
    (event_set_there env b (fine_right (in_event_set env a) (in_event_set env b) fine))
event_set_there env (RawEventDifference a b) fine =
    there_two _ (event_set_of env a) (event_set_of env b) (event_set_there env a (fine_left (in_event_set env a) (in_event_set env b) fine))
    (event_set_there env b (fine_right (in_event_set env a) (in_event_set env b) fine))

-- a bare event has its channel alone
bare_there : (env : Environment) (e : RawEvent) → has_no_fields e ≡ true → IsThere (as_channel (meaning env e.channel)) → IsThere (event_of env e)
bare_there env e bare there = there_two _ (as_channel (meaning env e.channel)) (expressions_of env e.fields) there (none e.fields bare)
  where
    none : (es : RawExpressions) → has_no_fields (record { channel = e.channel; fields = es }) ≡ true → IsThere (expressions_of env es)
    none no_raw_expressions h = (_, refl)
    none (raw_expression_and f fs) h = absurd (cc h)

pub pair_there : (env : Environment) (r : RawPair) → AllFine (in_pair env r) → IsThere (pair_of env r)
pair_there env r fine = go (has_no_fields r.from) (has_no_fields r.to) refl refl
  where
    bare : List Site
    bare = Used env (AsBareLeft r.to.channel) r.from.channel ∷ Used env (AsBareRight r.from.channel) r.to.channel ∷ []

    whole : List Site
    whole = in_event env r.from ++ in_event env r.to

    two : AllFine whole → IsThere (pair_of env r)
    two h = there_two _ (event_of env r.from) (event_of env r.to) (event_there env r.from (fine_left (in_event env r.from) (in_event env r.to) h))
        (event_there env r.to (fine_right (in_event env r.from) (in_event env r.to) h))

    at : (b : Bool) → (b ≡ (has_no_fields r.from && has_no_fields r.to)) → AllFine (cond b bare whole)
    at b e = let P : Bool → Type 0 = λ x. AllFine (cond x bare whole) in subst P (sym e) fine

    go : (b c : Bool) → has_no_fields r.from ≡ b → has_no_fields r.to ≡ c → IsThere (pair_of env r)
    go true true e f =
        let h : AllFine bare = at true (rw (e, f) refl) in
        there_two _ (event_of env r.from) (event_of env r.to) (bare_there env r.from e (channel_named env (AsBareLeft r.to.channel) r.from.channel tt h.0))
        (bare_there env r.to f (channel_named env (AsBareRight r.from.channel) r.to.channel tt h.1.0))
    go true false e f = two (at false (rw (e, f) refl))
    go false c e f = two (at false (rw e refl))

-- ---- bound names

pub numbered_left : (table : List (List ℕ)) (ms ns : List RawName) → AreNumbered table (ms ++ ns) → AreNumbered table ms
numbered_left table [] ns h = tt
numbered_left table (m ∷ ms) ns h = (h.0, numbered_left table ms ns h.1)

pub numbered_right : (table : List (List ℕ)) (ms ns : List RawName) → AreNumbered table (ms ++ ns) → AreNumbered table ns
numbered_right table [] ns h = h
numbered_right table (m ∷ ms) ns h = numbered_right table ms ns h.1

pub same_table : (env : Environment) (ns : List RawName) → (binding env ns).numbered ≡ env.numbered
same_table env [] = refl
same_table env (n ∷ ns) = same_table (record { declarations = env.declarations; numbered = env.numbered; bound = n.spelling ∷ env.bound }) ns

pub fields_there : (env : Environment) (fs : List RawField) → AllFine (in_fields env fs) → AreNumbered env.numbered (bound_by_fields fs) → IsThere (fields_of env fs)
fields_there env [] fine numbered = (_, refl)
fields_there env (RawGiven e ∷ fs) fine numbered =
    there_two _ (expression_of env e) (fields_of env fs) (expression_there env e (fine_left (in_expression env e) (in_fields env fs) fine))
    (fields_there env fs (fine_right (in_expression env e) (in_fields env fs) fine) numbered)
fields_there env (RawInput n ∷ fs) fine numbered =
    there_two _ (bound_number env n) (fields_of (binding env (n ∷ [])) fs) numbered.0 (fields_there (binding env (n ∷ [])) fs fine.1 numbered.1)
fields_there env (RawInputFrom n e ∷ fs) fine numbered =
    there_three _ (bound_number env n) (expression_of env e) (fields_of (binding env (n ∷ [])) fs) numbered.0
    (expression_there env e (fine_left (in_expression env e) (in_fields (binding env (n ∷ [])) fs) fine.1))
    (fields_there (binding env (n ∷ [])) fs (fine_right (in_expression env e) (in_fields (binding env (n ∷ [])) fs) fine.1) numbered.1)

pub parameters_there : (env : Environment) (ns : List RawName) → AreNumbered env.numbered ns → IsThere (every (bound_number env) ns)
parameters_there env [] numbered = (_, refl)
parameters_there env (n ∷ ns) numbered = there_two _ (bound_number env n) (every (bound_number env) ns) numbered.0 (parameters_there env ns numbered.1)

-- ---- processes

pub process_there : (env : Environment) (p : RawProcess) → AllFine (in_process env p) → AreNumbered env.numbered (bound_in p) → IsThere (process_of env p)
process_there env RawStop fine numbered = (_, refl)
process_there env RawSkip fine numbered = (_, refl)
process_there env (RawCall n es) fine numbered =
    there_two _ (as_equation (meaning env n)) (expressions_of env es) (equation_named env (number_of es) n fine.0) (expressions_there env es fine.1)
process_there env (RawPrefix c fs p) fine numbered =
    let inner = binding env (bound_by_fields fs) in
    let P : List (List ℕ) → Type 0 = λ table. AreNumbered table (bound_in p) in
    there_three _ (as_channel (meaning env c)) (fields_of env fs) (process_of (binding env (bound_by_fields fs)) p) (channel_named env (AsEvent (length fs)) c tt fine.0)
    (fields_there env fs (fine_left (in_fields env fs) (in_process (binding env (bound_by_fields fs)) p) fine.1) (numbered_left env.numbered (bound_by_fields fs) (bound_in p) numbered))
    (process_there (binding env (bound_by_fields fs)) p (fine_right (in_fields env fs) (in_process (binding env (bound_by_fields fs)) p) fine.1)
    (subst P (sym (same_table env (bound_by_fields fs))) (numbered_right env.numbered (bound_by_fields fs) (bound_in p) numbered)))
process_there env (RawGuard e p) fine numbered =
    there_two _ (expression_of env e) (process_of env p) (expression_there env e (fine_left (in_expression env e) (in_process env p) fine))
    (process_there env p (fine_right (in_expression env e) (in_process env p) fine) numbered)
process_there env (RawIf e p q) fine numbered =
    let first = fine_left (in_expression env e ++ in_process env p) (in_process env q) fine in
    there_three _ (expression_of env e) (process_of env p) (process_of env q) (expression_there env e (fine_left (in_expression env e) (in_process env p) first))
    (process_there env p (fine_right (in_expression env e) (in_process env p) first) (numbered_left env.numbered (bound_in p) (bound_in q) numbered))
    (process_there env q (fine_right (in_expression env e ++ in_process env p) (in_process env q) fine) (numbered_right env.numbered (bound_in p) (bound_in q) numbered))
process_there env (RawInfix op p q) fine numbered =
    there_two (infix_process op) (process_of env p) (process_of env q)
    (process_there env p (fine_left (in_process env p) (in_process env q) fine) (numbered_left env.numbered (bound_in p) (bound_in q) numbered))
    (process_there env q (fine_right (in_process env p) (in_process env q) fine) (numbered_right env.numbered (bound_in p) (bound_in q) numbered))
process_there env (RawGeneralisedParallel p a q) fine numbered =
    let first = fine_left (in_process env p ++ in_event_set env a) (in_process env q) fine in
    there_three _ (process_of env p) (event_set_of env a) (process_of env q)
    (process_there env p (fine_left (in_process env p) (in_event_set env a) first) (numbered_left env.numbered (bound_in p) (bound_in q) numbered))
    (event_set_there env a (fine_right (in_process env p) (in_event_set env a) first))
    (process_there env q (fine_right (in_process env p ++ in_event_set env a) (in_process env q) fine) (numbered_right env.numbered (bound_in p) (bound_in q) numbered))
process_there env (RawAlphabetisedParallel p a b q) fine numbered =
    let three = fine_left (in_process env p ++ in_event_set env a ++ in_event_set env b) (in_process env q) fine in
    let two = fine_left (in_process env p ++ in_event_set env a) (in_event_set env b) three in
    there_four _ (process_of env p) (event_set_of env a) (event_set_of env b) (process_of env q)
    (process_there env p (fine_left (in_process env p) (in_event_set env a) two) (numbered_left env.numbered (bound_in p) (bound_in q) numbered))
    (event_set_there env a (fine_right (in_process env p) (in_event_set env a) two))
    (event_set_there env b (fine_right (in_process env p ++ in_event_set env a) (in_event_set env b) three))
    (process_there env q (fine_right (in_process env p ++ in_event_set env a ++ in_event_set env b) (in_process env q) fine) (numbered_right env.numbered (bound_in p) (bound_in q) numbered))
process_there env (RawHiding p a) fine numbered =
    there_two _ (process_of env p) (event_set_of env a) (process_there env p (fine_left (in_process env p) (in_event_set env a) fine) numbered)
    (event_set_there env a (fine_right (in_process env p) (in_event_set env a) fine))
process_there env (RawRenaming p rs) fine numbered =
    there_two _ (process_of env p) (every (pair_of env) rs) (process_there env p (fine_left (in_process env p) (flat_map (in_pair env) rs) fine) numbered)
    (every_there (pair_of env) (in_pair env) (pair_there env) rs (fine_right (in_process env p) (flat_map (in_pair env) rs) fine))
process_there env (RawReplicated op n e p) fine numbered =
    there_three (replicated_process op) (bound_number env n) (expression_of env e) (process_of (binding env (n ∷ [])) p) numbered.0
    (expression_there env e (fine_left (in_expression env e) (in_process (binding env (n ∷ [])) p) fine.1))
    (process_there (binding env (n ∷ [])) p (fine_right (in_expression env e) (in_process (binding env (n ∷ [])) p) fine.1) numbered.1)

-- ---- equations and assertions

pub equation_there : (env : Environment) (ns : List RawName) (p : RawProcess) → AllFine (in_parameters env ns ++ in_process (binding env ns) p) →
    AreNumbered env.numbered (ns ++ bound_in p) → IsThere (equation_of env ns p)
equation_there env ns p fine numbered =
    let P : List (List ℕ) → Type 0 = λ table. AreNumbered table (bound_in p) in
    there_two _ (every (bound_number env) ns) (process_of (binding env ns) p) (parameters_there env ns (numbered_left env.numbered ns (bound_in p) numbered))
    (process_there (binding env ns) p (fine_right (in_parameters env ns) (in_process (binding env ns) p) fine)
    (subst P (sym (same_table env ns)) (numbered_right env.numbered ns (bound_in p) numbered)))

property_there : (env : Environment) (a : RawProperty) → AllFine (in_property env a) → AreNumbered env.numbered (bound_in_property a) → IsThere (property_of env a)
property_there env (RawRefinementOf model spec) fine numbered = let h = process_there env spec fine numbered in (RefinementOf model h.0, ap (option_map (RefinementOf model)) h.1)
property_there env RawDeadlockFree fine numbered = (DeadlockFree, refl)
property_there env RawDivergenceFree fine numbered = (DivergenceFree, refl)

pub assertion_there : (env : Environment) (n : Bool) (a : RawProperty) (p : RawProcess) → AllFine (in_property env a ++ in_process env p) →
    AreNumbered env.numbered (bound_in_property a ++ bound_in p) → IsThere (assertion_of env n a p)
assertion_there env n a p fine numbered =
    there_two _ (property_of env a) (process_of env p)
    (property_there env a (fine_left (in_property env a) (in_process env p) fine) (numbered_left env.numbered (bound_in_property a) (bound_in p) numbered))
    (process_there env p (fine_right (in_property env a) (in_process env p) fine) (numbered_right env.numbered (bound_in_property a) (bound_in p) numbered))

-- ---- the table of bound names

has_itself : (s : List ℕ) → bytes_eq s s ≡ true
has_itself s = (bytes_eq-Decides s s).1 refl

next_there : (b : Bool) (o : Option ℕ) → IsThere o → IsThere (cond b (Some 0) (option_map suc o))
next_there true o h = (0, refl)
next_there false o h = there_map suc o h

pub at_end : (ss : List (List ℕ)) (t : List ℕ) → IsThere (number_in (ss ++ t ∷ []) t)
at_end [] t = (0, rw (has_itself t) refl)
at_end (s ∷ ss) t = next_there (bytes_eq s t) (number_in (ss ++ t ∷ []) t) (at_end ss t)

still_there : (ss : List (List ℕ)) (s t : List ℕ) → IsThere (number_in ss s) → IsThere (number_in (ss ++ t ∷ []) s)
still_there [] s t h = absurd (let e = h.1 in cc e)
still_there (r ∷ ss) s t h = go (λ k. still_there ss s t k) (bytes_eq r s) h
  where
    there : (o : Option ℕ) → IsThere (option_map suc o) → IsThere o
    there (Some n) k = (n, refl)
    there None k = absurd (let e = k.1 in cc e)

    go : (IsThere (number_in ss s) → IsThere (number_in (ss ++ t ∷ []) s)) → (b : Bool) → IsThere (cond b (Some 0) (option_map suc (number_in ss s))) →
        IsThere (cond b (Some 0) (option_map suc (number_in (ss ++ t ∷ []) s)))
    go rest true k = (0, refl)
    go rest false k = there_map suc (number_in (ss ++ t ∷ []) s) (rest (there (number_in ss s) k))

pub kept_there : (ss ts : List (List ℕ)) (s : List ℕ) → IsThere (number_in ss s) → IsThere (number_in (with_spellings ss ts) s)
kept_there ss [] s h = h
kept_there ss (t ∷ ts) s h = kept_there (cond (has_spelling ss t) ss (ss ++ t ∷ [])) ts s (go (has_spelling ss t))
  where
    go : (b : Bool) → IsThere (number_in (cond b ss (ss ++ t ∷ [])) s)
    go true = h
    go false = still_there ss s t h

some_there : {A : Type 0} (o : Option A) → is_some o ≡ true → IsThere o
some_there (Some x) e = (x, refl)
some_there None e = absurd (cc e)

pub all_numbered : (ss : List (List ℕ)) (ns : List RawName) → AreNumbered (with_spellings ss (spellings ns)) ns
all_numbered ss [] = tt
all_numbered ss (n ∷ ns) = (
  kept_there (cond (has_spelling ss n.spelling) ss (ss ++ n.spelling ∷ [])) (spellings ns) n.spelling (go (has_spelling ss n.spelling) refl),
  all_numbered (cond (has_spelling ss n.spelling) ss (ss ++ n.spelling ∷ [])) ns,
)
  where
    go : (b : Bool) → has_spelling ss n.spelling ≡ b → IsThere (number_in (cond b ss (ss ++ n.spelling ∷ [])) n.spelling)
    go true e = some_there (number_in ss n.spelling) e
    go false e = at_end ss n.spelling
