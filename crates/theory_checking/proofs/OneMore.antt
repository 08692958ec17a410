-- What one more name, field or expression adds to the sites and to the terms.
use Rattle.std.proofs.lemmas.Grind.{flat_map-append}
use Rattle.std.specs.Prelude.{◌&&◌, true, false, cond, flat_map, take, unwrap_or, slice_get}
use Rattle.std.proofs.lemmas.List.{append_assoc}
use Rattle.std.proofs.Common.{◌≡◌, ℕ, suc, ◌+◌, List, [], ◌∷◌, ◌++◌, append-nil, length, Option, Some, None, refl, sym, ap, ◌∙◌, arith}
use Rattle.theory_syntax.specs.Expression.{Expression}
use Rattle.theory_syntax.specs.Process.{Field, Given, Input, InputFrom}
use Rattle.theory_text.specs.Raw.{RawName, RawField, RawGiven, RawInput, RawInputFrom, RawPair, RawDomain, RawChannels, RawScript}
use Rattle.theory_checking.specs.Names.{Environment, environment_above, binding, bound_by_fields}
use Rattle.theory_checking.specs.Sets.{types_of, set_expression, channel_members, field_members}
use Rattle.theory_checking.specs.Resolving.{of_two, of_three, every, expression_of, bound_number, fields_of}
use Rattle.theory_checking.specs.Sites.{BoundThere, Parameter, FieldSet, ChannelHead, in_expression, in_parameters, in_fields, in_heads, in_field_sets, Used, AsBareLeft, AsBareRight, in_event, in_pair, has_no_fields}

-- ---- names that are bound

pub binding_more : (env : Environment) (ms ns : List RawName) → binding env (ms ++ ns) ≡ binding (binding env ms) ns
binding_more env [] ns = refl
binding_more env (m ∷ ms) ns = binding_more (binding env (m ∷ [])) ms ns

pub same_declarations : (env : Environment) (ns : List RawName) → (binding env ns).declarations ≡ env.declarations
same_declarations env [] = refl
same_declarations env (n ∷ ns) = same_declarations (binding env (n ∷ [])) ns

pub bound_by_more : (fs gs : List RawField) → bound_by_fields (fs ++ gs) ≡ bound_by_fields fs ++ bound_by_fields gs
bound_by_more [] gs = refl
bound_by_more (RawGiven e ∷ fs) gs = bound_by_more fs gs
bound_by_more (RawInput n ∷ fs) gs = ap (λ ns. n ∷ ns) (bound_by_more fs gs)
bound_by_more (RawInputFrom n e ∷ fs) gs = ap (λ ns. n ∷ ns) (bound_by_more fs gs)

-- ---- sites

pub in_more_parameters : (env : Environment) (ms ns : List RawName) → in_parameters env (ms ++ ns) ≡ in_parameters env ms ++ in_parameters (binding env ms) ns
in_more_parameters env [] ns = refl
in_more_parameters env (m ∷ ms) ns = ap (λ xs. Parameter env m ∷ xs) (in_more_parameters (binding env (m ∷ [])) ms ns)

pub in_more_fields : (env : Environment) (fs gs : List RawField) → in_fields env (fs ++ gs) ≡ in_fields env fs ++ in_fields (binding env (bound_by_fields fs)) gs
in_more_fields env [] gs = refl
in_more_fields env (RawGiven e ∷ fs) gs =
    ap (λ xs. in_expression env e ++ xs) (in_more_fields env fs gs)
    ∙ sym (append_assoc (in_expression env e) (in_fields env fs) (in_fields (binding env (bound_by_fields fs)) gs))
in_more_fields env (RawInput n ∷ fs) gs = ap (λ xs. BoundThere env n ∷ xs) (in_more_fields (binding env (n ∷ [])) fs gs)
in_more_fields env (RawInputFrom n e ∷ fs) gs =
    ap (λ xs. BoundThere env n ∷ xs) (ap (λ xs. in_expression env e ++ xs) (in_more_fields (binding env (n ∷ [])) fs gs)
    ∙ sym (append_assoc (in_expression env e) (in_fields (binding env (n ∷ [])) fs) (in_fields (binding (binding env (n ∷ [])) (bound_by_fields fs)) gs)))

pub in_more_heads : (raw so_far : RawScript) (c : ℕ) (ms ns : List RawName) → in_heads raw so_far c (ms ++ ns) ≡ in_heads raw so_far c ms ++ in_heads raw so_far (c + length ms) ns
in_more_heads raw so_far c [] ns = let e : c ≡ c + 0 = omega arith in ap (λ k. in_heads raw so_far k ns) e
in_more_heads raw so_far c (m ∷ ms) ns =
    let e : suc c + length ms ≡ c + suc (length ms) = omega arith in
    ap (λ xs. ChannelHead m (types_of raw) so_far (take c (channel_members raw)) (unwrap_or (slice_get (channel_members raw) c) None) ∷ xs)
    (in_more_heads raw so_far (suc c) ms ns ∙ ap (λ k. in_heads raw so_far (suc c) ms ++ in_heads raw so_far k ns) e)

pub in_more_field_sets : (raw above : RawScript) (names : List RawName) (before ds es : List RawDomain) →
    in_field_sets raw above names before (ds ++ es) ≡ in_field_sets raw above names before ds ++ in_field_sets raw above names (before ++ ds) es
in_more_field_sets raw above names before [] es = ap (λ zs. in_field_sets raw above names zs es) (sym (append-nil before))
in_more_field_sets raw above names before (d ∷ ds) es =
    ap (λ xs. FieldSet d.place (types_of raw) (above ++ RawChannels names (before ++ d ∷ []) ∷ []) (set_expression above d) (field_members raw (set_expression above d)) ∷ xs)
    (ap (λ xs. in_expression (environment_above above) d.set ++ xs)
    (in_more_field_sets raw above names (before ++ d ∷ []) ds es
    ∙ ap (λ zs. in_field_sets raw above names (before ++ d ∷ []) ds ++ in_field_sets raw above names zs es) (append_assoc before (d ∷ []) ds))
    ∙ sym (append_assoc (in_expression (environment_above above) d.set) (in_field_sets raw above names (before ++ d ∷ []) ds) (in_field_sets raw above names (before ++ (d ∷ ds)) es)))

-- a pair of two bare channels, and any other pair
pub in_bare_pair : (env : Environment) (r : RawPair) → has_no_fields r.from ≡ true → has_no_fields r.to ≡ true →
    in_pair env r ≡ Used env (AsBareLeft r.to.channel) r.from.channel ∷ Used env (AsBareRight r.from.channel) r.to.channel ∷ []
in_bare_pair env r e f =
    ap (λ b. cond b (Used env (AsBareLeft r.to.channel) r.from.channel ∷ Used env (AsBareRight r.from.channel) r.to.channel ∷ []) (in_event env r.from ++ in_event env r.to))
    (ap (λ a. a && has_no_fields r.to) e ∙ ap (λ b. true && b) f)

pub in_other_pair : (env : Environment) (r : RawPair) → (has_no_fields r.from && has_no_fields r.to) ≡ false → in_pair env r ≡ in_event env r.from ++ in_event env r.to
in_other_pair env r e = ap (λ b. cond b (Used env (AsBareLeft r.to.channel) r.from.channel ∷ Used env (AsBareRight r.from.channel) r.to.channel ∷ []) (in_event env r.from ++ in_event env r.to)) e

-- what each thing gives, with one more
pub flat_map_one_more : {A B : Type 0} (f : A → List B) (xs : List A) (x : A) → flat_map f (xs ++ x ∷ []) ≡ flat_map f xs ++ f x
flat_map_one_more f xs x = flat_map-append f xs (x ∷ []) ∙ ap (λ zs. flat_map f xs ++ zs) (append-nil (f x))

-- ---- terms

two_of_two : {A : Type 0} (x : A) (o p : Option (List A)) → of_two ◌∷◌ (Some x) (of_two ◌++◌ o p) ≡ of_two ◌++◌ (of_two ◌∷◌ (Some x) o) p
two_of_two x None p = refl
two_of_two x (Some xs) None = refl
two_of_two x (Some xs) (Some ys) = refl

pub every_more : {A B : Type 0} (f : A → Option B) (xs ys : List A) → every f (xs ++ ys) ≡ of_two ◌++◌ (every f xs) (every f ys)
every_more {A} {B} f [] ys = go (every f ys)
  where
    go : (o : Option (List B)) → o ≡ of_two ◌++◌ (Some []) o
    go None = refl
    go (Some zs) = refl
every_more {A} {B} f (x ∷ xs) ys = go (f x) (every_more f xs ys)
  where
    go : (o : Option B) → every f (xs ++ ys) ≡ of_two ◌++◌ (every f xs) (every f ys) → of_two ◌∷◌ o (every f (xs ++ ys)) ≡ of_two ◌++◌ (of_two ◌∷◌ o (every f xs)) (every f ys)
    go None e = refl
    go (Some y) e = ap (of_two ◌∷◌ (Some y)) e ∙ two_of_two y (every f xs) (every f ys)

pub every_one_more : {A B : Type 0} (f : A → Option B) (xs : List A) (x : A) (ys : List B) (y : B) → every f xs ≡ Some ys → f x ≡ Some y → every f (xs ++ x ∷ []) ≡ Some (ys ++ y ∷ [])
every_one_more f xs x ys y e h = every_more f xs (x ∷ []) ∙ rw (e, h) refl

pub fields_of_more : (env : Environment) (fs gs : List RawField) (xs ys : List Field) → fields_of env fs ≡ Some xs →
    fields_of (binding env (bound_by_fields fs)) gs ≡ Some ys → fields_of env (fs ++ gs) ≡ Some (xs ++ ys)
fields_of_more env [] gs xs ys e h = let is : [] ≡ xs = cc e in h ∙ ap (λ zs. Some (zs ++ ys)) is
fields_of_more env (RawGiven v ∷ fs) gs xs ys e h = go (expression_of env v) (fields_of env fs) (λ zs f. fields_of_more env fs gs zs ys f h) e
  where
    go : (o : Option Expression) (p : Option (List Field)) → ((zs : List Field) → p ≡ Some zs → fields_of env (fs ++ gs) ≡ Some (zs ++ ys)) → of_two (λ w rest. Given w ∷ rest) o p ≡ Some xs →
        of_two (λ w rest. Given w ∷ rest) o (fields_of env (fs ++ gs)) ≡ Some (xs ++ ys)
    go (Some w) (Some zs) rest f = let is : Given w ∷ zs ≡ xs = cc f in ap (of_two (λ u more. Given u ∷ more) (Some w)) (rest zs refl) ∙ ap (λ us. Some (us ++ ys)) is
    go (Some w) None rest f = absurd (cc f)
    go None p rest f = absurd (cc f)
fields_of_more env (RawInput n ∷ fs) gs xs ys e h = go (bound_number env n) (fields_of (binding env (n ∷ [])) fs) (λ zs f. fields_of_more (binding env (n ∷ [])) fs gs zs ys f h) e
  where
    go : (o : Option ℕ) (p : Option (List Field)) → ((zs : List Field) → p ≡ Some zs → fields_of (binding env (n ∷ [])) (fs ++ gs) ≡ Some (zs ++ ys)) →
        of_two (λ w rest. Input w ∷ rest) o p ≡ Some xs →
        of_two (λ w rest. Input w ∷ rest) o (fields_of (binding env (n ∷ [])) (fs ++ gs)) ≡ Some (xs ++ ys)
    go (Some w) (Some zs) rest f = let is : Input w ∷ zs ≡ xs = cc f in ap (of_two (λ u more. Input u ∷ more) (Some w)) (rest zs refl) ∙ ap (λ us. Some (us ++ ys)) is
    go (Some w) None rest f = absurd (cc f)
    go None p rest f = absurd (cc f)
fields_of_more env (RawInputFrom n v ∷ fs) gs xs ys e h =
    go (bound_number env n) (expression_of env v) (fields_of (binding env (n ∷ [])) fs) (λ zs f. fields_of_more (binding env (n ∷ [])) fs gs zs ys f h) e
  where
    go : (o : Option ℕ) (s : Option Expression) (p : Option (List Field)) →
        ((zs : List Field) → p ≡ Some zs → fields_of (binding env (n ∷ [])) (fs ++ gs) ≡ Some (zs ++ ys)) →
        of_three (λ w t rest. InputFrom w t ∷ rest) o s p ≡ Some xs →
        of_three (λ w t rest. InputFrom w t ∷ rest) o s (fields_of (binding env (n ∷ [])) (fs ++ gs)) ≡ Some (xs ++ ys)
    go (Some w) (Some t) (Some zs) rest f = let is : InputFrom w t ∷ zs ≡ xs = cc f in ap (of_three (λ u r more. InputFrom u r ∷ more) (Some w) (Some t)) (rest zs refl) ∙ ap (λ us. Some (us ++ ys)) is
    go (Some w) (Some t) None rest f = absurd (cc f)
    go (Some w) None p rest f = absurd (cc f)
    go None s p rest f = absurd (cc f)
