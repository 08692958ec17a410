-- The parts of a tree are counted declaration by declaration.
use Rattle.std.specs.Prelude.{OnOk, replicate}
use Rattle.std.specs.declared.vec.Vec.{Vec}
use Rattle.std.proofs.lemmas.Result.{on_ok_weaker}
use Rattle.std.proofs.Common.{◌≡◌, ℕ, zero, suc, ◌+◌, ◌<◌, ◌≤◌, List, [], ◌∷◌, ◌++◌, append-nil, append_assoc, arith, length, length-append, Result, map, take, get_or, refl, sym, subst, ◌∙◌, ap, ap₂}
use Rattle.std.proofs.lemmas.List.{flat_map_more, length-map, map-append, take_more}
use Rattle.theory_text.specs.Raw.{RawClause, RawDeclaration, RawDatatype, RawNametype, RawChannels, RawEquation, RawAssertion, RawScript}
use Rattle.theory_checking.specs.ConstructorRows.{constructors_declared}
use Rattle.theory_checking.specs.Names.{constructor_fields}
use Rattle.theory_checking.specs.Rules.{fields_declared, parameters_declared}
use Rattle.theory_checking.specs.Sets.{set_expression, channel_sets, channels_declared, nametype_sets, nametypes_declared}
use Rattle.theory_checking.proofs.ScriptThere.{behind_one_more}
use Rattle.theory_checking.proofs.Sizes.{sizes_of_constructors}
use Rattle.csp_parse.specs.declared.declarations.Clause.{Clause}
use Rattle.csp_parse.specs.declared.declarations.Declaration.{Declaration}
use Rattle.csp_parse.specs.declared.declarations.Declaration.TheVariants as declaration
use Rattle.csp_parse.specs.declared.names.Name.{Name}
use Rattle.csp_parse.specs.Declarations.{clause_of, declaration_of, domain_of}
use Rattle.csp_value.specs.declared.memory.Memory.{Memory}
use Rattle.csp_inference.specs.Counts.{AddsClauses, AddsCounts, AreCountsOf, nametypes_counted}
use Rattle.csp_inference.specs.declared.counts.Counts.{Counts}

-- what f makes of the members read so far, with one member more
pub read_one_more : {X Y : Type 0} (f : X → Y) (xs : List X) (i : ℕ) (d : X) → i < length xs → map f (take (i + 1) xs) ≡ map f (take i xs) ++ f (get_or xs i d) ∷ []
read_one_more f xs i d within = ap (map f) (take_more xs i d within) ∙ map-append f (take i xs) (get_or xs i d ∷ [])

pub map_replicate : {X Y : Type 0} (f : X → Y) (n : ℕ) (x : X) → map f (replicate n x) ≡ replicate n (f x)
map_replicate f zero x = refl
map_replicate f (suc n) x = ap (λ ys. f x ∷ ys) (map_replicate f n x)

one_counted : (above : RawScript) (d : RawDeclaration) → length (nametypes_declared above d) ≡ nametypes_counted d
one_counted above (RawDatatype name cs) = refl
one_counted above (RawNametype name domain) = refl
one_counted above (RawChannels names domains) = refl
one_counted above (RawEquation name ns p) = refl
one_counted above (RawAssertion place n a p) = refl

-- one declaration more
pub nametypes_more : {A : Type 0} (ds : List (Declaration A)) (i count k : ℕ) (x : Declaration A) → i < length ds → x ≡ get_or ds i x → k ≡ nametypes_counted (declaration_of x) → count ≡ length (nametype_sets (map declaration_of (take i ds))) →
    count + k ≡ length (nametype_sets (map declaration_of (take (i + 1) ds)))
nametypes_more ds i count k x within read is so_far =
    let above = map declaration_of (take i ds) in
    let d = declaration_of x in
    ap₂ (λ n m. n + m) so_far (is ∙ sym (one_counted above d))
    ∙ sym (ap length (behind_one_more nametypes_declared above d) ∙ length-append (nametype_sets above) (nametypes_declared above d))
    ∙ sym (ap (λ raw. length (nametype_sets raw)) (read_one_more declaration_of ds i x within ∙ ap (λ y. above ++ declaration_of y ∷ []) (sym read)))

pub at_most_one : (d : RawDeclaration) → nametypes_counted d ≤ 1
at_most_one (RawDatatype name cs) = omega arith
at_most_one (RawNametype name domain) = omega arith
at_most_one (RawChannels names domains) = omega arith
at_most_one (RawEquation name ns p) = omega arith
at_most_one (RawAssertion place n a p) = omega arith

fields_counted : (above : RawScript) (d : RawDeclaration) → map length (channels_declared above d) ≡ fields_declared d
fields_counted above (RawDatatype name cs) = refl
fields_counted above (RawNametype name domain) = refl
fields_counted above (RawChannels names domains) = map_replicate length (length names) (map (set_expression above) domains) ∙ ap (replicate (length names)) (length-map domains (set_expression above))
fields_counted above (RawEquation name ns p) = refl
fields_counted above (RawAssertion place n a p) = refl

-- one declaration more
pub counts_more : {A : Type 0} (raw : RawScript) (d : RawDeclaration) (old new : Counts A) → AreCountsOf raw old → AddsCounts d old new → AreCountsOf (raw ++ d ∷ []) new
counts_more raw d old new are adds = record {
  constructors = adds.constructors ∙ ap (λ z. z ++ constructors_declared d) are.constructors ∙ flat_map_more constructors_declared [] raw d;
  constructor_fields =
      adds.constructor_fields ∙ ap (λ z. z ++ constructor_fields d) (are.constructor_fields ∙ sizes_of_constructors raw)
      ∙ flat_map_more constructor_fields [] raw d ∙ sym (sizes_of_constructors (raw ++ d ∷ []));
  fields =
      adds.fields ∙ ap₂ (λ z w. z ++ w) are.fields (sym (fields_counted raw d))
      ∙ sym (ap (map length) (behind_one_more channels_declared raw d) ∙ map-append length (channel_sets raw) (channels_declared raw d));
  parameters = adds.parameters ∙ ap (λ z. z ++ parameters_declared d) are.parameters ∙ flat_map_more parameters_declared [] raw d;
}

pub counts_step : {A : Type 0} (ds : List (Declaration A)) (i : ℕ) (x : Declaration A) (old new : Counts A) → i < length ds → x ≡ get_or ds i x → AreCountsOf (map declaration_of (take i ds)) old → AddsCounts (declaration_of x) old new → AreCountsOf (map declaration_of (take (i + 1) ds)) new
counts_step {A} ds i x old new within read are adds =
    let P : RawScript → Type 0 = λ raw. AreCountsOf raw new in
    subst P (sym (read_one_more declaration_of ds i x within ∙ ap (λ y. map declaration_of (take i ds) ++ declaration_of y ∷ []) (sym read))) (counts_more (map declaration_of (take i ds)) (declaration_of x) old new are adds)

-- ---- the clauses of a datatype

pub clauses_at_first : {A : Type 0} (old : Counts A) → AddsClauses [] old old
clauses_at_first old = record { constructors = refl; constructor_fields = sym (append-nil old.constructor_fields.items); fields = refl; parameters = refl }

pub clause_step : {A B : Type 0} (cs : List (Clause A)) (i : ℕ) (x : Clause A) (old now : Counts B) (made : Vec ℕ B) (k : ℕ) → i < length cs → x ≡ get_or cs i x → k ≡ length x.fields.items →
    made.items ≡ now.constructor_fields.items ++ k ∷ [] → AddsClauses (map clause_of (take i cs)) old now →
    AddsClauses (map clause_of (take (i + 1) cs)) old
    (record { constructors = now.constructors; constructor_fields = made; fields = now.fields; parameters = now.parameters })
clause_step cs i x old now made k within read is pushed adds =
    let count : RawClause → ℕ = λ c. length c.fields in
    let before = map clause_of (take i cs) in
    let start = old.constructor_fields.items in
    record {
      constructors = adds.constructors;
      constructor_fields =
          pushed ∙ ap₂ (λ z l. z ++ l ∷ []) adds.constructor_fields (is ∙ sym (length-map x.fields.items domain_of))
          ∙ append_assoc start (map count before) (count (clause_of x) ∷ [])
          ∙ ap (λ z. start ++ z) (sym (map-append count before (clause_of x ∷ [])))
          ∙ ap (λ z. start ++ map count z) (ap (λ y. before ++ clause_of y ∷ []) read ∙ sym (read_one_more clause_of cs i x within));
      fields = adds.fields;
      parameters = adds.parameters;
    }

-- a datatype with its clauses
pub datatype_counted : {A B : Type 0} (d : Declaration A) (name : Name) (cs : Vec (Clause A) A) (read : List (Clause A)) (old new : Counts B) (made : Vec ℕ B) (k : ℕ) (r : Result (Unit {0}) Memory) →
    d ≡ declaration.Datatype name cs → read ≡ cs.items → k ≡ length cs.items → made.items ≡ old.constructors.items ++ k ∷ [] →
    OnOk r (AddsClauses (map clause_of read)
    (record { constructors = made; constructor_fields = old.constructor_fields; fields = old.fields; parameters = old.parameters }) new) →
    OnOk r (AddsCounts (declaration_of d) old new)
datatype_counted {A} d name cs read old new made k r is same count pushed h =
    let P : Declaration A → Type 0 = λ x. OnOk r (AddsCounts (declaration_of x) old new) in
    subst P (sym is) (on_ok_weaker r (λ adds. record {
      constructors =
          adds.constructors ∙ pushed ∙ ap (λ l. old.constructors.items ++ l ∷ []) (count ∙ sym (length-map (map clause_of cs.items) (λ c. c.name) ∙ length-map cs.items clause_of));
      constructor_fields = adds.constructor_fields ∙ ap (λ xs. old.constructor_fields.items ++ map (λ c. length c.fields) (map clause_of xs)) same;
      fields = adds.fields ∙ sym (append-nil old.fields.items);
      parameters = adds.parameters ∙ sym (append-nil old.parameters.items);
    }) h)
