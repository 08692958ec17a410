-- One nametype or constructor more in the table.
use Rattle.std.specs.Prelude.{is_some, option_map, unwrap_or}
use Rattle.std.specs.declared.vec.Vec.{Vec}
use Rattle.std.proofs.lemmas.List.{append_assoc, map-append}
use Rattle.std.proofs.Common.{◌≡◌, Bool, List, [], ◌∷◌, ◌++◌, append-nil, map, Option, Some, None, refl, sym, ap, ap₂, ◌∙◌, subst}
use Rattle.theory_checking.specs.Sets.{with_constructors}
use Rattle.csp_value.specs.declared.field_set.FieldSet.{FieldSet}
use Rattle.csp_value.specs.declared.set.SetOf.{SetOf}
use Rattle.csp_value.specs.Fields.{field_values, sets_of}
use Rattle.csp_expression.specs.declared.types.ConstructorFields.{ConstructorFields}
use Rattle.csp_expression.specs.Evaluation.{members_listed}
use Rattle.csp_names.specs.Scopes.{known_sets}
use Rattle.csp_kinds.specs.declared.table.Table.{Table}
use Rattle.csp_kinds.specs.Looking.{AddsConstructors, AddsMembers, IsTableOf, listed_members}

-- whether a thing is there is seen in its list too
pub there_mapped : {X Y : Type 0} (f : X → Y) (o : Option X) → is_some o ≡ is_some (option_map f o)
there_mapped f (Some x) = refl
there_mapped f None = refl

module _ {A : Type 0} (old : Table A) where
  -- ---- nametypes

  module _ (members : Option (SetOf A)) (set : SetOf A) (is : members_listed set ≡ unwrap_or (listed_members members) []) (nametypes : Vec (SetOf A) A) (valued : Vec Bool A) where
    pub nametype_pushed : nametypes.items ≡ old.types.nametypes.items ++ set ∷ [] → valued.items ≡ old.valued.items ++ is_some members ∷ [] →
        AddsMembers old (listed_members members)
        (record {
          types = record { datatypes = old.types.datatypes; nametypes = nametypes; constructors = old.types.constructors };
          valued =
              valued;
          filled = old.filled;
        })
    nametype_pushed pushed marked dts ms h = record {
      types = λ i. record { datatypes = ap (λ t. t.datatypes) h.types i; nametypes = named i; constructors = ap (λ t. t.constructors) h.types i };
      valued = marked ∙ ap₂ (λ xs x. xs ++ x ∷ []) h.valued (there_mapped members_listed members) ∙ sym (map-append is_some ms.nametypes (listed_members members ∷ []));
      filled = h.filled;
    }
      where
        named : map members_listed nametypes.items ≡ map (λ m. unwrap_or m []) (ms.nametypes ++ listed_members members ∷ [])
        named =
            ap (map (members_listed {A = A})) pushed ∙ map-append (members_listed {A = A}) old.types.nametypes.items (set ∷ []) ∙ ap₂ (λ xs x. xs ++ x ∷ []) (ap (λ t. t.nametypes) h.types) is
            ∙ sym (map-append (λ m. unwrap_or m []) ms.nametypes (listed_members members ∷ []))

  -- ---- constructors

  module _ (sets : Option (Vec (FieldSet A) A)) (fields : ConstructorFields A) (is : sets_of fields.sets.items ≡ unwrap_or (known_sets sets) [])
      (constructors : Vec (ConstructorFields A) A) (filled : Vec Bool A) where
    pub constructor_pushed : constructors.items ≡ old.types.constructors.items ++ fields ∷ [] → filled.items ≡ old.filled.items ++ is_some sets ∷ [] →
        AddsConstructors old (known_sets sets ∷ [])
        (record {
          types = record { datatypes = old.types.datatypes; nametypes = old.types.nametypes; constructors = constructors };
          valued =
              old.valued;
          filled = filled;
        })
    constructor_pushed pushed marked dts ms h = record {
      types = λ i. record { datatypes = ap (λ t. t.datatypes) h.types i; nametypes = ap (λ t. t.nametypes) h.types i; constructors = built i };
      valued = h.valued;
      filled = marked ∙ ap₂ (λ xs x. xs ++ x ∷ []) h.filled (there_mapped (λ (v : Vec (FieldSet A) A). map field_values v.items) sets)
          ∙ sym (map-append is_some ms.constructors (known_sets sets ∷ []));
    }
      where
        built : map (λ c. sets_of c.sets.items) constructors.items ≡ map (λ m. unwrap_or m []) (ms.constructors ++ known_sets sets ∷ [])
        built =
            ap (map (λ (c : ConstructorFields A). sets_of c.sets.items)) pushed ∙ map-append (λ (c : ConstructorFields A). sets_of c.sets.items) old.types.constructors.items (fields ∷ [])
            ∙ ap₂ (λ xs x. xs ++ x ∷ []) (ap (λ t. t.constructors) h.types) is ∙ sym (map-append (λ m. unwrap_or m []) ms.constructors (known_sets sets ∷ []))

  pub no_constructors : AddsConstructors old [] old
  no_constructors dts ms h = subst (λ cs. IsTableOf dts (record { nametypes = ms.nametypes; constructors = cs }) old) (sym (append-nil ms.constructors)) h

-- some, and one more
pub one_constructor : {A : Type 0} (start old new : Table A) (cs : List (Option (Vec (FieldSet A) A))) (c : Option (Vec (FieldSet A) A)) →
    AddsConstructors start (map known_sets cs) old → AddsConstructors old (known_sets c ∷ []) new →
    AddsConstructors start (map known_sets (cs ++ c ∷ [])) new
one_constructor start old new cs c some one dts ms h =
    let all : (ms.constructors ++ map known_sets cs) ++ known_sets c ∷ [] ≡ ms.constructors ++ map known_sets (cs ++ c ∷ []) =
    append_assoc ms.constructors (map known_sets cs) (known_sets c ∷ []) ∙ ap (λ xs. ms.constructors ++ xs) (sym (map-append known_sets cs (c ∷ []))) in
    subst (λ xs. IsTableOf dts (record { nametypes = ms.nametypes; constructors = xs }) new) all (one dts (with_constructors (map known_sets cs) ms) (some dts ms h))

-- what an iterator over a list gave in all is the list
pub yielded_all : {X : Type 0} (xs all : List X) → map (λ y. y) xs ≡ all → xs ≡ all
yielded_all {X} xs all is = sym (same xs) ∙ is
  where
    same : (ys : List X) → map (λ y. y) ys ≡ ys
    same [] = refl
    same (y ∷ ys) = ap (λ zs. y ∷ zs) (same ys)
