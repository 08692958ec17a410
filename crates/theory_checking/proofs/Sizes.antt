-- How many fields the constructors of a tree have, by their sets.
use Rattle.std.specs.Prelude.{flat_map}
use Rattle.std.proofs.lemmas.List.{map-append, length-map}
use Rattle.std.proofs.Common.{◌≡◌, List, [], ◌∷◌, ◌++◌, length, map, refl, ap, ap₂, ◌∙◌}
use Rattle.theory_text.specs.Raw.{RawClause, RawDatatype, RawNametype, RawChannels, RawEquation, RawAssertion, RawScript}
use Rattle.theory_checking.specs.Names.{constructor_fields}
use Rattle.theory_checking.specs.Sets.{behind_each, set_expression, clause_sets, clauses_declared, constructor_sets}

constructor_sizes : (above : RawScript) (cs : List RawClause) → map length (map (clause_sets above) cs) ≡ map (λ c. length c.fields) cs
constructor_sizes above [] = refl
constructor_sizes above (c ∷ cs) = ap₂ ◌∷◌ (length-map c.fields (set_expression above)) (constructor_sizes above cs)

constructors_behind : (above ds : RawScript) → map length (behind_each clauses_declared above ds) ≡ flat_map constructor_fields ds
constructors_behind above [] = refl
constructors_behind above (RawDatatype name cs ∷ ds) =
    map-append length (map (clause_sets above) cs) (behind_each clauses_declared (above ++ RawDatatype name cs ∷ []) ds)
    ∙ ap (λ zs. zs ++ map length (behind_each clauses_declared (above ++ RawDatatype name cs ∷ []) ds)) (constructor_sizes above cs)
    ∙ ap (λ zs. map (λ c. length c.fields) cs ++ zs) (constructors_behind (above ++ RawDatatype name cs ∷ []) ds)
constructors_behind above (RawChannels names domains ∷ ds) = constructors_behind (above ++ RawChannels names domains ∷ []) ds
constructors_behind above (RawNametype name domain ∷ ds) = constructors_behind (above ++ RawNametype name domain ∷ []) ds
constructors_behind above (RawEquation name ns p ∷ ds) = constructors_behind (above ++ RawEquation name ns p ∷ []) ds
constructors_behind above (RawAssertion place n a p ∷ ds) = constructors_behind (above ++ RawAssertion place n a p ∷ []) ds

pub sizes_of_constructors : (raw : RawScript) → map length (constructor_sets raw) ≡ flat_map constructor_fields raw
sizes_of_constructors raw = constructors_behind [] raw
