-- A set has the same members over more types than it uses.
use Rattle.std.specs.Prelude.{cond, slice_get, unwrap_or, ok_or, is_some, ◌&&◌}
use Rattle.std.specs.List.{list_all}
use Rattle.std.specs.Result.{result_ok}
use Rattle.std.proofs.Common.{◌≡◌, ℕ, zero, suc, ◌<◌, true, false, List, [], ◌∷◌, ◌++◌, length, map, Option, Some, None, Result, Ok, Err, refl, ap, ap₂, ◌∙◌, arith}
use Rattle.std.proofs.lemmas.List.{map-append, length-map}
use Rattle.theory_syntax.specs.Value.{Value, sorted_values}
use Rattle.theory_syntax.specs.Expression.{Expression, Literal, Name, Apply, Combine, SequenceOf, SetOf, Range, Booleans, Datatype, Nametype, ConstructorOf, Expressions, no_expressions, expression_and}
use Rattle.theory_syntax.specs.Types.{Types}
use Rattle.theory_semantics.specs.Meaning.Evaluation.{Cause, IllKinded, ◌and_then◌, sequence, set_of, set_at, datatype_set, constructors, constructor_sets, constructed, in_field_set, with_all_fields, apply, combine, decides, range_of, value, values, given_values}
use Rattle.theory_semantics.specs.Meaning.Events.{members_of}
use Rattle.theory_semantics.specs.Kinds.Kind.{Each}
use Rattle.theory_semantics.proofs.Misfits.{each_map}
use Rattle.theory_text.specs.Raw.{RawDomain, RawScript}
use Rattle.theory_checking.specs.Faults.{NoneRefused}
use Rattle.theory_checking.specs.Names.{ConstructorName, DatatypeName, NametypeName}
use Rattle.theory_checking.specs.Rules.{IsRedeclared, all_declared}
use Rattle.theory_checking.specs.Sets.{behind_each, in_order, set_expression, datatypes_of, nametypes_in, constructors_in, datatypes_in, Members, no_members, is_there, has_constructors, types_with, members_with, types_declared, with_members, members_above, all_members}
use Rattle.theory_checking.proofs.ScriptThere.{behind-append, followed, table_begins, with_more}
use Rattle.csp_kinds.proofs.Numbered.{named_constructors, named_nametypes, row_above}
use Rattle.csp_kinds.proofs.UsedAbove.{UsedIn, UsedInAll, in_left, in_right, in_first, in_others, IsAbove, resolved_above}

-- ---- over types that agree

module _ (t u : Types) (same : t.datatypes ≡ u.datatypes) where
  -- a nametype has the same set in both, a constructor the same field sets, and so has each constructor of a datatype
  abbrev pub IsNamedAlike : ℕ → Type 0
  IsNamedAlike n = slice_get t.nametypes n ≡ slice_get u.nametypes n

  abbrev pub IsBuiltAlike : ℕ → Type 0
  IsBuiltAlike k = slice_get t.constructors k ≡ slice_get u.constructors k

  abbrev pub AreBuiltAlike : ℕ → Type 0
  AreBuiltAlike d = Each IsBuiltAlike (unwrap_or (slice_get t.datatypes d) [])

  same_constructors : (ks : List ℕ) → Each IsBuiltAlike ks → constructors t ks ≡ constructors u ks
  same_constructors [] h = refl
  same_constructors (k ∷ ks) h = ap₂ (λ r s. r and_then λ sets. s and_then λ vs. Ok (with_all_fields k sets ++ vs)) (ap (λ o. ok_or o IllKinded) h.0) (same_constructors ks h.1)

  same_datatype : (o : Option (List ℕ)) → Each IsBuiltAlike (unwrap_or o []) → datatype_set t o ≡ datatype_set u o
  same_datatype (Some ks) h = ap (λ r. r and_then λ vs. set_of vs) (same_constructors ks h)
  same_datatype None h = refl

  same_constructed : (k : ℕ) (r : Result (List (List Value)) Cause) (f g : List (List Value) → Result (List Value) Cause) → ((sets : List (List Value)) → f sets ≡ g sets) →
      (r and_then λ sets. f sets and_then λ vs. constructed k sets vs) ≡ (r and_then λ sets. g sets and_then λ vs. constructed k sets vs)
  same_constructed k (Ok sets) f g same_given = ap (λ r. r and_then λ vs. constructed k sets vs) (same_given sets)
  same_constructed k (Err c) f g same_given = refl

  mutual
    pub same_value : (e : Expression) → UsedIn IsNamedAlike IsBuiltAlike AreBuiltAlike e → value t e ≡ value u e
    same_value (Literal v) h = refl
    same_value (Name n) h = refl
    same_value (Apply op e) h = ap (λ r. r and_then λ v. apply op v) (same_value e h)
    same_value (Combine op e f) h =
        ap₂ (λ r s. r and_then λ v. elim (decides op v) [ true ↦ Ok v | false ↦ s and_then λ w. combine op v w ])
        (same_value e (in_left IsNamedAlike IsBuiltAlike AreBuiltAlike e f h)) (same_value f (in_right IsNamedAlike IsBuiltAlike AreBuiltAlike e f h))
    same_value (SequenceOf es) h = ap (λ r. r and_then λ vs. sequence vs) (same_values es h)
    same_value (SetOf es) h = ap (λ r. r and_then λ vs. set_of (sorted_values vs)) (same_values es h)
    same_value (Range e f) h =
        ap₂ (λ r s. r and_then λ v. s and_then λ w. range_of v w)
        (same_value e (in_left IsNamedAlike IsBuiltAlike AreBuiltAlike e f h)) (same_value f (in_right IsNamedAlike IsBuiltAlike AreBuiltAlike e f h))
    same_value Booleans h = refl
    same_value (Datatype d) h = same_datatype (slice_get t.datatypes d) h.datatypes.0 ∙ ap (λ ds. datatype_set u (slice_get ds d)) same
    same_value (Nametype n) h = ap set_at h.nametypes.0
    same_value (ConstructorOf k es) h =
        ap (λ r. r and_then λ sets. given_values t es sets and_then λ vs. constructed k sets vs) (ap (λ o. ok_or o IllKinded) h.constructors.0)
        ∙ same_constructed k (constructor_sets u k) (given_values t es) (given_values u es)
        (λ sets. same_given es sets (record { nametypes = h.nametypes; constructors = h.constructors.1; datatypes = h.datatypes }))

    same_values : (es : Expressions) → UsedInAll IsNamedAlike IsBuiltAlike AreBuiltAlike es → values t es ≡ values u es
    same_values no_expressions h = refl
    same_values (expression_and e es) h =
        ap₂ (λ r s. r and_then λ v. s and_then λ vs. Ok (v ∷ vs))
        (same_value e (in_first IsNamedAlike IsBuiltAlike AreBuiltAlike e es h)) (same_values es (in_others IsNamedAlike IsBuiltAlike AreBuiltAlike e es h))

    same_given : (es : Expressions) (sets : List (List Value)) → UsedInAll IsNamedAlike IsBuiltAlike AreBuiltAlike es → given_values t es sets ≡ given_values u es sets
    same_given no_expressions sets h = refl
    same_given (expression_and e es) [] h = refl
    same_given (expression_and e es) (set ∷ sets) h =
        ap₂ (λ r s. r and_then λ v. in_field_set set v and_then λ w. s and_then λ vs. Ok (v ∷ vs))
        (same_value e (in_first IsNamedAlike IsBuiltAlike AreBuiltAlike e es h)) (same_given es sets (in_others IsNamedAlike IsBuiltAlike AreBuiltAlike e es h))

-- ---- over the first members of a table

pub front : {A : Type 0} (xs ys : List A) (n : ℕ) → n < length xs → slice_get (xs ++ ys) n ≡ slice_get xs n
front [] ys n small = absurd (omega arith)
front (x ∷ xs) ys zero small = refl
front (x ∷ xs) ys (suc n) small = front xs ys n (omega arith)

mapped_front : {A B : Type 0} (f : A → B) (xs ys : List A) (n : ℕ) → n < length xs → slice_get (map f (xs ++ ys)) n ≡ slice_get (map f xs) n
mapped_front f xs ys n small =
    let size = length-map xs f in ap (λ zs. slice_get zs n) (map-append f xs ys) ∙ front (map f xs) (map f ys) n (omega (arith, size, small))

there_in_front : {A : Type 0} (os ps : List (Option A)) (ns : List ℕ) → Each (λ n. n < length os) ns → list_all (is_there (os ++ ps)) ns ≡ list_all (is_there os) ns
there_in_front os ps [] h = refl
there_in_front os ps (n ∷ ns) h = ap₂ (λ a b. a && b) (ap (λ o. is_some (unwrap_or o None)) (front os ps n h.0)) (there_in_front os ps ns h.1)

module _ (dts : List (List ℕ)) (ms more : Members) where
  -- what is in use is among the members
  abbrev pub IsNametypeIn : ℕ → Type 0
  IsNametypeIn n = n < length ms.nametypes

  abbrev pub IsConstructorIn : ℕ → Type 0
  IsConstructorIn k = k < length ms.constructors

  abbrev pub IsDatatypeIn : ℕ → Type 0
  IsDatatypeIn d = Each IsConstructorIn (unwrap_or (slice_get dts d) [])

  rows_in_front : (ds : List ℕ) → Each IsDatatypeIn ds → list_all (has_constructors dts (followed ms more)) ds ≡ list_all (has_constructors dts ms) ds
  rows_in_front [] h = refl
  rows_in_front (d ∷ ds) h = ap₂ (λ a b. a && b) (there_in_front ms.constructors more.constructors (unwrap_or (slice_get dts d) []) h.0) (rows_in_front ds h.1)

  pub members_front : (e : Expression) → UsedIn IsNametypeIn IsConstructorIn IsDatatypeIn e → members_with dts (followed ms more) e ≡ members_with dts ms e
  members_front e h =
      ap₂ (λ b r. cond b (result_ok r) None)
      (ap₂ (λ a b. a && b) (there_in_front ms.nametypes more.nametypes (nametypes_in e) h.nametypes)
      (ap₂ (λ a b. a && b) (there_in_front ms.constructors more.constructors (constructors_in e) h.constructors) (rows_in_front (datatypes_in e) h.datatypes)))
      (ap (λ r. r and_then λ v. members_of v) (same_value long short refl e (record {
        nametypes = each_map IsNametypeIn (IsNamedAlike long short refl) (nametypes_in e) (λ n small. mapped_front (λ m. unwrap_or m []) ms.nametypes more.nametypes n small) h.nametypes;
        constructors = each_map IsConstructorIn (IsBuiltAlike long short refl) (constructors_in e) built h.constructors;
        datatypes = each_map IsDatatypeIn (AreBuiltAlike long short refl) (datatypes_in e)
            (λ d row. each_map IsConstructorIn (IsBuiltAlike long short refl) (unwrap_or (slice_get dts d) []) built row) h.datatypes;
      })))
    where
      long : Types
      long = types_with dts (followed ms more)

      short : Types
      short = types_with dts ms

      built : (k : ℕ) → IsConstructorIn k → IsBuiltAlike long short refl k
      built k small = mapped_front (λ m. unwrap_or m []) ms.constructors more.constructors k small

-- ---- the members of the sets above

module _ (raw above below : RawScript) (stands : raw ≡ above ++ below) where
  table_above : (more : Members) × (all_members raw ≡ followed (members_above raw above) more)
  table_above =
      let begins = table_begins (datatypes_of raw) (members_above raw above) (behind_each types_declared above below) in (
        begins.0,
        ap (λ ds. with_members (datatypes_of raw) no_members (in_order types_declared ds)) stands
            ∙ ap (with_members (datatypes_of raw) no_members) (behind-append types_declared [] above below)
            ∙ with_more (datatypes_of raw) no_members (in_order types_declared above) (behind_each types_declared above below) ∙ begins.1,
      )

  module _ (once : NoneRefused IsRedeclared (all_declared raw)) where
    -- a set has the members that it has over the types above it
    pub set_members_above : (d : RawDomain) (e : Expression) → set_expression above d ≡ Some e →
        members_with (datatypes_of raw) (all_members raw) e ≡ members_with (datatypes_of raw) (members_above raw above) e
    set_members_above d e is =
        let ms = members_above raw above in
        let dts = datatypes_of raw in
        let names = named_nametypes raw above in
        let builds = named_constructors raw above in
        let used = resolved_above above d.set e is in
        ap (λ all. members_with dts all e) table_above.1
        ∙ members_front dts ms table_above.0 e (record {
          nametypes = each_map (IsAbove above NametypeName) (IsNametypeIn dts ms table_above.0) (nametypes_in e) (λ n small. omega (arith, small, names)) used.nametypes;
          constructors = each_map (IsAbove above ConstructorName) (IsConstructorIn dts ms table_above.0) (constructors_in e) (λ k small. omega (arith, small, builds)) used.constructors;
          datatypes = each_map (IsAbove above DatatypeName) (IsDatatypeIn dts ms table_above.0) (datatypes_in e) (λ k small. row_above raw above below stands once k small) used.datatypes;
        })
