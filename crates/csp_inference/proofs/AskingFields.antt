-- Fields of prefixes ask in turn.
use Rattle.std.proofs.Common.{◌≡◌, ◌≢◌, ℕ, suc, ◌+◌, ◌<◌, ◌≤◌, List, [], ◌∷◌, ◌++◌, length, map, drop, get_or, refl, sym, subst, inr, ◌∙◌, ap, ap₂, append-nil, arith}
use Rattle.std.proofs.lemmas.List.{drop_more, drop_all, drop-map, get_or_default}
use Rattle.theory_syntax.specs.Process.{Field, Given, Input, InputFrom}
use Rattle.theory_syntax.specs.Types.{Types}
use Rattle.theory_checking.specs.Inference.Chain as chain
use Rattle.theory_checking.specs.Inference.Equations as numbers
use Rattle.theory_checking.specs.Inference.Expressions.{behind_expression, of_expression}
use Rattle.theory_checking.specs.Inference.Processes.{behind_fields, names_behind, of_fields}
use Rattle.csp_inference.specs.declared.chain.KindNumber.{KindNumber}
use Rattle.csp_inference.specs.declared.equations.Equations.{Equations}
use Rattle.csp_inference.specs.Equations.{Adds, AreHopeless, Asks, HasNames, equations_of, exactly, names_behind_prefix}
use Rattle.csp_inference.specs.declared.numbering.Numbering.{Numbering}
use Rattle.csp_inference.specs.Numbering.{numbering_of}
use Rattle.theory_checking.specs.Inference.Equations.{never, when}
use Rattle.theory_checking.specs.Inference.Expressions.{behind_expressions, of_all}
use Rattle.theory_syntax.specs.Expression.{Expression, to_expressions}
use Rattle.csp_expression.specs.declared.expr.Expr.{Expr}
use Rattle.csp_expression.specs.Expression.{expressions_of}
use Rattle.std.specs.declared.vec.Vec.{Vec}
use Rattle.std.specs.Prelude.{slice_get, option_map, Some, None}
use Rattle.std.proofs.lemmas.Option.{slice_get-map}
use Rattle.csp_inference.proofs.Adding.{knows_itself}
use Rattle.csp_inference.proofs.Asking.{Remains, asks_same, found_asks, hopeless_back, hopeless_same, never_hopeless, remains_more, remains_none, remains_same}

module _ (types : Types) (o : numbers.Numbering) where
  -- the first field, and then the others
  pub first_field : (n : ℕ) (names : numbers.Numbered) (f : Field) (fs : List Field) (m : ℕ) (ms : List ℕ) →
      of_fields types o n names (f ∷ fs) (m ∷ ms) ≡ of_fields types o n names (f ∷ []) (m ∷ []) ++ of_fields types o (behind_fields n (f ∷ [])) (names_behind names (f ∷ []) (m ∷ [])) fs ms
  first_field n names (Given e) fs m ms = ap (λ xs. xs ++ of_fields types o (behind_expression n e) names fs ms) (sym (append-nil (of_expression types o n names e (chain.OpenEnd m))))
  first_field n names (Input x) fs m ms = refl
  first_field n names (InputFrom x e) fs m ms =
      ap (λ xs. xs ++ of_fields types o (behind_expression n e) ((x, m) ∷ names) fs ms)
      (sym (append-nil (of_expression types o n names e (chain.SetOver (chain.OpenEnd m)))))

  pub fields_unequal : (n : ℕ) (names : numbers.Numbered) (fs : List Field) (ms : List ℕ) → length fs ≢ length ms → AreHopeless (of_fields types o n names fs ms)
  fields_unequal n names [] [] differ = absurd (differ refl)
  fields_unequal n names [] (m ∷ ms) differ = never_hopeless
  fields_unequal n names (Given e ∷ fs) [] differ = never_hopeless
  fields_unequal n names (Input x ∷ fs) [] differ = never_hopeless
  fields_unequal n names (InputFrom x e ∷ fs) [] differ = never_hopeless
  fields_unequal n names (Given e ∷ fs) (m ∷ ms) differ =
      hopeless_back (of_expression types o n names e (chain.OpenEnd m)) (of_fields types o (behind_expression n e) names fs ms)
      (fields_unequal (behind_expression n e) names fs ms (λ same. differ (ap suc same)))
  fields_unequal n names (Input x ∷ fs) (m ∷ ms) differ = fields_unequal n ((x, m) ∷ names) fs ms (λ same. differ (ap suc same))
  fields_unequal n names (InputFrom x e ∷ fs) (m ∷ ms) differ =
      hopeless_back (of_expression types o n names e (chain.SetOver (chain.OpenEnd m))) (of_fields types o (behind_expression n e) ((x, m) ∷ names) fs ms)
      (fields_unequal (behind_expression n e) ((x, m) ∷ names) fs ms (λ same. differ (ap suc same)))

behind_first : (n : ℕ) (f : Field) (fs : List Field) → behind_fields n (f ∷ fs) ≡ behind_fields (behind_fields n (f ∷ [])) fs
behind_first n (Given e) fs = refl
behind_first n (Input x) fs = refl
behind_first n (InputFrom x e) fs = refl

names_first : (names : numbers.Numbered) (f : Field) (fs : List Field) (m : ℕ) (ms : List ℕ) → names_behind names (f ∷ fs) (m ∷ ms) ≡ names_behind (names_behind names (f ∷ []) (m ∷ [])) fs ms
names_first names (Given e) fs m ms = refl
names_first names (Input x) fs m ms = refl
names_first names (InputFrom x e) fs m ms = refl

no_names_more : (names : numbers.Numbered) (ms : List ℕ) → names_behind names [] ms ≡ names
no_names_more names [] = refl
no_names_more names (m ∷ ms) = refl

-- What is left of the fields, and the names behind them from those so far on.
pub record LeftFields {A : Type 0} (types : Types) (o : numbers.Numbering) (start now : Equations A) (outer inner : numbers.Numbered) (fs : List Field) (ms : List ℕ) (i : ℕ) : Type 0 where
  pub asks : Remains start now (of_fields types o start.next outer fs ms) (of_fields types o now.next inner (drop i fs) (drop i ms)) (behind_fields start.next fs) (behind_fields now.next (drop i fs))
  pub names : names_behind inner (drop i fs) (drop i ms) ≡ names_behind outer fs ms

module _ {A : Type 0} (types : Types) (o : numbers.Numbering) (start now : Equations A) (outer inner : numbers.Numbered) (fs : List Field) (ms : List ℕ) (i : ℕ) where
  pub fields_more : (new : Equations A) (names : numbers.Numbered) (f : Field) (m : ℕ) →
      f ∷ drop (i + 1) fs ≡ drop i fs → m ∷ drop (i + 1) ms ≡ drop i ms → LeftFields types o start now outer inner fs ms i →
      Asks now new (of_fields types o now.next inner (f ∷ []) (m ∷ [])) (behind_fields now.next (f ∷ [])) → names ≡ names_behind inner (f ∷ []) (m ∷ []) →
      LeftFields types o start new outer names fs ms (i + 1)
  fields_more new names f m cut slice left asks bound =
      let gs = drop (i + 1) fs in
      let ks = drop (i + 1) ms in
      let whole = of_fields types o start.next outer fs ms in
      let last = behind_fields start.next fs in
      let one = of_fields types o now.next inner (f ∷ []) (m ∷ []) in
      let behind = behind_fields now.next (f ∷ []) in
      let first = remains_same start now whole last (of_fields types o now.next inner (drop i fs) (drop i ms)) (one ++ of_fields types o behind names gs ks)
      (behind_fields now.next (drop i fs)) (behind_fields behind gs)
      (ap₂ (of_fields types o now.next inner) (sym cut) (sym slice) ∙ first_field types o now.next inner f gs m ks ∙ ap (λ x. one ++ of_fields types o behind x gs ks) (sym bound))
      (ap (behind_fields now.next) (sym cut) ∙ behind_first now.next f gs) left.asks in
      record {
        asks = remains_more start now whole last new one behind (λ n. of_fields types o n names gs ks) (λ n. behind_fields n gs) first asks;
        names = ap (λ x. names_behind x gs ks) bound ∙ sym (names_first inner f gs m ks) ∙ ap₂ (names_behind inner) cut slice ∙ left.names;
      }

  pub fields_all : length fs ≤ i → length fs ≡ length ms → LeftFields types o start now outer inner fs ms i → Asks start now (of_fields types o start.next outer fs ms) (behind_fields start.next fs)
  fields_all over same left =
      let none = drop_all i fs over in
      let past : length ms ≤ i = omega arith in
      remains_none start now (of_fields types o start.next outer fs ms) (behind_fields start.next fs) (of_fields types o now.next inner (drop i fs) (drop i ms))
      (behind_fields now.next (drop i fs)) (ap₂ (of_fields types o now.next inner) none (drop_all i ms past)) (ap (behind_fields now.next) none) left.asks

  pub fields_names : length fs ≤ i → LeftFields types o start now outer inner fs ms i → inner ≡ names_behind outer fs ms
  fields_names over left = sym (ap (λ xs. names_behind inner xs (drop i ms)) (drop_all i fs over) ∙ no_names_more inner (drop i ms)) ∙ left.names

-- ---- one field

module _ {A : Type 0} (types : Types) (o : numbers.Numbering) (s t : Equations A) (names lent : numbers.Numbered) (f : Field) (m : ℕ) (same : lent ≡ names) where
  abbrev pub FieldAsks : Type 0
  FieldAsks = Asks s t (of_fields types o s.next names (f ∷ []) (m ∷ [])) (behind_fields s.next (f ∷ []))

  whole_field : (g : Field) → f ≡ g → Asks s t (of_fields types o s.next names (g ∷ []) (m ∷ [])) (behind_fields s.next (g ∷ [])) → FieldAsks
  whole_field g is h =
      asks_same s t (of_fields types o s.next names (g ∷ []) (m ∷ [])) (of_fields types o s.next names (f ∷ []) (m ∷ [])) (behind_fields s.next (g ∷ []))
      (behind_fields s.next (f ∷ [])) (ap (λ x. of_fields types o s.next names (x ∷ []) (m ∷ [])) (sym is)) (ap (λ x. behind_fields s.next (x ∷ [])) (sym is)) h

  one_expression : (e : Expression) (k : chain.Chain) → Asks s t (of_expression types o s.next lent e k) (behind_expression s.next e) →
      Asks s t (of_expression types o s.next names e k ++ []) (behind_expression s.next e)
  one_expression e k h =
      asks_same s t (of_expression types o s.next lent e k) (of_expression types o s.next names e k ++ []) (behind_expression s.next e) (behind_expression s.next e)
      (ap (λ x. of_expression types o s.next x e k) same ∙ sym (append-nil (of_expression types o s.next names e k))) refl h

  pub given_asked : (e : Expression) → f ≡ Given e → Asks s t (of_expression types o s.next lent e (chain.OpenEnd m)) (behind_expression s.next e) → FieldAsks
  given_asked e is h = whole_field (Given e) is (one_expression e (chain.OpenEnd m) h)

  pub input_from_asked : (x : ℕ) (e : Expression) → f ≡ InputFrom x e →
      Asks s t (of_expression types o s.next lent e (chain.SetOver (chain.OpenEnd m))) (behind_expression s.next e) → FieldAsks
  input_from_asked x e is h = whole_field (InputFrom x e) is (one_expression e (chain.SetOver (chain.OpenEnd m)) h)

-- an input without a set asks nothing
pub input_asked : {A : Type 0} (types : Types) (o : numbers.Numbering) (s : Equations A) (names : numbers.Numbered) (f : Field) (m x : ℕ) → f ≡ Input x →
    FieldAsks types o s s names names f m refl
input_asked types o s names f m x is =
    whole_field types o s s names names f m refl (Input x) is (exactly (record { met = sym (append-nil (equations_of s)); next = refl; known = knows_itself s }))

-- the next part, as it is read, and those behind it
pub cut_map : {X Y : Type 0} (f : X → Y) (xs : List X) (i : ℕ) (x : X) → i < length xs → x ≡ get_or xs i x → f x ∷ drop (i + 1) (map f xs) ≡ drop i (map f xs)
cut_map f xs i x within read =
    ap (λ ys. f x ∷ ys) (drop-map f (i + 1) xs) ∙ ap (map f) (ap (λ z. z ∷ drop (i + 1) xs) read ∙ sym (drop_more xs i x within)) ∙ sym (drop-map f i xs)

pub cut_number : (ms : List KindNumber) (i : ℕ) (d : KindNumber) → i < length ms → (get_or ms i d).0 ∷ drop (i + 1) (map (λ m. m.0) ms) ≡ drop i (map (λ m. m.0) ms)
cut_number ms i d within = cut_map (λ m. m.0) ms i (get_or ms i d) within (get_or_default ms i d (get_or ms i d) within)

-- ---- where the channel is there, or the equation

pub asked_arguments :
    {A : Type 0} (types : Types) (names : numbers.Numbered) (s t : Equations A) (o : Numbering A) (n : ℕ) (ns : Vec KindNumber A) (es : List (Expr A)) (ms : List KindNumber) →
    slice_get o.parameters.items n ≡ Some ns → ms ≡ ns.items →
    Asks s t (of_all types (numbering_of o) s.next names (to_expressions (expressions_of es)) (map (λ k. k.0) ms)) (behind_expressions s.next (to_expressions (expressions_of es))) →
    Asks s t (when (slice_get (numbering_of o).parameters n) (of_all types (numbering_of o) s.next names (to_expressions (expressions_of es))))
    (behind_expressions s.next (to_expressions (expressions_of es)))
asked_arguments types names s t o n ns es ms found numbered h =
    let m = behind_expressions s.next (to_expressions (expressions_of es)) in
    found_asks s t (slice_get (numbering_of o).parameters n) (map (λ k. k.0) ns.items) (of_all types (numbering_of o) s.next names (to_expressions (expressions_of es))) m
    (slice_get-map (λ v. map (λ k. k.0) v.items) o.parameters.items n ∙ ap (option_map (λ v. map (λ k. k.0) v.items)) found)
    (asks_same s t (of_all types (numbering_of o) s.next names (to_expressions (expressions_of es)) (map (λ k. k.0) ms))
    (of_all types (numbering_of o) s.next names (to_expressions (expressions_of es)) (map (λ k. k.0) ns.items)) m m
    (ap (λ ks. of_all types (numbering_of o) s.next names (to_expressions (expressions_of es)) (map (λ k. k.0) ks)) numbered) refl h)

module _ {A : Type 0} (types : Types) (names : numbers.Numbered) (s t : Equations A) (o : Numbering A)
    (c : ℕ) (ns : Vec KindNumber A) (fs : List Field) (ms : List KindNumber) (found : slice_get o.channels.items c ≡ Some ns) (numbered : ms ≡ ns.items) where
  there : slice_get (numbering_of o).channels c ≡ Some (map (λ k. k.0) ns.items)
  there = slice_get-map (λ v. map (λ k. k.0) v.items) o.channels.items c ∙ ap (option_map (λ v. map (λ k. k.0) v.items)) found

  pub asked_prefix :
      Asks s t (of_fields types (numbering_of o) s.next names fs (map (λ k. k.0) ms)) (behind_fields s.next fs) →
      Asks s t (when (slice_get (numbering_of o).channels c) (of_fields types (numbering_of o) s.next names fs)) (behind_fields s.next fs)
  asked_prefix h =
      found_asks s t (slice_get (numbering_of o).channels c) (map (λ k. k.0) ns.items) (of_fields types (numbering_of o) s.next names fs) (behind_fields s.next fs) there
      (asks_same s t (of_fields types (numbering_of o) s.next names fs (map (λ k. k.0) ms))
      (of_fields types (numbering_of o) s.next names fs (map (λ k. k.0) ns.items)) (behind_fields s.next fs) (behind_fields s.next fs)
      (ap (λ ks. of_fields types (numbering_of o) s.next names fs (map (λ k. k.0) ks)) numbered) refl h)

  pub named_prefix : (inner : numbers.Numbered) → HasNames t inner (names_behind names fs (map (λ k. k.0) ms)) → HasNames t inner (names_behind_prefix (numbering_of o) names c fs)
  named_prefix inner h =
      let is = ap (λ ks. names_behind names fs (map (λ k. k.0) ks)) numbered ∙ sym (ap (λ p. elim p [ Some ks ↦ names_behind names fs ks | None ↦ names ]) there) in
      subst (HasNames t inner) is h

-- there is no such channel
pub unnamed_prefix : {A : Type 0} (s t : Equations A) (inner wanted : numbers.Numbered) (n : ℕ) → Adds s t never n → HasNames t inner wanted
unnamed_prefix s t inner wanted n h = inr (hopeless_same (equations_of s ++ never) (equations_of t) (sym h.met) (hopeless_back (equations_of s) never never_hopeless))
