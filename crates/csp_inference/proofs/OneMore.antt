-- One set more, over the numbers of the whole tree.
use Rattle.std.proofs.Common.{◌≡◌, ℕ, zero, suc, ◌+◌, ◌<◌, ◌≤◌, List, [], ◌∷◌, ◌++◌, length, length-append, append_assoc, map, take, drop, slice_get, Option, Some, None, refl, sym, ◌∙◌, ap, ap₂, subst, arith}
use Rattle.std.specs.Prelude.{replicate}
use Rattle.std.proofs.lemmas.List.{length-map, length-take-le, map-append}
use Rattle.theory_syntax.specs.Expression.{Expression, Literal, Name, Apply, Combine, SequenceOf, SetOf, Range, Booleans, Datatype, Nametype, ConstructorOf, Expressions, no_expressions, expression_and}
use Rattle.theory_syntax.specs.Types.{Types}
use Rattle.theory_semantics.specs.Kinds.Kind.{BeginsInTurn, Each}
use Rattle.theory_text.specs.Raw.{RawName, RawDomain, RawClause, RawDeclaration, RawDatatype, RawNametype, RawChannels, RawScript}
use Rattle.theory_checking.specs.Resolving.{of_two}
use Rattle.theory_checking.specs.Sets.{types_of, set_expression, clause_sets, nametypes_declared, clauses_declared, channels_declared, nametype_sets, constructor_sets, channel_sets, FitSets}
use Rattle.theory_checking.specs.Sites.{with_clause}
use Rattle.theory_checking.specs.Rules.{SomeFit, IsRedeclared, all_declared}
use Rattle.theory_checking.specs.Faults.{NoneRefused}
use Rattle.theory_checking.specs.ConstructorRows.{constructor_counts}
use Rattle.theory_checking.specs.Inference.Chain.{Chain, IntEnd, DatatypeEnd, OpenEnd, SequenceOver, SetOver}
use Rattle.theory_checking.specs.Inference.State.{State, nothing_known, KindEquation, IsSolved, HasNoSolution}
use Rattle.theory_checking.specs.Inference.Equations.{Ask, Numbering, Numbered, kinds_under, AreOwners, when}
use Rattle.theory_checking.specs.Inference.Expressions.{behind_unary, operand, unary_value, behind_binary, left_operand, right_operand, binary_value, behind_expression, of_all, of_expression, of_expressions}
use Rattle.theory_checking.specs.Inference.Items.{behind_set, of_set, behind_copies, of_copies, AreNumbersFor, next_number, numbers_of, owners_from}
use Rattle.theory_checking.specs.Inference.Sets.{FitFirstSets, IsBeginningOf, IsColumn}
use Rattle.theory_checking.proofs.ConstructorRows.{owners_of_tree}
use Rattle.theory_checking.proofs.AskingItems.{row_numbers_for}
use Rattle.theory_checking.proofs.Meant.{at_place}
use Rattle.theory_checking.proofs.ScriptThere.{behind_one_more}
use Rattle.theory_checking.proofs.Unifying.{nothing_done, nothing_resolved, same_after, solved_then, unsolved_then}
use Rattle.theory_checking.proofs.AskingSets.{all_asked, beginning_above, beginning_in_clauses, beginning_in_fields, clause_asked, clause_field_asked, field_asked, heads_asked, nametype_asked, no_first_fit, none_asked, other_asked, some_first_fit}
use Rattle.csp_inference.specs.Known.{AreKnown, column_of}

-- ---- a set asks the same over other types with the same datatypes

same_when : {X : Type 0} (r : Option X) (f g : X → List KindEquation) → ((x : X) → f x ≡ g x) → when r f ≡ when r g
same_when (Some x) f g same = same x
same_when None f g same = refl

module _ (types others : Types) (same : types.datatypes ≡ others.datatypes) (o : Numbering) where
  module _ (names : Numbered) where
    mutual
      same_expression : (e : Expression) (n : ℕ) (k : Chain) → of_expression types o n names e k ≡ of_expression others o n names e k
      same_expression (Literal v) n k = refl
      same_expression (Name x) n k = refl
      same_expression (Apply op e) n k = ap (λ es. (unary_value op n, k) ∷ es) (same_expression e (behind_unary op n) (operand op n))
      same_expression (Combine op e f) n k =
          ap₂ (λ xs ys. (binary_value op n, k) ∷ xs ++ ys) (same_expression e (behind_binary op n) (left_operand op n)) (same_expression f (behind_expression (behind_binary op n) e) (right_operand op n))
      same_expression (SequenceOf es) n k = ap (λ xs. (SequenceOver (OpenEnd n), k) ∷ xs) (same_expressions es (suc n) (OpenEnd n))
      same_expression (SetOf es) n k = ap (λ xs. (SetOver (OpenEnd n), k) ∷ xs) (same_expressions es (suc n) (OpenEnd n))
      same_expression (Range e f) n k = ap₂ (λ xs ys. (SetOver IntEnd, k) ∷ xs ++ ys) (same_expression e n IntEnd) (same_expression f (behind_expression n e) IntEnd)
      same_expression Booleans n k = refl
      same_expression (Datatype d) n k = ap (λ ds. when (slice_get ds d) (λ cs. (SetOver (DatatypeEnd d), k) ∷ [])) same
      same_expression (Nametype x) n k = refl
      same_expression (ConstructorOf c es) n k =
          same_when (slice_get o.owners c) (λ d. (DatatypeEnd d, k) ∷ when (slice_get o.constructors c) (of_all types o n names es))
          (λ d. (DatatypeEnd d, k) ∷ when (slice_get o.constructors c) (of_all others o n names es))
          (λ d. ap (λ fs. (DatatypeEnd d, k) ∷ fs)
          (same_when (slice_get o.constructors c) (of_all types o n names es) (of_all others o n names es) (λ ms. same_all es n ms)))

      same_expressions : (es : Expressions) (n : ℕ) (k : Chain) → of_expressions types o n names es k ≡ of_expressions others o n names es k
      same_expressions no_expressions n k = refl
      same_expressions (expression_and e es) n k = ap₂ (λ xs ys. xs ++ ys) (same_expression e n k) (same_expressions es (behind_expression n e) k)

      same_all : (es : Expressions) (n : ℕ) (ms : List ℕ) → of_all types o n names es ms ≡ of_all others o n names es ms
      same_all no_expressions n [] = refl
      same_all no_expressions n (m ∷ ms) = refl
      same_all (expression_and e es) n [] = refl
      same_all (expression_and e es) n (m ∷ ms) = ap₂ (λ xs ys. xs ++ ys) (same_expression e n (OpenEnd m)) (same_all es (behind_expression n e) ms)

  pub same_set : (e : Option Expression) (n m : ℕ) → of_set types o n e m ≡ of_set others o n e m
  same_set None n m = refl
  same_set (Some e) n m = same_expression [] e n (SetOver (OpenEnd m))

  pub same_copies : (e : Option Expression) (n : ℕ) (ms : List ℕ) → of_copies types o n e ms ≡ of_copies others o n e ms
  same_copies e n [] = refl
  same_copies e n (m ∷ ms) = ap₂ (λ xs ys. xs ++ ys) (same_set e n m) (same_copies e (behind_set n e) ms)

none_copies : (types : Types) (o : Numbering) (n : ℕ) (ms : List ℕ) → of_copies types o n None ms ≡ []
none_copies types o n [] = refl
none_copies types o n (m ∷ ms) = none_copies types o n ms

behind_none : (n : ℕ) (ms : List ℕ) → behind_copies n None ms ≡ n
behind_none n [] = refl
behind_none n (m ∷ ms) = behind_none n ms

-- ---- the numbers of one field of several channels

-- where all are found, they are the field's
column_begins : (i k : ℕ) (rows : List (List ℕ)) (ms : List ℕ) → column_of i (take k rows) ≡ Some ms → IsColumn i ms rows × (length ms ≡ length (take k rows))
column_begins i zero rows [] e = (tt, refl)
column_begins i zero rows (m ∷ ms) e = absurd (cc e)
column_begins i (suc k) [] [] e = (tt, refl)
column_begins i (suc k) [] (m ∷ ms) e = absurd (cc e)
column_begins i (suc k) (row ∷ rows) ms e = go (slice_get row i) (column_of i (take k rows)) ms refl (λ ns f. column_begins i k rows ns f) e
  where
    go : (x : Option ℕ) (xs : Option (List ℕ)) (ns : List ℕ) → slice_get row i ≡ x → ((ns : List ℕ) → xs ≡ Some ns → IsColumn i ns rows × (length ns ≡ length (take k rows))) → of_two ◌∷◌ x xs ≡ Some ns → IsColumn i ns (row ∷ rows) × (length ns ≡ suc (length (take k rows)))
    go None xs ns is rest f = absurd (cc f)
    go (Some x) None ns is rest f = absurd (cc f)
    go (Some x) (Some xs) [] is rest f = absurd (cc f)
    go (Some x) (Some xs) (n ∷ ns) is rest f =
        let head : x ≡ n = cc f in
        let tail : xs ≡ ns = cc f in
        let r = rest ns (ap Some tail) in ((is ∙ ap Some head, r.0), ap suc r.1)

-- where each is long enough, all are found
column_there : (i : ℕ) (rows : List (List ℕ)) → Each (λ row. i < length row) rows → (ms : List ℕ) × (column_of i rows ≡ Some ms)
column_there i [] long = ([], refl)
column_there i (row ∷ rows) long =
    let x = at_place row i long.0 in
    let xs = column_there i rows long.1 in (x.0 ∷ xs.0, ap₂ (of_two ◌∷◌) x.1 xs.1)

long_rows : {A : Type 0} (xs : List (List A)) (fs : List A) (k i : ℕ) (ys : List (List A)) (rows : List (List ℕ)) → BeginsInTurn (λ r s. length r ≤ length s) (xs ++ replicate k fs) ys → map length rows ≡ map length ys → i < length fs →
    Each (λ row. i < length row) (take k (drop (length xs) rows)) × (length xs + k ≤ length rows)
long_rows [] fs zero i ys rows h same small = (tt, omega arith)
long_rows [] fs (suc k) i [] rows h same small = absurd h
long_rows [] fs (suc k) i (y ∷ ys) [] h same small = absurd (cc same)
long_rows [] fs (suc k) i (y ∷ ys) (row ∷ rows) h same small =
    let first : length row ≡ length y = cc same in
    let rest : map length rows ≡ map length ys = cc same in
    let le : length fs ≤ length y = h.0 in
    let r = long_rows [] fs k i ys rows h.1 rest small in
    let lf : 0 + k ≤ length rows = r.1 in ((omega arith, r.0), omega arith)
long_rows (x ∷ xs) fs k i [] rows h same small = absurd h
long_rows (x ∷ xs) fs k i (y ∷ ys) [] h same small = absurd (cc same)
long_rows (x ∷ xs) fs k i (y ∷ ys) (row ∷ rows) h same small =
    let rest : map length rows ≡ map length ys = cc same in
    let r = long_rows xs fs k i ys rows h.1 rest small in
    let lf : length xs + k ≤ length rows = r.1 in (r.0, omega arith)

many_rows : {A : Type 0} (xs : List (List A)) (fs : List A) (k : ℕ) (ys : List (List A)) (rows : List (List ℕ)) → BeginsInTurn (λ r s. length r ≤ length s) (xs ++ replicate k fs) ys → map length rows ≡ map length ys → length xs + k ≤ length rows
many_rows [] fs zero ys rows h same = omega arith
many_rows [] fs (suc k) [] rows h same = absurd h
many_rows [] fs (suc k) (y ∷ ys) [] h same = absurd (cc same)
many_rows [] fs (suc k) (y ∷ ys) (row ∷ rows) h same =
    let rest : map length rows ≡ map length ys = cc same in
    let le : 0 + k ≤ length rows = many_rows [] fs k ys rows h.1 rest in omega arith
many_rows (x ∷ xs) fs k [] rows h same = absurd h
many_rows (x ∷ xs) fs k (y ∷ ys) [] h same = absurd (cc same)
many_rows (x ∷ xs) fs k (y ∷ ys) (row ∷ rows) h same =
    let rest : map length rows ≡ map length ys = cc same in
    let le : length xs + k ≤ length rows = many_rows xs fs k ys rows h.1 rest in omega arith

left_over : {A : Type 0} (n l : ℕ) (xs : List A) → n + l ≤ length xs → l ≤ length (drop n xs)
left_over zero l xs le = omega (arith, le)
left_over (suc n) l [] le = absurd (omega arith)
left_over (suc n) l (x ∷ xs) le = left_over n l xs (omega arith)

-- ---- what is known goes on

-- nothing is asked before the first declaration
pub known_at_first : (raw : RawScript) (o : Numbering) (s : State) → AreOwners (types_of raw) o → AreNumbersFor raw (next_number raw) o → ((n : ℕ) → nothing_known n ≡ s n) → AreKnown raw [] o (next_number raw) s
known_at_first raw o s owners numbers same = record {
  owners = owners;
  numbers = numbers;
  met = [];
  asked = none_asked (types_of raw) o (next_number raw);
  solved = same_after nothing_known nothing_known s [] same (nothing_done nothing_known [] nothing_resolved (λ a h. tt));
}

-- where the numbers are those of the tree in a row, and each name is declared once
pub known_in_a_row : (raw : RawScript) (o : Numbering) (next : ℕ) (s : State) → o ≡ numbers_of (owners_from 0 (constructor_counts raw)) raw → next ≡ next_number raw → ((n : ℕ) → nothing_known n ≡ s n) → NoneRefused IsRedeclared (all_declared raw) → AreKnown raw [] o next s
known_in_a_row raw o next s is end same once =
    let numbers = subst (AreNumbersFor raw (next_number raw)) (sym is) (row_numbers_for (owners_from 0 (constructor_counts raw)) raw) in
    let P : ℕ → Type 0 = λ n. AreKnown raw [] o n s in
    subst P (sym end) (known_at_first raw o s (owners_of_tree raw o once (ap (λ p. p.owners) is)) numbers same)

pub some_known : (raw so_far : RawScript) (o : Numbering) (next : ℕ) (s : State) → AreKnown raw so_far o next s → SomeFit (types_of raw) so_far
some_known raw so_far o next s k = some_first_fit (types_of raw) raw so_far o (next_number raw) next k.met k.numbers k.asked s k.solved

module _ (raw so_far more : RawScript) (o : Numbering) (next behind : ℕ) (s : State) (es : List KindEquation) (k : AreKnown raw so_far o next s)
    (asked : Ask (next_number raw) (k.met ++ es) behind (λ a. FitFirstSets (types_of raw) more (kinds_under a o))) where
  known_then : (t : State) → IsSolved s es t → AreKnown raw more o behind t
  known_then t solved = record { owners = k.owners; numbers = k.numbers; met = k.met ++ es; asked = asked; solved = solved_then nothing_known s t k.met es k.solved solved }

  unfit_then : IsBeginningOf raw more → HasNoSolution s es → ¬ (SomeFit (types_of raw) more)
  unfit_then begins none = no_first_fit (types_of raw) raw more o (next_number raw) behind (k.met ++ es) k.numbers asked begins (unsolved_then nothing_known s k.met es k.solved none)

nothing_more : (raw so_far : RawScript) (o : Numbering) (next : ℕ) (s : State) → AreKnown raw so_far o next s → IsSolved s [] s
nothing_more raw so_far o next s k = nothing_done s [] k.solved.resolved (λ a h. tt)

-- a declaration that declares no sets
pub known_others : (raw above : RawScript) (o : Numbering) (next : ℕ) (s : State) (d : RawDeclaration) → nametypes_declared above d ≡ [] → clauses_declared above d ≡ [] → channels_declared above d ≡ [] →
    AreKnown raw above o next s → AreKnown raw (above ++ d ∷ []) o next s
known_others raw above o next s d e g f k =
    record { owners = k.owners; numbers = k.numbers; met = k.met; asked = other_asked (types_of raw) above o (next_number raw) next k.met k.asked d e g f; solved = k.solved }

-- all sets
pub known_of_all : (raw : RawScript) (o : Numbering) (next : ℕ) (s : State) (k : AreKnown raw raw o next s) → Ask (next_number raw) k.met next (λ a. FitSets (types_of raw) raw (kinds_under a o))
known_of_all raw o next s k = all_asked (types_of raw) raw o (next_number raw) next k.met k.numbers k.asked

-- ---- the set of a nametype

module _ (raw above below : RawScript) (name : RawName) (domain : RawDomain) (stands : raw ≡ above ++ RawNametype name domain ∷ below) (o : Numbering) (next : ℕ) (s : State) (k : AreKnown raw above o next s) where
  abbrev more : RawScript
  more = above ++ RawNametype name domain ∷ []

  nametype_begins : IsBeginningOf raw more
  nametype_begins = subst (λ z. IsBeginningOf z more) (append_assoc above (RawNametype name domain ∷ []) below ∙ sym stands) (beginning_above more below)

  pub nametype_within : length (nametype_sets above) < length o.nametypes
  nametype_within =
      let le : length (nametype_sets more) ≤ length (nametype_sets raw) = nametype_begins.nametypes in
      let counted : length o.nametypes ≡ length (nametype_sets raw) = k.numbers.nametypes in
      let one : length (nametype_sets more) ≡ length (nametype_sets above) + 1 = ap length (behind_one_more nametypes_declared above (RawNametype name domain)) ∙ length-append (nametype_sets above) (set_expression above domain ∷ []) in omega arith

  module _ (x : ℕ) (found : slice_get o.nametypes (length (nametype_sets above)) ≡ Some x) where
    asked_here : Ask (next_number raw) (k.met ++ of_set (types_of raw) o next (set_expression above domain) x) (behind_set next (set_expression above domain)) (λ a. FitFirstSets (types_of raw) more (kinds_under a o))
    asked_here = nametype_asked (types_of raw) above o (next_number raw) next x k.met name domain k.owners k.numbers.below found k.asked

    pub known_nametype : (types : Types) (e : Option Expression) (t : State) → types.datatypes ≡ (types_of raw).datatypes → e ≡ set_expression above domain → IsSolved s (of_set types o next e x) t → AreKnown raw more o (behind_set next e) t
    known_nametype types e t same is solved =
        let P : Option Expression → Type 0 = λ z. IsSolved s (of_set types o next z x) t → AreKnown raw more o (behind_set next z) t in
        subst P (sym is) (λ here.
        known_then raw above more o next (behind_set next (set_expression above domain)) s (of_set (types_of raw) o next (set_expression above domain) x) k asked_here t
        (subst (λ es. IsSolved s es t) (same_set types (types_of raw) same o (set_expression above domain) next x) here)) solved

    pub unfit_nametype : (types : Types) (e : Option Expression) → types.datatypes ≡ (types_of raw).datatypes → e ≡ set_expression above domain → HasNoSolution s (of_set types o next e x) → ¬ (SomeFit (types_of raw) more)
    unfit_nametype types e same is none =
        unfit_then raw above more o next (behind_set next (set_expression above domain)) s (of_set (types_of raw) o next (set_expression above domain) x) k asked_here nametype_begins
        (subst (λ es. HasNoSolution s es) (ap (λ z. of_set types o next z x) is ∙ same_set types (types_of raw) same o (set_expression above domain) next x) none)

  -- a set in which a name is refused
  pub known_no_set : None ≡ set_expression above domain → AreKnown raw more o next s
  known_no_set is =
      let x = at_place o.nametypes (length (nametype_sets above)) nametype_within in known_nametype x.0 x.1 (types_of raw) None s refl is (nothing_more raw above o next s k)

-- ---- a field of a constructor

-- the sets of the constructors up to a clause
rows_of_clause : (above : RawScript) (name : RawName) (before : List RawClause) (c : RawName) (fs : List RawDomain) →
    constructor_sets (with_clause above name before c fs) ≡ (constructor_sets above ++ map (clause_sets above) before) ++ map (set_expression above) fs ∷ []
rows_of_clause above name before c fs =
    let x : RawClause = record { name = c; fields = fs } in
    behind_one_more clauses_declared above (RawDatatype name (before ++ x ∷ []))
    ∙ ap (λ z. constructor_sets above ++ z) (map-append (clause_sets above) before (x ∷ []))
    ∙ sym (append_assoc (constructor_sets above) (map (clause_sets above) before) (map (set_expression above) fs ∷ []))

-- the numbers in the place of the last row
last_row : {A : Type 0} (xs : List (List A)) (fs : List A) (ys : List (List A)) (rows : List (List ℕ)) →
    BeginsInTurn (λ r s. length r ≤ length s) (xs ++ fs ∷ []) ys → map length rows ≡ map length ys →
    (row : List ℕ) × (slice_get rows (length xs) ≡ Some row) × (length fs ≤ length row) × (length xs < length rows)
last_row [] fs [] rows h same = absurd h
last_row [] fs (y ∷ ys) [] h same = absurd (cc same)
last_row [] fs (y ∷ ys) (row ∷ rows) h same =
    let first : length row ≡ length y = cc same in
    let le : length fs ≤ length y = h.0 in (row, refl, omega arith, omega arith)
last_row (x ∷ xs) fs [] rows h same = absurd h
last_row (x ∷ xs) fs (y ∷ ys) [] h same = absurd (cc same)
last_row (x ∷ xs) fs (y ∷ ys) (row ∷ rows) h same =
    let rest : map length rows ≡ map length ys = cc same in
    let r = last_row xs fs ys rows h.1 rest in
    let within : length xs < length rows = r.3 in (r.0, r.1, r.2, omega arith)

-- the numbers of a constructor that has these fields at least
module _ (raw : RawScript) (n : ℕ) (o : Numbering) (above : RawScript) (name : RawName) (before : List RawClause) (c : RawName) (fs : List RawDomain) (numbers : AreNumbersFor raw n o)
    (begins : IsBeginningOf raw (with_clause above name before c fs)) where
  place : length (constructor_sets above ++ map (clause_sets above) before) ≡ length (constructor_sets above) + length before
  place = length-append (constructor_sets above) (map (clause_sets above) before) ∙ ap (λ l. length (constructor_sets above) + l) (length-map before (clause_sets above))

  clause_numbers :
      (row : List ℕ) × (slice_get o.constructors (length (constructor_sets above) + length before) ≡ Some row) × (length fs ≤ length row)
      × (length (constructor_sets above) + length before < length o.constructors)
  clause_numbers =
      let r = last_row (constructor_sets above ++ map (clause_sets above) before) (map (set_expression above) fs) (constructor_sets raw) o.constructors
      (subst (λ z. BeginsInTurn (λ r s. length r ≤ length s) z (constructor_sets raw)) (rows_of_clause above name before c fs) begins.constructors) numbers.constructors in
      let long : length (map (set_expression above) fs) ≤ length r.0 = r.2 in
      let within : length (constructor_sets above ++ map (clause_sets above) before) < length o.constructors = r.3 in
      let same = place in
      let count = length-map fs (set_expression above) in (r.0, ap (slice_get o.constructors) (sym same) ∙ r.1, omega arith, omega arith)

-- the name of a constructor, before its fields
pub known_clause : (raw above below : RawScript) (name : RawName) (before more : List RawClause) (c : RawName) (fs : List RawDomain) (o : Numbering) (next : ℕ) (s : State) →
    raw ≡ above ++ RawDatatype name (before ++ record { name = c; fields = fs } ∷ more) ∷ below → AreKnown raw (above ++ RawDatatype name before ∷ []) o next s →
    AreKnown raw (with_clause above name before c []) o next s
known_clause raw above below name before more c fs o next s stands k =
    let begins = subst (λ z. IsBeginningOf z (with_clause above name before c [])) (sym stands) (beginning_in_clauses above name before more c [] fs below) in
    let within = (clause_numbers raw (next_number raw) o above name before c [] k.numbers begins).3 in
    record { owners = k.owners; numbers = k.numbers; met = k.met; asked = clause_asked (types_of raw) o above name before c (next_number raw) next k.met within k.asked; solved = k.solved }

module _ (raw above below : RawScript) (name : RawName) (before more : List RawClause) (c : RawName) (fs rest : List RawDomain) (d : RawDomain)
    (stands : raw ≡ above ++ RawDatatype name (before ++ record { name = c; fields = fs ++ d ∷ rest } ∷ more) ∷ below) (o : Numbering) (next : ℕ) (s : State)
    (k : AreKnown raw (with_clause above name before c fs) o next s) where
  abbrev with_field : RawScript
  with_field = with_clause above name before c (fs ++ d ∷ [])

  clause_begins : IsBeginningOf raw with_field
  clause_begins =
      subst (λ z. IsBeginningOf z with_field)
      (ap (λ ds. above ++ RawDatatype name (before ++ record { name = c; fields = ds } ∷ more) ∷ below) (append_assoc fs (d ∷ []) rest) ∙ sym stands)
      (beginning_in_clauses above name before more c (fs ++ d ∷ []) rest below)

  -- its numbers, and that of the field
  pub clause_row : (row : List ℕ) × (x : ℕ) × (slice_get o.constructors (length (constructor_sets above) + length before) ≡ Some row) × (slice_get row (length fs) ≡ Some x)
  clause_row =
      let r = clause_numbers raw (next_number raw) o above name before c (fs ++ d ∷ []) k.numbers clause_begins in
      let one = length-append fs (d ∷ []) in
      let long : length (fs ++ d ∷ []) ≤ length r.0 = r.2 in
      let within : length fs < length r.0 = omega arith in
      let x = at_place r.0 (length fs) within in (r.0, x.0, r.1, x.1)

  module _ (row : List ℕ) (x : ℕ) (found : slice_get o.constructors (length (constructor_sets above) + length before) ≡ Some row) (got : slice_get row (length fs) ≡ Some x) where
    asked_in_clause : Ask (next_number raw) (k.met ++ of_set (types_of raw) o next (set_expression above d) x) (behind_set next (set_expression above d)) (λ a. FitFirstSets (types_of raw) with_field (kinds_under a o))
    asked_in_clause = clause_field_asked (types_of raw) o above name before c row found (next_number raw) next x k.met fs d k.owners k.numbers.below got k.asked

    pub known_clause_field : (types : Types) (e : Option Expression) (t : State) → types.datatypes ≡ (types_of raw).datatypes → e ≡ set_expression above d → IsSolved s (of_set types o next e x) t → AreKnown raw with_field o (behind_set next e) t
    known_clause_field types e t same is solved =
        let P : Option Expression → Type 0 = λ z. IsSolved s (of_set types o next z x) t → AreKnown raw with_field o (behind_set next z) t in
        subst P (sym is) (λ here.
        known_then raw (with_clause above name before c fs) with_field o next (behind_set next (set_expression above d)) s (of_set (types_of raw) o next (set_expression above d) x) k asked_in_clause t
        (subst (λ es. IsSolved s es t) (same_set types (types_of raw) same o (set_expression above d) next x) here)) solved

    pub unfit_clause_field : (types : Types) (e : Option Expression) → types.datatypes ≡ (types_of raw).datatypes → e ≡ set_expression above d → HasNoSolution s (of_set types o next e x) → ¬ (SomeFit (types_of raw) with_field)
    unfit_clause_field types e same is none =
        unfit_then raw (with_clause above name before c fs) with_field o next (behind_set next (set_expression above d)) s (of_set (types_of raw) o next (set_expression above d) x) k asked_in_clause clause_begins
        (subst (λ es. HasNoSolution s es) (ap (λ z. of_set types o next z x) is ∙ same_set types (types_of raw) same o (set_expression above d) next x) none)

  -- a set in which a name is refused
  pub known_no_clause_field : None ≡ set_expression above d → AreKnown raw with_field o next s
  known_no_clause_field is =
      let r = clause_row in known_clause_field r.0 r.1 r.2 r.3 (types_of raw) None s refl is (nothing_more raw (with_clause above name before c fs) o next s k)

-- ---- a field of channels

-- the names of channels, before their fields
pub known_heads : (raw above below : RawScript) (names : List RawName) (domains : List RawDomain) (o : Numbering) (next : ℕ) (s : State) → raw ≡ above ++ RawChannels names domains ∷ below → AreKnown raw above o next s → AreKnown raw (above ++ RawChannels names [] ∷ []) o next s
known_heads raw above below names domains o next s stands k =
    record { owners = k.owners; numbers = k.numbers; met = k.met; asked = heads_asked (types_of raw) above o (next_number raw) next k.met k.asked names enough; solved = k.solved }
  where
    begins : IsBeginningOf raw (above ++ RawChannels names [] ∷ [])
    begins = subst (λ z. IsBeginningOf z (above ++ RawChannels names [] ∷ [])) (sym stands) (beginning_in_fields above names [] domains below)

    enough : length (channel_sets above) + length names ≤ length o.channels
    enough =
        many_rows (channel_sets above) [] (length names) (channel_sets raw) o.channels
        (subst (λ z. BeginsInTurn (λ r s. length r ≤ length s) z (channel_sets raw)) (behind_one_more channels_declared above (RawChannels names [])) begins.channels) k.numbers.channels

module _ (raw above below : RawScript) (names : List RawName) (before rest : List RawDomain) (d : RawDomain) (stands : raw ≡ above ++ RawChannels names (before ++ d ∷ rest) ∷ below) (o : Numbering) (next : ℕ) (s : State)
    (k : AreKnown raw (above ++ RawChannels names before ∷ []) o next s) where
  abbrev longer : RawScript
  longer = above ++ RawChannels names (before ++ d ∷ []) ∷ []

  field_begins : IsBeginningOf raw longer
  field_begins = subst (λ z. IsBeginningOf z longer) (ap (λ ds. above ++ RawChannels names ds ∷ below) (append_assoc before (d ∷ []) rest) ∙ sym stands) (beginning_in_fields above names (before ++ d ∷ []) rest below)

  long_enough : Each (λ row. length before < length row) (take (length names) (drop (length (channel_sets above)) o.channels)) × (length (channel_sets above) + length names ≤ length o.channels)
  long_enough =
      long_rows (channel_sets above) (map (set_expression above) (before ++ d ∷ [])) (length names) (length before) (channel_sets raw) o.channels
      (subst (λ z. BeginsInTurn (λ r s. length r ≤ length s) z (channel_sets raw)) (behind_one_more channels_declared above (RawChannels names (before ++ d ∷ []))) field_begins.channels) k.numbers.channels
      (let e : length (map (set_expression above) (before ++ d ∷ [])) ≡ length before + 1 = length-map (before ++ d ∷ []) (set_expression above) ∙ length-append before (d ∷ []) in omega arith)

  pub channels_within : length (channel_sets above) + length names ≤ length o.channels
  channels_within = long_enough.1

  pub column_found : (ms : List ℕ) × (column_of (length before) (take (length names) (drop (length (channel_sets above)) o.channels)) ≡ Some ms)
  column_found = column_there (length before) (take (length names) (drop (length (channel_sets above)) o.channels)) long_enough.0

  module _ (ms : List ℕ) (found : column_of (length before) (take (length names) (drop (length (channel_sets above)) o.channels)) ≡ Some ms) where
    asked_field : Ask (next_number raw) (k.met ++ of_copies (types_of raw) o next (set_expression above d) ms) (behind_copies next (set_expression above d) ms) (λ a. FitFirstSets (types_of raw) longer (kinds_under a o))
    asked_field =
        let column = column_begins (length before) (length names) (drop (length (channel_sets above)) o.channels) ms found in
        let all : length (take (length names) (drop (length (channel_sets above)) o.channels)) ≡ length names =
        length-take-le (length names) (drop (length (channel_sets above)) o.channels) (left_over (length (channel_sets above)) (length names) o.channels channels_within) in
        field_asked (types_of raw) o k.owners above names before d ms (column.1 ∙ all) column.0 (next_number raw) next k.met k.numbers.below k.asked

    pub known_field : (types : Types) (e : Option Expression) (t : State) → types.datatypes ≡ (types_of raw).datatypes → e ≡ set_expression above d → IsSolved s (of_copies types o next e ms) t → AreKnown raw longer o (behind_copies next e ms) t
    known_field types e t same is solved =
        let P : Option Expression → Type 0 = λ z. IsSolved s (of_copies types o next z ms) t → AreKnown raw longer o (behind_copies next z ms) t in
        subst P (sym is) (λ here.
        known_then raw (above ++ RawChannels names before ∷ []) longer o next (behind_copies next (set_expression above d) ms) s (of_copies (types_of raw) o next (set_expression above d) ms) k asked_field t
        (subst (λ es. IsSolved s es t) (same_copies types (types_of raw) same o (set_expression above d) next ms) here)) solved

    pub unfit_field : (types : Types) (e : Option Expression) → types.datatypes ≡ (types_of raw).datatypes → e ≡ set_expression above d → HasNoSolution s (of_copies types o next e ms) → ¬ (SomeFit (types_of raw) longer)
    unfit_field types e same is none =
        unfit_then raw (above ++ RawChannels names before ∷ []) longer o next (behind_copies next (set_expression above d) ms) s (of_copies (types_of raw) o next (set_expression above d) ms) k asked_field field_begins
        (subst (λ es. HasNoSolution s es) (ap (λ z. of_copies types o next z ms) is ∙ same_copies types (types_of raw) same o (set_expression above d) next ms) none)

  pub known_no_field : None ≡ set_expression above d → AreKnown raw longer o next s
  known_no_field is =
      let c = column_found in
      let P : ℕ → Type 0 = λ n. AreKnown raw longer o n s in
      subst P (behind_none next c.0) (known_field c.0 c.1 (types_of raw) None s refl is (subst (λ es. IsSolved s es s) (sym (none_copies (types_of raw) o next c.0)) (nothing_more raw (above ++ RawChannels names before ∷ []) o next s k)))
