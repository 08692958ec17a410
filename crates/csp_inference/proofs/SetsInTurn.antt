-- The set of a nametype or of a field is taken up.
use Rattle.std.proofs.Common.{◌≡◌, ℕ, ◌+◌, ◌≤◌, List, [], ◌∷◌, ◌++◌, length, map, take, drop, slice_get, Option, Some, None, Result, Ok, Err, sym, ◌∙◌, ap, ap₂, subst, arith}
use Rattle.std.specs.Prelude.{option_map}
use Rattle.std.specs.declared.vec.Vec.{Vec}
use Rattle.std.proofs.lemmas.List.{length-map}
use Rattle.std.proofs.lemmas.Option.{slice_get-map}
use Rattle.theory_syntax.specs.Expression.{Expression}
use Rattle.theory_syntax.specs.Types.{Types}
use Rattle.theory_text.specs.Raw.{RawName, RawDomain, RawNametype, RawChannels, RawScript}
use Rattle.theory_checking.specs.Sets.{nametype_sets, constructor_sets, channel_sets}
use Rattle.theory_checking.specs.Sites.{with_clause}
use Rattle.theory_checking.specs.Inference.State.{KindEquation}
use Rattle.theory_checking.specs.Inference.Items.{behind_copies, behind_set, of_copies, of_set}
use Rattle.theory_checking.proofs.Meant.{at_place}
use Rattle.csp_inference.specs.declared.chain.KindNumber.{KindNumber}
use Rattle.csp_inference.specs.declared.misfit.Misfit.{Misfit}
use Rattle.csp_inference.specs.declared.misfit.Misfit.TheVariants as misfit
use Rattle.csp_inference.specs.Numbering.{numbering_of}
use Rattle.csp_inference.specs.State.{state_in}
use Rattle.csp_inference.specs.declared.known_kinds.KnownKinds.{KnownKinds}
use Rattle.csp_inference.specs.declared.fitted_sets.Column.{Column}
use Rattle.csp_inference.specs.Known.{AreKnown, column_of}
use Rattle.csp_inference.specs.KnownKinds.{Fits, FitsClauseField, FitsField, FitsNametype, IsColumnOf, KnowsKinds}
use Rattle.csp_inference.specs.TreeNumbers.{IsColumnFound, row_numbers}
use Rattle.csp_inference.specs.Solving.{SolvedFor, SolvesMore}
use Rattle.csp_inference.proofs.OneMore.{channels_within, clause_row, column_found, known_clause_field, known_field, known_nametype, known_no_clause_field, known_no_field, known_no_set, nametype_within, some_known, unfit_clause_field, unfit_field, unfit_nametype}

-- what is known of other numbers of the same names, with the same next number
known_of_same : {A : Type 0} (raw so_far : RawScript) (old new : KnownKinds A) (es : List KindEquation) (m : ℕ) → SolvesMore old es m new → AreKnown raw so_far (numbering_of old.numbering) m (state_in new.equations.state) → KnowsKinds raw so_far new
known_of_same raw so_far old new es m more known =
    let P : ℕ → Type 0 = λ n. AreKnown raw so_far (numbering_of old.numbering) n (state_in new.equations.state) in
    subst (λ o. AreKnown raw so_far (numbering_of o) new.equations.next (state_in new.equations.state)) (sym more.numbering) (subst P (sym more.next) known)

known_fits : {A : Type 0} (raw so_far : RawScript) (known : KnownKinds A) → KnowsKinds raw so_far known → Fits raw so_far known (Ok tt)
known_fits raw so_far known h = (h, some_known raw so_far (numbering_of known.numbering) known.equations.next (state_in known.equations.state) h)

-- ---- a nametype

module _ {A : Type 0} (types : Types) (nametype : ℕ) (set : Option Expression) (old : KnownKinds A) where
  -- a set in which a name is refused
  pub no_nametype_set : set ≡ None → FitsNametype types nametype set old old (Ok tt)
  no_nametype_set none raw above below name domain stands same count is k =
      known_fits raw (above ++ RawNametype name domain ∷ []) old (known_no_set raw above below name domain stands (numbering_of old.numbering) old.equations.next (state_in old.equations.state) k (sym none ∙ is))

  -- what is found at the nametype's place, in the numbers as the call lends them
  module _ (numbers : List KindNumber) (lent : numbers ≡ old.numbering.nametypes.items) where
    number_found : (found : Option KindNumber) → found ≡ slice_get numbers nametype → (above : RawScript) → nametype ≡ length (nametype_sets above) → slice_get (numbering_of old.numbering).nametypes (length (nametype_sets above)) ≡ option_map (λ n. n.0) found
    number_found found is above count =
        slice_get-map (λ (n : KindNumber). n.0) old.numbering.nametypes.items (length (nametype_sets above)) ∙ ap (option_map (λ (n : KindNumber). n.0)) (sym (is ∙ ap₂ (λ xs i. slice_get xs i) lent count))

    -- each nametype has its number
    pub no_number : (new : KnownKinds A) → None ≡ slice_get numbers nametype → FitsNametype types nametype set old new (Err misfit.NoKinds)
    no_number new missing raw above below name domain stands same count is k =
        let within = nametype_within raw above below name domain stands (numbering_of old.numbering) old.equations.next (state_in old.equations.state) k in
        let there = at_place (numbering_of old.numbering).nametypes (length (nametype_sets above)) within in
        absurd (cc (sym there.1 ∙ number_found None missing above count))

    pub nametype_fits : (new : KnownKinds A) (x : KindNumber) → Some x ≡ slice_get numbers nametype → (given : Option Expression) → set ≡ given → (r : Result (Unit {0}) Misfit) →
        SolvedFor old (of_set types (numbering_of old.numbering) old.equations.next given x.0) (behind_set old.equations.next given) new r → FitsNametype types nametype set old new r
    nametype_fits new x found given alike (Ok u) more raw above below name domain stands same count is k =
        let o = numbering_of old.numbering in
        known_fits raw (above ++ RawNametype name domain ∷ []) new
        (known_of_same raw (above ++ RawNametype name domain ∷ []) old new (of_set types o old.equations.next given x.0) (behind_set old.equations.next given) more
        (known_nametype raw above below name domain stands o old.equations.next (state_in old.equations.state) k x.0 (number_found (Some x) found above count) types given (state_in new.equations.state) same (sym alike ∙ is) more.solved))
    nametype_fits new x found given alike (Err misfit.NoKinds) none raw above below name domain stands same count is k =
        unfit_nametype raw above below name domain stands (numbering_of old.numbering) old.equations.next (state_in old.equations.state) k x.0 (number_found (Some x) found above count) types given same (sym alike ∙ is) none
    nametype_fits new x found given alike (Err misfit.Memory) h raw above below name domain stands same count is k = tt

-- ---- a field of a constructor

module _ {A : Type 0} (types : Types) (constructor field : ℕ) (set : Option Expression) (old : KnownKinds A) where
  pub no_clause_set : set ≡ None → FitsClauseField types constructor field set old old (Ok tt)
  no_clause_set none raw above below name clauses more c before rest d stands same count at is k =
      known_fits raw (with_clause above name clauses c (before ++ d ∷ [])) old
      (known_no_clause_field raw above below name clauses more c before rest d stands (numbering_of old.numbering) old.equations.next (state_in old.equations.state) k (sym none ∙ is))

  -- what is found at the constructor's place, in the rows as the call lends them
  module _ (rows : List (Vec KindNumber A)) (lent : rows ≡ old.numbering.constructors.items) where
    row_found : (found : Option (Vec KindNumber A)) → found ≡ slice_get rows constructor → (i : ℕ) → constructor ≡ i →
        slice_get (numbering_of old.numbering).constructors i ≡ option_map (λ ns. row_numbers ns.items) found
    row_found found is i count =
        let f : Vec KindNumber A → List ℕ = λ ns. row_numbers ns.items in
        slice_get-map f old.numbering.constructors.items i ∙ ap (option_map f) (sym (is ∙ ap₂ (λ xs j. slice_get xs j) lent count))

    -- each constructor has its row
    pub no_row : (new : KnownKinds A) → None ≡ slice_get rows constructor → FitsClauseField types constructor field set old new (Err misfit.NoKinds)
    no_row new missing raw above below name clauses more c before rest d stands same count at is k =
        let there = clause_row raw above below name clauses more c before rest d stands (numbering_of old.numbering) old.equations.next (state_in old.equations.state) k in
        absurd (cc (sym there.2 ∙ row_found None missing (length (constructor_sets above) + length clauses) count))

    module _ (row : Vec KindNumber A) (is_row : Some row ≡ slice_get rows constructor) (numbers : List KindNumber) (read : numbers ≡ row.items) where
      place_found : (found : Option KindNumber) → found ≡ slice_get numbers field → (i : ℕ) → field ≡ i → slice_get (row_numbers row.items) i ≡ option_map (λ n. n.0) found
      place_found found is i at =
          slice_get-map (λ (n : KindNumber). n.0) row.items i ∙ ap (option_map (λ (n : KindNumber). n.0)) (sym (is ∙ ap₂ (λ xs j. slice_get xs j) read at))

      -- with a number for each field
      pub no_place : (new : KnownKinds A) → None ≡ slice_get numbers field → FitsClauseField types constructor field set old new (Err misfit.NoKinds)
      no_place new missing raw above below name clauses more c before rest d stands same count at is k =
          let there = clause_row raw above below name clauses more c before rest d stands (numbering_of old.numbering) old.equations.next (state_in old.equations.state) k in
          let rows_same : Some there.0 ≡ Some (row_numbers row.items) = sym there.2 ∙ row_found (Some row) is_row (length (constructor_sets above) + length clauses) count in
          let one : there.0 ≡ row_numbers row.items = cc rows_same in
          absurd (cc (sym there.3 ∙ ap (λ xs. slice_get xs (length before)) one ∙ place_found None missing (length before) at))

      pub clause_field_fits : (new : KnownKinds A) (x : KindNumber) → Some x ≡ slice_get numbers field → (given : Option Expression) → set ≡ given → (r : Result (Unit {0}) Misfit) →
          SolvedFor old (of_set types (numbering_of old.numbering) old.equations.next given x.0) (behind_set old.equations.next given) new r → FitsClauseField types constructor field set old new r
      clause_field_fits new x found given alike (Ok u) solves raw above below name clauses more c before rest d stands same count at is k =
          let o = numbering_of old.numbering in
          let so_far = with_clause above name clauses c (before ++ d ∷ []) in
          known_fits raw so_far new
          (known_of_same raw so_far old new (of_set types o old.equations.next given x.0) (behind_set old.equations.next given) solves
          (known_clause_field raw above below name clauses more c before rest d stands o old.equations.next (state_in old.equations.state) k (row_numbers row.items) x.0
          (row_found (Some row) is_row (length (constructor_sets above) + length clauses) count) (place_found (Some x) found (length before) at) types given (state_in new.equations.state) same
          (sym alike ∙ is) solves.solved))
      clause_field_fits new x found given alike (Err misfit.NoKinds) none raw above below name clauses more c before rest d stands same count at is k =
          unfit_clause_field raw above below name clauses more c before rest d stands (numbering_of old.numbering) old.equations.next (state_in old.equations.state) k (row_numbers row.items) x.0
          (row_found (Some row) is_row (length (constructor_sets above) + length clauses) count) (place_found (Some x) found (length before) at) types given same (sym alike ∙ is) none
      clause_field_fits new x found given alike (Err misfit.Memory) h raw above below name clauses more c before rest d stands same count at is k = tt

-- ---- a field of channels

module _ {A : Type 0} (types : Types) (column : Column) (set : Option Expression) (old : KnownKinds A) where
  pub no_field_set : set ≡ None → FitsField types column set old old (Ok tt)
  no_field_set none raw above below names before rest d stands same column_is is k =
      known_fits raw (above ++ RawChannels names (before ++ d ∷ []) ∷ []) old (known_no_field raw above below names before rest d stands (numbering_of old.numbering) old.equations.next (state_in old.equations.state) k (sym none ∙ is))

  -- what is found of the column, in the channels as the call lends them
  module _ (channels : List (Vec KindNumber A)) (lent : channels ≡ old.numbering.channels.items) (found : Option (Vec KindNumber A))
      (h : IsColumnFound column channels found) where
    column_is_found : (above : RawScript) (names : List RawName) (before : List RawDomain) → IsColumnOf column above names before → length (channel_sets above) + length names ≤ length (numbering_of old.numbering).channels →
        option_map (λ ns. row_numbers ns.items) found ≡ column_of (length before) (take (length names) (drop (length (channel_sets above)) (numbering_of old.numbering).channels))
    column_is_found above names before is within =
        let f : Vec KindNumber A → List ℕ = λ ns. map (λ n. n.0) ns.items in
        let counted : length (numbering_of old.numbering).channels ≡ length channels = length-map old.numbering.channels.items f ∙ ap length (sym lent) in
        let first : column.first ≡ length (channel_sets above) = is.first in
        let count : column.channels ≡ length names = is.channels in
        let le : column.first + column.channels ≤ length channels = omega arith in
        h le ∙ ap₂ (λ i xs. column_of i (take column.channels (drop column.first (map f xs)))) is.field lent ∙ ap₂ (λ n m. column_of (length before) (take n (drop m (numbering_of old.numbering).channels))) count first

    -- each channel of the declaration has the field
    pub no_column : (new : KnownKinds A) → found ≡ None → FitsField types column set old new (Err misfit.NoKinds)
    no_column new missing raw above below names before rest d stands same column_is is k =
        let o = numbering_of old.numbering in
        let within = channels_within raw above below names before rest d stands o old.equations.next (state_in old.equations.state) k in
        let there = column_found raw above below names before rest d stands o old.equations.next (state_in old.equations.state) k in
        absurd (cc (ap (option_map (λ ns. row_numbers ns.items)) (sym missing) ∙ column_is_found above names before column_is within ∙ there.1))

    module _ (members : Vec KindNumber A) (is_found : found ≡ Some members) (ms : List KindNumber) (are : ms ≡ members.items) where
      numbers_found : (above : RawScript) (names : List RawName) (before : List RawDomain) → IsColumnOf column above names before → length (channel_sets above) + length names ≤ length (numbering_of old.numbering).channels →
          column_of (length before) (take (length names) (drop (length (channel_sets above)) (numbering_of old.numbering).channels)) ≡ Some (row_numbers ms)
      numbers_found above names before is within =
          sym (column_is_found above names before is within) ∙ ap (option_map (λ ns. row_numbers ns.items)) is_found ∙ ap (λ ns. Some (row_numbers ns)) (sym are)

      pub field_fits : (new : KnownKinds A) (given : Option Expression) → set ≡ given → (r : Result (Unit {0}) Misfit) →
          SolvedFor old (of_copies types (numbering_of old.numbering) old.equations.next given (row_numbers ms)) (behind_copies old.equations.next given (row_numbers ms)) new r → FitsField types column set old new r
      field_fits new given alike (Ok u) more raw above below names before rest d stands same column_is is k =
          let o = numbering_of old.numbering in
          let within = channels_within raw above below names before rest d stands o old.equations.next (state_in old.equations.state) k in
          known_fits raw (above ++ RawChannels names (before ++ d ∷ []) ∷ []) new
          (known_of_same raw (above ++ RawChannels names (before ++ d ∷ []) ∷ []) old new (of_copies types o old.equations.next given (row_numbers ms)) (behind_copies old.equations.next given (row_numbers ms)) more
          (known_field raw above below names before rest d stands o old.equations.next (state_in old.equations.state) k (row_numbers ms) (numbers_found above names before column_is within) types given (state_in new.equations.state) same (sym alike ∙ is) more.solved))
      field_fits new given alike (Err misfit.NoKinds) none raw above below names before rest d stands same column_is is k =
          let o = numbering_of old.numbering in
          let within = channels_within raw above below names before rest d stands o old.equations.next (state_in old.equations.state) k in
          unfit_field raw above below names before rest d stands o old.equations.next (state_in old.equations.state) k (row_numbers ms) (numbers_found above names before column_is within) types given same (sym alike ∙ is) none
      field_fits new given alike (Err misfit.Memory) h raw above below names before rest d stands same column_is is k = tt
