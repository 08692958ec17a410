-- A constructor asks for its datatype, and then what its fields ask.
use Rattle.std.proofs.Common.{◌≡◌, ℕ, List, [], ◌∷◌, map, Some, None, sym, ◌∙◌, ap}
use Rattle.std.specs.Prelude.{slice_get, option_map}
use Rattle.std.specs.declared.vec.Vec.{Vec}
use Rattle.std.proofs.lemmas.Option.{slice_get-map}
use Rattle.theory_checking.specs.Inference.Chain.{Chain, DatatypeEnd}
use Rattle.theory_checking.specs.Inference.State.{KindEquation}
use Rattle.theory_checking.specs.Inference.Equations.{never, when}
use Rattle.csp_expression.specs.declared.name.DatatypeId.{DatatypeId}
use Rattle.csp_inference.specs.declared.chain.KindNumber.{KindNumber}
use Rattle.csp_inference.specs.declared.equations.Equations.{Equations}
use Rattle.csp_inference.specs.Equations.{Adds, Asks, exactly}
use Rattle.csp_inference.proofs.Asking.{asks_then, found_asks, none_asks}

-- the number of the datatype that is found for a constructor
pub owner_found : (owners : List DatatypeId) (i : ℕ) (d : DatatypeId) → slice_get owners i ≡ Some d → slice_get (map (λ e. e.0) owners) i ≡ Some d.0
owner_found owners i d found = slice_get-map (λ (e : DatatypeId). e.0) owners i ∙ ap (option_map (λ (e : DatatypeId). e.0)) found

-- the numbers that are found in rows, as they are lent
pub row_found : {A : Type 0} (rows : List (Vec KindNumber A)) (i : ℕ) (row : Vec KindNumber A) (lent : List KindNumber) →
    slice_get rows i ≡ Some row → lent ≡ row.items → slice_get (map (λ ns. map (λ n. n.0) ns.items) rows) i ≡ Some (map (λ n. n.0) lent)
row_found {A} rows i row lent found same =
    let f : Vec KindNumber A → List ℕ = λ ns. map (λ n. n.0) ns.items in
    slice_get-map f rows i ∙ ap (option_map f) found ∙ ap (λ ns. Some (map (λ n. n.0) ns)) (sym same)

-- The constructor of this number is to have the kind k; F is what its fields ask that are to have the kinds of some numbers, and M the next number behind them.
module _ {A : Type 0} (owners : List ℕ) (rows : List (List ℕ)) (i : ℕ) (k : Chain) (F : ℕ → List ℕ → List KindEquation) (M : ℕ → ℕ) (s t : Equations A) where
  abbrev pub Constructed : Equations A → Type 0
  Constructed u = Asks s u (when (slice_get owners i) (λ d. (DatatypeEnd d, k) ∷ when (slice_get rows i) (F s.next))) (M s.next)

  -- it is of no datatype
  pub unowned : slice_get owners i ≡ None → Adds s t never s.next → Constructed t
  unowned none h = none_asks s t (slice_get owners i) (λ d. (DatatypeEnd d, k) ∷ when (slice_get rows i) (F s.next)) s.next (M s.next) none h

  module _ (u : Equations A) (d : ℕ) (owned : slice_get owners i ≡ Some d) (pushed : Adds s t ((DatatypeEnd d, k) ∷ []) s.next) where
    then_fields : Asks t u (when (slice_get rows i) (F t.next)) (M t.next) → Constructed u
    then_fields fields =
        found_asks s u (slice_get owners i) d (λ e. (DatatypeEnd e, k) ∷ when (slice_get rows i) (F s.next)) (M s.next) owned
        (asks_then s t u ((DatatypeEnd d, k) ∷ []) s.next (λ n. when (slice_get rows i) (F n)) M (exactly pushed) fields)

    -- its fields have no numbers
    pub unnumbered : slice_get rows i ≡ None → Adds t u never t.next → Constructed u
    unnumbered none h = then_fields (none_asks t u (slice_get rows i) (F t.next) t.next (M t.next) none h)

    pub constructed : (ms : List ℕ) → slice_get rows i ≡ Some ms → Asks t u (F t.next ms) (M t.next) → Constructed u
    constructed ms found h = then_fields (found_asks t u (slice_get rows i) ms (F t.next) (M t.next) found h)
