-- A row that is put, and the numbers and spellings of the rows then.
use Rattle.std.specs.Prelude.{cond, is_some, option_map}
use Rattle.std.specs.Borrow.{Bor}
use Rattle.std.specs.Str.{bytes_eq, chars, IsUtf8}
use Rattle.std.proofs.lemmas.Slice.Eq.{bytes_eq-Decides}
use Rattle.std.proofs.Common.{◌≡◌, ℕ, suc, ◌+◌, ◌-◌, Bool, true, false, List, [], ◌∷◌, ◌++◌, length, map, Option, Some, None, refl, sym, ap, ◌∙◌, arith}
use Rattle.indexmap.specs.IndexMap.{insert_entry}
use Rattle.theory_checking.specs.Names.{number_in, with_spellings}
use Rattle.theory_checking.proofs.Spellings.{number_of_append, number_stays}
use Rattle.csp_names.specs.Rows.{AreTexts, put_row, row_at, spelled}
use Rattle.csp_names.proofs.Rows.{same_spelling}
use Rattle.std.specs.Option.{option_map_or}
use Rattle.std.proofs.lemmas.List.{length-map}
use Rattle.csp_names.specs.declared.bound_names.BoundName.{BoundName}
use Rattle.csp_names.specs.declared.bound_names.BoundNames.{BoundNames}
use Rattle.csp_names.specs.Scopes.{Binds, bound_rows, bound_spellings, IsInOrder, IsPut, Releases, times_at}

-- ---- an entry that is inserted is a row that is put

module _ {V : Type 0} (q : Bor (List ℕ)) (u : IsUtf8 q.now) (v : V) where
  abbrev same_key : Bor (List ℕ) → Bor (List ℕ) → Bool
  same_key j k = bytes_eq j.now k.now

  pub inserted_row : (es : List (Bor (List ℕ) × V)) → AreTexts es → spelled (insert_entry same_key es q v) ≡ put_row (spelled es) (chars q.now) v
  inserted_row [] texts = refl
  inserted_row (e ∷ es) texts = go (bytes_eq q.now e.0.now) (bytes_eq (chars e.0.now) (chars q.now)) (same_spelling q.now e.0.now u texts.0) (inserted_row es texts.1)
    where
      go : (b c : Bool) → b ≡ c → spelled (insert_entry same_key es q v) ≡ put_row (spelled es) (chars q.now) v →
          spelled (cond b ((e.0, v) ∷ es) (e ∷ insert_entry same_key es q v)) ≡ cond c ((chars e.0.now, v) ∷ spelled es) ((chars e.0.now, e.1) ∷ put_row (spelled es) (chars q.now) v)
      go true true is rest = refl
      go false false is rest = ap (λ rs. (chars e.0.now, e.1) ∷ rs) rest
      go true false is rest = absurd (cc is)
      go false true is rest = absurd (cc is)

  pub inserted_texts : (es : List (Bor (List ℕ) × V)) → AreTexts es → AreTexts (insert_entry same_key es q v)
  inserted_texts [] texts = (u, tt)
  inserted_texts (e ∷ es) texts = go (bytes_eq q.now e.0.now) (inserted_texts es texts.1)
    where
      go : (b : Bool) → AreTexts (insert_entry same_key es q v) → AreTexts (cond b ((e.0, v) ∷ es) (e ∷ insert_entry same_key es q v))
      go true rest = (texts.0, texts.1)
      go false rest = (texts.0, rest)

-- ---- rows with one that is put

abbrev pub spellings_of : {V : Type 0} → List (List ℕ × V) → List (List ℕ)
spellings_of rows = map (λ r. r.0) rows

same_as : (s t : List ℕ) → bytes_eq s t ≡ true → s ≡ t
same_as s t e = (bytes_eq-Decides s t).0 e

module _ {V : Type 0} (s : List ℕ) (v : V) where
  pub put_at : (rows : List (List ℕ × V)) (t : List ℕ) → row_at (put_row rows s v) t ≡ cond (bytes_eq s t) (Some v) (row_at rows t)
  put_at [] t = refl
  put_at (r ∷ rows) t = go (bytes_eq r.0 s) refl (put_at rows t)
    where
      go : (b : Bool) → bytes_eq r.0 s ≡ b → row_at (put_row rows s v) t ≡ cond (bytes_eq s t) (Some v) (row_at rows t) →
          row_at (cond b ((r.0, v) ∷ rows) (r ∷ put_row rows s v)) t ≡ cond (bytes_eq s t) (Some v) (cond (bytes_eq r.0 t) (Some r.1) (row_at rows t))
      go true e rest = ap (λ x. cond (bytes_eq x t) (Some v) (row_at rows t)) (same_as r.0 s e) ∙ twice (bytes_eq s t) (bytes_eq r.0 t) (ap (λ x. bytes_eq x t) (same_as r.0 s e))
        where
          twice : (b c : Bool) → c ≡ b → cond b (Some v) (row_at rows t) ≡ cond b (Some v) (cond c (Some r.1) (row_at rows t))
          twice true c same = refl
          twice false true same = absurd (cc same)
          twice false false same = refl
      go false e rest = ap (cond (bytes_eq r.0 t) (Some r.1)) rest ∙ apart (bytes_eq r.0 t) (bytes_eq s t) refl refl
        where
          apart : (b c : Bool) → bytes_eq r.0 t ≡ b → bytes_eq s t ≡ c → cond b (Some r.1) (cond c (Some v) (row_at rows t)) ≡ cond c (Some v) (cond b (Some r.1) (row_at rows t))
          apart true true is same =
              let one : r.0 ≡ s = same_as r.0 t is ∙ sym (same_as s t same) in
              let both : true ≡ false = sym ((bytes_eq-Decides r.0 s).1 one) ∙ e in absurd (cc both)
          apart true false is same = refl
          apart false c is same = refl

  pub put_spellings : (rows : List (List ℕ × V)) → spellings_of (put_row rows s v) ≡ with_spellings (spellings_of rows) (s ∷ [])
  put_spellings [] = refl
  put_spellings (r ∷ rows) = go (bytes_eq r.0 s) (number_in (spellings_of rows) s) (put_spellings rows)
    where
      go : (b : Bool) (o : Option ℕ) → spellings_of (put_row rows s v) ≡ cond (is_some o) (spellings_of rows) (spellings_of rows ++ s ∷ []) →
          spellings_of (cond b ((r.0, v) ∷ rows) (r ∷ put_row rows s v)) ≡ cond (is_some (cond b (Some 0) (option_map suc o))) (r.0 ∷ spellings_of rows) (r.0 ∷ (spellings_of rows ++ s ∷ []))
      go true o rest = refl
      go false (Some k) rest = ap (λ ss. r.0 ∷ ss) rest
      go false None rest = ap (λ ss. r.0 ∷ ss) rest

-- ---- numbers

-- the number of a spelling that is there, or that of the next place
abbrev pub next_number : {V : Type 0} → List (List ℕ × V) → Option ℕ → ℕ
next_number rows (Some k) = k
next_number rows None = length rows

module _ {V : Type 0} (number : V → ℕ) where
  -- each spelling has the number of its place
  abbrev pub AreNumbered : List (List ℕ × V) → Type 0
  AreNumbered rows = (t : List ℕ) → option_map number (row_at rows t) ≡ number_in (spellings_of rows) t

  number_there : (ss : List (List ℕ)) (s t : List ℕ) → bytes_eq s t ≡ false → number_in (ss ++ s ∷ []) t ≡ number_in ss t
  number_there ss s t apart = go (number_in ss t) refl
    where
      alone : number_in (s ∷ []) t ≡ None
      alone = ap (λ b. cond b (Some 0) None) apart

      go : (o : Option ℕ) → number_in ss t ≡ o → number_in (ss ++ s ∷ []) t ≡ number_in ss t
      go (Some k) e = number_stays ss (s ∷ []) t k e ∙ sym e
      go None e = number_of_append ss (s ∷ []) t e ∙ ap (option_map (λ k. length ss + k)) alone ∙ sym e

  number_at_end : (ss : List (List ℕ)) (s : List ℕ) → number_in ss s ≡ None → number_in (ss ++ s ∷ []) s ≡ Some (length ss)
  number_at_end ss s none =
      let same : bytes_eq s s ≡ true = (bytes_eq-Decides s s).1 refl in
      number_of_append ss (s ∷ []) s none ∙ ap (option_map (λ k. length ss + k)) (ap (λ b. cond b (Some 0) None) same) ∙ ap Some (let e : length ss + 0 ≡ length ss = omega arith in e)

  -- with a row that is put, which has the number of its spelling, or that of the next place
  pub put_numbered : (rows : List (List ℕ × V)) (s : List ℕ) (v : V) → AreNumbered rows → number v ≡ next_number rows (number_in (spellings_of rows) s) → AreNumbered (put_row rows s v)
  put_numbered rows s v numbered next t =
      ap (option_map number) (put_at s v rows t) ∙ go (bytes_eq s t) refl (number_in (spellings_of rows) s) refl ∙ sym (ap (λ ss. number_in ss t) (put_spellings s v rows))
    where
      go : (b : Bool) → bytes_eq s t ≡ b → (o : Option ℕ) → number_in (spellings_of rows) s ≡ o → option_map number (cond b (Some v) (row_at rows t)) ≡ number_in (cond (is_some (number_in (spellings_of rows) s)) (spellings_of rows) (spellings_of rows ++ s ∷ [])) t
      go true e (Some k) is =
          ap Some (next ∙ ap (next_number rows) is) ∙ sym is ∙ ap (number_in (spellings_of rows)) (same_as s t e) ∙ sym (ap (λ o. number_in (cond (is_some o) (spellings_of rows) (spellings_of rows ++ s ∷ [])) t) is)
      go true e None is =
          ap Some (next ∙ ap (next_number rows) is ∙ sym (length-map rows (λ r. r.0))) ∙ sym (number_at_end (spellings_of rows) s is) ∙ ap (number_in (spellings_of rows ++ s ∷ [])) (same_as s t e) ∙ sym (ap (λ o. number_in (cond (is_some o) (spellings_of rows) (spellings_of rows ++ s ∷ [])) t) is)
      go false e (Some k) is = numbered t ∙ sym (ap (λ o. number_in (cond (is_some o) (spellings_of rows) (spellings_of rows ++ s ∷ [])) t) is)
      go false e None is = numbered t ∙ sym (number_there (spellings_of rows) s t e) ∙ sym (ap (λ o. number_in (cond (is_some o) (spellings_of rows) (spellings_of rows ++ s ∷ [])) t) is)

-- ---- the table of bound names

module _ {A : Type 0} (old new : BoundNames A) (s : List ℕ) (row : BoundName) where
  times_put : IsPut old new s row → (t : List ℕ) → times_at new t ≡ cond (bytes_eq s t) row.times (times_at old t)
  times_put put t = ap (λ rs. option_map_or (λ r. r.times) (row_at rs t) 0) put.rows ∙ ap (λ o. option_map_or (λ r. r.times) o 0) (put_at s row (bound_rows old) t) ∙ go (bytes_eq s t)
    where
      go : (b : Bool) → option_map_or (λ r. r.times) (cond b (Some row) (row_at (bound_rows old) t)) 0 ≡ cond b row.times (times_at old t)
      go true = refl
      go false = refl

  in_order_put : IsInOrder old → IsPut old new s row → row.name.0 ≡ next_number (bound_rows old) (number_in (bound_spellings old) s) → IsInOrder new
  in_order_put h put next = record {
    texts = put.texts;
    numbers = λ t. ap (λ rs. option_map (λ r. r.name.0) (row_at rs t)) put.rows ∙ put_numbered (λ r. r.name.0) (bound_rows old) s row h.numbers next t ∙ sym (ap (λ rs. number_in (spellings_of rs) t) put.rows);
  }

  pub binds_put : IsInOrder old → IsPut old new s row → row.name.0 ≡ next_number (bound_rows old) (number_in (bound_spellings old) s) → row.times ≡ times_at old s + 1 → Binds old new (s ∷ []) (s ∷ [])
  binds_put h put next times = record {
    in_order = in_order_put h put next;
    spellings = ap spellings_of put.rows ∙ put_spellings s row (bound_rows old);
    times = λ t. times_put put t ∙ go t (bytes_eq s t) refl;
  }
    where
      go : (t : List ℕ) (b : Bool) → bytes_eq s t ≡ b → cond b row.times (times_at old t) ≡ cond b 1 0 + times_at old t
      go t true e = let same : times_at old s ≡ times_at old t = ap (times_at old) (same_as s t e) in omega (arith, times, same)
      go t false e = omega arith

  pub number_put : IsInOrder old → IsPut old new s row → row.name.0 ≡ next_number (bound_rows old) (number_in (bound_spellings old) s) → number_in (bound_spellings new) s ≡ Some row.name.0
  number_put h put next =
      sym ((in_order_put h put next).numbers s) ∙ ap (λ rs. option_map (λ r. r.name.0) (row_at rs s)) put.rows ∙ ap (option_map (λ r. r.name.0)) (put_at s row (bound_rows old) s)
      ∙ ap (λ b. option_map (λ r. r.name.0) (cond b (Some row) (row_at (bound_rows old) s))) ((bytes_eq-Decides s s).1 refl)

  pub releases_put : (r : BoundName) → IsInOrder old → row_at (bound_rows old) s ≡ Some r → IsPut old new s row → row.name.0 ≡ r.name.0 → row.times ≡ r.times - 1 → Releases old new (s ∷ [])
  releases_put r h there put same times = record {
    in_order = in_order_put h put (same ∙ sym (ap (next_number (bound_rows old)) numbered));
    spellings = ap spellings_of put.rows ∙ put_spellings s row (bound_rows old) ∙ ap (λ o. cond (is_some o) (bound_spellings old) (bound_spellings old ++ s ∷ [])) numbered;
    times = λ t k e. times_put put t ∙ go t (bytes_eq s t) refl k e;
  }
    where
      numbered : number_in (bound_spellings old) s ≡ Some r.name.0
      numbered = sym (h.numbers s) ∙ ap (option_map (λ r. r.name.0)) there

      go : (t : List ℕ) (b : Bool) → bytes_eq s t ≡ b → (k : ℕ) → times_at old t ≡ cond b 1 0 + k → cond b row.times (times_at old t) ≡ k
      go t true e k is =
          let here : times_at old t ≡ r.times = ap (times_at old) (sym (same_as s t e)) ∙ ap (λ o. option_map_or (λ r. r.times) o 0) there in
          omega (arith, is, here, times)
      go t false e k is = omega (arith, is)

pub releases_none : {A : Type 0} (b : BoundNames A) (s : List ℕ) → IsInOrder b → row_at (bound_rows b) s ≡ None → Releases b b (s ∷ [])
releases_none b s h none = record { in_order = h; spellings = refl; times = λ t k e. go t (bytes_eq s t) refl k e }
  where
    go : (t : List ℕ) (x : Bool) → bytes_eq s t ≡ x → (k : ℕ) → times_at b t ≡ cond x 1 0 + k → times_at b t ≡ k
    go t true e k is =
        let here : times_at b t ≡ 0 = ap (times_at b) (sym (same_as s t e)) ∙ ap (λ o. option_map_or (λ r. r.times) o 0) none in
        absurd (omega (arith, is, here))
    go t false e k is = omega (arith, is)

-- ---- the row for a name that is to be bound

-- It has the number of its spelling, or that of the next place, and is bound as often as the name is.
abbrev pub IsKnown : {A : Type 0} → BoundNames A → List ℕ → BoundName → Type 0
IsKnown old s r = (r.name.0 ≡ next_number (bound_rows old) (number_in (bound_spellings old) s)) × (r.times ≡ times_at old s)

pub known_there : {A : Type 0} (old : BoundNames A) (s : List ℕ) (r : BoundName) → IsInOrder old → row_at (bound_rows old) s ≡ Some r → IsKnown old s r
known_there old s r h there = (
  sym (ap (next_number (bound_rows old)) (sym (h.numbers s) ∙ ap (option_map (λ r. r.name.0)) there)),
  sym (ap (λ o. option_map_or (λ r. r.times) o 0) there),
)

pub known_new : {A : Type 0} (old : BoundNames A) (s : List ℕ) (r : BoundName) → IsInOrder old → row_at (bound_rows old) s ≡ None → r.name.0 ≡ length old.table.entries → r.times ≡ 0 → IsKnown old s r
known_new old s r h none number times = (
  number ∙ sym (length-map old.table.entries (λ e. (chars e.0.now, e.1))) ∙ sym (ap (next_number (bound_rows old)) (sym (h.numbers s) ∙ ap (option_map (λ r. r.name.0)) none)),
  times ∙ sym (ap (λ o. option_map_or (λ r. r.times) o 0) none),
)
