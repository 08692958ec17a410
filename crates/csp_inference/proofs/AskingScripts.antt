-- Equations and assertions ask what their processes ask.
use Rattle.std.proofs.Common.{Option, Some, None, subst, ◌≡◌, ◌≢◌, ℕ, ◌+◌, ◌<◌, ◌≤◌, nat_eq, List, [], ◌∷◌, ◌++◌, length, map, drop, get_or, refl, sym, ◌∙◌, ap, ap₂, append_assoc, append-nil, arith}
use Rattle.std.proofs.lemmas.Bool.{cond-true, cond-false, eq-eqb, ne_eqb}
use Rattle.std.proofs.lemmas.List.{drop_more, drop_all, map-append}
use Rattle.theory_syntax.specs.Process.{Script, Process, Equation, Assertion, specification_of}
use Rattle.theory_checking.specs.Inference.Equations as numbers
use Rattle.theory_checking.specs.Inference.Equations.{never}
use Rattle.theory_checking.specs.Inference.Items.{numbered, of_assertion, of_equation, of_specification, behind_assertion, behind_specification}
use Rattle.theory_checking.specs.Inference.Processes.{behind_process, of_process}
use Rattle.csp_expression.specs.declared.name.Name.{Name}
use Rattle.csp_inference.specs.declared.chain.KindNumber.{KindNumber}
use Rattle.csp_inference.specs.declared.numbering.NumberedName.{NumberedName}
use Rattle.csp_inference.specs.declared.equations.Equations.{Equations}
use Rattle.csp_inference.specs.Equations.{Adds, Asks, exactly, equations_of}
use Rattle.csp_inference.specs.Numbering.{names_of}
use Rattle.csp_inference.proofs.Adding.{knows_itself}
use Rattle.csp_inference.proofs.Asking.{asks_same, asks_then, hopeless_same, never_asks, never_hopeless}

-- what is left of the parameters gives, behind the names so far, those of all
abbrev pub NamesLeft : List NumberedName → List Name → List KindNumber → ℕ → Type 0
NamesLeft names xs ms i = names_of names ++ numbered (map (λ x. x.0) (drop i xs)) (map (λ m. m.0) (drop i ms)) ≡ numbered (map (λ x. x.0) xs) (map (λ m. m.0) ms)

pub name_more : (names new : List NumberedName) (xs : List Name) (ms : List KindNumber) (i : ℕ) (d : Name) (e : KindNumber) →
    i < length xs → length xs ≡ length ms → NamesLeft names xs ms i → new ≡ names ++ record { name = get_or xs i d; number = get_or ms i e } ∷ [] →
    NamesLeft new xs ms (i + 1)
name_more names new xs ms i d e within same left pushed =
    let in_numbers : i < length ms = omega arith in
    let pair : NumberedName = record { name = get_or xs i d; number = get_or ms i e } in
    let rest = numbered (map (λ x. x.0) (drop (i + 1) xs)) (map (λ m. m.0) (drop (i + 1) ms)) in
    ap (λ ns. names_of ns ++ rest) pushed ∙ ap (λ ns. ns ++ rest) (map-append (λ b. (b.name.0, b.number.0)) names (pair ∷ [])) ∙ append_assoc (names_of names) (names_of (pair ∷ [])) rest
    ∙ ap (λ ns. names_of names ++ ns) (sym (ap₂ (λ us vs. numbered (map (λ x. x.0) us) (map (λ m. m.0) vs)) (drop_more xs i d within) (drop_more ms i e in_numbers))) ∙ left

pub names_all : (names : List NumberedName) (xs : List Name) (ms : List KindNumber) (i : ℕ) →
    length xs ≤ i → NamesLeft names xs ms i → names_of names ≡ numbered (map (λ x. x.0) xs) (map (λ m. m.0) ms)
names_all names xs ms i over left =
    sym (ap (λ us. names_of names ++ numbered (map (λ x. x.0) us) (map (λ m. m.0) (drop i ms))) (drop_all i xs over) ∙ append-nil (names_of names)) ∙ left

module _ {A : Type 0} (script : Script) (o : numbers.Numbering) (s : Equations A) where
  pub asked_equation : (t : Equations A) (q : Equation) (ms : List ℕ) (names : numbers.Numbered) →
      length q.parameters ≡ length ms → names ≡ numbered q.parameters ms → Asks s t (of_process script o s.next names q.body) (behind_process s.next q.body) →
      Asks s t (of_equation script o s.next q ms) (behind_process s.next q.body)
  asked_equation t q ms names same named h =
      asks_same s t (of_process script o s.next names q.body) (of_equation script o s.next q ms) (behind_process s.next q.body) (behind_process s.next q.body)
      (ap (λ ns. of_process script o s.next ns q.body) named
      ∙ sym (cond-true (nat_eq (length q.parameters) (length ms)) (of_process script o s.next (numbered q.parameters ms) q.body) never
      (eq-eqb (length q.parameters) (length ms) same))) refl h

  pub unequal_equation : (t : Equations A) (q : Equation) (ms : List ℕ) (n m : ℕ) → length q.parameters ≢ length ms → Adds s t never n → Asks s t (of_equation script o s.next q ms) m
  unequal_equation t q ms n m differ h =
      never_asks s t (of_equation script o s.next q ms) n m
      (hopeless_same never (of_equation script o s.next q ms)
      (sym (cond-false (nat_eq (length q.parameters) (length ms)) (of_process script o s.next (numbered q.parameters ms) q.body) never (ne_eqb (length q.parameters) (length ms) differ)))
      never_hopeless) h

  -- a specification, where there is one
  pub asked_specification : (t : Equations A) (p : Process) (x : Option Process) (none : numbers.Numbered) → none ≡ [] → x ≡ Some p →
      Asks s t (of_process script o s.next none p) (behind_process s.next p) → Asks s t (of_specification script o s.next x) (behind_specification s.next x)
  asked_specification t p x none empty is h =
      subst (λ y. Asks s t (of_specification script o s.next y) (behind_specification s.next y)) (sym is)
      (asks_same s t (of_process script o s.next none p) (of_process script o s.next [] p) (behind_process s.next p) (behind_process s.next p) (ap (λ ns. of_process script o s.next ns p) empty) refl h)

  pub no_specification : (x : Option Process) → x ≡ None → Asks s s (of_specification script o s.next x) (behind_specification s.next x)
  no_specification x is =
      subst (λ y. Asks s s (of_specification script o s.next y) (behind_specification s.next y)) (sym is)
      (exactly (record { met = sym (append-nil (equations_of s)); next = refl; known = knows_itself s }))

  pub asked_assertion : (t u : Equations A) (a : Assertion) (x : Option Process) (others : numbers.Numbered) →
      x ≡ specification_of a.property → others ≡ [] → Asks s t (of_specification script o s.next x) (behind_specification s.next x) →
      Asks t u (of_process script o t.next others a.implementation) (behind_process t.next a.implementation) →
      Asks s u (of_assertion script o s.next a) (behind_assertion s.next a)
  asked_assertion t u a x others is alike first second =
      let y = specification_of a.property in
      asks_then s t u (of_specification script o s.next y) (behind_specification s.next y) (λ m. of_process script o m [] a.implementation) (λ m. behind_process m a.implementation)
      (subst (λ z. Asks s t (of_specification script o s.next z) (behind_specification s.next z)) is first)
      (asks_same t u (of_process script o t.next others a.implementation) (of_process script o t.next [] a.implementation)
      (behind_process t.next a.implementation) (behind_process t.next a.implementation) (ap (λ ns. of_process script o t.next ns a.implementation) alike)
      refl second)
