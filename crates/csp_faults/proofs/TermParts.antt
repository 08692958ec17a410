-- What is to blame in a term by what is to blame in its parts.
use Rattle.std.proofs.Common.{◌≡◌, Bool, false, ℕ, zero, suc, ◌<◌, ◌≤◌, List, [], ◌∷◌, length, get_or, map, Option, sym, ◌∙◌, ap, subst, arith}
use Rattle.std.specs.Option.{is_some}
use Rattle.theory_syntax.specs.Process.{Process, Script}
use Rattle.theory_semantics.specs.Kinds.Kind.{Each}
use Rattle.theory_semantics.specs.Meaning.Faults.{height}
use Rattle.theory_faults.specs.Culprit.{first_found}
use Rattle.theory_faults.specs.Processes.{culprit_in, looked_at, own_culprit}
use Rattle.theory_faults.proofs.Events.{first_mapped}
use Rattle.theory_faults.proofs.Processes.{culprit_of_parts, looked_at_lower}
use Rattle.csp_term.specs.declared.term.Term.{Term}
use Rattle.csp_term.specs.Term.{process_of}
use Rattle.csp_faults.proofs.Found.{goes_behind}
use Rattle.csp_faults.specs.Culprit.{found_of}
use Rattle.csp_faults.specs.declared.culprit.Culprit.{Culprit}

-- what holds of each holds of the one that is read
each_at : {X : Type 0} (P : X → Type 0) (xs : List X) (i : ℕ) (x : X) → i < length xs → x ≡ get_or xs i x → Each P xs → P x
each_at P [] i x within read all = absurd (omega (arith, within))
each_at P (y ∷ ys) zero x within read all = subst P (sym read) all.0
each_at P (y ∷ ys) (suc i) x within read all = each_at P ys i x (omega (arith, within)) read all.1

each_mapped : {X Y : Type 0} (P : Y → Type 0) (f : X → Y) (xs : List X) → Each P (map f xs) → Each (λ x. P (f x)) xs
each_mapped P f [] all = tt
each_mapped P f (x ∷ xs) all = (all.0, each_mapped P f xs all.1)

module _ {A : Type 0} (s : Script) (t : Term A) (parts : List (Term A)) (are : map process_of parts ≡ looked_at s (process_of t)) where
  -- each part is less high
  pub part_lower : (i : ℕ) (u : Term A) → i < length parts → u ≡ get_or parts i u → height (process_of u) < height (process_of t)
  part_lower i u within read =
      let P : Process → Type 0 = λ q. suc (height q) ≤ height (process_of t) in
      let Q : List Process → Type 0 = λ ps. Each P ps in
      let low = each_at (λ v. P (process_of v)) parts i u within read (each_mapped P process_of parts (subst Q (sym are) (looked_at_lower s (process_of t)))) in
      omega (arith, low)

  -- where nothing is to blame in the term's own parts, what is found in the others is to blame
  pub in_parts : (own : Option (Culprit A)) (b : Bool) → b ≡ is_some own → b ≡ false → found_of own ≡ own_culprit s (process_of t) →
      first_found (λ u. culprit_in s (process_of u)) parts ≡ culprit_in s (process_of t)
  in_parts own b is none same =
      sym (first_mapped (culprit_in s) process_of parts) ∙ ap (first_found (culprit_in s)) are
      ∙ goes_behind own b is none (own_culprit s (process_of t)) (first_found (culprit_in s) (looked_at s (process_of t))) (culprit_in s (process_of t)) same (sym (culprit_of_parts s (process_of t)))
