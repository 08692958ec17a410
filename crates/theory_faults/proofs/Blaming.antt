-- What is to blame in turn, beside the causes in turn.
use Rattle.std.proofs.Common.{◌≡◌, List, [], ◌∷◌, Option, Some, None, Result, Ok, Err, ok_or, refl, sym}
use Rattle.std.specs.Option.{option_map, option_or}
use Rattle.std.specs.Result.{result_err}
use Rattle.theory_syntax.specs.Process.{Script}
use Rattle.theory_semantics.specs.Meaning.Evaluation.{Cause, IllKinded, ◌and_then◌}
use Rattle.theory_semantics.specs.Meaning.Events.{each, each_list}
use Rattle.theory_faults.specs.Culprit.{Culprit, Misfit, NoChoice, Outside, Valueless, cause_of, first_found, misfit}
use Rattle.theory_faults.specs.Truth.{Explains, IsToBlame}

-- what explains a cause has it
explained : (s : Script) (c : Cause) (k : Culprit) → Explains s c k → cause_of k ≡ c
explained s c (Valueless e d) h = h.0
explained s c (Outside owner i v) h = sym h.0
explained s c (NoChoice n e) h = sym h.0
explained s c Misfit h = sym h

pub blamed_cause : (s : Script) (o : Option Culprit) (x : Option Cause) → IsToBlame s o x → option_map cause_of o ≡ x
blamed_cause s (Some k) (Some c) h = let e = explained s c k h in λ i. Some (e i)
blamed_cause s (Some k) None h = absurd h
blamed_cause s None (Some c) h = absurd h
blamed_cause s None None h = refl

module _ (s : Script) where
  pub blamed_or : (o p : Option Culprit) (x y : Option Cause) → IsToBlame s o x → IsToBlame s p y → IsToBlame s (option_or o p) (option_or x y)
  blamed_or (Some k) p (Some c) y h g = h
  blamed_or (Some k) p None y h g = absurd h
  blamed_or None p (Some c) y h g = absurd h
  blamed_or None p None y h g = g

  -- where nothing is to blame there is a value
  pub has_result : {X : Type 0} (r : Result X Cause) → IsToBlame s None (result_err r) → (x : X) × (r ≡ Ok x)
  has_result (Ok x) h = (x, refl)
  has_result (Err c) h = absurd h

  pub blamed_then : {X Y : Type 0} (r : Result X Cause) (f : X → Result Y Cause) (o p : Option Culprit) →
      IsToBlame s o (result_err r) → ((x : X) → r ≡ Ok x → IsToBlame s p (result_err (f x))) → IsToBlame s (option_or o p) (result_err (r and_then f))
  blamed_then (Ok x) f (Some k) p h g = absurd h
  blamed_then (Ok x) f None p h g = g x refl
  blamed_then (Err c) f (Some k) p h g = h
  blamed_then (Err c) f None p h g = absurd h

  -- what goes on with a value always has one
  pub blamed_map : {X Y : Type 0} (r : Result X Cause) (f : X → Y) (o : Option Culprit) →
      IsToBlame s o (result_err r) → IsToBlame s o (result_err (r and_then λ x. Ok (f x)))
  blamed_map (Ok x) f o h = h
  blamed_map (Err c) f o h = h

  -- a result that lacks a value by a wrong kind alone
  pub misfit_blamed : {X : Type 0} (r : Result X Cause) → ((c : Cause) → r ≡ Err c → c ≡ IllKinded) → IsToBlame s (misfit r) (result_err r)
  misfit_blamed (Ok x) only = tt
  misfit_blamed (Err c) only = only c refl

  pub only_kinds : {X : Type 0} (o : Option X) (c : Cause) → ok_or o IllKinded ≡ Err c → c ≡ IllKinded
  only_kinds (Some x) c is = absurd (cc is)
  only_kinds None c is = cc is

  pub each_blamed : {X Y : Type 0} (f : X → Result Y Cause) (look : X → Option Culprit) → ((x : X) → IsToBlame s (look x) (result_err (f x))) →
      (xs : List X) → IsToBlame s (first_found look xs) (result_err (each f xs))
  each_blamed f look blamed [] = tt
  each_blamed f look blamed (x ∷ xs) =
      blamed_then (f x) _ (look x) (first_found look xs) (blamed x) (λ y is. blamed_map (each f xs) (λ ys. y ∷ ys) (first_found look xs) (each_blamed f look blamed xs))

  pub each_list_blamed : {X Y : Type 0} (f : X → Result (List Y) Cause) (look : X → Option Culprit) → ((x : X) → IsToBlame s (look x) (result_err (f x))) →
      (xs : List X) → IsToBlame s (first_found look xs) (result_err (each_list f xs))
  each_list_blamed f look blamed [] = tt
  each_list_blamed f look blamed (x ∷ xs) =
      blamed_then (f x) _ (look x) (first_found look xs) (blamed x) (λ y is. blamed_map (each_list f xs) _ (first_found look xs) (each_list_blamed f look blamed xs))

  pub blamed_alone : (o : Option Culprit) (x : Option Cause) → IsToBlame s o x → IsToBlame s (option_or o None) x
  blamed_alone (Some k) x h = h
  blamed_alone None x h = h
