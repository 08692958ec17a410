-- Steps that are listed as moves.
use Rattle.std.proofs.Common.{◌≡◌, List, [], ◌∷◌, ◌++◌, length, map, refl, sym, ◌∙◌, ap, subst, arith, append_assoc, append-nil}
use Rattle.std.proofs.lemmas.List.{map-append}
use Rattle.theory_syntax.specs.Value as values
use Rattle.theory_syntax.specs.Process.{Process, Script}
use Rattle.theory_origins.specs.Telling.{Tells}
use Rattle.theory_walk.specs.Moves as pure
use Rattle.theory_walk.specs.Moves.{AreTold, step_in}
use Rattle.theory_walk.proofs.Offered.{told_more}
use Rattle.csp_fire.specs.Form.{step_of}
use Rattle.csp_fire.specs.declared.form.Step.{Step}
use Rattle.state_walk.specs.Walks.{move_of, moves_listed}
use Rattle.state_walk.specs.declared.menu.Move.{Move}

module _ {A : Type 0} (old new : List (Move A)) (m : Move A) (is : new ≡ old ++ m ∷ []) where
  pub listed_more : moves_listed new ≡ moves_listed old ++ move_of m ∷ []
  listed_more = ap moves_listed is ∙ map-append move_of old (m ∷ [])

  -- one step of those that are left is a move
  pub all_more : (left rest : List (Step A)) (x : Step A) (all : List (values.Action × Process)) → left ≡ x ∷ rest → step_in (move_of m) ≡ step_of x →
      map step_in (moves_listed old) ++ map step_of left ≡ all → map step_in (moves_listed new) ++ map step_of rest ≡ all
  all_more left rest x all read same kept =
      let front = map step_in (moves_listed old) in
      ap (λ ss. ss ++ map step_of rest) (ap (map step_in) listed_more ∙ map-append step_in (moves_listed old) (move_of m ∷ []))
      ∙ append_assoc front (step_in (move_of m) ∷ []) (map step_of rest)
      ∙ ap (λ (s : values.Action × Process). front ++ s ∷ map step_of rest) same ∙ ap (λ (ss : List (Step A)). front ++ map step_of ss) (sym read) ∙ kept

  pub told_too : (script : Script) (t : Process) → AreTold script t (moves_listed old) → Tells script t (move_of m).action (move_of m).target (move_of m).origin → AreTold script t (moves_listed new)
  told_too script t told one = subst (AreTold script t) (sym listed_more) (told_more script t (moves_listed old) (move_of m) told one)

pub none_left : {X : Type 0} (xs : List X) → length xs ≡ 0 → xs ≡ []
none_left [] none = refl
none_left (x ∷ xs) none = absurd (omega (arith, none))

-- all are listed
pub all_listed : {A : Type 0} (moves : List (Move A)) (left : List (Step A)) (all : List (values.Action × Process)) → left ≡ [] → map step_in (moves_listed moves) ++ map step_of left ≡ all → map step_in (moves_listed moves) ≡ all
all_listed {A} moves left all none kept =
    sym (append-nil (map step_in (moves_listed moves))) ∙ ap (λ (ss : List (Step A)). map step_in (moves_listed moves) ++ map step_of ss) (sym none) ∙ kept
