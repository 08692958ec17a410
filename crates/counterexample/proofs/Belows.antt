-- The event of a part, the same as above or another one.
use Rattle.std.proofs.Common.{◌≡◌, ℕ, Bool, true, false, List, [], ◌∷◌, ◌++◌, length, map, if◌then◌else◌, refl, sym, ◌∙◌, ap, arith}
use Rattle.std.specs.Prelude.{codes, ◌==◌}
use Rattle.std.proofs.lemmas.Bool.{eqb-true}
use Rattle.theory_syntax.specs.Value.{Event, event_eq}
use Rattle.theory_syntax.proofs.Equalities.{event_refl, event_same}
use Rattle.theory_notation.specs.Names.{Names}
use Rattle.theory_explanation.specs.Actions.{event_text}
use Rattle.theory_explanation.specs.Legend.{Legend, called, is_nil, name_here, part_text}
use Rattle.theory_explanation.specs.PartNames.{name_of}
use Rattle.theory_explanation.specs.Origins.{below_text, doer_text}
use Rattle.csp_moves.specs.Passage.{side_of}
use Rattle.csp_moves.specs.declared.passage.Side as code

module _ (names : Names) (e f : Event) where
  by_test : (b : Bool) → event_eq e f ≡ b → (if b then [] else codes " as " ++ event_text names f) ≡ below_text names e f
  by_test b is = sym (ap (λ x. if x then [] else codes " as " ++ event_text names f) is)

  pub same_below : e ≡ f → [] ≡ below_text names e f
  same_below same = by_test true (ap (event_eq e) (sym same) ∙ event_refl e)

  pub other_below : (e ≡ f → ⊥) → codes " as " ++ event_text names f ≡ below_text names e f
  other_below other = by (event_eq e f) refl
    where
      by : (b : Bool) → event_eq e f ≡ b → codes " as " ++ event_text names f ≡ below_text names e f
      by true is = absurd (other (event_same e f is))
      by false is = by_test false is

some_sides : (ws : List code.Side) → (length ws == 0) ≡ false → is_nil (map side_of ws) ≡ false
some_sides [] some = absurd (cc some)
some_sides (s ∷ ws) some = refl

-- a part with a way is told behind the mark
pub told_at : (l : Legend) (seen : Event) (mark : List ℕ) (ws : List code.Side) (e : Event) → (length ws == 0) ≡ false →
    mark ++ (part_text l (map side_of ws) ++ below_text l.names seen e) ≡ doer_text l seen mark (record { way = map side_of ws; event = e })
told_at l seen mark ws e some = sym (ap (λ b. if b then below_text l.names seen e else mark ++ (part_text l (map side_of ws) ++ below_text l.names seen e)) (some_sides ws some))

no_sides : (ws : List code.Side) → (length ws == 0) ≡ true → is_nil (map side_of ws) ≡ true
no_sides [] none = refl
no_sides (s ∷ ws) none = absurd (let some : length (s ∷ ws) ≡ 0 = eqb-true (length (s ∷ ws)) 0 none in omega (arith, some))

-- one without a way is not
pub told_bare : (l : Legend) (seen : Event) (mark : List ℕ) (ws : List code.Side) (e : Event) → (length ws == 0) ≡ true → below_text l.names seen e ≡ doer_text l seen mark (record { way = map side_of ws; event = e })
told_bare l seen mark ws e none = sym (ap (λ b. if b then below_text l.names seen e else mark ++ (part_text l (map side_of ws) ++ below_text l.names seen e)) (no_sides ws none))

-- what is told where a legend stands, by whether it is at the whole
pub here_at : (l : Legend) (ws : List code.Side) → l.way ≡ map side_of ws → (length ws == 0) ≡ false → called l.names (name_of l.parts l.way) ≡ name_here l
here_at l ws is some = sym (ap (λ b. if b then [] else called l.names (name_of l.parts l.way)) (ap is_nil is ∙ some_sides ws some))

pub here_whole : (l : Legend) (ws : List code.Side) → l.way ≡ map side_of ws → (length ws == 0) ≡ true → [] ≡ name_here l
here_whole l ws is none = sym (ap (λ b. if b then [] else called l.names (name_of l.parts l.way)) (ap is_nil is ∙ no_sides ws none))
