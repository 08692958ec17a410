-- The origins of small steps.
use Rattle.std.proofs.Common.{◌≡◌, [], ◌∷◌, refl, sym, inl, inr, ◌⊎◌}
use Rattle.theory_syntax.specs.Value.{Tau}
use Rattle.theory_syntax.specs.Expression.{no_expressions}
use Rattle.theory_syntax.specs.Process.{Process, Stop, Skip, Call, InternalChoice}
use Rattle.theory_syntax.proofs.Members.{contains_here}
use Rattle.theory_semantics.specs.Meaning.Transitions.{RuleStep, prefix, call, internal_left, internal_right}
use Rattle.theory_semantics.specs.Laws.Terms.{letters, letter, a_stop, looping}
use Rattle.theory_origins.specs.Origin.{Left, Right, Origin, Chooses, Unfolds, origin, ComesFrom}

-- `a -> STOP` does a
abbrev pub a_done : RuleStep (letters []) a_stop (letter 0) Stop
a_done = prefix (record { values = []; bindings = [] } ∷ []) (record { values = []; bindings = [] }) refl (contains_here _ [])

either_side : (o : Origin) (h : RuleStep (letters []) (InternalChoice Skip Skip) Tau Skip) → origin h ≡ o → (o ≡ Chooses Left) ⊎ (o ≡ Chooses Right)
either_side o internal_left e = inl (sym e)
either_side o internal_right e = inr (sym e)

pub chosen : (o : Origin) → ComesFrom (letters []) (InternalChoice Skip Skip) Tau Skip o → (o ≡ Chooses Left) ⊎ (o ≡ Chooses Right)
chosen o c = either_side o c.0 c.1

by_equation : (o : Origin) (t : Process) (h : RuleStep looping (Call 0 no_expressions) Tau t) → origin h ≡ o → o ≡ Unfolds 0
by_equation o t (call is) e = sym e

pub unfolded : (o : Origin) → ComesFrom looping (Call 0 no_expressions) Tau (Call 0 no_expressions) o → o ≡ Unfolds 0
unfolded o c = by_equation o (Call 0 no_expressions) c.0 c.1
