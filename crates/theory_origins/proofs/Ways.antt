-- What is told along a way, by what is told of its parts.
use Rattle.std.proofs.Common.{◌≡◌, [], ◌∷◌, refl, sym, ◌∙◌, subst, arith, Option, Some, None, Bool, true, false, IsTrue}
use Rattle.std.specs.Option.{option_map}
use Rattle.theory_syntax.specs.Value.{Action, Tick}
use Rattle.theory_syntax.specs.Process.{Process, Omega, Script}
use Rattle.theory_semantics.specs.Meaning.Limits.{fits}
use Rattle.theory_semantics.specs.Meaning.Transitions.{RuleStep}
use Rattle.theory_origins.specs.Origin.{Passage, Origin, Below, ComesFrom}
use Rattle.theory_origins.specs.Telling.{IsBody, Tells, TellsUnder, TellsWhere}
use Rattle.theory_origins.specs.Ways.{AreWays, Here, IsBodyWhere, IsEndAt, TellsBy, TellsTo, Through, part}
use Rattle.theory_origins.proofs.Ending.{ends_by_tick}

module _ (passage : Passage) where
  from_part : (l : Option Origin) (o : Origin) → Some o ≡ option_map (Below passage) l → (b : Origin) × (l ≡ Some b) × (o ≡ Below passage b)
  from_part (Some b) o e = (b, refl, cc e)
  from_part None o e = absurd (cc e)

  none_from_part : (l : Option Origin) → None ≡ option_map (Below passage) l → l ≡ None
  none_from_part (Some b) e = absurd (cc e)
  none_from_part None e = refl

module _ (s : Script) (p : Process) (x : Action) (target : Option Process) where
  -- an origin along the way to a part is one below an origin of the part's step
  pub along : (passage : Passage) (whole : Process) (y : Action) (t : Process) → ((b : Origin) → TellsTo s p x target (Some b) → ComesFrom s whole y t (Below passage b)) →
      (o : Origin) → TellsBy s (Through passage (part p x target)) (Some o) → ComesFrom s whole y t o
  along passage whole y t rule o h =
      let b = from_part passage h.0 o h.2 in
      let P : Origin → Type 0 = λ n. ComesFrom s whole y t n in
      subst P (sym b.2) (rule b.0 (let T : Option Origin → Type 0 = λ l. TellsTo s p x target l in subst T b.1 h.1))

  pub closed : (passage : Passage) → TellsBy s (Through passage (part p x target)) None → TellsTo s p x target None
  closed passage h = let T : Option Origin → Type 0 = λ l. TellsTo s p x target l in subst T (none_from_part passage h.0 h.2) h.1

pub here_comes : (s : Script) (p : Process) (x : Action) (t : Process) (h : Origin) → ComesFrom s p x t h → (o : Origin) → TellsBy s (Here h) (Some o) → ComesFrom s p x t o
here_comes s p x t h comes o is = let P : Origin → Type 0 = λ n. ComesFrom s p x t n in let e : h ≡ o = cc is in subst P e comes

-- no way, and no step
pub no_ways : (s : Script) (p : Process) (x : Action) (t : Process) → Tells s p x t None → AreWays s p x t []
no_ways s p x t none = record { sound = tt; complete = λ all. none; smaller = tt }

module _ (s : Script) (under : Process → Process) (p : Process) (x : Action) (t : Process) where
  pub told_under : (target : Option Process) → IsBody under t target → (b : Origin) → TellsTo s p x target (Some b) → TellsUnder s under p x t (Some b)
  told_under (Some u) is b h = (u, is.0, h)
  told_under None is b h = absurd (cc h)

  pub none_under : (target : Option Process) → IsBody under t target → TellsTo s p x target None → TellsUnder s under p x t None
  none_under (Some u) is h = λ clear v made within step.
      let P : Process → Type 0 = λ w. IsTrue (fits w) → RuleStep s p x w → ⊥ in subst P (sym (is.1 v made)) (h clear) within step
  none_under None is h = λ clear v made within step. is v made

  -- the same where it may be taken apart
  pub told_where : (b : Bool) (target : Option Process) → IsBodyWhere b under t target → (o : Origin) → TellsTo s p x target (Some o) → (b ≡ true) × TellsUnder s under p x t (Some o)
  told_where true target is o h = (refl, told_under target is o h)
  told_where false (Some u) is o h = absurd (cc is)
  told_where false None is o h = absurd (cc h)

  pub none_where : (b : Bool) (target : Option Process) → IsBodyWhere b under t target → TellsTo s p x target None → TellsWhere b (TellsUnder s under p x t) None
  none_where true target is h = none_under target is h
  none_where false target is h = refl

module _ (s : Script) (p q t : Process) where
  pub told_end : (target : Option Process) → IsEndAt t q target → (o : Origin) → TellsTo s p Tick target (Some o) → (t ≡ q) × ComesFrom s p Tick Omega o
  told_end (Some u) is o h = (is.0, let P : Process → Type 0 = λ w. ComesFrom s p Tick w o in subst P is.1 h)
  told_end None is o h = absurd (cc h)

  pub none_end : (target : Option Process) → IsEndAt t q target → TellsTo s p Tick target None → TellsUnder s (λ u. q) p Tick t None
  none_end (Some u) is h = λ clear v made within step.
      let P : Process → Type 0 = λ w. IsTrue (fits w) → RuleStep s p Tick w → ⊥ in subst P (is.1 ∙ sym (ends_by_tick s p v step)) (h clear) within step
  none_end None is h = λ clear v made within step. is made

-- an origin that the step has is the only way to look
pub one_here : (s : Script) (p : Process) (x : Action) (t : Process) (o : Origin) → ComesFrom s p x t o → AreWays s p x t (Here o ∷ [])
one_here s p x t o comes = record {
  sound = (here_comes s p x t o comes, tt);
  complete = λ all. absurd (let e = all.0 in cc e);
  smaller = (omega arith, tt);
}
