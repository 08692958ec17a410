-- The derived `==` is true exactly where two values stand for the same.
use denote.RattleType
use mir.Syntax
use Rattle.std.proofs.Common.{◌≡◌, Bool, sym, ap, ◌∙◌}
use Rattle.std.specs.declared.alloc.Allocator as allocator
use Rattle.std.specs.Ordering.{is_eq}
use Rattle.theory_syntax.specs.Value as pure
use Rattle.theory_syntax.proofs.Equalities.{is_eq-Equal, value_same, value_refl, values_same, values_refl}
use Rattle.csp_value.specs.declared.value.Value.{Value}
use Rattle.csp_value.specs.declared.set.SetOf.{SetOf}
use Rattle.csp_value.specs.contracts.value.ValuePartialEq.TheImpl as value_impl
use Rattle.csp_value.specs.contracts.set.SetOfPartialEq.TheImpl as set_impl
use Rattle.csp_value.specs.contracts.value.ValueOrd.TheImpl.Laws as value_laws
use Rattle.csp_value.specs.contracts.set.SetOfOrd.TheImpl.Laws as set_laws
use Rattle.csp_value.specs.Value.{value_of, members_of}
use Rattle.csp_value.proofs.ValueOrder.{cmp, set_cmp, ordered, ordered_set}
use Rattle.csp_value.proofs.Sameness.{Tells}

module _ (R : RattleType.RattleType) (A : allocator.Ghosts R.Denot) (ad dd : Syntax.Dict) where
  abbrev pub value_eq : Value R.Denot → Value R.Denot → Bool
  value_eq = (value_impl.ghosts R A ad dd).eq

  pub value_tells : Tells value_eq (value_of {A = R.Denot})
  value_tells = record {
    sound = λ x y e.
        value_same (value_of x) (value_of y) (sym (ordered R A ad dd x y) ∙ is_eq-Equal (cmp R A ad dd x y) (sym (value_laws.matches_eq-law R A ad dd x y) ∙ e));
    complete = λ x y e. value_laws.matches_eq-law R A ad dd x y ∙ ap is_eq (ordered R A ad dd x y ∙ ap (pure.value_cmp (value_of x)) (sym e) ∙ value_refl (value_of x));
  }

  abbrev pub set_eq : SetOf R.Denot → SetOf R.Denot → Bool
  set_eq = (set_impl.ghosts R A ad dd).eq

  pub set_tells : Tells set_eq (members_of {A = R.Denot})
  set_tells = record {
    sound = λ x y e.
        values_same (members_of x) (members_of y)
        (sym (ordered_set R A ad dd x y) ∙ is_eq-Equal (set_cmp R A ad dd x y) (sym (set_laws.matches_eq-law R A ad dd x y) ∙ e));
    complete = λ x y e. set_laws.matches_eq-law R A ad dd x y ∙ ap is_eq (ordered_set R A ad dd x y ∙ ap (pure.values_cmp (members_of x)) (sym e) ∙ values_refl (members_of x));
  }

  -- and tests what the definitions test
  pub same_test : (x y : Value R.Denot) → value_eq x y ≡ pure.value_eq (value_of x) (value_of y)
  same_test x y = value_laws.matches_eq-law R A ad dd x y ∙ ap is_eq (ordered R A ad dd x y)
