-- The acceptances of steps by the answers to three questions: is there a tick, is there a tau, is there one action.
use Rattle.std.proofs.Common.{◌≡◌, nat_eq, Bool, true, false, ◌&&◌, ◌||◌, cond, List, [], ◌∷◌, ◌++◌, length, map, sym, ◌∙◌, ap, ap₂}
use Rattle.std.proofs.lemmas.List.{append-nil, map-append}
use Rattle.theory_syntax.specs.Value.{Action, Tick}
use Rattle.theory_semantics.specs.Meaning.Stepping.{Steps}
use Rattle.csp_fire.specs.Offering.{actions_of, has_tau, has_tick, offers_of, tick_offer}

module _ {V : Type 0} (acts : V → List Action) (ss : Steps) (offers : List V) where
  -- tick alone is offered
  pub with_tick : (none : List V) (one : V) → has_tick ss ≡ true → none ≡ [] → offers ≡ none ++ one ∷ [] → acts one ≡ Tick ∷ [] → map acts offers ≡ tick_offer ss
  with_tick none one is nothing pushed alone =
      ap (map acts) (pushed ∙ ap (λ vs. vs ++ one ∷ []) nothing) ∙ ap (λ xs. xs ∷ []) alone ∙ ap (λ t. cond t ((Tick ∷ []) ∷ []) []) (sym is)

  -- or nothing
  pub without_tick : has_tick ss ≡ false → offers ≡ [] → map acts offers ≡ tick_offer ss
  without_tick is nothing = ap (map acts) nothing ∙ ap (λ t. cond t ((Tick ∷ []) ∷ []) []) (sym is)

  abbrev Alone : Bool
  Alone = has_tick ss && nat_eq (length (actions_of ss)) 1

  with_stable : (tau alone : Bool) → has_tau ss ≡ tau → Alone ≡ alone → tick_offer ss ++ cond (tau || alone) [] (actions_of ss ∷ []) ≡ offers_of ss
  with_stable tau alone is only = ap₂ (λ t o. tick_offer ss ++ cond (t || o) [] (actions_of ss ∷ [])) (sym is) (sym only)

  module _ (ticks : map acts offers ≡ tick_offer ss) where
    -- nothing more, where there is a tau
    pub unstable : has_tau ss ≡ true → map acts offers ≡ offers_of ss
    unstable is = ticks ∙ sym (append-nil (tick_offer ss)) ∙ with_stable true Alone is (λ _. Alone)

    -- nor where tick is the only action
    pub only_tick : has_tau ss ≡ false → Alone ≡ true → map acts offers ≡ offers_of ss
    only_tick is only = ticks ∙ sym (append-nil (tick_offer ss)) ∙ with_stable false true is only

    -- else all actions
    pub stable : (all : V) (more : List V) → has_tau ss ≡ false → Alone ≡ false → acts all ≡ actions_of ss → more ≡ offers ++ all ∷ [] → map acts more ≡ offers_of ss
    stable all more is only same pushed =
        ap (map acts) pushed ∙ map-append acts offers (all ∷ []) ∙ ap₂ (λ os xs. os ++ xs ∷ []) ticks same ∙ with_stable false false is only
