-- Ways that are added one by one, by a list of events.
use Rattle.std.proofs.Common.{◌≡◌, ℕ, ◌+◌, ◌<◌, ◌≤◌, List, [], ◌∷◌, ◌++◌, length, map, take, get_or, sym, ◌∙◌, ap, ap₂}
use Rattle.std.proofs.lemmas.List.{append_assoc, map-append, take_all, take_more}
use Rattle.theory_syntax.specs.Value as pure
use Rattle.csp_value.specs.Action.{event_of}
use Rattle.csp_value.specs.declared.action.Event.{Event}
use Rattle.theory_origins.specs.Ways as meaning
use Rattle.csp_moves.specs.declared.way.Way.{Way}
use Rattle.csp_moves.specs.Way.{way_of}

module _ {A : Type 0} (f : pure.Event → meaning.Way) where
  pub one_way_more : (before : List meaning.Way) (events : List (Event A)) (i : ℕ) (event : Event A) → i < length events → event ≡ get_or events i event → (now more : List (Way A)) (way : Way A) →
      map way_of now ≡ before ++ map f (map event_of (take i events)) → more ≡ now ++ way ∷ [] → way_of way ≡ f (event_of event) → map way_of more ≡ before ++ map f (map event_of (take (i + 1) events))
  one_way_more before events i event in_range read now more way so_far pushed is =
      let done = map f (map event_of (take i events)) in
      let next : map f (map event_of (take (i + 1) events)) ≡ done ++ f (event_of event) ∷ [] =
      ap (λ es. map f (map event_of es)) (take_more events i event in_range ∙ ap (λ e. take i events ++ e ∷ []) (sym read))
      ∙ ap (map f) (map-append event_of (take i events) (event ∷ [])) ∙ map-append f (map event_of (take i events)) (event_of event ∷ []) in
      ap (map way_of) pushed ∙ map-append way_of now (way ∷ []) ∙ ap₂ (λ vs w. vs ++ w ∷ []) so_far is ∙ append_assoc before done (f (event_of event) ∷ []) ∙ ap (λ ws. before ++ ws) (sym next)

  pub all_ways : (events : List (Event A)) (i : ℕ) → length events ≤ i → map f (map event_of (take i events)) ≡ map f (map event_of events)
  all_ways events i past = ap (λ es. map f (map event_of es)) (take_all i events past)
