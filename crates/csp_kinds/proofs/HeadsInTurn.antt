-- Channels are added one after the other, each with the same field sets.
use Rattle.std.specs.Prelude.{replicate, take, is_some}
use Rattle.std.specs.Option.{option_or}
use Rattle.std.proofs.lemmas.List.{append_assoc, map-append, take_all, take_more}
use Rattle.std.proofs.Common.{◌≡◌, ◌<◌, ◌≤◌, ℕ, ◌+◌, Bool, List, [], ◌∷◌, ◌++◌, append-nil, length, length-append, get_or, map, Option, Some, None, refl, sym, ap, ap₂, ◌∙◌, subst}
use Rattle.theory_text.specs.Place.{Place}
use Rattle.theory_text.specs.Raw.{RawName, RawScript}
use Rattle.theory_checking.specs.Sets.{types_of, channel_members, number_of_events}
use Rattle.theory_checking.specs.Sites.{in_heads}
use Rattle.theory_checking.specs.Faults.{KindFault}
use Rattle.std.specs.declared.vec.Vec.{Vec}
use Rattle.csp_value.specs.declared.field_set.FieldSet.{FieldSet}
use Rattle.csp_names.specs.Scopes.{known_sets}
use Rattle.csp_parse.specs.declared.names.Name.{Name}
use Rattle.csp_parse.specs.Names.{name_of}
use Rattle.theory_checking.specs.Rules.{SomeFit}
use Rattle.csp_kinds.specs.Faults.{IsFaultOf, both_counts, head_fault}
use Rattle.csp_kinds.specs.Members.{IsCount, events_in}
use Rattle.csp_kinds.proofs.Cutting.{copies_join}
use Rattle.csp_kinds.proofs.Heads.{Sets, both_counted, events_and_one, one_more_head}

-- Behind these names the channels are counted, and this is the first fault at the names.
abbrev pub HeadsCount : List (Option Sets) → Option ℕ → Option Sets → List RawName → List (Option Sets) → Option ℕ → Option (KindFault × Place) → Type 0
HeadsCount old old_events own names new new_events fault =
    (raw so_far : RawScript) (rest : List (Option Sets)) → SomeFit (types_of raw) so_far → channel_members raw ≡ new ++ rest → IsCount old_events (number_of_events old) →
    IsCount new_events (number_of_events new) × IsFaultOf (in_heads raw so_far (length old) names) fault

pub record HeadsSoFar (old : List (Option Sets)) (old_events : Option ℕ) (own : Option Sets) (names : List RawName) (new : List (Option Sets)) (new_events : Option ℕ) (fault : Option (KindFault × Place)) : Type 0 where
  pub added : new ≡ old ++ replicate (length names) own
  pub heads : HeadsCount old old_events own names new new_events fault
  pub quiet : own ≡ None → fault ≡ None

pub no_heads : (old : List (Option Sets)) (events : Option ℕ) (own : Option Sets) → HeadsSoFar old events own [] old events None
no_heads old events own = record { added = sym (append-nil old); heads = λ raw so_far rest fit all counted. (counted, tt); quiet = λ e. refl }

module _ (old : List (Option Sets)) (old_events : Option ℕ) (own : Option Sets) (own_events : Option ℕ) (counted_own : IsCount own_events (events_in own)) (names : List RawName) (n : RawName)
    (now : List (Option Sets)) (now_events : Option ℕ) (fault : Option (KindFault × Place)) (h : HeadsSoFar old old_events own names now now_events fault) where
  pub one_head_more : (new : List (Option Sets)) (new_events : Option ℕ) (next : Option (KindFault × Place)) → new ≡ now ++ own ∷ [] → new_events ≡ both_counts now_events own_events →
      next ≡ option_or fault (head_fault n (is_some own) new_events) → HeadsSoFar old old_events own (names ++ n ∷ []) new new_events next
  one_head_more new new_events next pushed sum first = record { added = added; heads = heads; quiet = quiet }
    where
      added : new ≡ old ++ replicate (length (names ++ n ∷ [])) own
      added =
          let many : length (names ++ n ∷ []) ≡ length names + 1 = length-append names (n ∷ []) in
          pushed ∙ ap (λ cs. cs ++ own ∷ []) h.added ∙ append_assoc old (replicate (length names) own) (own ∷ []) ∙ ap (λ cs. old ++ cs) (copies_join (length names) 1 own ∙ ap (λ k. replicate k own) (sym many))

      quiet : own ≡ None → next ≡ None
      quiet none = first ∙ ap₂ (λ f b. option_or f (head_fault n b new_events)) (h.quiet none) (ap is_some none)

      heads : HeadsCount old old_events own (names ++ n ∷ []) new new_events next
      heads raw so_far rest fit all counted =
          let there : channel_members raw ≡ now ++ own ∷ rest = all ∙ ap (λ cs. cs ++ rest) pushed ∙ append_assoc now (own ∷ []) rest in
          let before = h.heads raw so_far (own ∷ rest) fit there counted in
          let both = both_counted now_events own_events (number_of_events now) (events_in own) before.0 counted_own in
          let events : IsCount new_events (number_of_events (now ++ own ∷ [])) = subst (λ e. IsCount e (number_of_events (now ++ own ∷ []))) (sym sum) (subst (IsCount (both_counts now_events own_events)) (sym (events_and_one now own)) both) in
          let one = one_more_head raw so_far names n old own rest fault new_events fit (there ∙ ap (λ cs. cs ++ own ∷ rest) h.added) before.1
          (subst (λ cs. IsCount new_events (number_of_events (cs ++ own ∷ []))) h.added events) in
          (subst (λ cs. IsCount new_events (number_of_events cs)) (sym pushed) events, subst (IsFaultOf (in_heads raw so_far (length old) (names ++ n ∷ []))) (sym first) one)

-- ---- the names of the code in turn

module _ (old : List (Option Sets)) (old_events : Option ℕ) (own : Option Sets) (names : List Name) (i : ℕ) where
  pub next_head : (d : Name) → i < length names → (own_events : Option ℕ) → IsCount own_events (events_in own) → (now : List (Option Sets)) (now_events : Option ℕ) (fault : Option (KindFault × Place)) →
      HeadsSoFar old old_events own (map name_of (take i names)) now now_events fault → (new : List (Option Sets)) (new_events : Option ℕ) (next : Option (KindFault × Place)) → new ≡ now ++ own ∷ [] →
      new_events ≡ both_counts now_events own_events → (here : Option (KindFault × Place)) (has_sets : Bool) → next ≡ option_or fault here → here ≡ head_fault (name_of (get_or names i d)) has_sets new_events → has_sets ≡ is_some own →
      HeadsSoFar old old_events own (map name_of (take (i + 1) names)) new new_events next
  next_head d within own_events counted now now_events fault h new new_events next pushed sum here has_sets first is same =
      let longer : map name_of (take (i + 1) names) ≡ map name_of (take i names) ++ name_of (get_or names i d) ∷ [] =
      ap (map name_of) (take_more names i d within) ∙ map-append name_of (take i names) (get_or names i d ∷ []) in
      subst (λ ns. HeadsSoFar old old_events own ns new new_events next) (sym longer)
      (one_head_more old old_events own own_events counted (map name_of (take i names)) (name_of (get_or names i d)) now now_events fault h new new_events next pushed sum
      (first ∙ ap (option_or fault) (is ∙ ap (λ b. head_fault (name_of (get_or names i d)) b new_events) same)))

  pub all_heads : length names ≤ i → (new : List (Option Sets)) (new_events : Option ℕ) (fault : Option (KindFault × Place)) → HeadsSoFar old old_events own (map name_of (take i names)) new new_events fault →
      HeadsSoFar old old_events own (map name_of names) new new_events fault
  all_heads over new new_events fault h = subst (λ ns. HeadsSoFar old old_events own (map name_of ns) new new_events fault) (take_all i names over) h

pub known_some : {A : Type 0} (o : Option (Vec (FieldSet A) A)) → is_some o ≡ is_some (known_sets o)
known_some (Some sets) = refl
known_some None = refl
