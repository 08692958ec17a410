-- The parts that are told to do an event can do it.
use Rattle.std.proofs.Common.{◌≡◌, ◌≢◌, List, [], ◌∷◌, ◌++◌, Contains, refl, sym, ◌∙◌, subst, ⊎_elim}
use Rattle.std.proofs.lemmas.List.Elements.{Contains-append_cases, Contains-append_right}
use Rattle.theory_syntax.specs.Value.{Event, Action, Tau, Tick, Ev}
use Rattle.theory_syntax.specs.Process.{Process, Script}
use Rattle.theory_syntax.proofs.Places.{get_front, get_map, get_only, get_some}
use Rattle.theory_semantics.proofs.Rising.{stands_from_Contains, Contains-from_stands}
use Rattle.theory_semantics.specs.Meaning.Transitions.{RuleStep, skip, prefix, call, guard, if_true, if_false, external_tau_left, external_tau_right, external_left, external_right, internal_left, internal_right, sequential, sequential_tick, interleaving_left, interleaving_right, interleaving_tick_left, interleaving_tick_right, interleaving_tick, interrupt_left, interrupt_tick, interrupt_tau_right, interrupt_right, generalised_left, generalised_right, generalised_both, generalised_tick_left, generalised_tick_right, generalised_tick, alphabetised_left, alphabetised_right, alphabetised_both, alphabetised_tick_left, alphabetised_tick_right, alphabetised_tick, hiding_tau, hiding_hidden, hiding_event, hiding_tick, renaming_tau, renaming_event, renaming_tick, replicated_external, replicated_internal, replicated_interleaving, sliding_tau, sliding_left, sliding_away}
use Rattle.theory_origins.specs.Action.{action_of}
use Rattle.theory_origins.specs.Origin.{Side, Left, Right, Origin, ComesFrom, origin}
use Rattle.theory_origins.specs.Doers.{Doer, further, all_further, by_itself, doers, IsDoneBy, AreDoneBy}
use Rattle.theory_origins.specs.Parts.{Placed, placed_further, placed_on, placed_parts}
use Rattle.theory_origins.proofs.Reading.{tells_action}

module _ (script : Script) where
  none : (p : Process) → AreDoneBy script p []
  none p d c = absurd (cc (stands_from_Contains [] d c).1)

  -- the part itself, which is one
  alone : (p t : Process) (x : Action) → RuleStep script p x t → Contains (placed_parts p) (record { way = []; process = p }) → AreDoneBy script p (by_itself x)
  alone p t Tau step here = none p
  alone p t Tick step here = none p
  alone p t (Ev e) step here = λ d c.
      let at = stands_from_Contains (record { way = []; event = e } ∷ []) d c in
      let is = (get_only (record { way = []; event = e }) d at.0 at.1).1 in
      let D : Doer → Type 0 = λ z. IsDoneBy script p z in
      subst D (sym is) (record { part = p; placed = here; target = t; does = step })

  by_rule : {p t : Process} {x : Action} (step : RuleStep script p x t) → placed_parts p ≡ record { way = []; process = p } ∷ [] → AreDoneBy script p (by_itself (action_of (origin step)))
  by_rule {p} {t} {x} step one =
      let here : Contains (placed_parts p) (record { way = []; process = p }) = subst (λ ds. Contains ds (record { way = []; process = p })) (sym one) (Contains-from_stands (record { way = []; process = p } ∷ []) (record { way = []; process = p }) (0, refl)) in
      subst (λ y. AreDoneBy script p (by_itself y)) (sym (tells_action step)) (alone p t x step here)

  -- the parts of a body are those of the whole
  in_body : (p b : Process) (ds : List Doer) → placed_parts p ≡ placed_parts b → AreDoneBy script b ds → AreDoneBy script p ds
  in_body p b ds same below d c =
      let h = below d c in
      let P : List Placed → Type 0 = λ z. Contains z (record { way = d.way; process = h.part }) in
      record { part = h.part; placed = subst P (sym same) h.placed; target = h.target; does = h.does }

  -- one of the doers is one of those below
  below_side : (side : Side) (ds : List Doer) (d : Doer) → Contains (all_further side ds) d → (z : Doer) × Contains ds z × (further side z ≡ d)
  below_side side ds d c =
      let at = stands_from_Contains (all_further side ds) d c in
      let h = get_map (further side) ds at.0 d at.1 in
      (h.0, Contains-from_stands ds h.0 (at.0, h.1), h.2)

  placed_below : (side : Side) (ps : List Placed) (z : Placed) → Contains ps z → Contains (placed_on side ps) (placed_further side z)
  placed_below side ps z c =
      let at = stands_from_Contains ps z c in
      Contains-from_stands (placed_on side ps) (placed_further side z) (at.0, get_some (placed_further side) ps at.0 z at.1)

  on_side : (side : Side) (p q : Process) (ds : List Doer) → ((z : Placed) → Contains (placed_on side (placed_parts q)) z → Contains (placed_parts p) z) → AreDoneBy script q ds → AreDoneBy script p (all_further side ds)
  on_side side p q ds there below d c =
      let z = below_side side ds d c in
      let h = below z.0 z.1 in
      let D : Doer → Type 0 = λ y. IsDoneBy script p y in
      let placed = there (record { way = side ∷ z.0.way; process = h.part }) (placed_below side (placed_parts q) (record { way = z.0.way; process = h.part }) h.placed) in
      subst D z.2 (record { part = h.part; placed = placed; target = h.target; does = h.does })

  abbrev Beside : Process → Process → Process → Type 0
  Beside p l r = placed_parts p ≡ placed_on Left (placed_parts l) ++ placed_on Right (placed_parts r)

  there_left : (p l r : Process) → Beside p l r → (z : Placed) → Contains (placed_on Left (placed_parts l)) z → Contains (placed_parts p) z
  there_left p l r two z c = let at = stands_from_Contains (placed_on Left (placed_parts l)) z c in
      subst (λ ps. Contains ps z) (sym two) (Contains-from_stands (placed_on Left (placed_parts l) ++ placed_on Right (placed_parts r)) z (at.0, get_front (placed_on Left (placed_parts l)) (placed_on Right (placed_parts r)) at.0 z at.1))

  there_right : (p l r : Process) → Beside p l r → (z : Placed) → Contains (placed_on Right (placed_parts r)) z → Contains (placed_parts p) z
  there_right p l r two z c = subst (λ ps. Contains ps z) (sym two) (Contains-append_right (placed_on Left (placed_parts l)) (placed_on Right (placed_parts r)) z c)

  left_of : (p l r : Process) (ds : List Doer) → Beside p l r → AreDoneBy script l ds → AreDoneBy script p (all_further Left ds)
  left_of p l r ds two = on_side Left p l ds (there_left p l r two)

  right_of : (p l r : Process) (ds : List Doer) → Beside p l r → AreDoneBy script r ds → AreDoneBy script p (all_further Right ds)
  right_of p l r ds two = on_side Right p r ds (there_right p l r two)

  both_of : (p l r : Process) (ds es : List Doer) → Beside p l r → AreDoneBy script l ds → AreDoneBy script r es → AreDoneBy script p (all_further Left ds ++ all_further Right es)
  both_of p l r ds es two first second d c = ⊎_elim (left_of p l r ds two first d) (right_of p l r es two second d) (Contains-append_cases (all_further Left ds) (all_further Right es) d c)

  pub doers_can : {p t : Process} {x : Action} → (step : RuleStep script p x t) → AreDoneBy script p (doers (origin step))
  doers_can {p} skip = none p
  doers_can (prefix all m is has) = by_rule (prefix all m is has) refl
  doers_can {p} (call is) = none p
  doers_can (guard is step) = by_rule (guard is step) refl
  doers_can (if_true is step) = by_rule (if_true is step) refl
  doers_can (if_false is step) = by_rule (if_false is step) refl
  doers_can (external_tau_left step) = by_rule (external_tau_left step) refl
  doers_can (external_tau_right step) = by_rule (external_tau_right step) refl
  doers_can (external_left visible step) = by_rule (external_left visible step) refl
  doers_can (external_right visible step) = by_rule (external_right visible step) refl
  doers_can {p} internal_left = none p
  doers_can {p} internal_right = none p
  doers_can (sequential no_tick step) = by_rule (sequential no_tick step) refl
  doers_can {p} (sequential_tick step) = none p
  doers_can {p} (interleaving_left {p = l} {q = r} no_tick step) = left_of p l r (doers (origin step)) refl (doers_can step)
  doers_can {p} (interleaving_right {p = l} {q = r} no_tick step) = right_of p l r (doers (origin step)) refl (doers_can step)
  doers_can {p} (interleaving_tick_left step) = none p
  doers_can {p} (interleaving_tick_right step) = none p
  doers_can {p} interleaving_tick = none p
  doers_can (interrupt_left no_tick step) = by_rule (interrupt_left no_tick step) refl
  doers_can (interrupt_tick step) = by_rule (interrupt_tick step) refl
  doers_can (interrupt_tau_right step) = by_rule (interrupt_tau_right step) refl
  doers_can (interrupt_right visible step) = by_rule (interrupt_right visible step) refl
  doers_can {p} (generalised_left {p = l} {q = r} outside step) = left_of p l r (doers (origin step)) refl (doers_can step)
  doers_can {p} (generalised_right {p = l} {q = r} outside step) = right_of p l r (doers (origin step)) refl (doers_can step)
  doers_can {p} (generalised_both {p = l} {q = r} shared left right) = both_of p l r (doers (origin left)) (doers (origin right)) refl (doers_can left) (doers_can right)
  doers_can {p} (generalised_tick_left step) = none p
  doers_can {p} (generalised_tick_right step) = none p
  doers_can {p} generalised_tick = none p
  doers_can {p} (alphabetised_left {p = l} {q = r} within step) = left_of p l r (doers (origin step)) refl (doers_can step)
  doers_can {p} (alphabetised_right {p = l} {q = r} within step) = right_of p l r (doers (origin step)) refl (doers_can step)
  doers_can {p} (alphabetised_both {p = l} {q = r} in_left in_right left right) = both_of p l r (doers (origin left)) (doers (origin right)) refl (doers_can left) (doers_can right)
  doers_can {p} (alphabetised_tick_left step) = none p
  doers_can {p} (alphabetised_tick_right step) = none p
  doers_can {p} alphabetised_tick = none p
  doers_can {p} (hiding_tau {p = q} step) = in_body p q (doers (origin step)) refl (doers_can step)
  doers_can {p} (hiding_hidden {p = q} hidden step) = in_body p q (doers (origin step)) refl (doers_can step)
  doers_can {p} (hiding_event {p = q} seen step) = in_body p q (doers (origin step)) refl (doers_can step)
  doers_can {p} (hiding_tick {p = q} step) = in_body p q (doers (origin step)) refl (doers_can step)
  doers_can {p} (renaming_tau {p = q} step) = in_body p q (doers (origin step)) refl (doers_can step)
  doers_can {p} (renaming_event {p = q} image step) = in_body p q (doers (origin step)) refl (doers_can step)
  doers_can {p} (renaming_tick {p = q} step) = in_body p q (doers (origin step)) refl (doers_can step)
  doers_can (replicated_external vs is step) = by_rule (replicated_external vs is step) refl
  doers_can (replicated_internal v vs is step) = by_rule (replicated_internal v vs is step) refl
  doers_can (replicated_interleaving vs is step) = by_rule (replicated_interleaving vs is step) refl
  doers_can (sliding_tau step) = by_rule (sliding_tau step) refl
  doers_can (sliding_left visible step) = by_rule (sliding_left visible step) refl
  doers_can {p} sliding_away = none p

pub doers_are : (script : Script) (p : Process) (x : Action) (t : Process) (o : Origin) → ComesFrom script p x t o → AreDoneBy script p (doers o)
doers_are script p x t o (step, is) = subst (λ z. AreDoneBy script p (doers z)) is (doers_can script step)

-- ---- each event has a doer

further_some : (side : Side) (ds : List Doer) → ds ≢ [] → all_further side ds ≢ []
further_some side [] some empty = some refl
further_some side (d ∷ ds) some empty = cc empty

front_some : (ds es : List Doer) → ds ≢ [] → ds ++ es ≢ []
front_some [] es some empty = some refl
front_some (d ∷ ds) es some empty = cc empty

module _ (script : Script) where
  itself_does : {p t : Process} {x : Action} → (step : RuleStep script p x t) → (f : Event) → x ≡ Ev f → by_itself (action_of (origin step)) ≢ []
  itself_does step f same = subst (λ y. by_itself y ≢ []) (sym (tells_action step ∙ same)) (λ empty. cc empty)

  someone : {p t : Process} {x : Action} → (step : RuleStep script p x t) → (f : Event) → x ≡ Ev f → doers (origin step) ≢ []
  someone skip f same = absurd (cc same)
  someone (prefix all m is has) f same = λ empty. cc empty
  someone (call is) f same = absurd (cc same)
  someone (guard is step) f same = itself_does step f same
  someone (if_true is step) f same = itself_does step f same
  someone (if_false is step) f same = itself_does step f same
  someone (external_tau_left step) f same = absurd (cc same)
  someone (external_tau_right step) f same = absurd (cc same)
  someone (external_left visible step) f same = itself_does step f same
  someone (external_right visible step) f same = itself_does step f same
  someone internal_left f same = absurd (cc same)
  someone internal_right f same = absurd (cc same)
  someone (sequential no_tick step) f same = itself_does step f same
  someone (sequential_tick step) f same = absurd (cc same)
  someone (interleaving_left no_tick step) f same = further_some Left (doers (origin step)) (someone step f same)
  someone (interleaving_right no_tick step) f same = further_some Right (doers (origin step)) (someone step f same)
  someone (interleaving_tick_left step) f same = absurd (cc same)
  someone (interleaving_tick_right step) f same = absurd (cc same)
  someone interleaving_tick f same = absurd (cc same)
  someone (interrupt_left no_tick step) f same = itself_does step f same
  someone (interrupt_tick step) f same = absurd (cc same)
  someone (interrupt_tau_right step) f same = absurd (cc same)
  someone (interrupt_right visible step) f same = itself_does step f same
  someone (generalised_left outside step) f same = further_some Left (doers (origin step)) (someone step f same)
  someone (generalised_right outside step) f same = further_some Right (doers (origin step)) (someone step f same)
  someone (generalised_both shared left right) f same = front_some (all_further Left (doers (origin left))) (all_further Right (doers (origin right))) (further_some Left (doers (origin left)) (someone left f same))
  someone (generalised_tick_left step) f same = absurd (cc same)
  someone (generalised_tick_right step) f same = absurd (cc same)
  someone generalised_tick f same = absurd (cc same)
  someone (alphabetised_left within step) f same = further_some Left (doers (origin step)) (someone step f same)
  someone (alphabetised_right within step) f same = further_some Right (doers (origin step)) (someone step f same)
  someone (alphabetised_both in_left in_right left right) f same = front_some (all_further Left (doers (origin left))) (all_further Right (doers (origin right))) (further_some Left (doers (origin left)) (someone left f same))
  someone (alphabetised_tick_left step) f same = absurd (cc same)
  someone (alphabetised_tick_right step) f same = absurd (cc same)
  someone alphabetised_tick f same = absurd (cc same)
  someone (hiding_tau step) f same = absurd (cc same)
  someone (hiding_hidden hidden step) f same = absurd (cc same)
  someone (hiding_event seen step) f same = someone step f same
  someone (hiding_tick step) f same = absurd (cc same)
  someone (renaming_tau step) f same = absurd (cc same)
  someone (renaming_event {e = e} image step) f same = someone step e refl
  someone (renaming_tick step) f same = absurd (cc same)
  someone (replicated_external vs is step) f same = itself_does step f same
  someone (replicated_internal v vs is step) f same = itself_does step f same
  someone (replicated_interleaving vs is step) f same = itself_does step f same
  someone (sliding_tau step) f same = absurd (cc same)
  someone (sliding_left visible step) f same = itself_does step f same
  someone sliding_away f same = absurd (cc same)

pub events_have_doers : (script : Script) (p t : Process) (e : Event) (o : Origin) → ComesFrom script p (Ev e) t o → doers o ≢ []
events_have_doers script p t e o (step, is) = subst (λ z. doers z ≢ []) is (someone script step e refl)
