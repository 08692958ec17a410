-- The names of parts: the last one at each way, each of a call that stood there.
use Rattle.std.proofs.Common.{◌≡◌, ◌≢◌, Bool, true, false, not, ◌&&◌, List, [], ◌∷◌, ◌++◌, filter, Option, Some, None, refl, sym, ◌∙◌, ap, ap₂, subst}
use Rattle.std.specs.Option.{option_map}
use Rattle.theory_syntax.specs.Value.{Action}
use Rattle.theory_syntax.specs.Process.{Process, Stop, Skip, ExternalChoice, InternalChoice, Interleaving, Script}
use Rattle.theory_semantics.specs.Meaning.Transitions.{RuleStep, skip, prefix, call, guard, if_true, if_false, external_tau_left, external_tau_right, external_left, external_right, internal_left, internal_right, sequential, sequential_tick, interleaving_left, interleaving_right, interleaving_tick_left, interleaving_tick_right, interleaving_tick, interrupt_left, interrupt_tick, interrupt_tau_right, interrupt_right, generalised_left, generalised_right, generalised_both, generalised_tick_left, generalised_tick_right, generalised_tick, alphabetised_left, alphabetised_right, alphabetised_both, alphabetised_tick_left, alphabetised_tick_right, alphabetised_tick, hiding_tau, hiding_hidden, hiding_event, hiding_tick, renaming_tau, renaming_event, renaming_tick, replicated_external, replicated_internal, replicated_interleaving, sliding_tau, sliding_left, sliding_away}
use Rattle.theory_origins.specs.Origin.{Side, Left, Right, Origin, ComesFrom, origin}
use Rattle.theory_origins.specs.Parts.{body, chain_for, sides, IsPartAt, itself, inside, on_left, on_right}
use Rattle.theory_explanation.specs.PartNames.{IsCallAt, PartName, is_at, name_further, name_of, part_names_behind, same_side, same_way, unfolded, with_name}

-- ---- the last name

side_refl : (s : Side) → same_side s s ≡ true
side_refl Left = refl
side_refl Right = refl

pub way_refl : (w : List Side) → same_way w w ≡ true
way_refl [] = refl
way_refl (s ∷ w) = rw (side_refl s) (way_refl w)

side_is : (s t : Side) → same_side s t ≡ true → s ≡ t
side_is Left Left same = refl
side_is Left Right same = absurd (cc same)
side_is Right Left same = absurd (cc same)
side_is Right Right same = refl

both : (s t : Side) (w v : List Side) (b : Bool) → same_side s t ≡ b → same_way (s ∷ w) (t ∷ v) ≡ true → (same_way w v ≡ true → w ≡ v) → s ∷ w ≡ t ∷ v
both s t w v true is same rest = ap₂ (λ a z. a ∷ z) (side_is s t is) (rest (sym (ap (λ b. b && same_way w v) is) ∙ same))
both s t w v false is same rest = let no : false ≡ true = sym (ap (λ b. b && same_way w v) is) ∙ same in absurd (cc no)

way_is : (w v : List Side) → same_way w v ≡ true → w ≡ v
way_is [] [] same = refl
way_is [] (t ∷ v) same = absurd (cc same)
way_is (s ∷ w) [] same = absurd (cc same)
way_is (s ∷ w) (t ∷ v) same = both s t w v (same_side s t) refl same (way_is w v)

there : (parts : List PartName) (d : PartName) → name_of (filter (λ e. not (is_at d.way e)) parts ++ d ∷ []) d.way ≡ Some d.equation
there [] d = rw (way_refl d.way) refl
there (e ∷ parts) d = by (is_at d.way e) refl (there parts d)
  where
    by : (b : Bool) → is_at d.way e ≡ b → name_of (filter (λ z. not (is_at d.way z)) parts ++ d ∷ []) d.way ≡ Some d.equation → name_of (filter (λ z. not (is_at d.way z)) (e ∷ parts) ++ d ∷ []) d.way ≡ Some d.equation
    by true is rest = rw is rest
    by false is rest = rw (is, is) rest

elsewhere : (parts : List PartName) (d : PartName) (way : List Side) → d.way ≢ way → name_of (filter (λ e. not (is_at d.way e)) parts ++ d ∷ []) way ≡ name_of parts way
elsewhere [] d way other = by (is_at way d) refl
  where
    by : (b : Bool) → is_at way d ≡ b → name_of (d ∷ []) way ≡ None
    by true is = absurd (other (way_is d.way way is))
    by false is = rw is refl
elsewhere (e ∷ parts) d way other = by (is_at d.way e) (is_at way e) refl refl (elsewhere parts d way other)
  where
    by : (b c : Bool) → is_at d.way e ≡ b → is_at way e ≡ c → name_of (filter (λ z. not (is_at d.way z)) parts ++ d ∷ []) way ≡ name_of parts way → name_of (filter (λ z. not (is_at d.way z)) (e ∷ parts) ++ d ∷ []) way ≡ name_of (e ∷ parts) way
    by true true is at rest = absurd (other (sym (way_is e.way d.way is) ∙ way_is e.way way at))
    by true false is at rest = rw (is, at) rest
    by false true is at rest = rw (is, at) refl
    by false false is at rest = rw (is, at) rest

pub named_there : (parts : List PartName) (o : Origin) (d : PartName) → unfolded o ≡ Some d → name_of (part_names_behind parts (Some o)) d.way ≡ Some d.equation
named_there parts o d is = ap (λ z. name_of (with_name parts z) d.way) is ∙ there parts d

pub named_elsewhere : (parts : List PartName) (o : Origin) (way : List Side) → ((d : PartName) → unfolded o ≡ Some d → d.way ≢ way) → name_of (part_names_behind parts (Some o)) way ≡ name_of parts way
named_elsewhere parts o way other = by (unfolded o) refl
  where
    by : (z : Option PartName) → unfolded o ≡ z → name_of (part_names_behind parts (Some o)) way ≡ name_of parts way
    by (Some d) is = ap (λ z. name_of (with_name parts z) way) is ∙ elsewhere parts d way (other d is)
    by None is = ap (λ z. name_of (with_name parts z) way) is

-- ---- calls

module _ (script : Script) where
  on_side : (side : Side) (p q : Process) (o : Option PartName) (d : PartName) → ((way : List Side) (part : Process) → IsPartAt script q way part → IsPartAt script p (side ∷ way) part) →
      ((e : PartName) → o ≡ Some e → IsCallAt script q e) → option_map (name_further side) o ≡ Some d → IsCallAt script p d
  on_side side p q None d below calls is = absurd (cc is)
  on_side side p q (Some e) d below calls is =
      let some : Some (name_further side e) ≡ Some d = is in
      let same : name_further side e ≡ d = cc some in
      let found = calls e refl in
      subst (λ z. IsCallAt script p z) same (found.0, below e.way _ found.1)

  left_call : (p l r : Process) (o : Option PartName) (d : PartName) → sides p ≡ Some (l, r) → ((e : PartName) → o ≡ Some e → IsCallAt script l e) → option_map (name_further Left) o ≡ Some d → IsCallAt script p d
  left_call p l r o d two = on_side Left p l o d (λ way part at. on_left l r two at)

  right_call : (p l r : Process) (o : Option PartName) (d : PartName) → sides p ≡ Some (l, r) → ((e : PartName) → o ≡ Some e → IsCallAt script r e) → option_map (name_further Right) o ≡ Some d → IsCallAt script p d
  right_call p l r o d two = on_side Right p r o d (λ way part at. on_right l r two at)

  body_call : (p b : Process) (d : PartName) → body script p ≡ Some b → IsCallAt script b d → IsCallAt script p d
  body_call p b d is found = (found.0, inside b is found.1)

  calls_there : {p t : Process} {x : Action} → (step : RuleStep script p x t) → (d : PartName) → unfolded (origin step) ≡ Some d → IsCallAt script p d
  calls_there skip d is = absurd (cc is)
  calls_there (prefix all m ok has) d is = absurd (cc is)
  calls_there {p} (call {n = n} {es = es} ok) d is =
      let some : Some (record { way = []; equation = n }) ≡ Some d = is in
      let same : record { way = []; equation = n } ≡ d = cc some in
      subst (λ z. IsCallAt script p z) same (es, itself)
  calls_there {p} (guard {p = q} ok step) d is = body_call p q d refl (calls_there step d is)
  calls_there (if_true ok step) d is = absurd (cc is)
  calls_there (if_false ok step) d is = absurd (cc is)
  calls_there (external_tau_left step) d is = absurd (cc is)
  calls_there (external_tau_right step) d is = absurd (cc is)
  calls_there (external_left visible step) d is = absurd (cc is)
  calls_there (external_right visible step) d is = absurd (cc is)
  calls_there internal_left d is = absurd (cc is)
  calls_there internal_right d is = absurd (cc is)
  calls_there (sequential no_tick step) d is = absurd (cc is)
  calls_there (sequential_tick step) d is = absurd (cc is)
  calls_there {p} (interleaving_left {p = l} {q = r} no_tick step) d is = left_call p l r (unfolded (origin step)) d refl (calls_there step) is
  calls_there {p} (interleaving_right {p = l} {q = r} no_tick step) d is = right_call p l r (unfolded (origin step)) d refl (calls_there step) is
  calls_there (interleaving_tick_left step) d is = absurd (cc is)
  calls_there (interleaving_tick_right step) d is = absurd (cc is)
  calls_there interleaving_tick d is = absurd (cc is)
  calls_there (interrupt_left no_tick step) d is = absurd (cc is)
  calls_there (interrupt_tick step) d is = absurd (cc is)
  calls_there (interrupt_tau_right step) d is = absurd (cc is)
  calls_there (interrupt_right visible step) d is = absurd (cc is)
  calls_there {p} (generalised_left {p = l} {q = r} outside step) d is = left_call p l r (unfolded (origin step)) d refl (calls_there step) is
  calls_there {p} (generalised_right {p = l} {q = r} outside step) d is = right_call p l r (unfolded (origin step)) d refl (calls_there step) is
  calls_there (generalised_both shared left right) d is = absurd (cc is)
  calls_there (generalised_tick_left step) d is = absurd (cc is)
  calls_there (generalised_tick_right step) d is = absurd (cc is)
  calls_there generalised_tick d is = absurd (cc is)
  calls_there {p} (alphabetised_left {p = l} {q = r} within step) d is = left_call p l r (unfolded (origin step)) d refl (calls_there step) is
  calls_there {p} (alphabetised_right {p = l} {q = r} within step) d is = right_call p l r (unfolded (origin step)) d refl (calls_there step) is
  calls_there (alphabetised_both in_left in_right left right) d is = absurd (cc is)
  calls_there (alphabetised_tick_left step) d is = absurd (cc is)
  calls_there (alphabetised_tick_right step) d is = absurd (cc is)
  calls_there alphabetised_tick d is = absurd (cc is)
  calls_there {p} (hiding_tau {p = q} step) d is = body_call p q d refl (calls_there step d is)
  calls_there (hiding_hidden hidden step) d is = absurd (cc is)
  calls_there {p} (hiding_event {p = q} seen step) d is = body_call p q d refl (calls_there step d is)
  calls_there {p} (hiding_tick {p = q} step) d is = body_call p q d refl (calls_there step d is)
  calls_there {p} (renaming_tau {p = q} step) d is = body_call p q d refl (calls_there step d is)
  calls_there (renaming_event image step) d is = absurd (cc is)
  calls_there {p} (renaming_tick {p = q} step) d is = body_call p q d refl (calls_there step d is)
  calls_there {p} (replicated_external {n = n} {p = q} vs ok step) d is = body_call p _ d (ap (chain_for ExternalChoice Stop n q) ok) (calls_there step d is)
  calls_there {p} (replicated_internal {n = n} {p = q} v vs ok step) d is = body_call p _ d (ap (chain_for InternalChoice Stop n q) ok) (calls_there step d is)
  calls_there {p} (replicated_interleaving {n = n} {p = q} vs ok step) d is = body_call p _ d (ap (chain_for Interleaving Skip n q) ok) (calls_there step d is)
  calls_there (sliding_tau step) d is = absurd (cc is)
  calls_there (sliding_left visible step) d is = absurd (cc is)
  calls_there sliding_away d is = absurd (cc is)

  pub call_there : (p : Process) (x : Action) (t : Process) (o : Origin) (d : PartName) → ComesFrom script p x t o → unfolded o ≡ Some d → IsCallAt script p d
  call_there p x t o d from is = calls_there from.0 d (ap unfolded from.1 ∙ is)
