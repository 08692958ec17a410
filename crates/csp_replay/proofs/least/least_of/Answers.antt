-- One more list, in which another one lies or none does.
use Rattle.std.proofs.Common.{◌≡◌, ◌↔◌, ◌++◌, ◌∷◌, [], List, map, Contains, Some, IsTrue, sym, ◌∙◌, ap, subst, arith}
use Rattle.std.proofs.lemmas.List.{length-map, map-append}
use Rattle.std.proofs.lemmas.Option.{slice_get-get_or}
use Rattle.theory_syntax.specs.Value as pure
use Rattle.theory_syntax.proofs.Places.{get_some}
use Rattle.theory_runs.specs.Acceptances.{IsLeastAmong, LiesAlone}
use Rattle.theory_runs.specs.Gathering.{Gathers}
use Rattle.theory_runs.proofs.Acceptances.{IsThisAlone, least_among, this_alone, this_not}
use Rattle.theory_runs.proofs.Gathering.{IsOfFirst, gather_none, gather_more, gather_skip, gather_all, gathers_one, gathers_same}
use Rattle.csp_value.specs.Action.{action_of}
use Rattle.csp_value.specs.Copies.{AreCopies}
use Rattle.csp_value.proofs.Copying.{copies_same}
use Rattle.csp_value.specs.declared.action.Action.{Action}
use Rattle.csp_replay.specs.Offers.{offers_listed}
use Rattle.csp_replay.proofs.least.least_of.Goals as goal

pub loop-offer-init : goal.loop-offer-init
loop-offer-init g c =
    let offers = offers_listed c.args.offers.now in
    let P : List (List pure.Action) → Type 0 = λ os. Gathers [] (IsOfFirst (IsThisAlone offers) offers 0) os in
    subst P (sym (ap offers_listed c.new-least.ensures.items)) (gather_none (IsThisAlone offers) offers [])

pub loop-offer-preserved-then-not-lies_alone : goal.loop-offer-preserved-then-not-lies_alone
loop-offer-preserved-then-not-lies_alone g c =
    let offers = c.args.offers.now in
    let i = c.loop-offer.offer-index in
    let offer = c.offer-item.result in
    let at = get_some (λ one. map action_of one.items) offers i offer (slice_get-get_or offers i offer c.loop-offer-test.true ∙ ap Some (sym c.offer-item.is)) in
    let T : List (Action g.row.A.Denot) → Type 0 = λ xs. IsTrue c.lies_alone.result ↔ LiesAlone (offers_listed offers) (map action_of xs) in
    let told = subst T c.deref.ensures.value c.lies_alone.ensures in
    gather_skip (IsThisAlone (offers_listed offers)) (offers_listed offers) [] i (offers_listed c.loop-offer.least.items) (map action_of offer.items) c.loop-offer.invariant at
    (this_not (offers_listed offers) (map action_of offer.items) (λ alone. let yes = told.1 alone in cc (yes, c.if-not-lies_alone.true)))

pub loop-offer-preserved : goal.loop-offer-preserved
loop-offer-preserved g c =
    let offers = c.args.offers.now in
    let i = c.loop-offer.offer-index in
    let offer = c.offer-item.result in
    let at = get_some (λ one. map action_of one.items) offers i offer (slice_get-get_or offers i offer c.loop-offer-test.true ∙ ap Some (sym c.offer-item.is)) in
    let T : List (Action g.row.A.Denot) → Type 0 = λ xs. IsTrue c.lies_alone.result ↔ LiesAlone (offers_listed offers) (map action_of xs) in
    let told = subst T c.deref.ensures.value c.lies_alone.ensures in
    let ys = map action_of offer.items in
    let copy = c.in_ok-copy_all.field-0 in
    let S : List (Action g.row.A.Denot) → Type 0 = λ xs. AreCopies (λ x y. action_of y ≡ action_of x) xs copy.items in
    let same = copies_same action_of offer.items copy.items (subst S c.deref-in-loop-offer.ensures.value c.in_ok-copy_all.ensures) in
    let now = offers_listed c.loop-offer.least.items in
    let more = offers_listed c.push.new.self.items in
    let pushed : more ≡ now ++ ys ∷ [] = ap offers_listed c.in_ok-push.ensures.items ∙ map-append (λ one. map action_of one.items) c.loop-offer.least.items (copy ∷ []) ∙ ap (λ xs. now ++ xs ∷ []) same in
    gather_more (IsThisAlone (offers_listed offers)) (offers_listed offers) [] i now more ys c.loop-offer.invariant at
    (gathers_same (λ xs. xs ≡ ys) (IsThisAlone (offers_listed offers) ys) now more (this_alone (offers_listed offers) ys (told.0 c.if-not-lies_alone.false)) (gathers_one now more ys pushed))

pub returns : goal.returns
returns g c =
    let offers = offers_listed c.args.offers.now in
    let least = offers_listed c.loop-offer.least.items in
    let long = length-map c.args.offers.now (λ offer. map action_of offer.items) in
    let past = c.loop-offer-test.false in
    gathers_same (λ xs. (ys : List pure.Action) × Contains offers ys × IsThisAlone offers ys xs) (IsLeastAmong offers) [] least (least_among offers) (gather_all (IsThisAlone offers) offers [] c.loop-offer.offer-index least c.loop-offer.invariant (omega (arith, long, past)))
