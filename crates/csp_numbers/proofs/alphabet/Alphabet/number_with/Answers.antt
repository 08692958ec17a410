use Rattle.std.proofs.Common.{inl, inr, lit<, ◌≡◌, List, length, Some, slice_get, Contains, sym, ◌∙◌, ap, subst}
use Rattle.std.specs.List.Sorted.{IsBinarySearchResult, IsSearchInRange}
use Rattle.std.proofs.lemmas.Fn.{always_returns_same}
use Rattle.theory_syntax.specs.Value as pure
use Rattle.theory_semantics.specs.Meaning.Offers.{RisesBy}
use Rattle.csp_value.specs.Action.{event_of}
use Rattle.csp_events.specs.Testing.{event_with}
use Rattle.csp_numbers.specs.Numbers.{events_of}
use Rattle.csp_numbers.proofs.Halving.{found_there, missed_nowhere}
use Rattle.csp_numbers.proofs.alphabet.Alphabet.number_with.Goals as goal

pub binary_search_by-found-requires-room-F-FnMut : goal.binary_search_by-found-requires-room-F-FnMut
binary_search_by-found-requires-room-F-FnMut g c κs within = elim g.met.A.AllocHandle.small [ inl e ↦ rw (e.0, e.1) (lit< tt) | inr e ↦ rw (e.0, e.1) (lit< tt) ]

pub binary_search_by-found-requires-room-F-FnOnce : goal.binary_search_by-found-requires-room-F-FnOnce
binary_search_by-found-requires-room-F-FnOnce g c κs within = elim g.met.A.AllocHandle.small [ inl e ↦ rw (e.0, e.1) (lit< tt) | inr e ↦ rw (e.0, e.1) (lit< tt) ]

pub returns-in-Ok : goal.returns-in-Ok
returns-in-Ok g c =
    let wanted = event_with c.args.channel c.args.fields.now in
    let items = c.deref.result.now in
    let found = c.binary_search_by-found.ensures.position (λ e. pure.event_cmp (event_of e) wanted) (always_returns_same _ _ _ (λ a r f k. (k.met.1, λ j. (k.met.0.0 j, k.met.0.1 j)))) in
    let at = subst (λ r. IsBinarySearchResult (λ y. pure.event_cmp (event_of y) wanted) items r) c.in-Ok.is found in
    let within = subst (λ r. IsSearchInRange r (length items)) c.in-Ok.is c.binary_search_by-found.ensures.bound in
    subst (λ (es : List pure.Event). slice_get es c.in-Ok.place ≡ Some wanted) (ap events_of c.deref.ensures.value ∙ c.self.view_is) (found_there event_of wanted items c.in-Ok.place within at)

pub returns-in-Err : goal.returns-in-Err
returns-in-Err g c = λ has.
    let wanted = event_with c.args.channel c.args.fields.now in
    let items = c.deref.result.now in
    let found = c.binary_search_by-found.ensures.position (λ e. pure.event_cmp (event_of e) wanted) (always_returns_same _ _ _ (λ a r f k. (k.met.1, λ j. (k.met.0.0 j, k.met.0.1 j)))) in
    let at = subst (λ r. IsBinarySearchResult (λ y. pure.event_cmp (event_of y) wanted) items r) c.in-Err.is found in
    let within = subst (λ r. IsSearchInRange r (length items)) c.in-Err.is c.binary_search_by-found.ensures.bound in
    let rise = subst (λ es. RisesBy pure.event_cmp (events_of es)) (sym c.deref.ensures.value) c.self.invariant.rising in
    missed_nowhere event_of wanted items c.in-Err.field-0 rise within at (subst (λ (es : List pure.Event). Contains es wanted) (sym (ap events_of c.deref.ensures.value ∙ c.self.view_is)) has)
