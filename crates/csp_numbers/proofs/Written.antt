-- Events that are written are events of the script.
use Rattle.std.proofs.Common.{◌≡◌, Contains, List, Ok, sym, subst}
use Rattle.theory_syntax.specs.Value.{Event}
use Rattle.theory_syntax.specs.Process.{EventExpression, Script}
use Rattle.theory_semantics.specs.Meaning.Events.{event_of}
use Rattle.theory_shapes.specs.Alphabet.{IsEventOf, alphabet}
use Rattle.theory_shapes.proofs.Doing.{event_is}
use Rattle.theory_shapes.proofs.Listing.{alphabet_has}
use Rattle.theory_shapes.proofs.Results.{IfValue}

pub written_is_listed : (s : Script) (w : EventExpression) (e : Event) (es : List Event) → event_of s w ≡ Ok e → es ≡ alphabet s → Contains es e
written_is_listed s w e es is all =
    let one : IsEventOf s e = subst (IfValue (IsEventOf s)) is (event_is s w) in
    subst (λ (listed : List Event). Contains listed e) (sym all) (alphabet_has s e one)
