-- A text has at most one refusal, and none where it has a tree.
use Rattle.std.proofs.Common.{◌≡◌, ℕ, List, sym, ap, subst}
use Rattle.theory_text.specs.Place.{Place}
use Rattle.theory_text.specs.Token.{PlacedToken, AreTokens}
use Rattle.theory_text.specs.Raw.{RawScript}
use Rattle.theory_text.specs.Height.{IsParsed, GrammarFault, IsGrammarRefusal}
use Rattle.theory_text.specs.Reading.{ReadingFault, OfText, OfGrammar, IsRead, IsReadingRefusal}
use Rattle.theory_text.proofs.Division.{tokens_same, tokens_not_refused}
use Rattle.theory_text.proofs.Refusing.{refusal_same}
use Rattle.theory_text.proofs.GrammarRefusing.{grammar_refusal_same, parsed_not_refused}

grammar_same : (bytes : List ℕ) (ts us : List PlacedToken) (end last p q : Place) (f g : GrammarFault) → AreTokens bytes ts end → AreTokens bytes us last → IsGrammarRefusal ts end f p → IsGrammarRefusal us last g q → (f ≡ g) × (p ≡ q)
grammar_same bytes ts us end last p q f g are were h k =
    let same = tokens_same bytes ts us end last are were in
    grammar_refusal_same ts end f g p q h (subst (λ e. IsGrammarRefusal ts e g q) (sym same.1) (subst (λ x. IsGrammarRefusal x last g q) (sym same.0) k))

pub reading_refusal_same : (bytes : List ℕ) (f g : ReadingFault) (p q : Place) → IsReadingRefusal bytes f p → IsReadingRefusal bytes g q → (f ≡ g) × (p ≡ q)
reading_refusal_same bytes f g p q (IsReadingRefusal.of_text {f = x} h) (IsReadingRefusal.of_text {f = y} k) = let same = refusal_same bytes x y p q h k in (ap OfText same.0, same.1)
reading_refusal_same bytes f g p q (IsReadingRefusal.of_text {f = x} h) (IsReadingRefusal.of_grammar {tokens = us} {end = last} were k) = absurd (tokens_not_refused bytes us last p x were h)
reading_refusal_same bytes f g p q (IsReadingRefusal.of_grammar {tokens = ts} {end = end} are h) (IsReadingRefusal.of_text {f = y} k) = absurd (tokens_not_refused bytes ts end q y are k)
reading_refusal_same bytes f g p q (IsReadingRefusal.of_grammar {tokens = ts} {end = end} {f = x} are h) (IsReadingRefusal.of_grammar {tokens = us} {end = last} {f = y} were k) =
    let same = grammar_same bytes ts us end last p q x y are were h k in (ap OfGrammar same.0, same.1)

pub read_not_refused : (bytes : List ℕ) (s : RawScript) (f : ReadingFault) (p : Place) → IsRead bytes s → ¬ (IsReadingRefusal bytes f p)
read_not_refused bytes s f p (IsRead.read {tokens = ts} {end = end} are h) (IsReadingRefusal.of_text {f = x} k) = tokens_not_refused bytes ts end p x are k
read_not_refused bytes s f p (IsRead.read {tokens = ts} {end = end} are h) (IsReadingRefusal.of_grammar {tokens = us} {end = last} {f = x} were k) =
    parsed_not_refused us s last p x (subst (λ y. IsParsed y s) (tokens_same bytes ts us end last are were).0 h) k
