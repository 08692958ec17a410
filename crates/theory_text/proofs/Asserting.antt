-- Assertions of deadlock and divergence freedom, and what a `not` behind `assert` does.
use Rattle.std.proofs.Common.{◌≡◌, ◌≢◌, List, [], ◌∷◌, ◌++◌, true, false, refl, sym, ◌∙◌, ap, codes}
use Rattle.theory_text.specs.Place.{Place}
use Rattle.theory_text.specs.Token.{KeywordToken, SignToken, NameToken, PlacedToken, Keyword, AssertWord, NotWord, TrueWord, DatatypeWord, NametypeWord, ChannelWord, ColonSign, OpenSquareSign, CloseSquareSign, CloseRenamingSign, TracesSign, GuardSign}
use Rattle.theory_text.specs.Raw.{RawTruth, RawProcess, RawStop, RawProperty, RawDeadlockFree, RawDivergenceFree, RawAssertion, RawDeclaration}
use Rattle.theory_text.specs.Grammar.{IsWord, word, sign, IsName, name, IsProcess, operand, base, stop, guard, IsOperand, IsDeclaration, datatype, nametype, bare_channels, channels, equation, equation_with, assertion, freedom, IsFirstSide, plain_side, negated_side, IsFreedomEnd, plain_end, joined_end, spaced_end, deadlock_free, divergence_free, spelled, IsScript, declarations, no_declarations}
use Rattle.theory_text.specs.Grammar as grammar
use Rattle.theory_text.specs.Samples.{at, spelling, assert_word, stop_word, deadlock_free_begun, joined_f, spaced_f, divergence_free_end, guarded_refinement, of_stop, not_guarded, NotNegates}

stop_process : IsProcess (stop_word ∷ []) RawStop
stop_process = operand (base (stop (word stop_word refl)))

stop_side : IsFirstSide (stop_word ∷ []) false RawStop
stop_side = plain_side stop_word [] (λ e. cc e) stop_process

deadlock_with : (end : List PlacedToken) → IsFreedomEnd end → IsScript (assert_word ∷ stop_word ∷ (deadlock_free_begun ++ end) ++ []) (of_stop RawDeadlockFree)
deadlock_with end is =
    declarations
    (freedom assert_word (word assert_word refl) stop_side (sign (at (SignToken ColonSign)) refl)
    (deadlock_free (sign (at (SignToken OpenSquareSign)) refl) (spelled (spelling (codes "deadlock")) refl) (spelled (spelling (codes "free")) refl) is))
    no_declarations

pub plain_read : IsScript (assert_word ∷ stop_word ∷ (deadlock_free_begun ++ at (SignToken CloseSquareSign) ∷ [])) (of_stop RawDeadlockFree)
plain_read = deadlock_with (at (SignToken CloseSquareSign) ∷ []) (plain_end (sign (at (SignToken CloseSquareSign)) refl))

pub joined_read : IsScript (assert_word ∷ stop_word ∷ (deadlock_free_begun ++ joined_f)) (of_stop RawDeadlockFree)
joined_read = deadlock_with joined_f (joined_end (sign (at (SignToken OpenSquareSign)) refl) (spelled (spelling (codes "F")) refl) (sign (at (SignToken CloseRenamingSign)) refl))

pub spaced_read : IsScript (assert_word ∷ stop_word ∷ (deadlock_free_begun ++ spaced_f)) (of_stop RawDeadlockFree)
spaced_read =
    deadlock_with spaced_f
    (spaced_end (sign (at (SignToken OpenSquareSign)) refl) (spelled (spelling (codes "F")) refl) (sign (at (SignToken CloseSquareSign)) refl) (sign (at (SignToken CloseSquareSign)) refl))

pub divergence_read : IsScript (assert_word ∷ stop_word ∷ divergence_free_end) (of_stop RawDivergenceFree)
divergence_read =
    declarations
    (freedom assert_word (word assert_word refl) stop_side (sign (at (SignToken ColonSign)) refl)
    (divergence_free (sign (at (SignToken OpenSquareSign)) refl) (spelled (spelling (codes "divergence")) refl) (spelled (spelling (codes "free")) refl) (sign (at (SignToken CloseSquareSign)) refl)))
    no_declarations

-- ---- `not` behind `assert`

true_expression : grammar.IsExpression (at (KeywordToken TrueWord) ∷ []) (RawTruth true)
true_expression =
    grammar.conjunction (grammar.negation (grammar.comparison (grammar.sum (grammar.product (grammar.atom (grammar.true_word (word (at (KeywordToken TrueWord)) refl)))))))

pub negated_read : IsScript (assert_word ∷ guarded_refinement) not_guarded
negated_read =
    declarations
    (assertion assert_word (word assert_word refl)
    (negated_side (word (at (KeywordToken NotWord)) refl) (operand (guard true_expression (sign (at (SignToken GuardSign)) refl) (base (stop (word stop_word refl))))))
    (grammar.traces (sign (at (SignToken TracesSign)) refl)) stop_process)
    no_declarations

first_of : (t u : PlacedToken) (ts us : List PlacedToken) → t ∷ ts ≡ u ∷ us → t ≡ u
first_of t u ts us e = cc e

rest_of : (t u : PlacedToken) (ts us : List PlacedToken) → t ∷ ts ≡ u ∷ us → ts ≡ us
rest_of t u ts us e = cc e

-- a declaration that begins with another keyword, or with a name, does not begin with `assert`
other_word : (k : Keyword) (x : PlacedToken) (t : PlacedToken) (xs ts : List PlacedToken) → KeywordToken k ≢ KeywordToken AssertWord → x.token ≡ KeywordToken k → x ∷ xs ≡ t ∷ ts →
    t.token ≡ KeywordToken AssertWord → ⊥
other_word k x t xs ts other is e assert = other (sym is ∙ ap (λ z. z.token) (first_of x t xs ts e) ∙ assert)

a_name : (x : PlacedToken) (cs : List _) (t : PlacedToken) (xs ts : List PlacedToken) → x.token ≡ NameToken cs → x ∷ xs ≡ t ∷ ts → t.token ≡ KeywordToken AssertWord → ⊥
a_name x cs t xs ts is e assert = let f : NameToken cs ≡ KeywordToken AssertWord = sym is ∙ ap (λ z. z.token) (first_of x t xs ts e) ∙ assert in cc f

abbrev IsNegated : RawDeclaration → Type 0
IsNegated d = (place : Place) × (a : RawProperty) × (p : RawProcess) × (d ≡ RawAssertion place true a p)

not_first : (v u : PlacedToken) (vs us : List PlacedToken) → v.token ≢ KeywordToken NotWord → v ∷ vs ≡ u ∷ us → u.token ≡ KeywordToken NotWord → ⊥
not_first v u vs us other e is = other (ap (λ z. z.token) (first_of v u vs us e) ∙ is)

negated_by : (xs : List PlacedToken) (d : RawDeclaration) → IsDeclaration xs d → (t u : PlacedToken) (ts : List PlacedToken) → xs ≡ t ∷ u ∷ ts →
    t.token ≡ KeywordToken AssertWord → u.token ≡ KeywordToken NotWord → IsNegated d
negated_by xs d (datatype (word x is) n s alternatives) t u ts e assert not = absurd (other_word DatatypeWord x t _ _ (λ f. cc f) is e assert)
negated_by xs d (nametype y ys (word x is) n s ex) t u ts e assert not = absurd (other_word NametypeWord x t _ _ (λ f. cc f) is e assert)
negated_by xs d (bare_channels (word x is) ns) t u ts e assert not = absurd (other_word ChannelWord x t _ _ (λ f. cc f) is e assert)
negated_by xs d (channels (word x is) ns s ds) t u ts e assert not = absurd (other_word ChannelWord x t _ _ (λ f. cc f) is e assert)
negated_by xs d (equation (name x cs is) s p) t u ts e assert not = absurd (a_name x cs t _ _ is e assert)
negated_by xs d (equation_with (name x cs is) o ns c s p) t u ts e assert not = absurd (a_name x cs t _ _ is e assert)
negated_by xs d (assertion x w (plain_side v vs other p) m q) t u ts e assert not = absurd (not_first v u _ _ other (rest_of x t _ _ e) not)
negated_by xs d (assertion x w (negated_side n p) m q) t u ts e assert not = (x.place, _, _, refl)
negated_by xs d (freedom x w (plain_side v vs other p) s f) t u ts e assert not = absurd (not_first v u _ _ other (rest_of x t _ _ e) not)
negated_by xs d (freedom x w (negated_side n p) s f) t u ts e assert not = (x.place, _, _, refl)

pub not_negates : (t u : PlacedToken) (ts : List PlacedToken) (d : RawDeclaration) → NotNegates t u ts d
not_negates t u ts d is assert not = negated_by (t ∷ u ∷ ts) d is t u ts refl assert not
