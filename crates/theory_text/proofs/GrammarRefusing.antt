-- Tokens have one refusal of the grammar at most, or a tree within the limit of heights.
use Rattle.std.proofs.Common.{◌≡◌, List, [], ◌∷◌, ◌++◌, refl, sym, ap, subst, ◌∙◌, append_assoc}
use Rattle.theory_text.specs.Place.{Place}
use Rattle.theory_text.specs.Token.{PlacedToken}
use Rattle.theory_text.specs.Raw.{RawScript}
use Rattle.theory_text.specs.Grammar.{IsScript, BeginsScript}
use Rattle.theory_text.specs.Height.{IsTooHigh, HasNoneTooHigh, IsParsed, GrammarFault, token_fault, IsGrammarRefusal}
use Rattle.theory_text.proofs.Heights.{latest_begins}

-- Where two tokens of a list stand: at one place, or one of them among those before the other.
data Order (a : List PlacedToken) (t : PlacedToken) (b : List PlacedToken) (u : PlacedToken) : Type 0 where
  same : a ≡ b → t ≡ u → Order a t b u
  before : (more : List PlacedToken) → b ≡ a ++ t ∷ more → Order a t b u
  behind : (more : List PlacedToken) → a ≡ b ++ u ∷ more → Order a t b u

one_further : (x y : PlacedToken) (a : List PlacedToken) (t : PlacedToken) (b : List PlacedToken) (u : PlacedToken) → x ≡ y → Order a t b u → Order (x ∷ a) t (y ∷ b) u
one_further x y a t b u e (Order.same f g) = Order.same (cc (e, f)) g
one_further x y a t b u e (Order.before more f) = Order.before more (cc (e, f))
one_further x y a t b u e (Order.behind more f) = Order.behind more (cc (e, f))

order : (a c : List PlacedToken) (t : PlacedToken) (b d : List PlacedToken) (u : PlacedToken) → a ++ t ∷ c ≡ b ++ u ∷ d → Order a t b u
order [] c t [] d u e = Order.same refl (cc e)
order [] c t (y ∷ b) d u e = Order.before b (cc e)
order (x ∷ a) c t [] d u e = Order.behind a (cc e)
order (x ∷ a) c t (y ∷ b) d u e = one_further x y a t b u (cc e) (order a c t b d u (cc e))

-- a front of what begins a script begins one
front_begins : (a b : List PlacedToken) → BeginsScript (a ++ b) → BeginsScript a
front_begins a b (more, s, h) = (b ++ more, s, subst (λ ts. IsScript ts s) (append_assoc a b more) h)

script_begins : (ts a b : List PlacedToken) (s : RawScript) → ts ≡ a ++ b → IsScript ts s → BeginsScript a
script_begins ts a b s e h = (b, s, subst (λ x. IsScript x s) e h)

-- tokens up to one of them, in front of the rest
up_to : (a : List PlacedToken) (t : PlacedToken) (c : List PlacedToken) → (a ++ t ∷ []) ++ c ≡ a ++ t ∷ c
up_to a t c = append_assoc a (t ∷ []) c

-- where the tokens before a token begin a script, so do those up to an earlier one
earlier_begins : (a b : List PlacedToken) (t : PlacedToken) (more : List PlacedToken) → b ≡ a ++ t ∷ more → BeginsScript b → BeginsScript (a ++ t ∷ [])
earlier_begins a b t more e h = front_begins (a ++ t ∷ []) more (subst BeginsScript (e ∙ sym (up_to a t more)) h)

-- a token that is among the first ones is among all
among_more : (a b : List PlacedToken) (t u : PlacedToken) (more : List PlacedToken) → b ≡ a ++ t ∷ more → b ++ u ∷ [] ≡ a ++ t ∷ (more ++ u ∷ [])
among_more a b t u more e = ap (λ ts. ts ++ u ∷ []) e ∙ append_assoc a (t ∷ more) (u ∷ [])

high_begins : (b : List PlacedToken) (u : PlacedToken) → IsTooHigh b u → BeginsScript b
high_begins b u (latest, is, h) = latest_begins b latest is

-- a token with which no script begins, and a token that is too high
unlike : (ts a c : List PlacedToken) (t : PlacedToken) (b d : List PlacedToken) (u : PlacedToken) → ts ≡ a ++ t ∷ c → ts ≡ b ++ u ∷ d → ¬ (BeginsScript (a ++ t ∷ [])) → HasNoneTooHigh (a ++ t ∷ []) → ¬ (IsTooHigh b u)
unlike ts a c t b d u e f none low high = elim (order a c t b d u (sym e ∙ f)) [
  | same g h ↦ low b [] u (ap (λ x. x ++ t ∷ []) g ∙ ap (λ x. b ++ x ∷ []) h) high
  | before more g ↦ none (earlier_begins a b t more g (high_begins b u high))
  | behind more g ↦ low b (more ++ t ∷ []) u (among_more b a u t more g) high
]

fault_at : (a b : List PlacedToken) (t u : PlacedToken) → t ≡ u → (token_fault t.token ≡ token_fault u.token) × (t.place ≡ u.place)
fault_at a b t u e = (ap (λ x. token_fault x.token) e, ap (λ x. x.place) e)

first_unfit : (ts a c : List PlacedToken) (t : PlacedToken) (b d : List PlacedToken) (u : PlacedToken) → ts ≡ a ++ t ∷ c → ts ≡ b ++ u ∷ d → BeginsScript a → BeginsScript b → ¬ (BeginsScript (a ++ t ∷ [])) →
    ¬ (BeginsScript (b ++ u ∷ [])) → t ≡ u
first_unfit ts a c t b d u e f h k none nothing = elim (order a c t b d u (sym e ∙ f)) [
  | same g i ↦ i
  | before more g ↦ absurd (none (earlier_begins a b t more g k))
  | behind more g ↦ absurd (nothing (earlier_begins b a u more g h))
]

first_high : (ts a c : List PlacedToken) (t : PlacedToken) (b d : List PlacedToken) (u : PlacedToken) → ts ≡ a ++ t ∷ c → ts ≡ b ++ u ∷ d → IsTooHigh a t → IsTooHigh b u → HasNoneTooHigh a → HasNoneTooHigh b → t ≡ u
first_high ts a c t b d u e f high higher low lower = elim (order a c t b d u (sym e ∙ f)) [
  | same g i ↦ i
  | before more g ↦ absurd (lower a more t g high)
  | behind more g ↦ absurd (low b more u g higher)
]

whole_begins : (ts a c : List PlacedToken) (t : PlacedToken) → ts ≡ a ++ t ∷ c → BeginsScript ts → BeginsScript (a ++ t ∷ [])
whole_begins ts a c t e h = earlier_begins a ts t c e h

-- tokens have at most one refusal of the grammar, at one place
pub grammar_refusal_same : (ts : List PlacedToken) (end : Place) (f g : GrammarFault) (p q : Place) → IsGrammarRefusal ts end f p → IsGrammarRefusal ts end g q → (f ≡ g) × (p ≡ q)
grammar_refusal_same ts end f g p q (IsGrammarRefusal.at_token a c t e h none low) (IsGrammarRefusal.at_token b d u i k nothing lower) = fault_at a b t u (first_unfit ts a c t b d u e i h k none nothing)
grammar_refusal_same ts end f g p q (IsGrammarRefusal.at_token a c t e h none low) (IsGrammarRefusal.nested b d u i high lower) = absurd (unlike ts a c t b d u e i none low high)
grammar_refusal_same ts end f g p q (IsGrammarRefusal.at_token a c t e h none low) (IsGrammarRefusal.at_end k lower unfit) = absurd (none (whole_begins ts a c t e k))
grammar_refusal_same ts end f g p q (IsGrammarRefusal.nested a c t e high low) (IsGrammarRefusal.at_token b d u i k nothing lower) = absurd (unlike ts b d u a c t i e nothing lower high)
grammar_refusal_same ts end f g p q (IsGrammarRefusal.nested a c t e high low) (IsGrammarRefusal.nested b d u i higher lower) = (refl, ap (λ x. x.place) (first_high ts a c t b d u e i high higher low lower))
grammar_refusal_same ts end f g p q (IsGrammarRefusal.nested a c t e high low) (IsGrammarRefusal.at_end k lower unfit) = absurd (lower a c t e high)
grammar_refusal_same ts end f g p q (IsGrammarRefusal.at_end h low unfit) (IsGrammarRefusal.at_token b d u i k nothing lower) = absurd (nothing (whole_begins ts b d u i h))
grammar_refusal_same ts end f g p q (IsGrammarRefusal.at_end h low unfit) (IsGrammarRefusal.nested b d u i higher lower) = absurd (low b d u i higher)
grammar_refusal_same ts end f g p q (IsGrammarRefusal.at_end h low unfit) (IsGrammarRefusal.at_end k lower unlike) = (refl, refl)

-- tokens with a tree within the limit of heights are not refused
pub parsed_not_refused : (ts : List PlacedToken) (s : RawScript) (end p : Place) (f : GrammarFault) → IsParsed ts s → ¬ (IsGrammarRefusal ts end f p)
parsed_not_refused ts s end p f (h, low) (IsGrammarRefusal.at_token a c t e k none lower) = none (script_begins ts (a ++ t ∷ []) c s (e ∙ sym (up_to a t c)) h)
parsed_not_refused ts s end p f (h, low) (IsGrammarRefusal.nested a c t e high lower) = low a c t e high
parsed_not_refused ts s end p f (h, low) (IsGrammarRefusal.at_end k lower unfit) = unfit s h

-- TOKENS THAT ARE NOT REFUSED
