-- The token that stands next.
use Rattle.std.proofs.Common.{◌≡◌, ◌∙◌, ℕ, ◌+◌, ◌<◌, ◌≤◌, Bool, true, false, List, [], ◌∷◌, length, map, drop, get_or, refl, sym, ap, subst, drop-cons, drop_of_length-le, add-one, arith, Option, Some, inl, inr}
use Rattle.std.proofs.lemmas.Bool.{cases_Bool}
use Rattle.csp_lex.specs.declared.kinds.Token.{Token}
use Rattle.csp_lex.specs.declared.kinds.TokenKind.{TokenKind}
use Rattle.csp_lex.specs.declared.kinds.TokenKind.TheVariants as kind
use Rattle.csp_lex.specs.declared.kinds.TokenKind.{TokenKind}
use Rattle.csp_lex.specs.declared.kinds.TokenKind.TheVariants as kind
use Rattle.csp_lex.specs.declared.kinds.TokenKind.{TokenKind}
use Rattle.csp_lex.specs.declared.kinds.TokenKind.TheVariants as kind
use Rattle.csp_lex.specs.declared.keywords.Keyword.{Keyword}
use Rattle.csp_lex.specs.declared.signs.Sign.{Sign}
use Rattle.csp_lex.specs.Tokens.{token_of, placed_token, keyword_of, sign_of}
use Rattle.theory_text.specs.Height.{Nest}
use Rattle.theory_reader.specs.Programs.{Seen, SeenSign, SeenWord, seen, first, count, pass_from}
use Rattle.theory_reader.specs.Reader.{is_sign, is_word, is_name}
use Rattle.theory_reader.proofs.Signs.{is_same_sign, sign_is_seen, is_same_word, word_is_seen}
use Rattle.csp_parse.specs.Levels.{seen_kind}
use Rattle.csp_parse.specs.Levels.{seen_kind}
use Rattle.csp_parse.specs.Levels.{seen_kind}
use Rattle.csp_parse.proofs.OneKind.{sign_is, word_is}

-- the tokens from a place on
pub left_at : (ts : List Token) (n : ℕ) (d : Token) → n < length ts → map placed_token (drop n ts) ≡ placed_token (get_or ts n d) ∷ map placed_token (drop (n + 1) ts)
left_at ts n d within = ap (map placed_token) (drop-cons ts n d within ∙ ap (λ k. get_or ts n d ∷ drop k ts) (sym (add-one n)))

pub first_at : (ts : List Token) (n : ℕ) (t : Token) → n < length ts → t ≡ get_or ts n t → Some (placed_token t) ≡ first (map placed_token (drop n ts))
first_at ts n t within read = ap (λ u. Some (placed_token u)) read ∙ ap first (sym (left_at ts n t within))

pub none_left : (ts : List Token) (n : ℕ) → length ts ≤ n → map placed_token (drop n ts) ≡ []
none_left ts n past = ap (map placed_token) (drop_of_length-le ts past)

not_true : (b c : Bool) → (c ≡ true → b ≡ true) → b ≡ false → b ≡ c
not_true b true h e = h refl
not_true b false h e = e

pub sign_next : (s u : Sign) (b : Bool) (n : Option Seen) → Some (SeenSign (sign_of s)) ≡ n → (b ≡ true → s ≡ u) → (s ≡ u → b ≡ true) → b ≡ is_sign (sign_of u) n
sign_next s u b n is so back = subst (λ k. b ≡ is_sign (sign_of u) k) is (elim (cases_Bool b) [
  | inl e ↦ e ∙ sym (ap (λ r. is_sign (sign_of u) (Some (SeenSign (sign_of r)))) (so e) ∙ is_same_sign (sign_of u))
  | inr e ↦ not_true b (is_sign (sign_of u) (Some (SeenSign (sign_of s)))) (λ t. back (sign_is s u (let same = sign_is_seen (sign_of u) (Some (SeenSign (sign_of s))) t in cc same))) e
])

pub word_next : (k l : Keyword) (b : Bool) (n : Option Seen) → Some (SeenWord (keyword_of k)) ≡ n → (b ≡ true → k ≡ l) → (k ≡ l → b ≡ true) → b ≡ is_word (keyword_of l) n
word_next k l b n is so back = subst (λ x. b ≡ is_word (keyword_of l) x) is (elim (cases_Bool b) [
  | inl e ↦ e ∙ sym (ap (λ r. is_word (keyword_of l) (Some (SeenWord (keyword_of r)))) (so e) ∙ is_same_word (keyword_of l))
  | inr e ↦ not_true b (is_word (keyword_of l) (Some (SeenWord (keyword_of k)))) (λ t. back (word_is k l (let same = word_is_seen (keyword_of l) (Some (SeenWord (keyword_of k))) t in cc same))) e
])

-- a token of another kind is none
pub no_sign : (s : _) (k : TokenKind) (n : Option Seen) → Some (seen_kind k) ≡ n → ((u : Sign) → k ≡ kind.Sign u → ⊥) → false ≡ is_sign s n
unfolding is_sign
no_sign s (kind.Sign u) n is not = absurd (not u refl)
no_sign s (kind.Keyword k) n is not = ap (is_sign s) is
no_sign s kind.Name n is not = ap (is_sign s) is
no_sign s (kind.Number v) n is not = ap (is_sign s) is

pub no_word : (w : _) (k : TokenKind) (n : Option Seen) → Some (seen_kind k) ≡ n → ((l : Keyword) → k ≡ kind.Keyword l → ⊥) → false ≡ is_word w n
unfolding is_word
no_word w (kind.Keyword k) n is not = absurd (not k refl)
no_word w (kind.Sign u) n is not = ap (is_word w) is
no_word w kind.Name n is not = ap (is_word w) is
no_word w (kind.Number v) n is not = ap (is_word w) is

pub seen_as : (k : TokenKind) (cs : List ℕ) → seen (token_of k cs) ≡ seen_kind k
seen_as (kind.Keyword k) cs = refl
seen_as (kind.Sign s) cs = refl
seen_as kind.Name cs = refl
seen_as (kind.Number n) cs = refl

first_of : (ts : List Token) → 0 < length ts → Token
first_of [] some = absurd (omega (arith, some))
first_of (t ∷ ts) some = t

-- the token at a place is passed
pub pass_at : (ts : List Token) (n : ℕ) (m : Nest) → n < length ts → pass_from (map placed_token (drop n ts)) m ≡ count m (map placed_token (drop (n + 1) ts))
pass_at ts n m within = ap (λ l. pass_from l m) (left_at ts n (first_of ts (omega (arith, within))) within)

pub no_name : (k : TokenKind) (n : Option Seen) → Some (seen_kind k) ≡ n → (k ≡ kind.Name → ⊥) → false ≡ is_name n
unfolding is_name
no_name kind.Name n is not = absurd (not refl)
no_name (kind.Keyword k) n is not = ap is_name is
no_name (kind.Sign u) n is not = ap is_name is
no_name (kind.Number v) n is not = ap is_name is
