-- Texts of names, by their characters. The words of freedoms are written in ASCII, so their characters are their bytes.
use Rattle.std.proofs.Common.{◌≡◌, ◌∙◌, ℕ, Bool, true, false, cond, List, refl, sym, ap, codes, Some, inl, inr}
use Rattle.std.proofs.lemmas.Bool.{cases_Bool}
use Rattle.std.proofs.lemmas.Slice.Eq.{bytes_eq-Decides}
use Rattle.std.proofs.lemmas.Str.{encodes-chars}
use Rattle.std.specs.Str.{IsUtf8, chars, encode_utf8_all, bytes_eq}
use Rattle.theory_text.specs.Token.{PlacedToken}
use Rattle.csp_lex.specs.Tokens.{token_of}
use Rattle.csp_lex.specs.declared.kinds.TokenKind.{TokenKind}
use Rattle.csp_lex.specs.declared.kinds.TokenKind.TheVariants as kind
use Rattle.theory_reader.specs.Forms.{OfSpelling}
use Rattle.theory_reader.specs.Programs.{first, Standing, Outcome, give, refuse, pass, run}
use Rattle.theory_reader.specs.Reader.{is_spelling, is_spelled, reads, body}
use Rattle.theory_reader.proofs.Laws.{reads_is}

pub divergence_written : chars (codes "divergence") ≡ codes "divergence"
unfolding chars
divergence_written = refl

pub deadlock_written : chars (codes "deadlock") ≡ codes "deadlock"
unfolding chars
deadlock_written = refl

pub free_written : chars (codes "free") ≡ codes "free"
unfolding chars
free_written = refl

pub failures_written : chars (codes "F") ≡ codes "F"
unfolding chars
failures_written = refl

-- texts of the same characters have the same bytes
same_bytes : (a b : List ℕ) → IsUtf8 a → IsUtf8 b → chars a ≡ chars b → a ≡ b
same_bytes a b u v e = sym (encodes-chars a u) ∙ ap encode_utf8_all e ∙ encodes-chars b v

-- whether two texts are the same is whether their characters are
pub same_text : (a b : List ℕ) (r : Bool) → IsUtf8 a → IsUtf8 b → (r ≡ true → a ≡ b) → (a ≡ b → r ≡ true) → r ≡ bytes_eq (chars b) (chars a)
same_text a b true u v is back = sym ((bytes_eq-Decides (chars b) (chars a)).1 (ap chars (sym (is refl))))
same_text a b false u v is back = elim (cases_Bool (bytes_eq (chars b) (chars a))) [
  | inl e ↦ let same = back (same_bytes a b u v (sym ((bytes_eq-Decides (chars b) (chars a)).0 e))) in absurd (cc same)
  | inr e ↦ sym e
]

pub no_spelling : (k : TokenKind) (cs ds : List ℕ) → (k ≡ kind.Name → ⊥) → is_spelling cs (token_of k ds) ≡ false
no_spelling kind.Name cs ds none = absurd (none refl)
no_spelling _ cs ds none = refl

pub spelled_next : (cs : List ℕ) (t : PlacedToken) (left : List PlacedToken) (b : Bool) → Some t ≡ first left → b ≡ is_spelling cs t.token → b ≡ is_spelled cs (first left)
unfolding is_spelled
spelled_next cs t left b at e = e ∙ ap (is_spelled cs) at

-- a spelling that is read, by its bytes
pub spelling_so : {cs ds : List ℕ} (s : Standing) {o : Outcome (Unit {0})} → cs ≡ ds → reads (OfSpelling cs) s ≡ o → reads (OfSpelling ds) s ≡ o
spelling_so s e read = ap (λ xs. reads (OfSpelling xs) s) (sym e) ∙ read

pub spelling_reads : (cs : List ℕ) (s : Standing) (b : Bool) → is_spelled cs (first s.left) ≡ b → reads (OfSpelling cs) s ≡ run reads (cond b (pass (give (tt {0}))) refuse) s
unfolding body
spelling_reads cs s b e = reads_is (OfSpelling cs) s ∙ ap (λ x. run reads (cond x (pass (give (tt {0}))) refuse) s) e
