-- The pieces of a text, from what stands at their fronts.
use Rattle.std.proofs.Common.{◌≡◌, ℕ, zero, suc, ◌+◌, ◌<◌, true, false, not, List, [], ◌∷◌, ◌++◌, length, take, drop, refl, sym, ap, subst, ◌∙◌, Option, None, arith, nat_eq, codes, append_assoc, append-nil, inl, inr, length-append, take-append-drop, length-take-le}
use Rattle.std.proofs.lemmas.Bool.{cases_Bool, both_ways, and_parts}
use Rattle.std.proofs.lemmas.List.{append_cancel_right}
use Rattle.std.proofs.Math.Seq.{take-append_seam, drop-append_seam}
use Rattle.std.specs.List.{list_all}
use Rattle.theory_text.specs.Place.{line_feed}
use Rattle.theory_text.specs.Token.{Token, Lexeme, TokenLexeme, ToLineEnd, ToMark, IsLexeme, IsLongest, IsPiece, is_at_line_end, IsLineEnd, IsFirstMark, HasNoMark, PlacedToken, placed, IsDivided, IsRefusedHere, OpenComment}
use Rattle.theory_text.specs.Fronts.{StopsAt}
use Rattle.theory_text.proofs.Spelling.{lexeme_is}

longest_is_some : (cs : List ℕ) (n : ℕ) (x : Lexeme) → IsLongest cs n x → 0 < n
longest_is_some cs zero x a = let e = lexeme_is [] x a.spelled in absurd (cc e)
longest_is_some cs (suc n) x a = omega arith

opening_of_line : (cs : List ℕ) (x : Lexeme) → x ≡ ToLineEnd → IsLexeme cs x → cs ≡ codes "--"
opening_of_line cs x e (IsLexeme.token {t = t} s) = absurd (cc e)
opening_of_line cs x e (IsLexeme.white c w) = absurd (cc e)
opening_of_line cs x e IsLexeme.to_line_end = refl
opening_of_line cs x e IsLexeme.to_mark = absurd (cc e)

opening_of_mark : (cs : List ℕ) (x : Lexeme) → x ≡ ToMark → IsLexeme cs x → cs ≡ codes "{-"
opening_of_mark cs x e (IsLexeme.token {t = t} s) = absurd (cc e)
opening_of_mark cs x e (IsLexeme.white c w) = absurd (cc e)
opening_of_mark cs x e IsLexeme.to_line_end = absurd (cc e)
opening_of_mark cs x e IsLexeme.to_mark = refl

-- both beginnings of a comment have two characters
pub line_opening_size : (cs : List ℕ) (n : ℕ) → IsLongest cs n ToLineEnd → n ≡ 2
line_opening_size cs n a = sym (length-take-le n cs a.within) ∙ ap (λ l. length l) (opening_of_line (take n cs) ToLineEnd refl a.spelled)

pub mark_opening_size : (cs : List ℕ) (n : ℕ) → IsLongest cs n ToMark → n ≡ 2
mark_opening_size cs n a = sym (length-take-le n cs a.within) ∙ ap (λ l. length l) (opening_of_mark (take n cs) ToMark refl a.spelled)

at_end_of_run : (rest : List ℕ) → StopsAt (λ c. not (nat_eq c line_feed)) rest → is_at_line_end rest ≡ true
at_end_of_run [] stops = refl
at_end_of_run (c ∷ cs) stops = elim (cases_Bool (nat_eq c line_feed)) [ inl e ↦ e | inr e ↦ absurd (both_ways (not (nat_eq c line_feed)) stops (ap not e)) ]

within_run : (run rest : List ℕ) (m : ℕ) → list_all (λ c. not (nat_eq c line_feed)) run ≡ true → m < length run → is_at_line_end (drop m (run ++ rest)) ≡ false
within_run [] rest m all within = absurd (omega (arith, within))
within_run (c ∷ run) rest zero all within =
    elim (cases_Bool (nat_eq c line_feed)) [ inr e ↦ e | inl e ↦ absurd (both_ways (not (nat_eq c line_feed)) (ap not e) (and_parts (not (nat_eq c line_feed)) (list_all (λ c. not (nat_eq c line_feed)) run) all).0) ]
within_run (c ∷ run) rest (suc m) all within =
    within_run run rest m (and_parts (not (nat_eq c line_feed)) (list_all (λ c. not (nat_eq c line_feed)) run) all).1 (omega (arith, within))

-- a run of characters within a line ends at the line's end
pub line_end_of_run : (run rest : List ℕ) → list_all (λ c. not (nat_eq c line_feed)) run ≡ true → StopsAt (λ c. not (nat_eq c line_feed)) rest → IsLineEnd (run ++ rest) (length run)
line_end_of_run run rest all stops = (
  omega (arith, length-append run rest),
  ap is_at_line_end (drop-append_seam run rest) ∙ at_end_of_run rest stops,
  λ m within. within_run run rest m all within,
)

-- behind an opening of two characters
behind_opening : (cs opening rest : List ℕ) → cs ≡ opening ++ rest → length opening ≡ 2 → rest ≡ drop 2 cs
behind_opening cs opening rest e two = sym (drop-append_seam opening rest) ∙ ap (λ n. drop n (opening ++ rest)) two ∙ ap (drop 2) (sym e)

pub line_comment_is : (cs opening run rest : List ℕ) → cs ≡ opening ++ (run ++ rest) → IsLongest cs (length opening) ToLineEnd
    → list_all (λ c. not (nat_eq c line_feed)) run ≡ true → StopsAt (λ c. not (nat_eq c line_feed)) rest → IsPiece cs (length (opening ++ run)) None
line_comment_is cs opening run rest e longest all stops =
    let two = line_opening_size cs (length opening) longest in
    let ended = subst (λ zs. IsLineEnd zs (length run)) (behind_opening cs opening (run ++ rest) e two) (line_end_of_run run rest all stops) in
    let size : 2 + length run ≡ length (opening ++ run) = omega (arith, two, length-append opening run) in
    subst (λ n. IsPiece cs n None) size (IsPiece.line_comment (length run) (subst (λ n. IsLongest cs n ToLineEnd) two longest) ended)

pub mark_comment_is : (cs opening body rest : List ℕ) → cs ≡ opening ++ rest → IsLongest cs (length opening) ToMark → IsFirstMark rest (length body) → IsPiece cs (length (opening ++ (body ++ codes "-}"))) None
mark_comment_is cs opening body rest e longest first =
    let two = mark_opening_size cs (length opening) longest in
    let ended = subst (λ zs. IsFirstMark zs (length body)) (behind_opening cs opening rest e two) first in
    let size : 2 + length body + 2 ≡ length (opening ++ (body ++ codes "-}")) = omega (arith, two, length-append opening (body ++ codes "-}"), length-append body (codes "-}")) in
    subst (λ n. IsPiece cs n None) size (IsPiece.mark_comment (length body) (subst (λ n. IsLongest cs n ToMark) two longest) ended)

pub open_comment_is : (cs opening rest : List ℕ) → cs ≡ opening ++ rest → IsLongest cs (length opening) ToMark → HasNoMark rest → IsRefusedHere cs OpenComment
open_comment_is cs opening rest e longest none =
    let two = mark_opening_size cs (length opening) longest in
    IsRefusedHere.open_comment (subst (λ n. IsLongest cs n ToMark) two longest) (subst HasNoMark (behind_opening cs opening rest e two) none)

-- one more piece of what is divided so far
pub divided_more : {start cs left : List ℕ} {ts : List PlacedToken} {n : ℕ} {t : Option Token} (before : List ℕ) → IsDivided start cs ts left → before ++ left ≡ start ++ cs → IsPiece left n t
    → IsDivided start cs (ts ++ placed before (take n left) t) (drop n left)
divided_more {n = n} {t = t} before (IsDivided.stop start cs) e piece =
    let all = IsDivided.piece piece (IsDivided.stop (start ++ take n cs) (drop n cs)) in
    let one = subst (λ ts. IsDivided start cs ts (drop n cs)) (append-nil (placed start (take n cs) t)) all in
    subst (λ b. IsDivided start cs (placed b (take n cs) t) (drop n cs)) (sym (append_cancel_right before start cs e)) one
divided_more {left = left} {n = n} {t = t} before (IsDivided.piece {before = start} {cs = cs} {n = m} {t = u} {ts = ts} p rest) e piece =
    let same = e ∙ ap (λ zs. start ++ zs) (sym (take-append-drop m cs)) ∙ sym (append_assoc start (take m cs) (drop m cs)) in
    subst (λ zs. IsDivided start cs zs (drop n left)) (sym (append_assoc (placed start (take m cs) u) ts (placed before (take n left) t)))
    (IsDivided.piece p (divided_more before rest same piece))

-- the same, where the piece is a front of what is left
pub divided_front : {cs : List ℕ} {ts : List PlacedToken} {t : Option Token} (before front rest : List ℕ) → IsDivided [] cs ts (front ++ rest) → before ++ (front ++ rest) ≡ cs → IsPiece (front ++ rest) (length front) t
    → IsDivided [] cs (ts ++ placed before front t) rest
divided_front {cs} {ts} {t} before front rest divided e piece =
    subst (λ zs. IsDivided [] cs (ts ++ placed before zs t) rest) (take-append_seam front rest)
    (subst (λ zs. IsDivided [] cs (ts ++ placed before (take (length front) (front ++ rest)) t) zs) (drop-append_seam front rest) (divided_more before divided e piece))

-- a piece is not empty
pub piece_is_some : (cs : List ℕ) (n : ℕ) (t : Option Token) → IsPiece cs n t → 0 < n
piece_is_some cs n t (IsPiece.token {t = v} a r) = longest_is_some cs n (TokenLexeme v) a
piece_is_some cs n t (IsPiece.white a) = omega arith
piece_is_some cs n t (IsPiece.line_comment m a r) = omega arith
piece_is_some cs n t (IsPiece.mark_comment m a r) = omega arith
