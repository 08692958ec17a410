-- The mark that ends a comment, as far as a comment is read.
use Rattle.std.proofs.Common.{◌≡◌, ℕ, ◌<◌, false, List, [], ◌∷◌, ◌++◌, length, drop, refl, sym, ap, inl, inr, ◌∙◌, arith, nat_eq, length-append}
use Rattle.std.proofs.lemmas.Bool.{cases_lt, eqb-false, ne_eqb}
use Rattle.std.proofs.Math.Seq.{drop-append_seam}
use Rattle.theory_text.specs.Fronts.{StopsAt}
use Rattle.theory_text.specs.Token.{is_at_mark}
use Rattle.csp_lex.specs.declared.cursors.Cursor.{Cursor}
use Rattle.csp_lex.specs.Cursors.{left_of, Passes, EndsComment}
use Rattle.csp_lex.proofs.Steps.{passes_then}

-- A comment is read up to here, and no mark stood before.
pub record CommentSoFar (start here : Cursor) : Type 0 where
  pub body : List ℕ
  pub passes : Passes start body here
  pub unmarked : (m : ℕ) → m < length body → is_at_mark (drop m (left_of start)) ≡ false

-- what is left here is left behind the body
left_behind : {start here : Cursor} {body : List ℕ} → Passes start body here → drop (length body) (left_of start) ≡ left_of here
left_behind {start} {here} {body} passes = ap (drop (length body)) passes.characters ∙ drop-append_seam body (left_of here)

pub comment_goes_on : {start here behind : Cursor} {c : ℕ} → CommentSoFar start here → Passes here (c ∷ []) behind → is_at_mark (left_of here) ≡ false → CommentSoFar start behind
comment_goes_on {start} {here} {behind} {c} so_far step none = record {
  body = so_far.body ++ c ∷ [];
  passes = passes_then so_far.passes step;
  unmarked = λ m h. elim (cases_lt m (length so_far.body)) [
    | inl before ↦ so_far.unmarked m before
    | inr after ↦
        let e : m ≡ length so_far.body = omega (arith, after, h, length-append so_far.body (c ∷ [])) in
        ap (λ k. is_at_mark (drop k (left_of start))) e ∙ ap is_at_mark (left_behind so_far.passes) ∙ none
  ];
}

pub comment_ends : {start here by end : Cursor} → CommentSoFar start here → Passes here (45 ∷ []) by → Passes by (125 ∷ []) end → EndsComment start end
comment_ends {start} {here} {by} {end} so_far dash brace =
    let mark = passes_then dash brace in
    record {
      body = so_far.body;
      passes = passes_then so_far.passes mark;
      first = (ap is_at_mark (left_behind so_far.passes ∙ mark.characters), so_far.unmarked);
    }

equal_turned : (a b : ℕ) → nat_eq a b ≡ false → nat_eq b a ≡ false
equal_turned a b h = ne_eqb b a (λ e. eqb-false a b h (sym e))

-- a character that is no `-`, and a `-` with no `}` behind it
pub no_dash : (c : ℕ) (cs rest : List ℕ) → cs ≡ c ∷ rest → nat_eq c 45 ≡ false → is_at_mark cs ≡ false
no_dash c cs rest e h = ap is_at_mark e ∙ rw (equal_turned c 45 h) refl

pub no_brace : (cs rest : List ℕ) → cs ≡ 45 ∷ rest → StopsAt (λ c. nat_eq c 125) rest → is_at_mark cs ≡ false
no_brace cs [] e h = ap is_at_mark e
no_brace cs (c ∷ rest) e h = ap is_at_mark e ∙ rw (equal_turned c 125 h) refl
