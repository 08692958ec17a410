-- The longest mark, where no longer one stands next.
use Rattle.std.proofs.Common.{◌≡◌, ℕ, ◌<◌, ◌≤◌, List, length, take, sym, ap, subst, inl, inr, ◌∙◌, Some, None, Option, IfNone, arith, length-append}
use Rattle.std.proofs.lemmas.Bool.{cases_lt}
use Rattle.std.proofs.Math.Seq.{take-append_seam}
use Rattle.theory_text.specs.Spelling.{mark_of}
use Rattle.theory_text.specs.Token.{StartsWithNoLexeme}
use Rattle.theory_text.specs.Fronts.{StartsPlainly}
use Rattle.theory_text.proofs.Fronts.{mark_longest, no_mark_begins}
use Rattle.csp_lex.specs.declared.cursors.Cursor.{Cursor}
use Rattle.csp_lex.specs.declared.marks.Mark.{Mark}
use Rattle.csp_lex.specs.Cursors.{left_of, Passes, Begins}
use Rattle.csp_lex.specs.Marks.{lexeme_of, ReadsMark, HasNoMarkOf}

-- what a step passes over is the front of what was left
pub front_is : {old new : Cursor} {front : List ℕ} → Passes old front new → take (length front) (left_of old) ≡ front
front_is {old} {new} {front} passes = ap (take (length front)) passes.characters ∙ take-append_seam front (left_of new)

pub front_within : {old new : Cursor} {front : List ℕ} → Passes old front new → length front ≤ length (left_of old)
front_within {old} {new} {front} passes = omega (arith, ap (λ l. length l) passes.characters, length-append front (left_of new))

pub begins_mark : (n : ℕ) (cursor end : Cursor) (mark : Mark) → StartsPlainly (left_of cursor) → ((k : ℕ) → n < k → k < 4 → HasNoMarkOf k cursor) → ReadsMark n cursor mark end → Begins cursor (lexeme_of mark) end
begins_mark n cursor end mark plain none reads = record {
  front = reads.front;
  passes = reads.passes;
  longest = mark_longest (left_of cursor) (length reads.front) (lexeme_of mark) plain (front_within reads.passes) (ap mark_of (front_is reads.passes) ∙ reads.is_mark)
      (λ k above below. none k (omega (arith, above, reads.size)) below);
}

-- no mark of a size between these bounds, from the sizes one by one
pub none_above_three : (cursor : Cursor) (k : ℕ) → 3 < k → k < 4 → HasNoMarkOf k cursor
none_above_three cursor k above below = absurd (omega (arith, above, below))

pub none_above_two : (cursor : Cursor) → HasNoMarkOf 3 cursor → (k : ℕ) → 2 < k → k < 4 → HasNoMarkOf k cursor
none_above_two cursor three k above below = let e : k ≡ 3 = omega (arith, above, below) in subst (λ n. HasNoMarkOf n cursor) (sym e) three

pub none_above_one : (cursor : Cursor) → HasNoMarkOf 2 cursor → HasNoMarkOf 3 cursor → (k : ℕ) → 1 < k → k < 4 → HasNoMarkOf k cursor
none_above_one cursor two three k above below = elim (cases_lt 2 k) [
  | inl h ↦ none_above_two cursor three k h below
  | inr h ↦ let e : k ≡ 2 = omega (arith, above, h) in subst (λ n. HasNoMarkOf n cursor) (sym e) two
]

pub none_above_zero : (cursor : Cursor) → HasNoMarkOf 1 cursor → HasNoMarkOf 2 cursor → HasNoMarkOf 3 cursor → (k : ℕ) → 0 < k → k < 4 → HasNoMarkOf k cursor
none_above_zero cursor one two three k above below = elim (cases_lt 1 k) [
  | inl h ↦ none_above_one cursor two three k h below
  | inr h ↦ let e : k ≡ 1 = omega (arith, above, h) in subst (λ n. HasNoMarkOf n cursor) (sym e) one
]

pub no_mark_at : (cursor : Cursor) → StartsPlainly (left_of cursor) → HasNoMarkOf 1 cursor → HasNoMarkOf 2 cursor → HasNoMarkOf 3 cursor → StartsWithNoLexeme (left_of cursor)
no_mark_at cursor plain one two three = no_mark_begins (left_of cursor) plain (none_above_zero cursor one two three)

pub none_then : {X P Q : Type 0} (r : Option X) → IfNone r P → (P → Q) → IfNone r Q
none_then None h then = then h
none_then (Some x) h then = tt
