use Rattle.std.proofs.Common.{◌≡◌, ℕ, ◌-◌, List, ◌++◌, take, length, ap, subst, ◌∙◌, arith}
use Rattle.std.proofs.Math.Seq.{take-append_seam}
use Rattle.std.proofs.lemmas.Str.{IsCharBoundary-at_seam, IsUtf8-had, chars-encodes}
use Rattle.std.specs.Str.{IsCharBoundary, chars, encode_utf8_all}
use Rattle.std.specs.List.{slice_range}
use Rattle.csp_lex.proofs.Steps.{rest_bytes, passed_scalars}
use Rattle.csp_lex.proofs.cursors.Cursor.text_to.Goals as goal
use Rattle.csp_lex.proofs.cursors.Cursor.text_to.Goals.{After-range}

pub range-requires-clause-end_boundary : goal.range-requires-clause-end_boundary
range-requires-clause-end_boundary c =
    let text = c.args.self.rest.now in
    let rest = c.args.end.rest.now in
    let front = encode_utf8_all c.requires.0 in
    let size : length front ≡ c.args.end.offset - c.args.self.offset = omega (arith, c.requires.1.offset) in
    subst (IsCharBoundary text) size (IsCharBoundary-at_seam text front rest (rest_bytes c.requires.1) (IsUtf8-had rest c.args.end.utf8))

slice_front : (xs ys : List ℕ) → slice_range (xs ++ ys) 0 (length xs) ≡ xs
slice_front xs ys = let e : length xs - 0 ≡ length xs = omega arith in ap (λ n. take n (xs ++ ys)) e ∙ take-append_seam xs ys

pub returns-clause-bytes : goal.returns-clause-bytes
returns-clause-bytes c front passes =
    let size : c.args.end.offset - c.args.self.offset ≡ length (encode_utf8_all front) = omega (arith, passes.offset) in
    let text = c.args.self.rest.now in
    let rest = c.args.end.rest.now in
    c.range.ensures.value ∙ ap (slice_range text 0) size ∙ ap (λ t. slice_range t 0 (length (encode_utf8_all front))) (rest_bytes passes) ∙ slice_front (encode_utf8_all front) rest

pub returns-clause-characters : goal.returns-clause-characters
returns-clause-characters c front passes = ap chars (returns-clause-bytes c front passes) ∙ chars-encodes front (passed_scalars passes)
