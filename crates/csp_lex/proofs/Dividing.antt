-- The division of a text, as far as it is read.
use Rattle.std.proofs.Common.{◌≡◌, ℕ, ◌-◌, ◌<◌, ◌≤◌, List, [], ◌∷◌, ◌++◌, length, take, drop, map, sym, ap, ap₂, subst, ◌∙◌, Option, Some, None, arith, append_assoc, append-nil, length-append}
use Rattle.std.proofs.Math.Seq.{take-append_seam, drop-append_seam}
use Rattle.std.proofs.lemmas.Str.{encodes-append, encodes-chars, scalars-chars}
use Rattle.std.proofs.lemmas.List.{map-append}
use Rattle.std.specs.List.{slice_range}
use Rattle.std.specs.Option.{option_map}
use Rattle.std.specs.Str.{IsUtf8, chars, encode_utf8_all}
use Rattle.theory_text.specs.Place.{first_place, place_after, bytes_of}
use Rattle.theory_text.specs.Token as spelled
use Rattle.theory_text.specs.Token.{PlacedToken, placed, IsPiece, IsDivided, AreCharacters, AreTokens, longest_text, TextFault, IsRefusedHere, IsTextRefusal}
use Rattle.theory_text.proofs.Pieces.{divided_front, piece_is_some}
use Rattle.theory_text.proofs.TextPlaces.{place_after-append, bytes_of-append}
use Rattle.csp_lex.specs.declared.cursors.Cursor.{Cursor}
use Rattle.csp_lex.specs.declared.kinds.Token.{Token}
use Rattle.csp_lex.specs.declared.kinds.TokenKind.{TokenKind}
use Rattle.csp_lex.specs.Cursors.{left_of, Passes}
use Rattle.csp_lex.specs.Pieces.{ReadsPiece}
use Rattle.csp_lex.specs.Places.{place_of}
use Rattle.csp_lex.specs.Tokens.{token_of, placed_token, AreSlices}

-- The tokens are those of the text before the cursor.
pub record DividedSoFar (text : List ℕ) (tokens : List Token) (cursor : Cursor) : Type 0 where
  pub before : List ℕ
  pub characters : chars text ≡ before ++ left_of cursor
  pub place : place_of cursor.place ≡ place_after first_place before
  pub offset : cursor.offset ≡ bytes_of before
  pub divided : IsDivided [] (chars text) (map placed_token tokens) (left_of cursor)
  pub slices : AreSlices text tokens

pub divided_none : (text : List ℕ) (cursor : Cursor) → cursor.rest.now ≡ text → cursor.offset ≡ 0 → place_of cursor.place ≡ first_place → DividedSoFar text [] cursor
divided_none text cursor rest offset place = record {
  before = [];
  characters = ap chars (sym rest);
  place = place;
  offset = offset;
  divided = subst (λ bs. IsDivided [] (chars text) [] (chars bs)) (sym rest) (IsDivided.stop [] (chars text));
  slices = tt;
}

-- what stands behind the pieces so far and one more
module _ {text : List ℕ} {tokens : List Token} {cursor end : Cursor} {front : List ℕ} (so_far : DividedSoFar text tokens cursor) (passes : Passes cursor front end) where
  characters_more : chars text ≡ (so_far.before ++ front) ++ left_of end
  characters_more = so_far.characters ∙ ap (λ zs. so_far.before ++ zs) passes.characters ∙ sym (append_assoc so_far.before front (left_of end))

  place_more : place_of end.place ≡ place_after first_place (so_far.before ++ front)
  place_more = passes.place ∙ ap (λ p. place_after p front) so_far.place ∙ sym (place_after-append first_place so_far.before front)

  offset_more : end.offset ≡ bytes_of (so_far.before ++ front)
  offset_more = omega (arith, passes.offset, so_far.offset, bytes_of-append so_far.before front)

  divided_piece : (t : Option spelled.Token) → IsPiece (left_of cursor) (length front) t → IsDivided [] (chars text) (map placed_token tokens ++ placed so_far.before front t) (left_of end)
  divided_piece t piece =
      divided_front so_far.before front (left_of end) (subst (λ zs. IsDivided [] (chars text) (map placed_token tokens) zs) passes.characters so_far.divided)
      (ap (λ zs. so_far.before ++ zs) (sym passes.characters) ∙ sym so_far.characters) (subst (λ zs. IsPiece zs (length front) t) passes.characters piece)

-- a piece that is no token
pub divided_gap : {text : List ℕ} {tokens : List Token} {cursor end : Cursor} → DividedSoFar text tokens cursor → ReadsPiece cursor None end → DividedSoFar text tokens end
divided_gap {text} {tokens} {cursor} {end} so_far reads = record {
  before = so_far.before ++ reads.front;
  characters = characters_more so_far reads.passes;
  place = place_more so_far reads.passes;
  offset = offset_more so_far reads.passes;
  divided = subst (λ ts. IsDivided [] (chars text) ts (left_of end)) (append-nil (map placed_token tokens)) (divided_piece so_far reads.passes None reads.piece);
  slices = so_far.slices;
}

slices_more : (text : List ℕ) (tokens : List Token) (t : Token) → AreSlices text tokens → t.text.now ≡ slice_range text t.from t.to → AreSlices text (tokens ++ t ∷ [])
slices_more text [] t so_far one = (one, tt)
slices_more text (u ∷ tokens) t so_far one = (so_far.0, slices_more text tokens t so_far.1 one)

-- the bytes of a front that stands behind others
slice_behind : (text : List ℕ) (before front rest : List ℕ) (from to : ℕ) → IsUtf8 text → chars text ≡ (before ++ front) ++ rest → from ≡ bytes_of before → to ≡ bytes_of (before ++ front)
    → encode_utf8_all front ≡ slice_range text from to
slice_behind text before front rest from to utf8 e from_is to_is =
    let all = sym (encodes-chars text utf8) ∙ ap encode_utf8_all (e ∙ append_assoc before front rest) ∙ encodes-append before (front ++ rest) ∙ ap (λ bs. encode_utf8_all before ++ bs) (encodes-append front rest) in
    let size : to - from ≡ length (encode_utf8_all front) = omega (arith, from_is, to_is, bytes_of-append before front) in
    let behind = ap (drop from) all ∙ ap (λ n. drop n (encode_utf8_all before ++ (encode_utf8_all front ++ encode_utf8_all rest))) from_is ∙ drop-append_seam (encode_utf8_all before) (encode_utf8_all front ++ encode_utf8_all rest) in
    sym (ap₂ take size behind ∙ take-append_seam (encode_utf8_all front) (encode_utf8_all rest))

-- a token
pub divided_token : {text : List ℕ} {tokens : List Token} {cursor end : Cursor} {kind : TokenKind} → IsUtf8 text → DividedSoFar text tokens cursor → (reads : ReadsPiece cursor (Some kind) end) → (t : Token)
    → t.kind ≡ kind → t.text.now ≡ encode_utf8_all reads.front → chars t.text.now ≡ reads.front → t.place ≡ cursor.place → t.from ≡ cursor.offset → t.to ≡ end.offset
    → DividedSoFar text (tokens ++ t ∷ []) end
divided_token {text} {tokens} {cursor} {end} {kind} utf8 so_far reads t kind_is bytes_are characters_are place_is from_is to_is =
    let from = from_is ∙ so_far.offset in
    let to = to_is ∙ offset_more so_far reads.passes in
    let token : token_of t.kind (chars t.text.now) ≡ token_of kind reads.front = ap₂ token_of kind_is characters_are in
    let place = ap place_of place_is ∙ so_far.place in
    let one : placed_token t ∷ [] ≡ placed so_far.before reads.front (Some (token_of kind reads.front)) = λ i. record { token = token i; place = place i; from = from i; to = to i } ∷ [] in
    let all = map-append placed_token tokens (t ∷ []) ∙ ap (λ ts. map placed_token tokens ++ ts) one in
    record {
      before = so_far.before ++ reads.front;
      characters = characters_more so_far reads.passes;
      place = place_more so_far reads.passes;
      offset = offset_more so_far reads.passes;
      divided = subst (λ ts. IsDivided [] (chars text) ts (left_of end)) (sym all) (divided_piece so_far reads.passes (Some (token_of kind reads.front)) reads.piece);
      slices = slices_more text tokens t so_far.slices (bytes_are ∙ slice_behind text so_far.before reads.front (left_of end) t.from t.to utf8 (characters_more so_far reads.passes) from to);
    }

-- the characters of a text, parted at the cursor
are_characters : {text : List ℕ} {tokens : List Token} {cursor : Cursor} → IsUtf8 text → DividedSoFar text tokens cursor → AreCharacters (chars text) text
are_characters {text} utf8 so_far = (scalars-chars text utf8, encodes-chars text utf8)

pub tokens_at_end : {text : List ℕ} {tokens : List Token} {cursor : Cursor} → IsUtf8 text → length text ≤ longest_text → DividedSoFar text tokens cursor → left_of cursor ≡ []
    → AreTokens text (map placed_token tokens) (place_of cursor.place)
tokens_at_end {text} {tokens} {cursor} utf8 short so_far none = record {
  short = short;
  characters = chars text;
  are_characters = are_characters utf8 so_far;
  divided = subst (λ zs. IsDivided [] (chars text) (map placed_token tokens) zs) none so_far.divided;
  end_is = so_far.place ∙ ap (place_after first_place) (sym (so_far.characters ∙ ap (λ zs. so_far.before ++ zs) none ∙ append-nil so_far.before));
}

pub refused_at : {text : List ℕ} {tokens : List Token} {cursor : Cursor} {fault : TextFault} → IsUtf8 text → length text ≤ longest_text → DividedSoFar text tokens cursor → IsRefusedHere (left_of cursor) fault
    → IsTextRefusal text fault (place_of cursor.place)
refused_at {text} {tokens} {cursor} {fault} utf8 short so_far refused =
    let before = so_far.before in
    let left = left_of cursor in
    let characters = subst (λ cs. AreCharacters cs text) so_far.characters (are_characters utf8 so_far) in
    let divided = subst (λ cs. IsDivided [] cs (map placed_token tokens) left) so_far.characters so_far.divided in
    subst (λ p. IsTextRefusal text fault p) (sym so_far.place) (IsTextRefusal.here before left (map placed_token tokens) fault short characters divided refused)

-- each piece leaves less of the text
pub piece_shrinks : {old new : Cursor} {kind : Option TokenKind} → ReadsPiece old kind new → length (left_of new) < length (left_of old)
piece_shrinks {old} {new} {kind} reads =
    omega (arith, piece_is_some (left_of old) (length reads.front) (option_map (λ k. token_of k reads.front) kind) reads.piece, ap (λ l. length l) reads.passes.characters, length-append reads.front (left_of new))
