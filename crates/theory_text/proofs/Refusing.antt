-- A text has one refusal at most, at one place, and its tokens rise.
use Rattle.std.proofs.Common.{◌≡◌, ℕ, ◌<◌, ◌≤◌, List, [], ◌∷◌, ◌++◌, length, take, drop, refl, sym, ap, subst, ◌∙◌, Some, None, arith, append_assoc, take-append-drop, length-take-le}
use Rattle.std.proofs.lemmas.List.{append_cancel_right, take_all}
use Rattle.std.proofs.lemmas.Str.{encodes_same, utf8_valid_len-IsValidUpTo, length-le-encodes}
use Rattle.std.specs.Str.{IsUtf8, IsValidUpTo, chars}
use Rattle.theory_text.specs.Place.{Place, first_place, place_after, bytes_of}
use Rattle.theory_text.specs.Spans.{RiseBetween, AreInRange}
use Rattle.theory_text.specs.Token.{Token, IsInRange, IsPiece, PlacedToken, IsDivided, AreCharacters, AreTokens, TextFault, IsRefusedHere, IsTextRefusal}
use Rattle.theory_text.proofs.Division.{longest_lexeme, piece_same, refused_no_piece, some_lexeme}
use Rattle.theory_text.proofs.Pieces.{piece_is_some}
use Rattle.theory_text.proofs.TextPlaces.{bytes_of-append}

-- what is refused is refused by one fault
fault_same : (cs : List ℕ) (f g : TextFault) → IsRefusedHere cs f → IsRefusedHere cs g → f ≡ g
fault_same cs f g (IsRefusedHere.no_token h none) (IsRefusedHere.no_token k nothing) = refl
fault_same cs f g (IsRefusedHere.no_token h none) (IsRefusedHere.open_comment a unclosed) = absurd (some_lexeme cs _ _ none a)
fault_same cs f g (IsRefusedHere.no_token h none) (IsRefusedHere.large_number n v a large) = absurd (some_lexeme cs _ _ none a)
fault_same cs f g (IsRefusedHere.open_comment a unclosed) (IsRefusedHere.no_token k none) = absurd (some_lexeme cs _ _ none a)
fault_same cs f g (IsRefusedHere.open_comment a unclosed) (IsRefusedHere.open_comment b unopened) = refl
fault_same cs f g (IsRefusedHere.open_comment a unclosed) (IsRefusedHere.large_number n v b large) = absurd (let e = longest_lexeme cs _ _ _ _ a b in cc e)
fault_same cs f g (IsRefusedHere.large_number n v a large) (IsRefusedHere.no_token k none) = absurd (some_lexeme cs _ _ none a)
fault_same cs f g (IsRefusedHere.large_number n v a large) (IsRefusedHere.open_comment b unclosed) = absurd (let e = longest_lexeme cs _ _ _ _ a b in cc e)
fault_same cs f g (IsRefusedHere.large_number n v a large) (IsRefusedHere.large_number m w b larger) = refl

-- two divisions that both end at what is refused end at the same
left_same : (before cs left over : List ℕ) (ts us : List PlacedToken) (f g : TextFault) → IsRefusedHere left f → IsRefusedHere over g → IsDivided before cs ts left → IsDivided before cs us over → left ≡ over
left_same before cs left over ts us f g r s (IsDivided.stop b c) (IsDivided.stop d e) = refl
left_same before cs left over ts us f g r s (IsDivided.stop b c) (IsDivided.piece {n = m} {t = u} q after) = absurd (refused_no_piece cs f m u r q)
left_same before cs left over ts us f g r s (IsDivided.piece {n = n} {t = t} p rest) (IsDivided.stop b c) = absurd (refused_no_piece cs g n t s p)
left_same before cs left over ts us f g r s (IsDivided.piece {n = n} {t = t} {ts = vs} p rest) (IsDivided.piece {n = m} {t = u} {ts = ws} q after) =
    left_same (before ++ take n cs) (drop n cs) left over vs ws f g r s rest
    (subst (λ k. IsDivided (before ++ take k cs) (drop k cs) ws over) (sym (piece_same cs n m t u p q).0) after)

here_same : (bytes before left front over : List ℕ) (ts us : List PlacedToken) (f g : TextFault) → AreCharacters (before ++ left) bytes → AreCharacters (front ++ over) bytes
    → IsDivided [] (before ++ left) ts left → IsDivided [] (front ++ over) us over → IsRefusedHere left f → IsRefusedHere over g → (f ≡ g) × (place_after first_place before ≡ place_after first_place front)
here_same bytes before left front over ts us f g are were divided parted r s =
    let all = encodes_same (front ++ over) (before ++ left) (were.1 ∙ sym are.1) in
    let same = left_same [] (before ++ left) left over ts us f g r s divided (subst (λ cs. IsDivided [] cs us over) all parted) in
    let fronts = append_cancel_right before front over (ap (λ zs. before ++ zs) (sym same) ∙ sym all) in
    (fault_same over f g (subst (λ cs. IsRefusedHere cs f) same r) s, ap (place_after first_place) fronts)

not_valid : (bytes cs : List ℕ) (n : ℕ) → AreCharacters cs bytes → ¬ (IsValidUpTo bytes n)
not_valid bytes cs n are valid = valid.longest (length bytes) valid.short (subst IsUtf8 (sym (take_all (length bytes) bytes (omega arith))) (cs, are))

-- a text has at most one refusal, at one place
pub refusal_same : (bytes : List ℕ) (f g : TextFault) (p q : Place) → IsTextRefusal bytes f p → IsTextRefusal bytes g q → (f ≡ g) × (p ≡ q)
refusal_same bytes f g p q (IsTextRefusal.long_text h) (IsTextRefusal.long_text k) = (refl, refl)
refusal_same bytes f g p q (IsTextRefusal.long_text h) (IsTextRefusal.not_utf8 m k valid) = absurd (omega (arith, h, k))
refusal_same bytes f g p q (IsTextRefusal.long_text h) (IsTextRefusal.here front over us e k were parted s) = absurd (omega (arith, h, k))
refusal_same bytes f g p q (IsTextRefusal.not_utf8 n h valid) (IsTextRefusal.long_text k) = absurd (omega (arith, h, k))
refusal_same bytes f g p q (IsTextRefusal.not_utf8 n h valid) (IsTextRefusal.not_utf8 m k also) =
    (refl, ap (λ i. place_after first_place (chars (take i bytes))) (sym (utf8_valid_len-IsValidUpTo bytes n valid) ∙ utf8_valid_len-IsValidUpTo bytes m also))
refusal_same bytes f g p q (IsTextRefusal.not_utf8 n h valid) (IsTextRefusal.here front over us e k were parted s) = absurd (not_valid bytes (front ++ over) n were valid)
refusal_same bytes f g p q (IsTextRefusal.here before left ts d h are divided r) (IsTextRefusal.long_text k) = absurd (omega (arith, h, k))
refusal_same bytes f g p q (IsTextRefusal.here before left ts d h are divided r) (IsTextRefusal.not_utf8 m k valid) = absurd (not_valid bytes (before ++ left) m are valid)
refusal_same bytes f g p q (IsTextRefusal.here before left ts d h are divided r) (IsTextRefusal.here front over us e k were parted s) =
    here_same bytes before left front over ts us d e are were divided parted r s

-- SPANS

longest_within : (cs : List ℕ) (n : ℕ) (t : Token) → IsPiece cs n (Some t) → n ≤ length cs
longest_within cs n t (IsPiece.token a r) = a.within

token_has_bytes : (before cs : List ℕ) (n : ℕ) (t : Token) → IsPiece cs n (Some t) → bytes_of before < bytes_of (before ++ take n cs)
token_has_bytes before cs n t p =
    omega (arith, bytes_of-append before (take n cs), length-le-encodes (take n cs), length-take-le n cs (longest_within cs n t p), piece_is_some cs n (Some t) p)

rise_earlier : (low from to : ℕ) (ts : List PlacedToken) → low ≤ from → RiseBetween from to ts → RiseBetween low to ts
rise_earlier low from to [] h rise = omega (arith, h, rise)
rise_earlier low from to (t ∷ ts) h rise = (omega (arith, h, rise.0), rise.1, rise.2)

token_in_range : (cs : List ℕ) (n : ℕ) (t : Token) → IsPiece cs n (Some t) → IsInRange t
token_in_range cs n t (IsPiece.token a r) = r

rejoined : (before cs : List ℕ) (n : ℕ) → (before ++ take n cs) ++ drop n cs ≡ before ++ cs
rejoined before cs n = append_assoc before (take n cs) (drop n cs) ∙ ap (λ zs. before ++ zs) (take-append-drop n cs)

divided_rises : (before cs left : List ℕ) (ts : List PlacedToken) → IsDivided before cs ts left → RiseBetween (bytes_of before) (bytes_of (before ++ cs)) ts
divided_rises before cs left ts (IsDivided.stop b c) = omega (arith, bytes_of-append before cs)
divided_rises before cs left ts (IsDivided.piece {n = n} {t = None} {ts = us} p rest) =
    rise_earlier (bytes_of before) (bytes_of (before ++ take n cs)) (bytes_of (before ++ cs)) us (omega (arith, bytes_of-append before (take n cs)))
    (subst (λ zs. RiseBetween (bytes_of (before ++ take n cs)) (bytes_of zs) us) (rejoined before cs n) (divided_rises (before ++ take n cs) (drop n cs) left us rest))
divided_rises before cs left ts (IsDivided.piece {n = n} {t = Some t} {ts = us} p rest) = (
  omega arith,
  token_has_bytes before cs n t p,
  subst (λ zs. RiseBetween (bytes_of (before ++ take n cs)) (bytes_of zs) us) (rejoined before cs n) (divided_rises (before ++ take n cs) (drop n cs) left us rest),
)

divided_in_range : (before cs left : List ℕ) (ts : List PlacedToken) → IsDivided before cs ts left → AreInRange ts
divided_in_range before cs left ts (IsDivided.stop b c) = tt
divided_in_range before cs left ts (IsDivided.piece {n = n} {t = None} {ts = us} p rest) = divided_in_range (before ++ take n cs) (drop n cs) left us rest
divided_in_range before cs left ts (IsDivided.piece {n = n} {t = Some t} {ts = us} p rest) = (token_in_range cs n t p, divided_in_range (before ++ take n cs) (drop n cs) left us rest)

-- the tokens of a text rise within its bytes
pub tokens_rise : (bytes : List ℕ) (ts : List PlacedToken) (end : Place) → AreTokens bytes ts end → RiseBetween 0 (length bytes) ts
tokens_rise bytes ts end are = subst (λ bs. RiseBetween 0 (length bs) ts) are.are_characters.1 (divided_rises [] are.characters [] ts are.divided)

-- no token of a text is too large a number
pub tokens_in_range : (bytes : List ℕ) (ts : List PlacedToken) (end : Place) → AreTokens bytes ts end → AreInRange ts
tokens_in_range bytes ts end are = divided_in_range [] are.characters [] ts are.divided
