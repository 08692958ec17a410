-- A text that goes out in pieces.
use Rattle.std.proofs.Common.{◌≡◌, ℕ, Bool, false, List, [], ◌∷◌, ◌++◌, refl, sym, ◌∙◌, ap, subst, append_assoc, append-nil, arith, take-append-drop}
use Rattle.std.specs.Prelude.{zero, suc, ◌<◌, ◌||◌, Option, None, Some, Result, Ok, Err, OnErr, take, drop}
use Rattle.std.specs.Io.KnownBytes.{Appends}
use Rattle.report.specs.Sending.{Sends, Breaks, breaks_down}

-- A part of the text was taken, this is left, and the sink has not failed.
pub record IsUnderWay (old now : Option (List ℕ)) (failed : Bool) (text left : List ℕ) : Type 0 where
  pub sent : List ℕ
  pub split : text ≡ sent ++ left
  pub bytes : Appends old now sent
  pub works : failed ≡ false

pub appends_nothing : (a : Option (List ℕ)) → Appends a a []
appends_nothing None = tt
appends_nothing (Some xs) = sym (append-nil xs)

pub appends_more : (a b c : Option (List ℕ)) (s t : List ℕ) → Appends a b s → Appends b c t → Appends a c (s ++ t)
appends_more None b c s t p q = tt
appends_more (Some xs) None c s t p q = absurd p
appends_more (Some xs) (Some ys) None s t p q = absurd q
appends_more (Some xs) (Some ys) (Some zs) s t p q = q ∙ ap (λ us. us ++ t) p ∙ append_assoc xs s t

-- a call that took something has not broken down
pub took_some : (n : ℕ) (rest : List ℕ) → 0 < n → breaks_down {E = Unit {0}} (Ok n) rest ≡ false
took_some n [] some = refl
took_some zero (b ∷ rest) some = absurd (omega arith)
took_some (suc n) (b ∷ rest) some = refl

pub begins : (a : Option (List ℕ)) (failed : Bool) (text : List ℕ) → failed ≡ false → IsUnderWay a a failed text text
begins a failed text works = record { sent = []; split = refl; bytes = appends_nothing a; works = works }

pub goes_on : {a b c : Option (List ℕ)} {f g : Bool} {text piece left : List ℕ} →
    IsUnderWay a b f text (piece ++ left) → Sends b c g piece → IsUnderWay a c g text left
goes_on {a} {b} {c} {f} {g} {text} {piece} {left} way sends = record {
  sent = way.sent ++ piece;
  split = way.split ∙ sym (append_assoc way.sent piece left);
  bytes = appends_more a b c way.sent piece way.bytes sends.bytes;
  works = sends.works;
}

pub stops : {a b c : Option (List ℕ)} {f g : Bool} {text piece : List ℕ} (left : List ℕ) →
    IsUnderWay a b f text (piece ++ left) → Breaks b c g piece → Breaks a c g text
stops {a} {b} {c} {f} {g} {text} {piece} left way breaks = record {
  sent = way.sent ++ breaks.sent;
  lost = breaks.lost ++ left;
  beginning = way.split ∙ ap (λ xs. way.sent ++ (xs ++ left)) breaks.beginning ∙ ap (λ xs. way.sent ++ xs) (append_assoc breaks.sent breaks.lost left) ∙ sym (append_assoc way.sent breaks.sent (breaks.lost ++ left));
  bytes = appends_more a b c way.sent breaks.sent way.bytes breaks.bytes;
  broken = breaks.broken;
}

pub arrives : {a b : Option (List ℕ)} {f : Bool} {text : List ℕ} → IsUnderWay a b f text [] → Sends a b f text
arrives {a} {b} {f} {text} way =
    let P : List ℕ → Type 0 = λ xs. Appends a b xs in
    record { bytes = subst P (sym (way.split ∙ append-nil way.sent)) way.bytes; works = way.works }

-- A push that took the first n bytes of what was left, of which there are some.
pub pushes : {a b c : Option (List ℕ)} {f g : Bool} {text : List ℕ} (rest left : List ℕ) (n : ℕ) →
    IsUnderWay a b f text rest → 0 < n → Appends b c (take n rest) → g ≡ (f || breaks_down {E = Unit {0}} (Ok n) rest) → left ≡ drop n rest → IsUnderWay a c g text left
pushes {a} {b} {c} {f} {g} {text} rest left n way some bytes failure is =
    let way' : IsUnderWay a b f text (take n rest ++ left) = rw (is, take-append-drop n rest) way in
    goes_on way' (record { bytes = bytes; works = failure ∙ ap (λ h. h || breaks_down {E = Unit {0}} (Ok n) rest) way.works ∙ took_some n rest some })

-- One text and then another: both went out.
pub both : {a b c : Option (List ℕ)} {f g : Bool} {s t : List ℕ} → Sends a b f s → Sends b c g t → Sends a c g (s ++ t)
both {a} {b} {c} {f} {g} {s} {t} first second = record { bytes = appends_more a b c s t first.bytes second.bytes; works = second.works }

-- The first one went out, and the other one broke off; or the first one did.
pub later : {a b c : Option (List ℕ)} {f g : Bool} {s t : List ℕ} → Sends a b f s → Breaks b c g t → Breaks a c g (s ++ t)
later {a} {b} {c} {f} {g} {s} {t} first second = record {
  sent = s ++ second.sent;
  lost = second.lost;
  beginning = ap (λ xs. s ++ xs) second.beginning ∙ sym (append_assoc s second.sent second.lost);
  bytes = appends_more a b c s second.sent first.bytes second.bytes;
  broken = second.broken;
}

pub sooner : {a b : Option (List ℕ)} {f : Bool} {s : List ℕ} (t : List ℕ) → Breaks a b f s → Breaks a b f (s ++ t)
sooner {a} {b} {f} {s} t first = record {
  sent = first.sent;
  lost = first.lost ++ t;
  beginning = ap (λ xs. xs ++ t) first.beginning ∙ append_assoc first.sent first.lost t;
  bytes = first.bytes;
  broken = first.broken;
}

-- what is said of an error that is handed on
pub on_error : {X E B : Type 0} (r : Result X E) → B → OnErr r B
on_error (Ok x) b = tt
on_error (Err e) b = b
