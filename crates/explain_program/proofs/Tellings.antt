-- Explanations that are told one behind the other.
use Rattle.std.proofs.Common.{◌≡◌, ℕ, zero, suc, ◌+◌, ◌<◌, ◌≤◌, max, Bool, true, false, List, [], ◌∷◌, ◌++◌, length, take, refl, sym, ◌∙◌, ap, subst, append_assoc, append-nil, arith}
use Rattle.std.specs.Prelude.{Option, Result, Ok, Err, IfOk}
use Rattle.std.specs.String.{string_bytes}
use Rattle.std.specs.declared.string.String.{String}
use Rattle.std.specs.List.{AllZip}
use Rattle.std.proofs.lemmas.List.{length-take-le}
use Rattle.theory_syntax.specs.Process.{Script, Assertion}
use Rattle.theory_syntax.specs.Readings.{by_tau}
use Rattle.theory_search.specs.Answer.{as_written}
use Rattle.theory_search.specs.Outcome.{Outcome}
use Rattle.theory_explanation.specs.Accounts.{Account, told_text}
use Rattle.theory_explanation.specs.Telling.{IsAccount, IsTold}
use Rattle.theory_objects.specs.Answers.{answer_fields}
use Rattle.theory_objects.specs.Fields.{object_line}
use Rattle.explain_settings.specs.declared.format.Format.{Format}
use Rattle.explain_settings.specs.declared.format.Format.TheVariants as formats
use Rattle.report.specs.Sending.{Sends, Breaks}
use Rattle.report.proofs.Sending.{appends_nothing, both, later}
use Rattle.program.specs.Answering.{IsRightRead}
use Rattle.program.specs.Running.{status_of}
use Rattle.explain_program.specs.Asking.{Request, one_at, style_for}
use Rattle.explain_program.specs.Giving.{AreTold, GoesOut}
use Rattle.named_scripts.specs.Naming.{Labels}
use Rattle.explain_program.specs.Sizes.{IsSizeFor}
use Rattle.explain_program.specs.Telling.{IsToldAsAsked, IsToldBy, IsToldIn, TellsEach, answered, size_asked, sizes_asked}
use Rattle.explain_program.specs.declared.search_size.SearchSize.{SearchSize}

-- ---- one of them

module _ (request : Request) (script : Script) (labels : Labels) (n : ℕ) (written a : Assertion) (o : Outcome) where
  by_count : (count : Bool) (words text : List ℕ) (size : Option SearchSize) → IsTold (style_for request labels.names) script n written a o words → IsSizeFor script a request.bounds o size →
      text ≡ words ++ size_asked count a.property size → IsToldBy count request script labels n written a o text
  by_count true words text size told is whole = record { told = words; is_told = told; size = size; is_size = is; whole = whole }
  by_count false words text size told is whole = subst (IsTold (style_for request labels.names) script n written a o) (sym (whole ∙ append-nil words)) told

  -- in words, where that is asked for
  pub told_in_words : {E A : Type 0} (made : Result (String A) E) (words : List ℕ) (size : Option SearchSize) → request.format ≡ formats.Text → IsTold (style_for request labels.names) script n written a o words →
      IsSizeFor script a request.bounds o size → IfOk made (λ all. string_bytes all ≡ words ++ size_asked request.count a.property size) → IfOk made (λ all. IsToldAsAsked request script labels n written a o (string_bytes all))
  told_in_words (Ok all) words size asked told is whole =
      let T : Format → Type 0 = λ f. IsToldIn f request script labels n written a o (string_bytes all) in
      subst T (sym asked) (by_count request.count words (string_bytes all) size told is whole)
  told_in_words (Err e) words size asked told is whole = tt

  -- by an object, where that is asked for
  pub told_by_object : (text words : List ℕ) (found : Outcome) (account : Account) (size : Option SearchSize) → request.format ≡ formats.Json → o ≡ as_written written.negated found →
      IsAccount (style_for request labels.names) script written a found account → words ≡ told_text (style_for request labels.names) script n written a found account → IsSizeFor script a request.bounds o size →
      text ≡ object_line (answer_fields labels.names (answered labels n written found account words) (sizes_asked request.count written.property size)) → IsToldAsAsked request script labels n written a o text
  told_by_object text words found account size asked is_found told are is line =
      let T : Format → Type 0 = λ f. IsToldIn f request script labels n written a o text in
      subst T (sym asked) (record { found = found; is_found = is_found; account = account; is_account = told; words = words; are_words = are; size = size; is_size = is; line = line })

-- ---- lists of them

module _ (request : Request) (script : Script) (labels : Labels) where
  tells_both : (n m : ℕ) (asked others : List Assertion) (os ps : List Outcome) (text more : List ℕ) → m ≡ n + length asked →
      TellsEach request script labels n asked os text → TellsEach request script labels m others ps more → TellsEach request script labels n (asked ++ others) (os ++ ps) (text ++ more)
  tells_both n m [] others [] ps text more at none told =
      let here : m ≡ n = omega (arith, at) in
      rw none (subst (λ k. TellsEach request script labels k others ps more) here told)
  tells_both n m [] others (p ∷ os) ps text more at none told = absurd none
  tells_both n m (b ∷ asked) others [] ps text more at none told = absurd none
  tells_both n m (b ∷ asked) others (p ∷ os) ps text more at tells told =
      let here : m ≡ suc n + length asked = omega (arith, at) in
      let rest = tells_both (suc n) m asked others os ps tells.1 more here tells.4 told in
      (tells.0, tells.1 ++ more, ap (λ ts. ts ++ more) tells.2 ∙ append_assoc tells.0 tells.1 more, tells.3, rest)

zip_both : {X Y : Type 0} (R : X → Y → Type 0) (xs vs : List X) (ys ws : List Y) → AllZip R xs ys → AllZip R vs ws → AllZip R (xs ++ vs) (ys ++ ws)
zip_both R [] vs [] ws all others = others
zip_both R [] vs (y ∷ ys) ws all others = absurd all
zip_both R (x ∷ xs) vs [] ws all others = absurd all
zip_both R (x ∷ xs) vs (y ∷ ys) ws all others = (all.0, zip_both R xs vs ys ws all.1 others)

status_of_both : (os ps : List Outcome) → status_of (os ++ ps) ≡ max (status_of os) (status_of ps)
status_of_both [] ps = omega arith
status_of_both (o ∷ os) ps = let rest = status_of_both os ps in omega (arith, rest)

-- one member more at the end
take_one_more : {X : Type 0} (i : ℕ) (xs : List X) → take (suc i) xs ≡ take i xs ++ one_at i xs
take_one_more zero [] = refl
take_one_more zero (x ∷ xs) = refl
take_one_more (suc i) [] = refl
take_one_more (suc i) (x ∷ xs) = ap (λ ys. x ∷ ys) (take_one_more i xs)

-- ---- what went out

-- what is told of the assertion at the place, behind what is told of those before it
pub both_told : (request : Request) (script : Script) (labels : Labels) (place : ℕ) (P Q R : List Outcome → List ℕ → Type 0) → place ≤ length script.assertions →
    AreTold request script labels 1 (take place script.assertions) P → AreTold request script labels (suc place) (one_at place script.assertions) Q →
    ((os ps : List Outcome) (t u : List ℕ) → P os t → Q ps u → R (os ++ ps) (t ++ u)) → AreTold request script labels 1 (take (suc place) script.assertions) R
both_told request script labels place P Q R within first second joined =
    let asked = take place script.assertions in
    let one = one_at place script.assertions in
    let whole = take_one_more place script.assertions in
    let long : length asked ≡ place = length-take-le place script.assertions within in
    let at : suc place ≡ 1 + length asked = omega (arith, long) in
    let right = zip_both (IsRightRead script.unfolds (by_tau script) request.bounds) asked one first.outcomes second.outcomes first.right second.right in
    let told = tells_both request script labels 1 (suc place) asked one first.outcomes second.outcomes first.text second.text at first.told second.told in
    record {
      outcomes = first.outcomes ++ second.outcomes;
      text = first.text ++ second.text;
      right = rw whole right;
      told = rw whole told;
      went_out = joined first.outcomes second.outcomes first.text second.text first.went_out second.went_out;
    }

-- nothing is told of no assertion
pub none_told : (request : Request) (script : Script) (labels : Labels) (n : ℕ) (P : List Outcome → List ℕ → Type 0) → P [] [] → AreTold request script labels n [] P
none_told request script labels n P went_out = record { outcomes = []; text = []; right = tt; told = refl; went_out = went_out }

-- no text went out
pub no_text : (a : Option (List ℕ)) (failed : Bool) → failed ≡ false → Sends a a failed []
no_text a failed works = record { bytes = appends_nothing a; works = works }

pub none_out : (a : Option (List ℕ)) (failed : Bool) → failed ≡ false → GoesOut a a failed 0 [] []
none_out a failed works = record { bytes = no_text a failed works; status_is = refl }

-- what went out is weakened
pub told_so : (request : Request) (script : Script) (labels : Labels) (n : ℕ) (asked : List Assertion) (P Q : List Outcome → List ℕ → Type 0) → AreTold request script labels n asked P →
    ((os : List Outcome) (t : List ℕ) → P os t → Q os t) → AreTold request script labels n asked Q
told_so request script labels n asked P Q told weaker = record {
  outcomes = told.outcomes;
  text = told.text;
  right = told.right;
  told = told.told;
  went_out = weaker told.outcomes told.text told.went_out;
}

both_out : {a b c : Option (List ℕ)} {f g : Bool} (s t all : ℕ) → all ≡ max s t → (os ps : List Outcome) (x y : List ℕ) → GoesOut a b f s os x → GoesOut b c g t ps y → GoesOut a c g all (os ++ ps) (x ++ y)
both_out {a} {b} {c} {f} {g} s t all is os ps x y first second =
    let whole = status_of_both os ps in
    let one = first.status_is in
    let other = second.status_is in
    record { bytes = both {a = a} {b = b} {c = c} first.bytes second.bytes; status_is = omega (arith, whole, one, other, is) }

-- one explanation more went out
pub one_more : (request : Request) (script : Script) (labels : Labels) (place : ℕ) (a b c : Option (List ℕ)) (f g : Bool) (s t all : ℕ) → place < length script.assertions → all ≡ max s t →
    AreTold request script labels 1 (take place script.assertions) (GoesOut a b f s) → AreTold request script labels (suc place) (one_at place script.assertions) (GoesOut b c g t) →
    AreTold request script labels 1 (take (suc place) script.assertions) (GoesOut a c g all)
one_more request script labels place a b c f g s t all within is first second =
    both_told request script labels place (GoesOut a b f s) (GoesOut b c g t) (GoesOut a c g all) (omega (arith, within)) first second (both_out {a = a} {b = b} {c = c} {f = f} {g = g} s t all is)

-- one more was cut off
pub one_cut : (request : Request) (script : Script) (labels : Labels) (place : ℕ) (a b c : Option (List ℕ)) (f g : Bool) (s : ℕ) → place < length script.assertions →
    AreTold request script labels 1 (take place script.assertions) (GoesOut a b f s) → AreTold request script labels (suc place) (one_at place script.assertions) (λ os text. Breaks b c g text) →
    AreTold request script labels 1 (take (suc place) script.assertions) (λ os text. Breaks a c g text)
one_cut request script labels place a b c f g s within first second =
    both_told request script labels place (GoesOut a b f s) (λ os text. Breaks b c g text) (λ os text. Breaks a c g text) (omega (arith, within)) first second (λ os ps x y out broken. later out.bytes broken)
