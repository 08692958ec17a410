-- The laws of the spelling.
use Rattle.std.proofs.Common.{◌≡◌, ℕ, ◌+◌, List, [], ◌∷◌, ◌++◌, length, Some, None, sym, ap, ◌∙◌, arith}
use Rattle.std.proofs.lemmas.List.{append-nil}
use Rattle.theory_syntax.specs.Process.{Process}
use Rattle.theory_spelling.specs.Spelling.{spelling}
use Rattle.theory_spelling.specs.Spellable.{IsSpellable}
use Rattle.theory_spelling.specs.Reading.{IsBytes, Found, process_at, whole_term, term_of}
use Rattle.theory_spelling.proofs.Parts.{some_is}
use Rattle.theory_spelling.proofs.Taking.{process_takes}
use Rattle.theory_spelling.proofs.Again.{process_again}

abbrev found : Process → List ℕ → Found Process
found p rest = Some (p, rest)

-- no spelling is a beginning of another one
pub beginnings : (p q : Process) (more other : List ℕ) → IsSpellable p → IsSpellable q → spelling p ++ more ≡ spelling q ++ other → (p ≡ q) × (more ≡ other)
beginnings p q more other fits fits_too e =
    let n = length (spelling p) + length (spelling q) in
    let one : process_at n (spelling p ++ more) ≡ found p more = process_again n p (omega arith) fits more in
    let two : process_at n (spelling q ++ other) ≡ found q other = process_again n q (omega arith) fits_too other in
    let same : (p, more) ≡ (q, other) = some_is (p, more) (q, other) (sym one ∙ ap (process_at n) e ∙ two) in
    (ap (λ (x : Process × List ℕ). x.0) same, ap (λ (x : Process × List ℕ). x.1) same)

pub same_spelling : (p q : Process) → IsSpellable p → IsSpellable q → spelling p ≡ spelling q → p ≡ q
same_spelling p q fits fits_too e = (beginnings p q [] [] fits fits_too (ap (λ (bytes : List ℕ). bytes ++ []) e)).0

pub longer_is_none : (p q : Process) (b : ℕ) (more : List ℕ) → IsSpellable p → IsSpellable q → spelling p ++ b ∷ more ≡ spelling q → ⊥
longer_is_none p q b more fits fits_too e =
    let nothing : b ∷ more ≡ [] = (beginnings p q (b ∷ more) [] fits fits_too (e ∙ sym (append-nil (spelling q)))).1 in
    absurd (cc nothing)

pub term_again : (p : Process) → IsSpellable p → term_of (spelling p) ≡ Some p
unfolding term_of
term_again p fits =
    let n = length (spelling p) in
    ap whole_term (ap (process_at n) (sym (append-nil (spelling p))) ∙ process_again n p (omega arith) fits [])

whole_is : (r : Found Process) (p : Process) → whole_term r ≡ Some p → r ≡ found p []
whole_is (Some (q, [])) p e = ap (λ (x : Process). found x []) (some_is q p e)
whole_is (Some (q, b ∷ bytes)) p e = absurd (cc e)
whole_is None p e = absurd (cc e)

pub term_takes : (bytes : List ℕ) (p : Process) → IsBytes bytes → term_of bytes ≡ Some p → (spelling p ≡ bytes) × IsSpellable p
unfolding term_of
term_takes bytes p fits e =
    let s = process_takes (length bytes) bytes p [] fits (whole_is (process_at (length bytes) bytes) p e) in
    (sym (s.parts ∙ append-nil (spelling p)), s.fits)
