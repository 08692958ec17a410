-- Events that are numbered by their places.
use Rattle.std.proofs.Common.{◌≡◌, ℕ, zero, suc, ◌<◌, ◌↔◌, Bool, false, List, [], ◌∷◌, length, map, get_or, Some, slice_get, refl, sym, ◌∙◌, ap, subst}
use Rattle.std.proofs.lemmas.Option.{slice_get-get_or}
use Rattle.theory_syntax.specs.Value.{Event, event_cmp}
use Rattle.theory_syntax.specs.Process.{Omega, Process}
use Rattle.theory_semantics.specs.Meaning.Offers.{RisesBy}
use Rattle.theory_shapes.proofs.Numbered.{apart}
use Rattle.csp_rows.specs.Numbering.{AreBitsOf, Numbering}
use Rattle.csp_numbers.specs.Numbers.{NumbersEvents, no_event}

pub numbered : (es : List Event) (part : ℕ → Process) → RisesBy event_cmp es → ((n : ℕ) → (part n ≡ Omega) ↔ (n ≡ 0)) → (z : Numbering) × NumbersEvents es z × (z.part ≡ part)
numbered es part rise first = (
  record { event = λ n. get_or es n no_event; events = length es; part = part; apart = λ n m. apart no_event es rise n m; first = first },
  record { count = refl; each = λ n within. slice_get-get_or es n no_event within },
  refl,
)

-- ---- bits

told_at : (test : Event → Bool) (es : List Event) (n : ℕ) (e : Event) → slice_get es n ≡ Some e → test e ≡ get_or (map test es) n false
told_at test [] n e at = absurd (cc at)
told_at test (f ∷ fs) zero e at = let same : f ≡ e = (let g : Some f ≡ Some e = at in cc g) in ap test (sym same)
told_at test (f ∷ fs) (suc n) e at = told_at test fs n e at

pub bits_by : (es : List Event) (z : Numbering) (test : Event → Bool) (marks : List Bool) → NumbersEvents es z → marks ≡ map test es → AreBitsOf z test marks
bits_by es z test marks numbers is n within =
    told_at test es n (z.event n) (numbers.each n (subst (λ k. n < k) numbers.count within)) ∙ ap (λ bs. get_or bs n false) (sym is)

-- so for a test that says the same
pub bits_for : (es : List Event) (z : Numbering) (test other : Event → Bool) (marks : List Bool) → NumbersEvents es z → ((e : Event) → other e ≡ test e) → marks ≡ map test es → AreBitsOf z other marks
bits_for es z test other marks numbers same is n within = same (z.event n) ∙ bits_by es z test marks numbers is n within
