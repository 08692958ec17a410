-- A text has at most one checked script, or one refusal.
use Rattle.std.proofs.Common.{◌≡◌, ℕ, List, subst}
use Rattle.theory_syntax.specs.Process.{Script}
use Rattle.theory_text.specs.Place.{Place}
use Rattle.theory_text.specs.Reading.{ReadingFault, IsReadingRefusal, IsUnrefusedText}
use Rattle.theory_text.proofs.ReadTexts.{read_not_refused}
use Rattle.theory_reader.proofs.Trees.{read_same, unrefused_read}
use Rattle.theory_checking.specs.Faults.{KindFault}
use Rattle.theory_checking.specs.Refusals.{IsKindRefusal}
use Rattle.theory_checking.specs.Checked.{IsCheckedTree, IsCheckedText, IsRefusedText}
use Rattle.theory_checking.specs.Laws.Refusals.{HasNoKindRefusal}
use Rattle.theory_checking.proofs.Unrefused.{not_unchecked}
use Rattle.theory_checking.proofs.FirstRefused.{one_script, one_refusal, checked_is_fine}

pub checked_script_same : (bytes : List ℕ) (s t : Script) → IsCheckedText bytes s → IsCheckedText bytes t → s ≡ t
checked_script_same bytes s t (raw, reads, checked) (tree, again, fine) =
    one_script raw s t checked.script_of (subst (λ r. IsCheckedTree r t) (read_same bytes tree raw again reads) fine).script_of

pub checked_not_unread : (bytes : List ℕ) (s : Script) (f : ReadingFault) (p : Place) → IsCheckedText bytes s → ¬ (IsReadingRefusal bytes f p)
checked_not_unread bytes s f p (raw, reads, checked) = read_not_refused bytes raw f p reads

pub checked_not_refused : (bytes : List ℕ) (s : Script) (f : KindFault) (p : Place) → IsCheckedText bytes s → ¬ (IsRefusedText bytes f p)
checked_not_refused bytes s f p (raw, reads, checked) (tree, again, refused) = checked_is_fine raw s f p checked (subst (λ r. IsKindRefusal r f p) (read_same bytes tree raw again reads) refused)

pub unread_not_refused : (bytes : List ℕ) (f : ReadingFault) (g : KindFault) (p q : Place) → IsReadingRefusal bytes f p → ¬ (IsRefusedText bytes g q)
unread_not_refused bytes f g p q unread (tree, reads, refused) = read_not_refused bytes tree f p reads unread

pub text_refusal_same : (bytes : List ℕ) (f g : KindFault) (p q : Place) → IsRefusedText bytes f p → IsRefusedText bytes g q → (f ≡ g) × (p ≡ q)
text_refusal_same bytes f g p q (raw, reads, refused) (tree, again, also) = one_refusal raw f g p q refused (subst (λ r. IsKindRefusal r g q) (read_same bytes tree raw again reads) also)

pub text_not_unchecked : (bytes : List ℕ) → IsUnrefusedText bytes → HasNoKindRefusal bytes → ¬ ((s : Script) → ¬ (IsCheckedText bytes s))
text_not_unchecked bytes readable fine none =
    let found = unrefused_read bytes readable in
    not_unchecked found.0 (λ f p h. fine f p (found.0, found.1, h)) (λ s h. none s (found.0, found.1, h))
