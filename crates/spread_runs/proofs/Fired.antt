-- What the form of an expansion says of a term.
use Rattle.std.proofs.Common.{◌≡◌, sym, subst}
use Rattle.theory_syntax.specs.Process.{Process, Script}
use Rattle.theory_semantics.specs.Meaning.Expansions.{Form, Expansion, IsExpansion, IsFormOf}

pub form_at : (e : Expansion) (script : Script) (t : Process) (form : Form) → e.script ≡ script → e.term ≡ t → form ≡ e.form → IsExpansion e → IsFormOf script t form
form_at e script t form of_script of_term of_form exact =
    subst (λ s. IsFormOf s t form) of_script (subst (λ p. IsFormOf e.script p form) of_term (subst (λ f. IsFormOf e.script e.term f) (sym of_form) exact))
