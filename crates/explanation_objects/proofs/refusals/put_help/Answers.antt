-- Where nothing is told, nothing is put.
use Rattle.std.proofs.Common.{◌≡◌, ℕ, suc, Bool, true, false, List, [], ◌∷◌, length, refl, sym, ◌∙◌, subst, arith}
use Rattle.std.proofs.lemmas.Bool.{eqb-true}
use Rattle.std.specs.Prelude.{◌==◌, codes}
use Rattle.theory_objects.specs.Fields.{Field, field_tokens, text_field}
use Rattle.theory_objects.specs.Refusals.{help_fields}
use Rattle.explanation_objects.specs.Putting.{Puts}
use Rattle.explanation_objects.proofs.Putting.{HasPut, nothing}
use Rattle.explanation_objects.proofs.refusals.put_help.Goals as goal

no_help : (help : List ℕ) → (length help == 0) ≡ true → help_fields help ≡ []
no_help [] none = refl
no_help (c ∷ help) none =
    let n : suc (length help) ≡ 0 = eqb-true (length (c ∷ help)) 0 none in
    absurd (omega (arith, n))

some_help : (help : List ℕ) → (length help == 0) ≡ false → text_field (codes "help") help ∷ [] ≡ help_fields help
some_help [] some = let f : true ≡ false = some in absurd (cc f)
some_help (c ∷ help) some = refl

pub returns-then-is_empty : goal.returns-then-is_empty
returns-then-is_empty g c =
    let w = c.args.writer.now in
    let P : List Field → Type 0 = λ fs. HasPut w w (field_tokens fs) in
    subst P (sym (no_help c.args.help.now (sym c.is_empty.ensures ∙ c.if-is_empty.true))) (nothing w)

pub returns : goal.returns
returns g c = subst (Puts c.put_text.result c.args.writer.now c.put_text.new.writer) (some_help c.args.help.now (sym c.is_empty.ensures ∙ c.if-is_empty.false)) c.put_text.ensures
