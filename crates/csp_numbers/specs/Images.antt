-- The images of a renaming by the numbers of events.
use Rattle.std.specs.Prelude.{◌≡◌, List, Some, None, Result}
use Rattle.std.specs.Result.{result_err}
use Rattle.theory_syntax.specs.Value.{Event}
use Rattle.theory_syntax.specs.Process.{RenamingPair, Script}
use Rattle.theory_semantics.specs.Meaning.Events.{images, renaming}
use Rattle.csp_expression.specs.Agreement.{Agrees}
use Rattle.csp_expression.specs.declared.no_value.NoValue.{NoValue}
use Rattle.csp_rows.specs.declared.framed.Images.{Images}
use Rattle.csp_rows.specs.Numbering.{Numbering}
use Rattle.csp_rows.specs.Framed.{AreImagesOf}
use Rattle.csp_numbers.specs.Numbers.{NumbersEvents}

-- The renaming has a value, and these are its images, whatever numbers these events by their places.
pub record AreImages {A : Type 0} (es : List Event) (script : Script) (rs : List RenamingPair) (by : Images A) : Type 0 where
  pub values : result_err (renaming script rs) ≡ None
  pub same : (z : Numbering) → NumbersEvents es z → AreImagesOf z (images script rs) by.images.items

-- the images, or the first cause
abbrev pub AnswersImages : {A : Type 0} → List Event → Script → List RenamingPair → Result (Images A) NoValue → Type 0
AnswersImages es script rs x = Agrees (λ by cause. AreImages es script rs by) (λ why cause. cause ≡ Some why) x (result_err (renaming script rs))
