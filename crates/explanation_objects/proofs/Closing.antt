-- A line has the fields in braces.
use Rattle.std.proofs.Common.{◌≡◌, List, [], ◌∷◌, ◌++◌, Result, Ok, Err, sym, ap, ◌∙◌}
use Rattle.std.specs.Prelude.{IfOk, codes}
use Rattle.std.specs.String.{string_bytes}
use Rattle.std.specs.declared.string.String.{String}
use Rattle.json.specs.Print.{print}
use Rattle.json.specs.Token.{Token, begin_object, end_object}
use Rattle.json.specs.Written.{Written}
use Rattle.theory_objects.specs.Fields.{Field, field_tokens, object_line}
use Rattle.theory_objects.proofs.Fields.{tokens_of_object}
use Rattle.explanation_objects.proofs.Putting.{HasPut}

pub closed : {E A : Type 0} (r : Result (String A) E) (start done : Written) (fields : List Field) → (start.before ≡ []) × (start.tokens ≡ begin_object ∷ []) → HasPut start done (field_tokens fields) →
    IfOk r (λ line. string_bytes line ≡ print (done.tokens ++ end_object ∷ []) ++ codes "\n") → IfOk r (λ line. string_bytes line ≡ object_line fields)
closed (Ok made) start done fields opened put line =
    let whole = ap (λ (ts : List Token). ts ++ end_object ∷ []) (put.1 ∙ ap (λ (ts : List Token). ts ++ field_tokens fields) opened.1) ∙ sym (tokens_of_object fields) in
    line ∙ ap (λ (ts : List Token). print ts ++ codes "\n") whole
closed (Err e) start done fields opened put line = tt
