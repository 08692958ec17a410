-- An item asks for what its equation or its assertion asks for.
use Rattle.std.specs.Prelude.{slice_get, option_map}
use Rattle.std.specs.declared.vec.Vec.{Vec}
use Rattle.std.proofs.Common.{◌≡◌, ℕ, List, Option, Some, None, sym, subst, ◌∙◌, ap}
use Rattle.std.proofs.lemmas.Option.{slice_get-map}
use Rattle.theory_syntax.specs.Process as pure
use Rattle.theory_checking.specs.Inference.Equations.{when}
use Rattle.theory_checking.specs.Inference.Items.{behind_assertion, behind_item, of_assertion, of_equation, of_item}
use Rattle.theory_checking.specs.Inference.Processes.{behind_process}
use Rattle.csp_term.specs.declared.assertion.Assertion.{Assertion}
use Rattle.csp_term.specs.declared.script.Equation.{Equation}
use Rattle.csp_term.specs.declared.script.ScriptParts.{ScriptParts}
use Rattle.csp_term.specs.Script.{assertion_of, equation_of, script_of_parts}
use Rattle.csp_term.specs.Term.{process_of}
use Rattle.csp_inference.specs.declared.chain.KindNumber.{KindNumber}
use Rattle.csp_inference.specs.declared.equations.Equations.{Equations}
use Rattle.csp_inference.specs.declared.numbering.Numbering.{Numbering}
use Rattle.csp_inference.specs.Equations.{Asks}
use Rattle.csp_inference.specs.Numbering.{numbering_of}
use Rattle.csp_lex.specs.declared.places.Place.{Place}
use Rattle.csp_inference.specs.declared.item_list.Item.{Item}
use Rattle.csp_inference.specs.declared.item_list.Item.TheVariants as item
use Rattle.csp_inference.specs.Items.{item_of}
use Rattle.csp_inference.specs.TreeNumbers.{row_numbers}

module _ {A : Type 0} (script : ScriptParts A) (o : Numbering A) (s t : Equations A) (x : Item) (place : Place) (n : ℕ) where
  pub equation_asked : x ≡ item.Equation place n → (q : Equation A) (ns : Vec KindNumber A) (lent : List KindNumber) → slice_get script.equations.items n ≡ Some q → slice_get o.parameters.items n ≡ Some ns → lent ≡ ns.items →
      Asks s t (of_equation (script_of_parts script) (numbering_of o) s.next (equation_of q) (row_numbers lent)) (behind_process s.next (process_of q.body)) → Asks s t (of_item (script_of_parts script) (numbering_of o) s.next (item_of x)) (behind_item (script_of_parts script) s.next (item_of x))
  equation_asked is q ns lent found numbered same h =
      let f : Vec KindNumber A → List ℕ = λ ms. row_numbers ms.items in
      let there : slice_get (script_of_parts script).equations n ≡ Some (equation_of q) = slice_get-map equation_of script.equations.items n ∙ ap (option_map equation_of) found in
      let row : slice_get (numbering_of o).parameters n ≡ Some (row_numbers lent) = slice_get-map f o.parameters.items n ∙ ap (option_map f) numbered ∙ ap (λ ms. Some (row_numbers ms)) (sym same) in
      let P : Option pure.Equation → Option (List ℕ) → Type 0 = λ u v. Asks s t (when u (λ z. when v (of_equation (script_of_parts script) (numbering_of o) s.next z))) (elim u [ Some z ↦ behind_process s.next z.body | None ↦ s.next ]) in
      let Q : Item → Type 0 = λ y. Asks s t (of_item (script_of_parts script) (numbering_of o) s.next (item_of y)) (behind_item (script_of_parts script) s.next (item_of y)) in
      subst Q (sym is) (subst (λ u. P u (slice_get (numbering_of o).parameters n)) (sym there) (subst (P (Some (equation_of q))) (sym row) h))

  pub assertion_asked : x ≡ item.Assertion place n → (a : Assertion A) → slice_get script.assertions.items n ≡ Some a → Asks s t (of_assertion (script_of_parts script) (numbering_of o) s.next (assertion_of a)) (behind_assertion s.next (assertion_of a)) →
      Asks s t (of_item (script_of_parts script) (numbering_of o) s.next (item_of x)) (behind_item (script_of_parts script) s.next (item_of x))
  assertion_asked is a found h =
      let there : slice_get (script_of_parts script).assertions n ≡ Some (assertion_of a) = slice_get-map assertion_of script.assertions.items n ∙ ap (option_map assertion_of) found in
      let P : Option pure.Assertion → Type 0 = λ u. Asks s t (when u (of_assertion (script_of_parts script) (numbering_of o) s.next)) (elim u [ Some z ↦ behind_assertion s.next z | None ↦ s.next ]) in
      let Q : Item → Type 0 = λ y. Asks s t (of_item (script_of_parts script) (numbering_of o) s.next (item_of y)) (behind_item (script_of_parts script) s.next (item_of y)) in
      subst Q (sym is) (subst P (sym there) h)
