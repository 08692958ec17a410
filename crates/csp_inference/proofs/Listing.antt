-- The items of a tree are listed declaration by declaration.
use Rattle.std.specs.Prelude.{flat_map, OnOk}
use Rattle.std.specs.declared.boxed.Box.{Box}
use Rattle.std.specs.declared.vec.Vec.{Vec}
use Rattle.std.proofs.lemmas.Result.{on_ok_weaker}
use Rattle.std.proofs.Common.{Bool, ◌≡◌, ℕ, suc, ◌+◌, ◌<◌, List, [], ◌∷◌, ◌++◌, append-nil, length, length-append, map, take, drop, get_or, Result, refl, sym, subst, ◌∙◌, ap, ap₂, arith}
use Rattle.std.proofs.lemmas.List.{drop_more, flat_map_more, length-map, map-append, take-append-drop}
use Rattle.theory_text.specs.Raw.{RawName, RawProcess, RawProperty, RawDeclaration, RawEquation, RawAssertion, RawScript}
use Rattle.theory_text.specs.Place as text
use Rattle.theory_checking.specs.Names.{Class, EquationName, declared_as, names_of}
use Rattle.theory_checking.specs.Fitting as pure
use Rattle.theory_checking.specs.Fitting.{item_declared, items, one_assertion}
use Rattle.theory_checking.proofs.ScriptThere.{behind_one_more}
use Rattle.csp_lex.specs.declared.places.Place.{Place}
use Rattle.csp_lex.specs.Places.{place_of}
use Rattle.csp_parse.specs.declared.declarations.Declaration.{Declaration}
use Rattle.csp_parse.specs.declared.declarations.Property.{Property}
use Rattle.csp_parse.specs.declared.declarations.Declaration.TheVariants as declaration
use Rattle.csp_parse.specs.declared.names.Name.{Name}
use Rattle.csp_parse.specs.declared.processes.Process.{Process}
use Rattle.csp_parse.specs.Declarations.{declaration_of, property_of}
use Rattle.csp_parse.specs.Names.{name_of}
use Rattle.csp_parse.specs.Processes.{process_in}
use Rattle.csp_value.specs.declared.memory.Memory.{Memory}
use Rattle.csp_inference.specs.declared.item_list.Item.{Item}
use Rattle.csp_inference.specs.declared.item_list.ItemList.{ItemList}
use Rattle.csp_inference.specs.Items.{AddsAssertion, AddsEquation, AddsItems, AreItemsOf, item_of}
use Rattle.csp_inference.proofs.Counting.{read_one_more}

-- ---- one declaration more

named_more : (class : Class) (above : RawScript) (d : RawDeclaration) → length (names_of class (above ++ d ∷ [])) ≡ length (names_of class above) + length (declared_as class d)
named_more class above d =
    length-map (flat_map (declared_as class) (above ++ d ∷ [])) (λ n. n.spelling) ∙ ap length (sym (flat_map_more (declared_as class) [] above d)) ∙ length-append (flat_map (declared_as class) above) (declared_as class d)
    ∙ ap (λ k. k + length (declared_as class d)) (sym (length-map (flat_map (declared_as class) above) (λ n. n.spelling)))

asserted_more : (above : RawScript) (d : RawDeclaration) → length (flat_map one_assertion (above ++ d ∷ [])) ≡ length (flat_map one_assertion above) + length (one_assertion d)
asserted_more above d = ap length (sym (flat_map_more one_assertion [] above d)) ∙ length-append (flat_map one_assertion above) (one_assertion d)

pub equation_listed : {A : Type 0} (name : RawName) (parameters : List RawName) (body : RawProcess) (place : Place) (old new : ItemList A) → name.place ≡ place_of place → AddsEquation place old new → AddsItems (RawEquation name parameters body) old new
equation_listed name parameters body place old new at adds above are =
    let d = RawEquation name parameters body in
    let named : length (names_of EquationName (above ++ d ∷ [])) ≡ length (names_of EquationName above) + 1 = named_more EquationName above d in
    let asserted : length (flat_map one_assertion (above ++ d ∷ [])) ≡ length (flat_map one_assertion above) + 0 = asserted_more above d in
    let more : new.equations ≡ suc old.equations = adds.equations in
    let same : new.assertions ≡ old.assertions = adds.assertions in
    let counted : old.equations ≡ length (names_of EquationName above) = are.equations in
    let others : old.assertions ≡ length (flat_map one_assertion above) = are.assertions in
    record {
      items = adds.items ∙ ap₂ (λ xs x. xs ++ x ∷ []) are.items (ap₂ pure.EquationItem (sym at) are.equations) ∙ sym (behind_one_more item_declared above d);
      equations = omega arith;
      assertions = omega arith;
    }

pub assertion_listed : {A : Type 0} (at : text.Place) (n : Bool) (a : RawProperty) (p : RawProcess) (place : Place) (old new : ItemList A) → at ≡ place_of place → AddsAssertion place old new → AddsItems (RawAssertion at n a p) old new
assertion_listed at n a p place old new is adds above are =
    let d = RawAssertion at n a p in
    let named : length (names_of EquationName (above ++ d ∷ [])) ≡ length (names_of EquationName above) + 0 = named_more EquationName above d in
    let asserted : length (flat_map one_assertion (above ++ d ∷ [])) ≡ length (flat_map one_assertion above) + 1 = asserted_more above d in
    let same : new.equations ≡ old.equations = adds.equations in
    let more : new.assertions ≡ suc old.assertions = adds.assertions in
    let counted : old.equations ≡ length (names_of EquationName above) = are.equations in
    let others : old.assertions ≡ length (flat_map one_assertion above) = are.assertions in
    record {
      items = adds.items ∙ ap₂ (λ xs x. xs ++ x ∷ []) are.items (ap₂ pure.AssertionItem (sym is) are.assertions) ∙ sym (behind_one_more item_declared above d);
      equations = omega arith;
      assertions = omega arith;
    }

nothing_listed : {A : Type 0} (d : RawDeclaration) (list : ItemList A) → ((above : RawScript) → item_declared above d ≡ []) → declared_as EquationName d ≡ [] → one_assertion d ≡ [] → AddsItems d list list
nothing_listed d list none no_name no_assertion above are = record {
  items = are.items ∙ sym (behind_one_more item_declared above d ∙ ap (λ xs. items above ++ xs) (none above) ∙ append-nil (items above));
  equations =
      let named : length (names_of EquationName (above ++ d ∷ [])) ≡ length (names_of EquationName above) + 0 = named_more EquationName above d ∙ ap (λ ns. length (names_of EquationName above) + length ns) no_name in
      let counted : list.equations ≡ length (names_of EquationName above) = are.equations in omega arith;
  assertions =
      let asserted : length (flat_map one_assertion (above ++ d ∷ [])) ≡ length (flat_map one_assertion above) + 0 = asserted_more above d ∙ ap (λ ns. length (flat_map one_assertion above) + length ns) no_assertion in
      let others : list.assertions ≡ length (flat_map one_assertion above) = are.assertions in omega arith;
}

module _ {A B : Type 0} (d : Declaration A) (old : ItemList B) where
  pub equation_added : (name : Name) (parameters : Vec Name A) (body : Box (Process A) A) (new : ItemList B) (r : Result (Unit {0}) Memory) → d ≡ declaration.Equation name parameters body → OnOk r (AddsEquation name.place old new) → OnOk r (AddsItems (declaration_of d) old new)
  equation_added name parameters body new r is h =
      let P : Declaration A → Type 0 = λ x. OnOk r (AddsItems (declaration_of x) old new) in
      subst P (sym is) (on_ok_weaker r (equation_listed (name_of name) (map name_of parameters.items) (process_in body) name.place old new refl) h)

  pub assertion_added : (place : Place) (n : Bool) (a : Property A) (p : Box (Process A) A) (new : ItemList B) (r : Result (Unit {0}) Memory) → d ≡ declaration.Assertion place n a p → OnOk r (AddsAssertion place old new) → OnOk r (AddsItems (declaration_of d) old new)
  assertion_added place n a p new r is h =
      let P : Declaration A → Type 0 = λ x. OnOk r (AddsItems (declaration_of x) old new) in
      subst P (sym is) (on_ok_weaker r (assertion_listed (place_of place) n (property_of a) (process_in p) place old new refl) h)

-- declarations of the other sorts have no item
pub others_listed : {A B : Type 0} (d : Declaration A) (list : ItemList B) → ((name : Name) (parameters : Vec Name A) (body : Box (Process A) A) → d ≡ declaration.Equation name parameters body → ⊥) →
    ((place : Place) (n : Bool) (a : Property A) (p : Box (Process A) A) → d ≡ declaration.Assertion place n a p → ⊥) → AddsItems (declaration_of d) list list
others_listed (declaration.Datatype n ns) list h k = nothing_listed (declaration_of (declaration.Datatype n ns)) list (λ above. refl) refl refl
others_listed (declaration.Nametype n x) list h k = nothing_listed (declaration_of (declaration.Nametype n x)) list (λ above. refl) refl refl
others_listed (declaration.Channels ns ds) list h k = nothing_listed (declaration_of (declaration.Channels ns ds)) list (λ above. refl) refl refl
others_listed (declaration.Equation n ns p) list h k = absurd (h n ns p refl)
others_listed (declaration.Assertion t n a p) list h k = absurd (k t n a p refl)

-- ---- over the declarations in turn

pub items_step : {A B : Type 0} (ds : List (Declaration A)) (i : ℕ) (x : Declaration A) (old new : ItemList B) → i < length ds → x ≡ get_or ds i x → AreItemsOf (map declaration_of (take i ds)) old → AddsItems (declaration_of x) old new → AreItemsOf (map declaration_of (take (i + 1) ds)) new
items_step {A} ds i x old new within read are adds =
    let P : RawScript → Type 0 = λ raw. AreItemsOf raw new in
    subst P (sym (read_one_more declaration_of ds i x within ∙ ap (λ y. map declaration_of (take i ds) ++ declaration_of y ∷ []) (sym read))) (adds (map declaration_of (take i ds)) are)

-- ---- over the items in turn

-- an item that is read stands behind those before it
pub item_stands : (xs : List Item) (i : ℕ) (d : Item) → i < length xs → map item_of xs ≡ map item_of (take i xs) ++ item_of (get_or xs i d) ∷ map item_of (drop (i + 1) xs)
item_stands xs i d within =
    ap (map item_of) (sym (take-append-drop i xs)) ∙ map-append item_of (take i xs) (drop i xs) ∙ ap (λ ys. map item_of (take i xs) ++ map item_of ys) (drop_more xs i d within)

-- the items of a tree, as the calls lend them
pub all_items : {A B : Type 0} (ds es : List (Declaration A)) (list : ItemList B) (xs : List Item) → ds ≡ es → AreItemsOf (map declaration_of ds) list → xs ≡ list.items.items → map item_of xs ≡ items (map declaration_of es)
all_items ds es list xs same are lent = ap (map item_of) lent ∙ are.items ∙ ap (λ ys. items (map declaration_of ys)) same
