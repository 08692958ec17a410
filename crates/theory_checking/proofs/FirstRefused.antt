-- The first of a list that is refused is one, and so is the script of a tree and its refusal.
use Rattle.std.specs.Prelude.{⊤}
use Rattle.std.proofs.lemmas.List.{append_assoc}
use Rattle.std.proofs.Common.{◌≡◌, ◌≤◌, List, [], ◌∷◌, ◌++◌, map, append-nil, Some, refl, sym, ap, ◌∙◌, subst, inl, inr, ◌⊎◌, arith}
use Rattle.theory_syntax.specs.Process.{Script}
use Rattle.theory_syntax.specs.Types.{Types}
use Rattle.theory_text.specs.Place.{Place}
use Rattle.theory_text.specs.Raw.{RawScript}
use Rattle.theory_checking.specs.Scripts.{IsScriptOf}
use Rattle.theory_checking.specs.Faults.{KindFault, UnknownName, DeclaredTwice, WrongKind, WrongCount, BadFieldSet, TooManyEvents, fault_number, NoneRefused, IsFirstRefused}
use Rattle.theory_checking.specs.Fitting.{IsMisfit, misfit, Item, FitsItem, FitKinds, items, item_place}
use Rattle.theory_checking.specs.Refusals.{IsKindRefusal, in_first_pass, in_second_pass, in_third_pass, IsRefusedAt, PassesNames}
use Rattle.theory_checking.specs.Checked.{IsCheckedTree}
use Rattle.theory_semantics.specs.Kinds.Kind.{Kinds, Each}
use Rattle.theory_checking.specs.Sites.{site_place, sites}
use Rattle.theory_checking.specs.Rules.{IsRedeclared, all_declared}

-- two divisions of a list are the same, or one thing stands before the other
abbrev pub Split : {A : Type 0} → List A → A → List A → A → Type 0
Split {A} xs x ys y = ((xs ≡ ys) × (x ≡ y)) ⊎ ((more : List A) × (ys ≡ xs ++ x ∷ more)) ⊎ ((more : List A) × (xs ≡ ys ++ y ∷ more))

pub split : {A : Type 0} (xs ys more rest : List A) (x y : A) → xs ++ x ∷ more ≡ ys ++ y ∷ rest → Split xs x ys y
split [] [] more rest x y e = inl (refl, cc e)
split [] (z ∷ ys) more rest x y e = let same : z ≡ x = cc e in inr (inl (ys, ap (λ w. w ∷ ys) same))
split (z ∷ xs) [] more rest x y e = let same : z ≡ y = cc e in inr (inr (xs, ap (λ w. w ∷ xs) same))
split (v ∷ xs) (w ∷ ys) more rest x y e = let same : v ≡ w = cc e in let tails : xs ++ x ∷ more ≡ ys ++ y ∷ rest = cc e in go same (split xs ys more rest x y tails)
  where
    go : v ≡ w → Split xs x ys y → Split (v ∷ xs) x (w ∷ ys) y
    go same (inl h) = inl (cc (same, h.0), h.1)
    go same (inr (inl h)) = inr (inl (h.0, cc (same, h.1)))
    go same (inr (inr h)) = inr (inr (h.0, cc (same, h.1)))

-- the number of a fault tells it
pub same_number : (f g : KindFault) → fault_number f ≡ fault_number g → f ≡ g
same_number UnknownName UnknownName e = refl
same_number DeclaredTwice DeclaredTwice e = refl
same_number WrongKind WrongKind e = refl
same_number WrongCount WrongCount e = refl
same_number BadFieldSet BadFieldSet e = refl
same_number TooManyEvents TooManyEvents e = refl
same_number UnknownName DeclaredTwice e = absurd (cc e)
same_number UnknownName WrongKind e = absurd (cc e)
same_number UnknownName WrongCount e = absurd (cc e)
same_number UnknownName BadFieldSet e = absurd (cc e)
same_number UnknownName TooManyEvents e = absurd (cc e)
same_number DeclaredTwice UnknownName e = absurd (cc e)
same_number DeclaredTwice WrongKind e = absurd (cc e)
same_number DeclaredTwice WrongCount e = absurd (cc e)
same_number DeclaredTwice BadFieldSet e = absurd (cc e)
same_number DeclaredTwice TooManyEvents e = absurd (cc e)
same_number WrongKind UnknownName e = absurd (cc e)
same_number WrongKind DeclaredTwice e = absurd (cc e)
same_number WrongKind WrongCount e = absurd (cc e)
same_number WrongKind BadFieldSet e = absurd (cc e)
same_number WrongKind TooManyEvents e = absurd (cc e)
same_number WrongCount UnknownName e = absurd (cc e)
same_number WrongCount DeclaredTwice e = absurd (cc e)
same_number WrongCount WrongKind e = absurd (cc e)
same_number WrongCount BadFieldSet e = absurd (cc e)
same_number WrongCount TooManyEvents e = absurd (cc e)
same_number BadFieldSet UnknownName e = absurd (cc e)
same_number BadFieldSet DeclaredTwice e = absurd (cc e)
same_number BadFieldSet WrongKind e = absurd (cc e)
same_number BadFieldSet WrongCount e = absurd (cc e)
same_number BadFieldSet TooManyEvents e = absurd (cc e)
same_number TooManyEvents UnknownName e = absurd (cc e)
same_number TooManyEvents DeclaredTwice e = absurd (cc e)
same_number TooManyEvents WrongKind e = absurd (cc e)
same_number TooManyEvents WrongCount e = absurd (cc e)
same_number TooManyEvents BadFieldSet e = absurd (cc e)

-- what is refused somewhere is not refused nowhere
pub refused_somewhere : {A : Type 0} {R : List A → A → KindFault → Type 0} {all : List A} {x : A} {f : KindFault} → NoneRefused R all → IsFirstRefused R all x f → ⊥
refused_somewhere {x = x} {f = f} none first = none first.before first.after x f first.stands first.refused

pub first_is_one : {A : Type 0} {R : List A → A → KindFault → Type 0} {all : List A} {x y : A} {f g : KindFault} → IsFirstRefused R all x f → IsFirstRefused R all y g → (x ≡ y) × (f ≡ g)
first_is_one {A} {R} {all} {x} {y} {f} {g} a b = go (split a.before b.before a.after b.after x y (sym a.stands ∙ b.stands))
  where
    go : Split a.before x b.before y → (x ≡ y) × (f ≡ g)
    go (inl h) =
        let P : List A → A → Type 0 = λ xs z. R xs z g in
        let Q : List A → Type 0 = λ xs. R xs x g in
        let S : A → Type 0 = λ z. R b.before z g in
        let moved : R a.before x g = subst Q (sym h.0) (subst S (sym h.1) b.refused) in
        let T : List A → Type 0 = λ xs. R xs y f in
        let U : A → Type 0 = λ z. R a.before z f in
        let moved' : R b.before y f = subst T h.0 (subst U h.1 a.refused) in
        let le : fault_number f ≤ fault_number g = a.lowest g moved in
        let ge : fault_number g ≤ fault_number f = b.lowest f moved' in
        (h.1, same_number f g (omega arith))
    go (inr (inl h)) = absurd (b.none_before a.before h.0 x f h.1 a.refused)
    go (inr (inr h)) = absurd (a.none_before b.before h.0 y g h.1 b.refused)

-- ---- scripts

pub map_some : {A : Type 0} (xs ys : List A) → map Some xs ≡ map Some ys → xs ≡ ys
map_some [] [] e = refl
map_some [] (y ∷ ys) e = absurd (cc e)
map_some (x ∷ xs) [] e = absurd (cc e)
map_some (x ∷ xs) (y ∷ ys) e = let head : x ≡ y = cc e in let tail : map Some xs ≡ map Some ys = cc e in cc (head, map_some xs ys tail)

pub one_script : (raw : RawScript) (s t : Script) → IsScriptOf raw s → IsScriptOf raw t → s ≡ t
one_script raw s t a b =
    let ds : s.types.datatypes ≡ t.types.datatypes = a.datatypes ∙ sym b.datatypes in
    let ns : s.types.nametypes ≡ t.types.nametypes = map_some s.types.nametypes t.types.nametypes (a.nametypes ∙ sym b.nametypes) in
    let ks : s.types.constructors ≡ t.types.constructors = map_some s.types.constructors t.types.constructors (a.constructors ∙ sym b.constructors) in
    let types : s.types ≡ t.types = types_same s.types t.types ds ns ks in
    let cs : s.channels ≡ t.channels = map_some s.channels t.channels (a.channels ∙ sym b.channels) in
    let es : s.equations ≡ t.equations = map_some s.equations t.equations (a.equations ∙ sym b.equations) in
    let ss : s.assertions ≡ t.assertions = map_some s.assertions t.assertions (a.assertions ∙ sym b.assertions) in
    scripts_same s t types cs es ss (a.channel_names ∙ sym b.channel_names) (a.constructor_names ∙ sym b.constructor_names) (a.unfolds ∙ sym b.unfolds)
  where
    types_same : (u v : Types) → u.datatypes ≡ v.datatypes → u.nametypes ≡ v.nametypes → u.constructors ≡ v.constructors → u ≡ v
    types_same u v d n k =
        ap (λ x. record { datatypes = x; nametypes = u.nametypes; constructors = u.constructors }) d ∙ ap (λ y. record { datatypes = v.datatypes; nametypes = y; constructors = u.constructors }) n
        ∙ ap (λ z. record { datatypes = v.datatypes; nametypes = v.nametypes; constructors = z }) k

    scripts_same : (u v : Script) → u.types ≡ v.types → u.channels ≡ v.channels → u.equations ≡ v.equations → u.assertions ≡ v.assertions →
        u.channel_names ≡ v.channel_names → u.constructor_names ≡ v.constructor_names → u.unfolds ≡ v.unfolds → u ≡ v
    scripts_same u v a b c d e f g =
        λ i. record { types = a i; channels = b i; equations = c i; assertions = d i; channel_names = e i; constructor_names = f i; unfolds = g i }

-- ---- refusals

pub one_refusal : (raw : RawScript) (f g : KindFault) (p q : Place) → IsKindRefusal raw f p → IsKindRefusal raw g q → (f ≡ g) × (p ≡ q)
one_refusal raw f g p q (in_first_pass a) (in_first_pass b) = let same = first_is_one a b in (same.1, ap (λ n. n.place) same.0)
one_refusal raw f g p q (in_first_pass a) (in_second_pass none b) = absurd (refused_somewhere none a)
one_refusal raw f g p q (in_first_pass a) (in_third_pass names is b) = absurd (refused_somewhere names.once a)
one_refusal raw f g p q (in_second_pass none a) (in_first_pass b) = absurd (refused_somewhere none b)
one_refusal raw f g p q (in_second_pass none a) (in_second_pass none' b) = let same = first_is_one a b in (same.1, ap site_place same.0)
one_refusal raw f g p q (in_second_pass none a) (in_third_pass names is b) = absurd (refused_somewhere names.fine a)
one_refusal raw f g p q (in_third_pass names is a) (in_first_pass b) = absurd (refused_somewhere names.once b)
one_refusal raw f g p q (in_third_pass names is a) (in_second_pass none b) = absurd (refused_somewhere names.fine b)
one_refusal raw f g p q (in_third_pass {x} {script = s} names is a) (in_third_pass {x = y} {script = t} names' is' b) =
    let P : Script → Type 0 = λ u. IsFirstRefused (IsMisfit raw u) (items raw) x f in
    let same = first_is_one (subst P (one_script raw s t is is') a) b in (same.1, ap item_place same.0)

-- ---- none of a list is refused, thing by thing

abbrev pub EachFine : {A : Type 0} → (List A → A → KindFault → Type 0) → List A → List A → Type 0
EachFine R before [] = ⊤
EachFine R before (x ∷ xs) = ((f : KindFault) → ¬ (R before x f)) × EachFine R (before ++ x ∷ []) xs

pub none_of_each : {A : Type 0} (R : List A → A → KindFault → Type 0) (done all : List A) → EachFine R done all →
    (before after : List A) (x : A) (f : KindFault) → all ≡ before ++ x ∷ after → ¬ (R (done ++ before) x f)
none_of_each R done [] fine [] after x f e = absurd (cc e)
none_of_each R done [] fine (z ∷ before) after x f e = absurd (cc e)
none_of_each {A} R done (y ∷ ys) fine [] after x f e = λ refused.
    let same : y ≡ x = cc e in
    let P : A → Type 0 = λ z. R done z f in
    let Q : List A → Type 0 = λ zs. R zs x f in
    fine.0 f (subst P (sym same) (subst Q (append-nil done) refused))
none_of_each {A} R done (y ∷ ys) fine (z ∷ before) after x f e = λ refused.
    let same : y ≡ z = cc e in
    let tail : ys ≡ before ++ x ∷ after = cc e in
    let Q : List A → Type 0 = λ zs. R zs x f in
    none_of_each R (done ++ y ∷ []) ys fine.1 before after x f tail (subst Q (ap (λ w. done ++ w ∷ before) (sym same) ∙ sym (append_assoc done (y ∷ []) before)) refused)

pub none_refused : {A : Type 0} (R : List A → A → KindFault → Type 0) (all : List A) → EachFine R [] all → NoneRefused R all
none_refused R all fine = none_of_each R [] all fine

pub each_of_none : {A : Type 0} (R : List A → A → KindFault → Type 0) (done all : List A) → NoneRefused R (done ++ all) → EachFine R done all
each_of_none R done [] none = tt
each_of_none {A} R done (x ∷ xs) none =
    let P : List A → Type 0 = NoneRefused R in
    (λ f. none done xs x f refl, each_of_none R (done ++ x ∷ []) xs (subst P (sym (append_assoc done (x ∷ []) xs)) none))

-- ---- a checked tree is not refused

each_begins : {A : Type 0} (P : A → Type 0) (xs ys : List A) (x : A) → Each P (xs ++ x ∷ ys) → Each P (xs ++ x ∷ [])
each_begins P [] ys x h = (h.0, tt)
each_begins P (z ∷ xs) ys x h = (h.0, each_begins P xs ys x h.1)

fits_before : (raw : RawScript) (s : Script) (kinds : Kinds) (before after : List Item) (x : Item) → items raw ≡ before ++ x ∷ after →
    FitKinds raw s kinds (items raw) → FitKinds raw s kinds (before ++ x ∷ [])
fits_before raw s kinds before after x stands fit =
    let P : List Item → Type 0 = λ all. Each (FitsItem s kinds) all in
    record { sets = fit.sets; parameters = fit.parameters; each = each_begins (FitsItem s kinds) before after x (subst P stands fit.each) }

no_misfit : (raw : RawScript) (s : Script) (kinds : Kinds) (before : List Item) (x : Item) (f : KindFault) → FitKinds raw s kinds (before ++ x ∷ []) → IsMisfit raw s before x f → ⊥
no_misfit raw s kinds before x f fit (misfit none) = none kinds fit

pub checked_is_fine : (raw : RawScript) (s : Script) (f : KindFault) (p : Place) → IsCheckedTree raw s → ¬ (IsKindRefusal raw f p)
checked_is_fine raw s f p checked (in_first_pass a) = refused_somewhere checked.names.once a
checked_is_fine raw s f p checked (in_second_pass none a) = refused_somewhere checked.names.fine a
checked_is_fine raw s f p checked (in_third_pass {x} {script = t} names is a) =
    let P : Script → Type 0 = λ u. FitKinds raw u checked.kinds (a.before ++ x ∷ []) in
    no_misfit raw t checked.kinds a.before x f (subst P (one_script raw s t checked.script_of is) (fits_before raw s checked.kinds a.before a.after x a.stands checked.fit)) a.refused

-- ---- where nothing is the first that is refused, nothing is refused

module _ {A : Type 0} (R : List A → A → KindFault → Type 0) (all : List A) (no_first : (x : A) (f : KindFault) → ¬ (IsFirstRefused R all x f)) where
  -- none of the faults with lower numbers stands there
  abbrev NoneLower : List A → A → KindFault → Type 0
  NoneLower before x f = (g : KindFault) → R before x g → fault_number f ≤ fault_number g

  not_here : (before after : List A) (x : A) → all ≡ before ++ x ∷ after → NoneRefused R before → (f : KindFault) → NoneLower before x f → ¬ (R before x f)
  not_here before after x stands none f lower refused =
      no_first x f (record { before = before; after = after; stands = stands; refused = refused; lowest = lower; none_before = none })

  -- by the numbers in turn
  fine_here : (before after : List A) (x : A) → all ≡ before ++ x ∷ after → NoneRefused R before → (f : KindFault) → ¬ (R before x f)
  fine_here before after x stands none = by_number
    where
      here : (f : KindFault) → NoneLower before x f → ¬ (R before x f)
      here = not_here before after x stands none

      from_one : NoneLower before x UnknownName
      from_one UnknownName r = omega arith
      from_one DeclaredTwice r = omega arith
      from_one WrongKind r = omega arith
      from_one WrongCount r = omega arith
      from_one BadFieldSet r = omega arith
      from_one TooManyEvents r = omega arith

      from_two : NoneLower before x DeclaredTwice
      from_two UnknownName r = absurd (here UnknownName from_one r)
      from_two DeclaredTwice r = omega arith
      from_two WrongKind r = omega arith
      from_two WrongCount r = omega arith
      from_two BadFieldSet r = omega arith
      from_two TooManyEvents r = omega arith

      from_three : NoneLower before x WrongKind
      from_three UnknownName r = absurd (here UnknownName from_one r)
      from_three DeclaredTwice r = absurd (here DeclaredTwice from_two r)
      from_three WrongKind r = omega arith
      from_three WrongCount r = omega arith
      from_three BadFieldSet r = omega arith
      from_three TooManyEvents r = omega arith

      from_four : NoneLower before x WrongCount
      from_four UnknownName r = absurd (here UnknownName from_one r)
      from_four DeclaredTwice r = absurd (here DeclaredTwice from_two r)
      from_four WrongKind r = absurd (here WrongKind from_three r)
      from_four WrongCount r = omega arith
      from_four BadFieldSet r = omega arith
      from_four TooManyEvents r = omega arith

      from_five : NoneLower before x BadFieldSet
      from_five UnknownName r = absurd (here UnknownName from_one r)
      from_five DeclaredTwice r = absurd (here DeclaredTwice from_two r)
      from_five WrongKind r = absurd (here WrongKind from_three r)
      from_five WrongCount r = absurd (here WrongCount from_four r)
      from_five BadFieldSet r = omega arith
      from_five TooManyEvents r = omega arith

      from_six : NoneLower before x TooManyEvents
      from_six UnknownName r = absurd (here UnknownName from_one r)
      from_six DeclaredTwice r = absurd (here DeclaredTwice from_two r)
      from_six WrongKind r = absurd (here WrongKind from_three r)
      from_six WrongCount r = absurd (here WrongCount from_four r)
      from_six BadFieldSet r = absurd (here BadFieldSet from_five r)
      from_six TooManyEvents r = omega arith

      by_number : (f : KindFault) → ¬ (R before x f)
      by_number UnknownName = here UnknownName from_one
      by_number DeclaredTwice = here DeclaredTwice from_two
      by_number WrongKind = here WrongKind from_three
      by_number WrongCount = here WrongCount from_four
      by_number BadFieldSet = here BadFieldSet from_five
      by_number TooManyEvents = here TooManyEvents from_six

  all_fine_from : (before after : List A) → all ≡ before ++ after → EachFine R [] before → EachFine R before after
  all_fine_from before [] stands done = tt
  all_fine_from before (x ∷ xs) stands done =
      let fine = fine_here before xs x stands (none_refused R before done) in
      (fine, all_fine_from (before ++ x ∷ []) xs (stands ∙ sym (append_assoc before (x ∷ []) xs)) (each_more [] before x done fine))
    where
      each_more : (first before : List A) (x : A) → EachFine R first before → ((f : KindFault) → ¬ (R (first ++ before) x f)) → EachFine R first (before ++ x ∷ [])
      each_more first [] x done fine = let P : List A → Type 0 = λ zs. (f : KindFault) → ¬ (R zs x f) in (subst P (append-nil first) fine, tt)
      each_more first (y ∷ before) x done fine = let P : List A → Type 0 = λ zs. (f : KindFault) → ¬ (R zs x f) in
          (done.0, each_more (first ++ y ∷ []) before x done.1 (subst P (sym (append_assoc first (y ∷ []) before)) fine))

  pub none_at_all : NoneRefused R all
  none_at_all = none_refused R all (all_fine_from [] all refl tt)

pub unrefused_passes : (raw : RawScript) → ((f : KindFault) (p : Place) → ¬ (IsKindRefusal raw f p)) → PassesNames raw
unrefused_passes raw unrefused = record { once = once; fine = fine }
  where
    once : NoneRefused IsRedeclared (all_declared raw)
    once = none_at_all IsRedeclared (all_declared raw) (λ n f first. unrefused f n.place (in_first_pass first))

    fine : NoneRefused IsRefusedAt (sites raw)
    fine = none_at_all IsRefusedAt (sites raw) (λ x f first. unrefused f (site_place x) (in_second_pass once first))
