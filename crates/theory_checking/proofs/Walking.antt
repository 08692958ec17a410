-- What walks over sites come to, part by part.
use Rattle.std.specs.Prelude.{flat_map}
use Rattle.std.proofs.lemmas.Grind.{flat_map-append}
use Rattle.std.proofs.lemmas.List.{append_assoc}
use Rattle.std.proofs.Common.{◌≡◌, ◌≤◌, List, [], ◌∷◌, ◌++◌, append-nil, refl, sym, ap, ◌∙◌, subst}
use Rattle.theory_text.specs.Place.{Place}
use Rattle.theory_text.specs.Raw.{RawDeclaration, RawScript}
use Rattle.theory_checking.specs.Sets.{behind_each, in_order}
use Rattle.theory_checking.specs.Sites.{Site, site_place, in_declaration, sites}
use Rattle.theory_checking.specs.Faults.{KindFault, fault_number, NoneRefused, IsFirstRefused}
use Rattle.theory_checking.specs.Rules.{all_declared, IsRedeclared, IsRefusedSite}
use Rattle.theory_checking.specs.Refusals.{IsRefusedAt, PassesNames, IsKindRefusal, in_second_pass}
use Rattle.theory_checking.specs.Walks.{IsFine, AllFine, IsStoppedAt}
use Rattle.theory_checking.proofs.FirstRefused.{EachFine, each_of_none, none_refused, refused_somewhere}
use Rattle.theory_checking.proofs.Resolving.{all_fine}
use Rattle.theory_checking.proofs.ScriptThere.{behind-append, behind_one_more}

-- ---- all are fine

pub fine_both : (xs ys : List Site) → AllFine xs → AllFine ys → AllFine (xs ++ ys)
fine_both [] ys h k = k
fine_both (x ∷ xs) ys h k = (h.0, fine_both xs ys h.1 k)

each_fine : (before xs : List Site) → AllFine xs → EachFine IsRefusedAt before xs
each_fine before [] h = tt
each_fine before (x ∷ xs) h = (h.0, each_fine (before ++ x ∷ []) xs h.1)

pub fine_is_none_refused : (xs : List Site) → AllFine xs → NoneRefused IsRefusedAt xs
fine_is_none_refused xs h = none_refused IsRefusedAt xs (each_fine [] xs h)

pub none_refused_is_fine : (xs : List Site) → NoneRefused IsRefusedAt xs → AllFine xs
none_refused_is_fine xs none = all_fine [] xs (each_of_none IsRefusedAt [] xs none)

-- ---- the first that is refused

-- of a list, it is the first of the list with more behind it, whatever is refused
pub first_with_more : {A : Type 0} {R : List A → A → KindFault → Type 0} {xs : List A} {x : A} {f : KindFault} (ys : List A) → IsFirstRefused R xs x f → IsFirstRefused R (xs ++ ys) x f
first_with_more {x} ys h = record {
  before = h.before;
  after = h.after ++ ys;
  stands = ap (λ zs. zs ++ ys) h.stands ∙ append_assoc h.before (x ∷ h.after) ys;
  refused = h.refused;
  lowest = h.lowest;
  none_before = h.none_before;
}

pub first_behind_fine : {x : Site} {f : KindFault} (xs ys : List Site) → AllFine xs → IsFirstRefused IsRefusedAt ys x f → IsFirstRefused IsRefusedAt (xs ++ ys) x f
first_behind_fine {x} xs ys fine h = record {
  before = xs ++ h.before;
  after = h.after;
  stands = ap (λ zs. xs ++ zs) h.stands ∙ sym (append_assoc xs h.before (x ∷ h.after));
  refused = h.refused;
  lowest = h.lowest;
  none_before = fine_is_none_refused (xs ++ h.before) (fine_both xs h.before fine (none_refused_is_fine h.before h.none_before));
}

-- ---- where a walk stops

pub stopped_in_first : {f : KindFault} {p : Place} (xs ys : List Site) → IsStoppedAt xs f p → IsStoppedAt (xs ++ ys) f p
stopped_in_first xs ys h = record { site = h.site; first = first_with_more ys h.first; place = h.place }

pub stopped_behind : {f : KindFault} {p : Place} (xs ys : List Site) → AllFine xs → IsStoppedAt ys f p → IsStoppedAt (xs ++ ys) f p
stopped_behind xs ys fine h = record { site = h.site; first = first_behind_fine xs ys fine h.first; place = h.place }

-- in the middle one of three
pub stopped_between : {f : KindFault} {p : Place} (xs ys zs : List Site) → AllFine xs → IsStoppedAt ys f p → IsStoppedAt (xs ++ ys ++ zs) f p
stopped_between xs ys zs fine h = stopped_in_first (xs ++ ys) zs (stopped_behind xs ys fine h)

-- at the first site, and behind it
pub stopped_here : (x : Site) (xs : List Site) (f : KindFault) → IsRefusedSite x f → ((g : KindFault) → IsRefusedSite x g → fault_number f ≤ fault_number g) → IsStoppedAt (x ∷ xs) f (site_place x)
stopped_here x xs f refused lowest = record {
  site = x;
  first = record { before = []; after = xs; stands = refl; refused = refused; lowest = lowest; none_before = fine_is_none_refused [] tt };
  place = refl;
}

pub stopped_after : {f : KindFault} {p : Place} (x : Site) (xs : List Site) → IsFine x → IsStoppedAt xs f p → IsStoppedAt (x ∷ xs) f p
stopped_after x xs fine h = stopped_behind (x ∷ []) xs (fine, tt) h

-- a single site with more behind it
pub stopped_at_first : {f : KindFault} {p : Place} (x : Site) (xs : List Site) → IsStoppedAt (x ∷ []) f p → IsStoppedAt (x ∷ xs) f p
stopped_at_first x xs h = stopped_in_first (x ∷ []) xs h

-- no walk both stops and finds all fine
pub stopped_is_not_fine : {f : KindFault} {p : Place} (xs : List Site) → IsStoppedAt xs f p → ¬ (AllFine xs)
stopped_is_not_fine xs h fine = refused_somewhere (fine_is_none_refused xs fine) h.first

-- ---- over things in turn

-- one more is fine, and a walk that stops in one stops in all
pub fine_one_more : {A : Type 0} (g : A → List Site) (xs : List A) (x : A) → AllFine (flat_map g xs) → AllFine (g x) → AllFine (flat_map g (xs ++ x ∷ []))
fine_one_more g xs x h k =
    let P : List Site → Type 0 = AllFine in
    subst P (sym (flat_map-append g xs (x ∷ []) ∙ ap (λ zs. flat_map g xs ++ zs) (append-nil (g x)))) (fine_both (flat_map g xs) (g x) h k)

pub stopped_in_one : {A : Type 0} {f : KindFault} {p : Place} (g : A → List Site) (xs ys : List A) (x : A) → AllFine (flat_map g xs) → IsStoppedAt (g x) f p →
    IsStoppedAt (flat_map g (xs ++ x ∷ ys)) f p
stopped_in_one {A} {f} {p} g xs ys x h k =
    let P : List Site → Type 0 = λ zs. IsStoppedAt zs f p in
    subst P (sym (flat_map-append g xs (x ∷ ys))) (stopped_behind (flat_map g xs) (g x ++ flat_map g ys) h (stopped_in_first (g x) (flat_map g ys) k))

-- the same for declarations, each with those above it
pub fine_next : (g : RawScript → RawDeclaration → List Site) (above : RawScript) (d : RawDeclaration) → AllFine (in_order g above) → AllFine (g above d) → AllFine (in_order g (above ++ d ∷ []))
fine_next g above d h k = let P : List Site → Type 0 = AllFine in subst P (sym (behind_one_more g above d)) (fine_both (in_order g above) (g above d) h k)

pub stopped_in_next : {f : KindFault} {p : Place} (g : RawScript → RawDeclaration → List Site) (above below : RawScript) (d : RawDeclaration) →
    AllFine (in_order g above) → IsStoppedAt (g above d) f p → IsStoppedAt (in_order g (above ++ d ∷ below)) f p
stopped_in_next {f} {p} g above below d h k =
    let P : List Site → Type 0 = λ zs. IsStoppedAt zs f p in
    subst P (sym (behind-append g [] above (d ∷ below)))
    (stopped_behind (in_order g above) (g above d ++ behind_each g (above ++ d ∷ []) below) h
    (stopped_in_first (g above d) (behind_each g (above ++ d ∷ []) below) k))

-- In a script's sites: what stands above is fine, and the walk stops in this declaration.
pub stopped_in_declaration : {f : KindFault} {p : Place} (raw above below : RawScript) (d : RawDeclaration) → raw ≡ above ++ d ∷ below →
    AllFine (in_order (in_declaration raw) above) → IsStoppedAt (in_declaration raw above d) f p → IsStoppedAt (sites raw) f p
stopped_in_declaration {f} {p} raw above below d is h k =
    let P : RawScript → Type 0 = λ ds. IsStoppedAt (in_order (in_declaration raw) ds) f p in
    subst P (sym is) (stopped_in_next (in_declaration raw) above below d h k)

-- Where no name is declared twice, a walk over the sites that stops is the tree's refusal, and one that does not is the second pass.
pub stopped_is_refusal : {f : KindFault} {p : Place} (raw : RawScript) → NoneRefused IsRedeclared (all_declared raw) → IsStoppedAt (sites raw) f p → IsKindRefusal raw f p
stopped_is_refusal {f} {p} raw once h = let P : Place → Type 0 = λ q. IsKindRefusal raw f q in subst P (sym h.place) (in_second_pass once h.first)

pub fine_passes : (raw : RawScript) → NoneRefused IsRedeclared (all_declared raw) → AllFine (sites raw) → PassesNames raw
fine_passes raw once fine = record { once = once; fine = fine_is_none_refused (sites raw) fine }
