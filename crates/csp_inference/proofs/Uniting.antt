-- Two kinds are made one, as the code does it.
use Rattle.std.proofs.Common.{◌≡◌, ◌≢◌, ℕ, ◌<◌, nat_eq, true, false, cond, List, [], ◌∷◌, length, map, set, Option, Some, None, Result, Ok, Err, refl, sym, subst, ◌∙◌, ap, arith}
use Rattle.std.specs.Prelude.{option_map}
use Rattle.std.proofs.lemmas.Bool.{cond-true, cond-false, eq-eqb, ne_eqb}
use Rattle.theory_checking.specs.Inference.Chain as pure
use Rattle.theory_checking.specs.Inference.Chain.{open_end, with_ends, in_place_of}
use Rattle.theory_checking.specs.Inference.State.{State, state_of, bound_to, ends_in, bind_open, unify_resolved, unify, IsResolved}
use Rattle.theory_checking.proofs.Unifying as unifying
use Rattle.csp_inference.specs.declared.chain.KindNumber.{KindNumber}
use Rattle.csp_inference.specs.declared.chain.End.{End}
use Rattle.csp_inference.specs.declared.chain.End.TheVariants as ending
use Rattle.csp_inference.specs.declared.chain.Layer.{Layer}
use Rattle.csp_inference.specs.declared.chain.Layer.TheVariants as layer
use Rattle.csp_inference.specs.declared.misfit.Misfit.{Misfit}
use Rattle.csp_inference.specs.declared.misfit.Misfit.TheVariants as misfit
use Rattle.csp_inference.specs.Chain.{end_of, over_all}
use Rattle.csp_inference.specs.State.{AreUnlike, SaysTheSame, Solved, Tells, are_like, open_alone, taken_off}

-- ---- a number is bound

-- the list is changed at all places, and then at the number's own
pub bound_known : (old : State) (cs ds : List (Option pure.Chain)) (n : ℕ) (c : pure.Chain) →
    n < length cs → SaysTheSame (state_of cs) old → ds ≡ set (map (option_map (with_ends (in_place_of n c))) cs) n (Some c) →
    SaysTheSame (bound_to old n c) (state_of ds)
bound_known old cs ds n c within same is =
    λ m. ap (λ o. cond (nat_eq n m) (Some c) (option_map (with_ends (in_place_of n c)) o)) (sym (same m)) ∙ sym
    (unifying.bound_list (option_map (with_ends (in_place_of n c))) (Some c) cs n m refl within) ∙ ap (λ x. state_of x m) (sym is)

end_below : (ls : List Layer) (c : pure.Chain) → open_end (over_all ls c) ≡ open_end c
end_below [] c = refl
end_below (layer.Sequence ∷ ls) c = end_below ls c
end_below (layer.Set ∷ ls) c = end_below ls c

differs : (n m : KindNumber) → ending.Open m ≢ ending.Open n → nat_eq n.0 m.0 ≡ false
differs n m ne = ne_eqb n.0 m.0 (λ e. ne (ap (λ k. ending.Open (record { 0 = k })) (sym e)))

other_end : (n : KindNumber) (e : End) → e ≢ ending.Open n → ends_in n.0 (end_of e) ≡ false
other_end n ending.Int ne = refl
other_end n ending.Bool ne = refl
other_end n (ending.Datatype d) ne = refl
other_end n (ending.Open m) ne = differs n m ne

other_below : (n : KindNumber) (ls : List Layer) (e : End) → e ≢ ending.Open n → ends_in n.0 (over_all ls (end_of e)) ≡ false
other_below n ls e ne = ap (λ o. elim o [ Some m ↦ nat_eq n.0 m | None ↦ false ]) (end_below ls (end_of e)) ∙ other_end n e ne

-- another end: the number is bound
pub open_bound : (s : State) (n : KindNumber) (ls : List Layer) (e : End) → e ≢ ending.Open n → bind_open s n.0 (over_all ls (end_of e)) ≡ Some (bound_to s n.0 (over_all ls (end_of e)))
open_bound s n [] ending.Int ne = refl
open_bound s n [] ending.Bool ne = refl
open_bound s n [] (ending.Datatype d) ne = refl
open_bound s n [] (ending.Open m) ne = cond-false (nat_eq n.0 m.0) (Some s) (Some (bound_to s n.0 (pure.OpenEnd m.0))) (differs n m ne)
open_bound s n (layer.Sequence ∷ ls) e ne = ap (λ t. cond t None (Some (bound_to s n.0 (over_all (layer.Sequence ∷ ls) (end_of e))))) (other_below n ls e ne)
open_bound s n (layer.Set ∷ ls) e ne = ap (λ t. cond t None (Some (bound_to s n.0 (over_all (layer.Set ∷ ls) (end_of e))))) (other_below n ls e ne)

own_end : (n : KindNumber) (ls : List Layer) (e : End) → e ≡ ending.Open n → ends_in n.0 (over_all ls (end_of e)) ≡ true
own_end n ls e is = ap (λ o. elim o [ Some m ↦ nat_eq n.0 m | None ↦ false ]) (end_below ls (end_of e) ∙ ap (λ x. open_end (end_of x)) is) ∙ eq-eqb n.0 n.0 refl

-- the number itself: there is nothing to do
pub open_itself : (s : State) (n : KindNumber) (ls : List Layer) (e : End) → e ≡ ending.Open n → ls ≡ [] → bind_open s n.0 (over_all ls (end_of e)) ≡ Some s
open_itself s n ls e is none =
    ap (λ xs. bind_open s n.0 (over_all xs (end_of e))) none ∙ ap (λ x. bind_open s n.0 (end_of x)) is
    ∙ cond-true (nat_eq n.0 n.0) (Some s) (Some (bound_to s n.0 (pure.OpenEnd n.0))) (eq-eqb n.0 n.0 refl)

-- a longer chain that ends in it
pub open_endless : (s : State) (n : KindNumber) (ls : List Layer) (e : End) → e ≡ ending.Open n → ls ≢ [] → bind_open s n.0 (over_all ls (end_of e)) ≡ None
open_endless s n [] e is some = absurd (some refl)
open_endless s n (layer.Sequence ∷ ls) e is some = ap (λ t. cond t None (Some (bound_to s n.0 (over_all (layer.Sequence ∷ ls) (end_of e))))) (own_end n ls e is)
open_endless s n (layer.Set ∷ ls) e is some = ap (λ t. cond t None (Some (bound_to s n.0 (over_all (layer.Set ∷ ls) (end_of e))))) (own_end n ls e is)

pub empty : (ls : List Layer) → length ls ≡ 0 → ls ≡ []
empty [] e = refl
empty (l ∷ ls) e = absurd (omega arith)

-- ---- what begins alike is taken off

pub without_like : (s : State) (ls ms : List Layer) (c d : pure.Chain) →
    unify_resolved s (over_all ls c) (over_all ms d) ≡ unify_resolved s (over_all (taken_off ls ms).0 c) (over_all (taken_off ls ms).1 d)
without_like s [] ms c d = refl
without_like s (l ∷ ls) [] c d = refl
without_like s (layer.Sequence ∷ ls) (layer.Sequence ∷ ms) c d = without_like s ls ms c d
without_like s (layer.Set ∷ ls) (layer.Set ∷ ms) c d = without_like s ls ms c d
without_like s (layer.Sequence ∷ ls) (layer.Set ∷ ms) c d = refl
without_like s (layer.Set ∷ ls) (layer.Sequence ∷ ms) c d = refl

pub left_unlike : (ls ms : List Layer) → AreUnlike (taken_off ls ms).0 (taken_off ls ms).1
left_unlike [] ms = tt
left_unlike (l ∷ ls) [] = tt
left_unlike (layer.Sequence ∷ ls) (layer.Sequence ∷ ms) = left_unlike ls ms
left_unlike (layer.Set ∷ ls) (layer.Set ∷ ms) = left_unlike ls ms
left_unlike (layer.Sequence ∷ ls) (layer.Set ∷ ms) = refl
left_unlike (layer.Set ∷ ls) (layer.Sequence ∷ ms) = refl

-- ---- what is left

is_open_alone : (ls : List Layer) (e : End) (n : KindNumber) → Some n ≡ open_alone ls e → over_all ls (end_of e) ≡ pure.OpenEnd n.0
is_open_alone [] ending.Int n h = absurd (cc h)
is_open_alone [] ending.Bool n h = absurd (cc h)
is_open_alone [] (ending.Datatype d) n h = absurd (cc h)
is_open_alone [] (ending.Open m) n h = let same : n ≡ m = cc h in ap (λ k. pure.OpenEnd k.0) (sym same)
is_open_alone (l ∷ ls) e n h = absurd (cc h)

pub open_on_left : (s : State) (ls : List Layer) (e : End) (n : KindNumber) (d : pure.Chain) → Some n ≡ open_alone ls e → unify_resolved s (over_all ls (end_of e)) d ≡ bind_open s n.0 d
open_on_left s ls e n d h = ap (λ c. unify_resolved s c d) (is_open_alone ls e n h) ∙ by_right d
  where
    by_right : (d : pure.Chain) → unify_resolved s (pure.OpenEnd n.0) d ≡ bind_open s n.0 d
    by_right d = refl

pub open_on_right : (s : State) (ls : List Layer) (e : End) (ms : List Layer) (f : End) (n : KindNumber) →
    None ≡ open_alone ls e → Some n ≡ open_alone ms f →
    unify_resolved s (over_all ls (end_of e)) (over_all ms (end_of f)) ≡ bind_open s n.0 (over_all ls (end_of e))
open_on_right s ls e ms f n closed h = ap (unify_resolved s (over_all ls (end_of e))) (is_open_alone ms f n h) ∙ by_left ls e closed
  where
    by_left : (ls : List Layer) (e : End) → None ≡ open_alone ls e → unify_resolved s (over_all ls (end_of e)) (pure.OpenEnd n.0) ≡ bind_open s n.0 (over_all ls (end_of e))
    by_left [] ending.Int h = refl
    by_left [] ending.Bool h = refl
    by_left [] (ending.Datatype d) h = refl
    by_left [] (ending.Open m) h = absurd (cc h)
    by_left (layer.Sequence ∷ ls) e h = refl
    by_left (layer.Set ∷ ls) e h = refl

-- one chain twice
pub same_chains : (s : State) (ls : List Layer) (e : End) → None ≡ open_alone ls e → ls ≡ [] → unify_resolved s (over_all ls (end_of e)) (over_all ls (end_of e)) ≡ Some s
same_chains s [] ending.Int closed none = refl
same_chains s [] ending.Bool closed none = refl
same_chains s [] (ending.Datatype d) closed none = cond-true (nat_eq d.0 d.0) (Some s) None (eq-eqb d.0 d.0 refl)
same_chains s [] (ending.Open m) closed none = absurd (cc closed)
same_chains s (l ∷ ls) e closed none = absurd (cc none)

-- unlike chains with no open end alone
pub none_fit : (s : State) (ls ms : List Layer) (e f : End) →
    AreUnlike ls ms → None ≡ open_alone ls e → None ≡ open_alone ms f → (ls ≡ ms → e ≢ f) →
    unify_resolved s (over_all ls (end_of e)) (over_all ms (end_of f)) ≡ None
none_fit s [] [] (ending.Datatype c) (ending.Datatype d) unlike g h differ =
    cond-false (nat_eq c.0 d.0) (Some s) None (ne_eqb c.0 d.0 (λ same. differ refl (ap (λ k. ending.Datatype (record { 0 = k })) same)))
none_fit s [] [] ending.Int ending.Int unlike g h differ = absurd (differ refl refl)
none_fit s [] [] ending.Bool ending.Bool unlike g h differ = absurd (differ refl refl)
none_fit s [] ms (ending.Open n) f unlike g h differ = absurd (cc g)
none_fit s ls [] e (ending.Open n) unlike g h differ = absurd (cc h)
none_fit s [] [] e f unlike g h differ = refl
none_fit s [] (layer.Sequence ∷ ms) e f unlike g h differ = refl
none_fit s [] (layer.Set ∷ ms) e f unlike g h differ = refl
none_fit s (layer.Sequence ∷ ls) [] e f unlike g h differ = refl
none_fit s (layer.Set ∷ ls) [] e f unlike g h differ = refl
none_fit s (layer.Sequence ∷ ls) (layer.Sequence ∷ ms) e f unlike g h differ = absurd (cc unlike)
none_fit s (layer.Set ∷ ls) (layer.Set ∷ ms) e f unlike g h differ = absurd (cc unlike)
none_fit s (layer.Sequence ∷ ls) (layer.Set ∷ ms) e f unlike g h differ = refl
none_fit s (layer.Set ∷ ls) (layer.Sequence ∷ ms) e f unlike g h differ = refl

-- like rows that do not begin alike are empty
pub both_empty : (ls ms : List Layer) → AreUnlike ls ms → ls ≡ ms → ls ≡ []
both_empty [] ms unlike same = refl
both_empty (l ∷ ls) [] unlike same = absurd (cc same)
both_empty (l ∷ ls) (m ∷ ms) unlike same = let e : l ≡ m = cc same in absurd (never l m unlike e)
  where
    never : (l m : Layer) → are_like l m ≡ false → l ≡ m → ⊥
    never layer.Sequence layer.Sequence h e = cc h
    never layer.Set layer.Set h e = cc h
    never layer.Sequence layer.Set h e = cc e
    never layer.Set layer.Sequence h e = cc e

-- ---- answers

-- the answer is about the same chains
pub tells_same : (o p : Option State) (t : State) (r : Result (Unit {0}) Misfit) → o ≡ p → Tells p t r → Tells o t r
tells_same o p t r e h = let P : Option State → Type 0 = λ x. Tells x t r in subst P (sym e) h

-- what a search tells is solved
pub tells_solved : (s t : State) (c d : pure.Chain) (r : Result (Unit {0}) Misfit) → IsResolved s → Tells (unify s c d) t r → Solved s ((c, d) ∷ []) t r
tells_solved s t c d (Ok x) resolved h = unifying.same_after s h.0 t ((c, d) ∷ []) h.2 (unifying.is_solved s ((c, d) ∷ []) (unify s c d) h.0 (unifying.made_one s resolved c d) h.1)
tells_solved s t c d (Err misfit.NoKinds) resolved h = unifying.is_unsolved s ((c, d) ∷ []) (unify s c d) (unifying.made_one s resolved c d) h
tells_solved s t c d (Err misfit.Memory) resolved h = tt
