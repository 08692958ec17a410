-- What is known of a chain's end.
use Rattle.std.proofs.Common.{◌≡◌, ◌≢◌, ℕ, ◌+◌, ◌<◌, List, ◌++◌, length, map, set, take, drop, get_or, Option, Some, None, refl, sym, ◌∙◌, ap}
use Rattle.std.specs.Prelude.{option_map, unwrap_or}
use Rattle.std.proofs.lemmas.List.{map-set, get_or-map, length-map}
use Rattle.std.proofs.lemmas.List.Edits.{map_over_more}
use Rattle.theory_checking.specs.Inference.Chain as pure
use Rattle.theory_checking.specs.Inference.Chain.{with_ends}
use Rattle.theory_checking.specs.Inference.State.{state_of, looked_up}
use Rattle.csp_inference.specs.declared.chain.KindNumber.{KindNumber}
use Rattle.csp_inference.specs.declared.chain.End.{End}
use Rattle.csp_inference.specs.declared.chain.End.TheVariants as ending
use Rattle.csp_inference.specs.declared.chain.Layer.{Layer}
use Rattle.csp_inference.specs.declared.chain.Chain.{Chain}
use Rattle.csp_inference.specs.Chain.{chain_of, end_of, over_all}
use Rattle.csp_inference.specs.State.{chains_in, found_at}
use Rattle.csp_inference.proofs.Layers.{ends_below}

module _ (cs : List (Option pure.Chain)) (ls : List Layer) (e : End) where
  found_end : (n : KindNumber) (o : Option pure.Chain) → e ≡ ending.Open n → state_of cs n.0 ≡ o → found_at cs (over_all ls (end_of e)) ≡ over_all ls (unwrap_or o (pure.OpenEnd n.0))
  found_end n o is found =
      ends_below (looked_up (state_of cs)) ls (end_of e) ∙ ap (λ x. over_all ls (with_ends (looked_up (state_of cs)) (end_of x))) is ∙ ap (λ x. over_all ls (unwrap_or x (pure.OpenEnd n.0))) found

  -- a bound number gives way to its chain
  pub found_chain : (n : KindNumber) (c : pure.Chain) → e ≡ ending.Open n → state_of cs n.0 ≡ Some c → found_at cs (over_all ls (end_of e)) ≡ over_all ls c
  found_chain n c is found = found_end n (Some c) is found

  pub found_open : (n : KindNumber) → e ≡ ending.Open n → state_of cs n.0 ≡ None → found_at cs (over_all ls (end_of e)) ≡ over_all ls (end_of e)
  found_open n is found = found_end n None is found ∙ ap (λ x. over_all ls (end_of x)) (sym is)

  -- a known end stays
  pub found_known : ((n : KindNumber) → e ≢ ending.Open n) → found_at cs (over_all ls (end_of e)) ≡ over_all ls (end_of e)
  found_known known = ends_below (looked_up (state_of cs)) ls (end_of e) ∙ ap (over_all ls) (by_end e known)
    where
      by_end : (x : End) → ((n : KindNumber) → x ≢ ending.Open n) → with_ends (looked_up (state_of cs)) (end_of x) ≡ end_of x
      by_end ending.Int h = refl
      by_end ending.Bool h = refl
      by_end (ending.Datatype d) h = refl
      by_end (ending.Open n) h = absurd (h n refl)

-- one slot more of a walk over all slots
pub slot_more :
    {A : Type 0} (f : Option pure.Chain → Option pure.Chain) (old now : List (Option (Chain A))) (i : ℕ) (item new : Option (Chain A)) → i < length old →
    length now ≡ length old → chains_in now ≡ map f (take i (chains_in old)) ++ drop i (chains_in old) →
    item ≡ get_or now i item → option_map chain_of new ≡ f (option_map chain_of item) → chains_in (set now i new) ≡ map f (take (i + 1) (chains_in old)) ++ drop (i + 1) (chains_in old)
slot_more f old now i item new within same so_far read made =
    map-set (option_map chain_of) now i new ∙ ap (set (chains_in now) i) made
    ∙ map_over_more f (chains_in old) (chains_in now) i (option_map chain_of item) (simp length-map within) so_far
    (sym (get_or-map (option_map chain_of) now i item (option_map chain_of item) (rw same within) ∙ ap (option_map chain_of) (sym read)))
