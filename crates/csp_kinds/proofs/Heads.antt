-- The names of channels in a row, and the number of events with each.
use Rattle.std.specs.Prelude.{nat_le, cond, replicate, slice_get, take, unwrap_or}
use Rattle.std.specs.Option.{option_or}
use Rattle.std.proofs.lemmas.Bool.{le-ltb, leb-true, leb-false}
use Rattle.std.proofs.Math.Seq.{take-append_seam}
use Rattle.std.proofs.Common.{◌≡◌, ℕ, suc, ◌+◌, Bool, true, false, List, [], ◌∷◌, ◌++◌, length, length-append, Option, Some, None, is_some, refl, sym, ap, ap₂, ◌∙◌, subst, arith}
use Rattle.theory_syntax.specs.Value.{Value}
use Rattle.theory_text.specs.Place.{Place}
use Rattle.theory_text.specs.Raw.{RawName, RawScript}
use Rattle.theory_checking.specs.Sets.{types_of, channel_members, number_of_events}
use Rattle.theory_checking.specs.Sites.{ChannelHead, in_heads}
use Rattle.theory_checking.specs.Faults.{KindFault}
use Rattle.theory_checking.specs.Rules.{SomeFit, most_events}
use Rattle.theory_checking.specs.Walks.{AllFine}
use Rattle.theory_checking.proofs.FineSites.{head_fine, unmembered_fine}
use Rattle.theory_checking.proofs.SingleSites.{head_stops, misfit_head_fine}
use Rattle.theory_checking.proofs.ScriptThere.{at_its_place}
use Rattle.theory_checking.proofs.OneMore.{in_more_heads}
use Rattle.theory_checking.proofs.Counts.{length-replicate}
use Rattle.csp_kinds.specs.Faults.{IsFaultOf, both_counts, head_fault}
use Rattle.csp_kinds.specs.Members.{IsCount, events_in}
use Rattle.csp_kinds.proofs.SetSites.{fault_of_both}

abbrev pub Sets : Type 0
Sets = List (List Value)

-- ---- numbers of events

pub events_of_both : (xs ys : List (Option Sets)) → number_of_events (xs ++ ys) ≡ number_of_events xs + number_of_events ys
events_of_both [] ys = omega arith
events_of_both (None ∷ xs) ys = events_of_both xs ys
events_of_both (Some sets ∷ xs) ys = let rest = events_of_both xs ys in omega arith

pub events_and_one : (xs : List (Option Sets)) (own : Option Sets) → number_of_events (xs ++ own ∷ []) ≡ number_of_events xs + events_in own
events_and_one xs None = events_of_both xs (None ∷ [])
events_and_one xs (Some sets) = let both = events_of_both xs (Some sets ∷ []) in omega arith

pub both_counted : (a b : Option ℕ) (m n : ℕ) → IsCount a m → IsCount b n → IsCount (both_counts a b) (m + n)
both_counted (Some j) (Some k) m n h i = go (nat_le (j + k) most_events) refl
  where
    sum : j + k ≡ m + n
    sum = ap₂ (λ x y. x + y) h.0 i.0

    go : (b : Bool) → nat_le (j + k) most_events ≡ b → IsCount (cond b (Some (j + k)) None) (m + n)
    go true e = let le = leb-true (j + k) most_events e in (sum, omega (arith, le, sum))
    go false e = let lt = leb-false (j + k) most_events e in omega (arith, lt, sum)
both_counted (Some j) None m n h i = omega (arith, i)
both_counted None b m n h i = omega (arith, h)

-- ---- one head

module _ (raw so_far : RawScript) where
  -- the head of the channel behind these, and with others behind it
  pub head_at : (n : RawName) (before rest : List (Option Sets)) (own : Option Sets) (c : ℕ) → channel_members raw ≡ before ++ own ∷ rest → c ≡ length before →
      in_heads raw so_far c (n ∷ []) ≡ ChannelHead n (types_of raw) so_far before own ∷ []
  head_at n before rest own c all here =
      let first : take c (channel_members raw) ≡ before = ap₂ take here all ∙ take-append_seam before (own ∷ rest) in
      let this : unwrap_or (slice_get (channel_members raw) c) None ≡ own = ap (λ o. unwrap_or o None) (ap₂ slice_get all here ∙ at_its_place before rest own) in
      ap₂ (λ xs o. ChannelHead n (types_of raw) so_far xs o ∷ []) first this

  -- the fault there
  pub is_head_fault : (n : RawName) (before : List (Option Sets)) (own : Option Sets) (events : Option ℕ) → SomeFit (types_of raw) so_far → IsCount events (number_of_events (before ++ own ∷ [])) →
      IsFaultOf (ChannelHead n (types_of raw) so_far before own ∷ []) (head_fault n (is_some own) events)
  is_head_fault n before None events fit counted = (unmembered_fine n (types_of raw) so_far before, tt)
  is_head_fault n before (Some sets) (Some k) fit counted =
      let all = events_and_one before (Some sets) in
      (head_fine n (types_of raw) so_far before sets (le-ltb most_events (number_of_events (Some sets ∷ before)) (let le = counted.1 in omega (arith, le, all))), tt)
  is_head_fault n before (Some sets) None fit counted =
      let all = events_and_one before (Some sets) in
      head_stops n (types_of raw) so_far before sets fit (omega (arith, counted, all))

  -- the heads so far and one more
  pub one_more_head : (ns : List RawName) (n : RawName) (old : List (Option Sets)) (own : Option Sets) (rest : List (Option Sets)) (fault : Option (KindFault × Place)) (events : Option ℕ) → SomeFit (types_of raw) so_far →
      channel_members raw ≡ (old ++ replicate (length ns) own) ++ own ∷ rest → IsFaultOf (in_heads raw so_far (length old) ns) fault → IsCount events (number_of_events ((old ++ replicate (length ns) own) ++ own ∷ [])) →
      IsFaultOf (in_heads raw so_far (length old) (ns ++ n ∷ [])) (option_or fault (head_fault n (is_some own) events))
  one_more_head ns n old own rest fault events fit all h counted =
      let before = old ++ replicate (length ns) own in
      let here : length old + length ns ≡ length (old ++ replicate (length ns) own) = sym (length-append old (replicate (length ns) own) ∙ ap (λ k. length old + k) (length-replicate (length ns) own)) in
      let one = subst (λ xs. IsFaultOf xs (head_fault n (is_some own) events)) (sym (head_at n (old ++ replicate (length ns) own) rest own (length old + length ns) all here)) (is_head_fault n (old ++ replicate (length ns) own) own events fit counted) in
      subst (λ xs. IsFaultOf xs (option_or fault (head_fault n (is_some own) events))) (sym (in_more_heads raw so_far (length old) ns (n ∷ [])))
      (fault_of_both (in_heads raw so_far (length old) ns) (in_heads raw so_far (length old + length ns) (n ∷ [])) fault (head_fault n (is_some own) events) h one)

  -- where no kinds fit, nothing is refused there
  pub misfit_heads_fine : (c : ℕ) (ns : List RawName) → ¬ (SomeFit (types_of raw) so_far) → AllFine (in_heads raw so_far c ns)
  misfit_heads_fine c [] none = tt
  misfit_heads_fine c (n ∷ ns) none = (misfit_head_fine n (types_of raw) so_far _ _ none, misfit_heads_fine (suc c) ns none)
