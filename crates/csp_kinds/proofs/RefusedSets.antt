-- The first refusal of the declarations so far, and one more.
use Rattle.std.proofs.Common.{◌≡◌, ℕ, ◌+◌, Bool, true, false, List, [], ◌∷◌, ◌++◌, append-nil, length, length-append, map, Option, Some, None, refl, sym, ap, ◌∙◌, subst, inl, inr, arith}
use Rattle.theory_text.specs.Raw.{RawDeclaration, RawScript}
use Rattle.theory_checking.specs.Resolving.{every}
use Rattle.theory_checking.specs.Sets.{behind_each, channels_declared, field_members, members_above}
use Rattle.theory_checking.specs.Sites.{in_declaration}
use Rattle.theory_checking.specs.Walks.{AllFine}
use Rattle.theory_checking.proofs.FirstRefused.{Split, split}
use Rattle.theory_checking.proofs.ScriptThere.{AllMembersThere, channels_there, joined, members_there}
use Rattle.csp_kinds.specs.declared.faults.SetFault.{SetFault}
use Rattle.csp_kinds.specs.declared.sets.RefusedSet.{RefusedSet}
use Rattle.csp_kinds.specs.Faults.{IsFaultOf}
use Rattle.csp_kinds.specs.Looking.{fault_in}
use Rattle.csp_kinds.specs.Members.{channels_above}
use Rattle.csp_kinds.specs.Pass.{AreAllThere, first_refusal, IsRefusalSoFar}
use Rattle.csp_kinds.specs.Passing.{AreFirstSetsFine, AreSetsFine, declares_sets}
use Rattle.csp_kinds.proofs.SetMembers.{channels_and_one}

-- two divisions of a list at one place are one
same_place : {A : Type 0} (xs ys vs ws : List A) (x y : A) → xs ++ x ∷ vs ≡ ys ++ y ∷ ws → length xs ≡ length ys → (xs ≡ ys) × (x ≡ y)
same_place {A} xs ys vs ws x y e same = go (split xs ys vs ws x y e)
  where
    go : Split xs x ys y → (xs ≡ ys) × (x ≡ y)
    go (inl h) = h
    go (inr (inl h)) = let size = ap length h.1 ∙ length-append xs (x ∷ h.0) in absurd (omega (arith, size, same))
    go (inr (inr h)) = let size = ap length h.1 ∙ length-append ys (y ∷ h.0) in absurd (omega (arith, size, same))

nothing_above : (raw : RawScript) → AreFirstSetsFine raw 0
nothing_above raw above d below stands declares small = absurd (omega (arith, small))

module _ (raw above below : RawScript) (d : RawDeclaration) (stands : raw ≡ above ++ d ∷ below) where
  pub fine_and_one : (declares_sets d ≡ true → AllFine (in_declaration raw above d)) → AreFirstSetsFine raw (length above) → AreFirstSetsFine raw (length (above ++ d ∷ []))
  fine_and_one here before a x b is declares small = go (split a above b below x d (sym is ∙ stands))
    where
      size : length (above ++ d ∷ []) ≡ length above + 1
      size = length-append above (d ∷ [])

      go : Split a x above d → AllFine (in_declaration raw a x)
      go (inl h) =
          let P : RawScript → Type 0 = λ zs. AllFine (in_declaration raw zs x) in
          let Q : RawDeclaration → Type 0 = λ z. AllFine (in_declaration raw above z) in
          subst P (sym h.0) (subst Q (sym h.1) (here (ap declares_sets (sym h.1) ∙ declares)))
      go (inr (inl h)) = before a x b is declares (let long = ap length h.1 ∙ length-append a (x ∷ h.0) in omega (arith, long))
      go (inr (inr h)) = let long = ap length h.1 ∙ length-append above (d ∷ h.0) in absurd (omega (arith, long, small, size))

  -- where its sites are fine, its sets have their members
  all_sites : AllFine (in_declaration raw above d) → AllFine (behind_each (in_declaration raw) above (d ∷ []))
  all_sites fine = subst AllFine (sym (append-nil (in_declaration raw above d))) fine

  members_more : AllFine (in_declaration raw above d) → AllMembersThere (members_above raw above) → AllMembersThere (members_above raw (above ++ d ∷ []))
  members_more fine all = members_there raw above (d ∷ []) (all_sites fine) all

  channels_more : AllFine (in_declaration raw above d) → AreAllThere (channels_above raw above) → AreAllThere (channels_above raw (above ++ d ∷ []))
  channels_more fine all =
      let own = subst (λ cs. AreAllThere (map (every (field_members raw)) cs)) (append-nil (channels_declared above d)) (channels_there raw above (d ∷ []) (all_sites fine)) in
      subst AreAllThere (sym (channels_and_one raw above d)) (joined (channels_above raw above) (map (every (field_members raw)) (channels_declared above d)) all own)

  module _ (fits new_fits : Bool) (passed : ℕ) (is : passed ≡ length above) (refused : Option RefusedSet) (h : IsRefusalSoFar raw above fits refused) where
    -- a declaration without sets
    pub other_refusal : declares_sets d ≡ false → new_fits ≡ fits → members_above raw (above ++ d ∷ []) ≡ members_above raw above → channels_above raw (above ++ d ∷ []) ≡ channels_above raw above → IsRefusalSoFar raw (above ++ d ∷ []) new_fits refused
    other_refusal none same ms cs = go refused h
      where
        go : (r : Option RefusedSet) → IsRefusalSoFar raw above fits r → IsRefusalSoFar raw (above ++ d ∷ []) new_fits r
        go (Some r) k = k
        go None k = record {
          fine = fine_and_one (λ declares. let both : false ≡ true = sym none ∙ declares in absurd (cc both)) k.fine;
          some = same ∙ k.some;
          nametypes = subst (λ m. AreAllThere m.nametypes) (sym ms) k.nametypes;
          constructors = subst (λ m. AreAllThere m.constructors) (sym ms) k.constructors;
          channels = subst AreAllThere (sym cs) k.channels;
        }

    -- one that is fine, or is refused
    pub one_refusal_more : (fault : Option SetFault) → declares_sets d ≡ true → IsFaultOf (in_declaration raw above d) (fault_in fault) → (fault_in fault ≡ None → fits ≡ true → new_fits ≡ true) → IsRefusalSoFar raw (above ++ d ∷ []) new_fits (first_refusal refused passed fault)
    one_refusal_more fault declares site keeps = go refused fault h site keeps
      where
        go : (r : Option RefusedSet) (f : Option SetFault) → IsRefusalSoFar raw above fits r → IsFaultOf (in_declaration raw above d) (fault_in f) → (fault_in f ≡ None → fits ≡ true → new_fits ≡ true) →
            IsRefusalSoFar raw (above ++ d ∷ []) new_fits (first_refusal r passed f)
        go (Some r) f k s e = k
        go None (Some f) k s e = record {
          above = above;
          refused = d;
          below = below;
          stands = stands;
          number = sym is;
          declares = declares;
          fine_above = subst (AreFirstSetsFine raw) (sym is) k.fine;
          stopped = s;
        }
        go None None k s e =
            let members = members_more s (record { nametypes = k.nametypes; constructors = k.constructors }) in
            record { fine = fine_and_one (λ _. s) k.fine; some = e refl k.some; nametypes = members.nametypes; constructors = members.constructors; channels = channels_more s k.channels }

pub nothing_refused : (raw : RawScript) → IsRefusalSoFar raw [] true None
nothing_refused raw = record { fine = nothing_above raw; some = refl; nametypes = ([], refl); constructors = ([], refl); channels = ([], refl) }

pub all_fine : (raw : RawScript) → AreFirstSetsFine raw (length raw) → AreSetsFine raw
all_fine raw fine above d below stands declares =
    fine above d below stands declares (let size = ap length stands ∙ length-append above (d ∷ below) in omega (arith, size))
