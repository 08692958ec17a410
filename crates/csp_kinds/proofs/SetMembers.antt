-- The members of the sets of a declaration, as they count at their sites.
use Rattle.std.specs.Prelude.{replicate, option_and_then}
use Rattle.std.proofs.Common.{◌≡◌, ℕ, zero, suc, List, [], ◌∷◌, ◌++◌, append-nil, length, map, Option, Some, None, refl, ap, ◌∙◌}
use Rattle.std.proofs.lemmas.List.{map-append}
use Rattle.theory_syntax.specs.Expression.{Expression}
use Rattle.theory_text.specs.Raw.{RawName, RawDomain, RawDeclaration, RawChannels, RawScript}
use Rattle.theory_checking.specs.Faults.{NoneRefused}
use Rattle.theory_checking.specs.Resolving.{of_two, every}
use Rattle.theory_checking.specs.Rules.{IsRedeclared, all_declared}
use Rattle.theory_checking.specs.Sets.{set_expression, channels_declared, channel_sets, datatypes_of, field_members, field_members_with, members_above, types_declared, with_members, with_some}
use Rattle.theory_checking.proofs.OneMore.{every_more}
use Rattle.theory_checking.proofs.ScriptThere.{behind_one_more, members_one_more}
use Rattle.csp_kinds.specs.Members.{channels_above}
use Rattle.csp_kinds.proofs.Evaluating.{set_members_above}

-- ---- types

-- a declaration of no types
pub members_and_other : (raw above : RawScript) (d : RawDeclaration) → types_declared above d ≡ [] → members_above raw (above ++ d ∷ []) ≡ members_above raw above
members_and_other raw above d none = members_one_more raw above d ∙ ap (with_members (datatypes_of raw) (members_above raw above)) none

-- ---- fields

-- the members of a field's set over all types are those over the types above it
pub field_here : (raw above below : RawScript) (d : RawDomain) → raw ≡ above ++ below → NoneRefused IsRedeclared (all_declared raw) →
    field_members raw (set_expression above d) ≡ field_members_with (datatypes_of raw) (members_above raw above) (set_expression above d)
field_here raw above below d stands once = go (set_expression above d) refl
  where
    go : (o : Option Expression) → set_expression above d ≡ o → field_members raw o ≡ field_members_with (datatypes_of raw) (members_above raw above) o
    go None is = refl
    go (Some e) is = ap (λ o. option_and_then with_some o) (set_members_above raw above below stands once d e is)

-- one thing more, if all so far gave something
module _ {A B : Type 0} (f : A → Option B) (xs : List A) (x : A) where
  pub every_then : (ys : List B) (y : B) → every f xs ≡ Some ys → f x ≡ Some y → every f (xs ++ x ∷ []) ≡ Some (ys ++ y ∷ [])
  every_then ys y e h = every_more f xs (x ∷ []) ∙ rw (e, h) refl

  pub every_not_before : every f xs ≡ None → every f (xs ++ x ∷ []) ≡ None
  every_not_before e = every_more f xs (x ∷ []) ∙ ap (λ o. of_two ◌++◌ o (every f (x ∷ []))) e

  pub every_not_here : f x ≡ None → every f (xs ++ x ∷ []) ≡ None
  every_not_here h = every_more f xs (x ∷ []) ∙ go (every f xs) (f x) h
    where
      go : (o : Option (List B)) (p : Option B) → p ≡ None → of_two ◌++◌ o (of_two ◌∷◌ p (Some [])) ≡ None
      go None p h = refl
      go (Some ys) None h = refl
      go (Some ys) (Some y) h = absurd (cc h)

-- ---- channels

map_copies : {A B : Type 0} (f : A → B) (n : ℕ) (x : A) → map f (replicate n x) ≡ replicate n (f x)
map_copies f zero x = refl
map_copies f (suc n) x = ap (λ ys. f x ∷ ys) (map_copies f n x)

pub channels_and_one : (raw above : RawScript) (d : RawDeclaration) → channels_above raw (above ++ d ∷ []) ≡ channels_above raw above ++ map (every (field_members raw)) (channels_declared above d)
channels_and_one raw above d = ap (map (every (field_members raw))) (behind_one_more channels_declared above d)
    ∙ map-append (every (field_members raw)) (channel_sets above) (channels_declared above d)

pub channels_and_copies : (raw above : RawScript) (names : List RawName) (domains : List RawDomain) →
    channels_above raw (above ++ RawChannels names domains ∷ []) ≡ channels_above raw above ++ replicate (length names) (every (field_members raw) (map (set_expression above) domains))
channels_and_copies raw above names domains =
    channels_and_one raw above (RawChannels names domains) ∙ ap (λ cs. channels_above raw above ++ cs) (map_copies (every (field_members raw)) (length names) (map (set_expression above) domains))

pub channels_and_other : (raw above : RawScript) (d : RawDeclaration) → channels_declared above d ≡ [] → channels_above raw (above ++ d ∷ []) ≡ channels_above raw above
channels_and_other raw above d none =
    channels_and_one raw above d ∙ ap (λ cs. channels_above raw above ++ map (every (field_members raw)) cs) none ∙ append-nil (channels_above raw above)
