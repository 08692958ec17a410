-- What events, sets of events and renamings stand for is decided by what a script declares: its types and its channels.
use Rattle.std.proofs.Common.{◌≡◌, ℕ, List, [], ◌∷◌, refl}
use Rattle.theory_syntax.specs.Process.{EventExpression, EventSet, Enumeration, Productions, EventUnion, EventIntersection, EventDifference, RenamingPair, Script}
use Rattle.theory_semantics.specs.Meaning.Events.{event_of, event_test, field_sets, pair_images, renaming}

module _ (s t : Script) (types : s.types ≡ t.types) (channels : s.channels ≡ t.channels) where
  pub same_fields : (c : ℕ) → field_sets s c ≡ field_sets t c
  same_fields c = rw channels refl

  pub same_event : (e : EventExpression) → event_of s e ≡ event_of t e
  same_event e = rw (types, channels) refl

  pub same_test : (a : EventSet) → event_test s a ≡ event_test t a
  same_test (Enumeration es) = rw (types, channels) refl
  same_test (Productions es) = rw (types, channels) refl
  same_test (EventUnion a b) = rw (same_test a, same_test b) refl
  same_test (EventIntersection a b) = rw (same_test a, same_test b) refl
  same_test (EventDifference a b) = rw (same_test a, same_test b) refl

  pub same_pair : (r : RenamingPair) → pair_images s r ≡ pair_images t r
  same_pair r = rw (types, channels) refl

  pub same_renaming : (rs : List RenamingPair) → renaming s rs ≡ renaming t rs
  same_renaming [] = refl
  same_renaming (r ∷ rs) = rw (same_pair r, same_renaming rs) refl
