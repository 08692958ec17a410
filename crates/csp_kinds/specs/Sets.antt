-- The sets of a tree, and the first declaration of sets that is refused.
use Rattle.std.specs.Prelude.{◌≡◌, ◌↔◌, ℕ, true, List, ◌∷◌, ◌++◌, length, map, slice_get, Option, Some, None}
use Rattle.theory_syntax.specs.Value.{Value}
use Rattle.theory_text.specs.Raw.{RawDeclaration, RawScript}
use Rattle.csp_lex.specs.Places.{place_of}
use Rattle.theory_checking.specs.Sets.{types_of, channel_sets, nametype_members, constructor_members, channel_members}
use Rattle.theory_checking.specs.Sites.{in_declaration}
use Rattle.theory_checking.specs.Rules.{HasFieldSets}
use Rattle.theory_checking.specs.Walks.{IsStoppedAt}
use Rattle.csp_expression.specs.Evaluation.{table_of}
use Rattle.csp_names.specs.Refusals.{fault_of}
use Rattle.csp_names.specs.Scopes.{known_sets}
use Rattle.csp_inference.specs.KnownKinds.{KnowsKinds}
pub use Rattle.csp_kinds.specs.Passing.{declares_sets, AreSetsFine, AreFirstSetsFine}
use Rattle.csp_kinds.specs.declared.sets.RefusedSet.{RefusedSet}
use Rattle.csp_kinds.specs.declared.sets.Sets.{Sets}

-- Nothing is refused: each set has its members, and what is known of kinds is known of all sets.
pub record AreUnrefused {A : Type 0} (raw : RawScript) (sets : Sets A) : Type 0 where
  pub fine : AreSetsFine raw
  pub known : KnowsKinds raw raw sets.known
  pub nametypes : map Some (table_of sets.types).nametypes ≡ nametype_members raw
  pub constructors : map Some (table_of sets.types).constructors ≡ constructor_members raw
  pub field_sets : List (List (List Value))
  pub channels : map known_sets sets.channels.items ≡ map Some field_sets
  pub members : map Some field_sets ≡ channel_members raw

-- The declaration is the first one of sets that is refused, with this fault at this place.
pub record IsFirstRefusedSet (raw : RawScript) (r : RefusedSet) : Type 0 where
  pub above : RawScript
  pub refused : RawDeclaration
  pub below : RawScript
  pub stands : raw ≡ above ++ refused ∷ below
  pub number : length above ≡ r.declaration
  pub declares : declares_sets refused ≡ true
  pub fine_above : AreFirstSetsFine raw r.declaration
  pub stopped : IsStoppedAt (in_declaration raw above refused) (fault_of r.fault) (place_of r.place)

abbrev pub IsSetRefusal : {A : Type 0} → RawScript → Sets A → Option RefusedSet → Type 0
IsSetRefusal raw sets None = AreUnrefused raw sets
IsSetRefusal raw sets (Some r) = IsFirstRefusedSet raw r

-- The types are those of the tree, and each channel has its field sets where no rule refuses one of them or a name in
-- it.
pub record AreSetsOf {A : Type 0} (raw : RawScript) (sets : Sets A) : Type 0 where
  pub types : table_of sets.types ≡ types_of raw
  pub counted : length sets.channels.items ≡ length (channel_sets raw)
  pub channels : (c : ℕ) (values : List (List Value)) → (slice_get (map known_sets sets.channels.items) c ≡ Some (Some values)) ↔ HasFieldSets raw c values
  pub refusal : IsSetRefusal raw sets sets.refused
