-- The equations that sets, equations and assertions of a script ask for.
use Rattle.std.specs.Prelude.{◌≡◌, ℕ, zero, suc, ◌+◌, nat_eq, cond, List, [], ◌∷◌, ◌++◌, length, map, flat_map, replicate, slice_get, Option, Some, None}
use Rattle.theory_syntax.specs.Expression.{Expression}
use Rattle.theory_syntax.specs.Process.{Process, Equation, specification_of, Assertion, Script}
use Rattle.theory_syntax.specs.Types.{Types}
use Rattle.theory_semantics.specs.Kinds.Kind.{Kinds}
use Rattle.theory_text.specs.Raw.{RawScript}
use Rattle.theory_checking.specs.Sets.{nametype_sets, constructor_sets, channel_sets}
use Rattle.theory_checking.specs.Rules.{parameters_declared}
use Rattle.theory_checking.specs.Fitting.{Item, EquationItem, AssertionItem}
use Rattle.theory_checking.specs.Inference.Chain.{OpenEnd, SetOver, Assignment}
use Rattle.theory_checking.specs.Inference.State as state
use Rattle.theory_checking.specs.Inference.Equations.{never, when, Numbering, kinds_under, Numbered, IsBelow}
use Rattle.theory_checking.specs.Inference.Expressions.{behind_expression, of_expression}
use Rattle.theory_checking.specs.Inference.Processes.{behind_process, of_process}

-- ---- sets, each with the number of its members' kind; nothing is asked of a set in which a name is refused

abbrev pub behind_set : ℕ → Option Expression → ℕ
behind_set n None = n
behind_set n (Some e) = behind_expression n e

abbrev pub of_set : Types → Numbering → ℕ → Option Expression → ℕ → List state.KindEquation
of_set types o n None m = []
of_set types o n (Some e) m = of_expression types o n [] e (SetOver (OpenEnd m))

abbrev pub behind_sets : ℕ → List (Option Expression) → ℕ
behind_sets n [] = n
behind_sets n (e ∷ es) = behind_sets (behind_set n e) es

abbrev pub of_sets : Types → Numbering → ℕ → List (Option Expression) → List ℕ → List state.KindEquation
of_sets types o n [] [] = []
of_sets types o n (e ∷ es) (m ∷ ms) = of_set types o n e m ++ of_sets types o (behind_set n e) es ms
of_sets types o n es ms = never

-- one set, as it is of the same field of several channels
abbrev pub behind_copies : ℕ → Option Expression → List ℕ → ℕ
behind_copies n e [] = n
behind_copies n e (m ∷ ms) = behind_copies (behind_set n e) e ms

abbrev pub of_copies : Types → Numbering → ℕ → Option Expression → List ℕ → List state.KindEquation
of_copies types o n e [] = []
of_copies types o n e (m ∷ ms) = of_set types o n e m ++ of_copies types o (behind_set n e) e ms

abbrev pub behind_rows : ℕ → List (List (Option Expression)) → ℕ
behind_rows n [] = n
behind_rows n (es ∷ rows) = behind_rows (behind_sets n es) rows

abbrev pub of_rows : Types → Numbering → ℕ → List (List (Option Expression)) → List (List ℕ) → List state.KindEquation
of_rows types o n [] [] = []
of_rows types o n (es ∷ rows) (ms ∷ mss) = of_sets types o n es ms ++ of_rows types o (behind_sets n es) rows mss
of_rows types o n rows mss = never

-- ---- equations and assertions

abbrev pub numbered : List ℕ → List ℕ → Numbered
numbered [] ms = []
numbered (x ∷ xs) [] = []
numbered (x ∷ xs) (m ∷ ms) = (x, m) ∷ numbered xs ms

abbrev pub of_equation : Script → Numbering → ℕ → Equation → List ℕ → List state.KindEquation
of_equation script o n q ms = cond (nat_eq (length q.parameters) (length ms)) (of_process script o n (numbered q.parameters ms) q.body) never

-- of the specification that an assertion compares with, if there is one
abbrev pub of_specification : Script → Numbering → ℕ → Option Process → List state.KindEquation
of_specification script o n (Some p) = of_process script o n [] p
of_specification script o n None = []

abbrev pub behind_specification : ℕ → Option Process → ℕ
behind_specification n (Some p) = behind_process n p
behind_specification n None = n

abbrev pub behind_assertion : ℕ → Assertion → ℕ
behind_assertion n a = behind_process (behind_specification n (specification_of a.property)) a.implementation

abbrev pub of_assertion : Script → Numbering → ℕ → Assertion → List state.KindEquation
of_assertion script o n a =
    of_specification script o n (specification_of a.property) ++ of_process script o (behind_specification n (specification_of a.property)) [] a.implementation

abbrev pub behind_item : Script → ℕ → Item → ℕ
behind_item script n (EquationItem p m) = elim (slice_get script.equations m) [ Some q ↦ behind_process n q.body | None ↦ n ]
behind_item script n (AssertionItem p m) = elim (slice_get script.assertions m) [
  | Some a ↦ behind_assertion n a
  | None ↦ n
]

abbrev pub of_item : Script → Numbering → ℕ → Item → List state.KindEquation
of_item script o n (EquationItem p m) = when (slice_get script.equations m) (λ q. when (slice_get o.parameters m) (of_equation script o n q))
of_item script o n (AssertionItem p m) = when (slice_get script.assertions m) (of_assertion script o n)

abbrev pub behind_items : Script → ℕ → List Item → ℕ
behind_items script n [] = n
behind_items script n (x ∷ xs) = behind_items script (behind_item script n x) xs

abbrev pub of_items : Script → Numbering → ℕ → List Item → List state.KindEquation
of_items script o n [] = []
of_items script o n (x ∷ xs) = of_item script o n x ++ of_items script o (behind_item script n x) xs

-- ---- numbers for a tree

-- as many kinds as the tree has nametypes, fields of constructors and channels and parameters of equations
pub record HaveShape (raw : RawScript) (kinds : Kinds) : Type 0 where
  pub nametypes : length kinds.nametypes ≡ length (nametype_sets raw)
  pub constructors : map length kinds.constructors ≡ map length (constructor_sets raw)
  pub channels : map length kinds.channels ≡ map length (channel_sets raw)
  pub parameters : map length kinds.parameters ≡ flat_map parameters_declared raw

-- The numbers below n are numbers for the tree: all kinds for it are the kinds under some assignment.
pub record AreNumbersFor (raw : RawScript) (n : ℕ) (o : Numbering) : Type 0 where
  pub below : IsBelow n o
  pub nametypes : length o.nametypes ≡ length (nametype_sets raw)
  pub constructors : map length o.constructors ≡ map length (constructor_sets raw)
  pub channels : map length o.channels ≡ map length (channel_sets raw)
  pub parameters : map length o.parameters ≡ flat_map parameters_declared raw
  pub cover : (kinds : Kinds) → HaveShape raw kinds → (a : Assignment) × (kinds_under a o ≡ kinds)

-- numbers in a row
abbrev pub numbers_from : ℕ → ℕ → List ℕ
numbers_from n zero = []
numbers_from n (suc k) = n ∷ numbers_from (suc n) k

abbrev pub rows_from : ℕ → List ℕ → List (List ℕ)
rows_from n [] = []
rows_from n (k ∷ ks) = numbers_from n k ∷ rows_from (n + k) ks

-- the datatype of each constructor, from the datatype d on, where these have so many constructors
abbrev pub owners_from : ℕ → List ℕ → List ℕ
owners_from d [] = []
owners_from d (k ∷ ks) = replicate k d ++ owners_from (suc d) ks

abbrev pub behind_all : ℕ → List ℕ → ℕ
behind_all n [] = n
behind_all n (k ∷ ks) = behind_all (n + k) ks

-- the next number behind the nametypes, and behind the fields of the constructors and the channels too
abbrev pub behind_nametypes : RawScript → ℕ
behind_nametypes raw = length (nametype_sets raw)

abbrev pub behind_constructors : RawScript → ℕ
behind_constructors raw = behind_all (behind_nametypes raw) (map length (constructor_sets raw))

abbrev pub behind_channels : RawScript → ℕ
behind_channels raw = behind_all (behind_constructors raw) (map length (channel_sets raw))

-- Nametypes, then the fields of constructors, then those of channels, then the parameters of equations, in a row from zero, and the next number.
abbrev pub numbers_of : List ℕ → RawScript → Numbering
numbers_of owners raw = record {
  owners = owners;
  nametypes = numbers_from 0 (length (nametype_sets raw));
  constructors = rows_from (behind_nametypes raw) (map length (constructor_sets raw));
  channels = rows_from (behind_constructors raw) (map length (channel_sets raw));
  parameters = rows_from (behind_channels raw) (flat_map parameters_declared raw);
}

abbrev pub next_number : RawScript → ℕ
next_number raw = behind_all (behind_channels raw) (flat_map parameters_declared raw)
