-- Kinds that fit the sets of a tree, and its equations and assertions.
use Rattle.std.specs.Prelude.{◌≡◌, ◌⊎◌, ℕ, List, [], ◌∷◌, ◌++◌}
use Rattle.theory_syntax.specs.Process.{Script}
use Rattle.theory_syntax.specs.Types.{Types}
use Rattle.theory_semantics.specs.Kinds.Kind.{Kinds}
use Rattle.theory_text.specs.Raw.{RawScript}
use Rattle.theory_checking.specs.Sets.{nametype_sets, constructor_sets, channel_sets, types_of, FitSets}
use Rattle.theory_checking.specs.Rules.{SomeFit}
use Rattle.theory_checking.specs.Faults.{KindFault}
use Rattle.theory_checking.specs.Fitting.{Item, FitKinds, IsMisfit}
use Rattle.theory_checking.specs.Inference.Chain.{Assignment}
use Rattle.theory_checking.specs.Inference.State.{State, nothing_known, Satisfies, KindEquation, IsSolved, HasNoSolution}
use Rattle.theory_checking.specs.Inference.Equations.{Ask, Numbering, kinds_under, IsBelow, AreOwners}
use Rattle.theory_checking.specs.Inference.Items.{behind_sets, of_sets, behind_rows, of_rows, behind_items, of_item, of_items, AreNumbersFor, numbers_of}

-- ---- sets

-- the equations, in which the numbers from n up to m are new, ask that kinds fit all sets of the tree
abbrev pub AskForSets : Types → RawScript → Numbering → ℕ → List KindEquation → ℕ → Type 0
AskForSets types raw o n es m = Ask n es m (λ a. FitSets types raw (kinds_under a o))

-- the first number behind the equations of the sets of nametypes, and behind those of constructors too
abbrev pub behind_first : RawScript → ℕ → ℕ
behind_first raw n = behind_sets n (nametype_sets raw)

abbrev pub behind_second : RawScript → ℕ → ℕ
behind_second raw n = behind_rows (behind_first raw n) (constructor_sets raw)

-- the equations of all sets, those of nametypes first, then those of constructors
abbrev pub of_tree : Types → RawScript → Numbering → ℕ → List KindEquation
of_tree types raw o n =
    of_sets types o n (nametype_sets raw) o.nametypes
    ++ (of_rows types o (behind_first raw n) (constructor_sets raw) o.constructors
    ++ of_rows types o (behind_second raw n) (channel_sets raw) o.channels)

-- the first number behind them
abbrev pub behind_tree : RawScript → ℕ → ℕ
behind_tree raw n = behind_rows (behind_second raw n) (channel_sets raw)

-- they ask that kinds fit all sets
abbrev pub TreeAsksForSets : Types → RawScript → Numbering → Type 0
TreeAsksForSets types raw o = (n : ℕ) →
    IsBelow n o →
    AskForSets types raw o n (of_tree types raw o n) (behind_tree raw n)

-- with some numbers for the tree the equations ask for kinds of its sets
abbrev pub AreForSets : Types → RawScript → List KindEquation → Type 0
AreForSets types raw es =
    (o : Numbering) × (n : ℕ) × (m : ℕ) × AreNumbersFor raw n o × AskForSets types raw o n es m

-- some state says just what the equations say
abbrev pub AreSolvable : List KindEquation → Type 0
AreSolvable es = (t : State) × IsSolved nothing_known es t

-- no assignment solves them
abbrev pub AreUnsolvable : List KindEquation → Type 0
AreUnsolvable es = HasNoSolution nothing_known es

-- ---- equations and assertions

-- A tree and its script, with numbers for the tree and equations that ask for kinds of its sets, in which the numbers
-- from `start` up to `end` are new.
pub record NumberedTree : Type 0 where
  pub raw : RawScript
  pub script : Script
  pub numbers : Numbering
  pub start : ℕ
  pub end : ℕ
  pub equations : List KindEquation
  pub owners : AreOwners script.types numbers
  pub below : AreNumbersFor raw start numbers
  pub asking : AskForSets (types_of raw) raw numbers start equations end

-- its equations, with those of some of its equations and assertions
abbrev pub equations_with : NumberedTree → List Item → List KindEquation
equations_with tree xs = tree.equations ++ of_items tree.script tree.numbers tree.end xs

-- the kinds fit all sets, and these equations and assertions
abbrev pub Fit : NumberedTree → Kinds → List Item → Type 0
Fit tree kinds xs = FitKinds tree.raw tree.script kinds xs

-- the equations ask for kinds that do
abbrev pub AskForFit : NumberedTree → List Item → Type 0
AskForFit tree xs =
    Ask tree.start (equations_with tree xs) (behind_items tree.script tree.end xs) (λ a. Fit tree (kinds_under a tree.numbers) xs)

-- the state says just what these equations say
abbrev pub IsSolvedFor : NumberedTree → List Item → State → Type 0
IsSolvedFor tree xs t = IsSolved nothing_known (equations_with tree xs) t

-- no assignment solves them
abbrev pub IsUnsolvedFor : NumberedTree → List Item → Type 0
IsUnsolvedFor tree xs = AreUnsolvable (equations_with tree xs)

-- the kinds are those under an assignment that satisfies the state
abbrev pub AreKindsOf : NumberedTree → State → Kinds → Type 0
AreKindsOf tree t kinds = (a : Assignment) × Satisfies a t × (kinds_under a tree.numbers ≡ kinds)

-- no kinds fit the item and those before it: it is refused with this fault
abbrev pub IsMisfitOf : NumberedTree → List Item → Item → KindFault → Type 0
IsMisfitOf tree before x f = IsMisfit tree.raw tree.script before x f

-- the equations of one more item come behind those of the items before it
abbrev pub EquationsGoOn : Script → Numbering → Type 0
EquationsGoOn script o = (n : ℕ) (before : List Item) (x : Item) →
    of_items script o n (before ++ x ∷ [])
    ≡ of_items script o n before ++ of_item script o (behind_items script n before) x

-- ---- whether some fit

-- with numbers in a row, these are the datatypes of the constructors
abbrev pub AreOwnersIn : RawScript → List ℕ → Types → Type 0
AreOwnersIn raw owners types = AreOwners types (numbers_of owners raw)

-- some kinds fit all sets, or none do
abbrev pub SetsAreDecided : Types → RawScript → Type 0
SetsAreDecided types raw = SomeFit types raw ⊎ (¬ SomeFit types raw)

-- and so it is with equations and assertions
abbrev pub ItemsAreDecided : RawScript → Script → Type 0
ItemsAreDecided raw script = (xs : List Item) →
    ((kinds : Kinds) × FitKinds raw script kinds xs) ⊎ ((kinds : Kinds) → ¬ FitKinds raw script kinds xs)
