-- The numbers of refusals, and the first refusal of a list.
use Rattle.std.specs.Prelude.{◌≡◌, ℕ, ◌≤◌, List, ◌∷◌, ◌++◌}

-- K01, K02, K03, K04, K05, K06
pub data KindFault : Type 0 where
  UnknownName DeclaredTwice WrongKind WrongCount BadFieldSet TooManyEvents : KindFault

abbrev pub fault_number : KindFault → ℕ
fault_number UnknownName = 1
fault_number DeclaredTwice = 2
fault_number WrongKind = 3
fault_number WrongCount = 4
fault_number BadFieldSet = 5
fault_number TooManyEvents = 6

-- ---- the first of a list of things that is refused, where the things before one may tell whether it is

abbrev pub NoneRefused : {A : Type 0} → (List A → A → KindFault → Type 0) → List A → Type 0
NoneRefused {A} Refused all = (before after : List A) (x : A) (f : KindFault) → all ≡ before ++ x ∷ after → ¬ (Refused before x f)

-- The first thing that is refused, with the lowest number of its refusals.
pub record IsFirstRefused {A : Type 0} (Refused : List A → A → KindFault → Type 0) (all : List A) (x : A) (f : KindFault) : Type 0 where
  pub before : List A
  pub after : List A
  pub stands : all ≡ before ++ x ∷ after
  pub refused : Refused before x f
  pub lowest : (g : KindFault) → Refused before x g → fault_number f ≤ fault_number g
  pub none_before : NoneRefused Refused before
