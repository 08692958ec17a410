-- Rows of parts, one a hole, and what is kept of parts.
use Rattle.std.specs.Prelude.{◌<◌, ℕ, Bool, false, List, [], map, nat_eq, Option, Some, None, slice_get}
use Rattle.std.specs.List.{AllByRecursion}
use Rattle.std.specs.declared.vec.Vec.{Vec}
use Rattle.theory_syntax.specs.Value.{Action}
use Rattle.theory_syntax.specs.Process.{Process}
use Rattle.theory_semantics.specs.Meaning.Stepping.{Steps}
use Rattle.csp_rows.specs.declared.numbers.PartId.{PartId}
use Rattle.csp_rows.specs.declared.part.Part.{Part}
use Rattle.csp_rows.specs.declared.step.PartStep.{PartStep}
use Rattle.csp_rows.specs.Numbering.{IsNumbered, Numbering, action_at}

abbrev pub part_step_of : Numbering → PartStep → Action × Process
part_step_of z s = (action_at z s.action, z.part s.target.0)

abbrev pub part_steps_of : Numbering → List PartStep → Steps
part_steps_of z ss = map (part_step_of z) ss

-- ---- what is kept

abbrev pub kept : {A : Type 0} → Option (Vec PartStep A) → List PartStep
kept None = []
kept (Some ss) = ss.items

abbrev pub steps_of_part : {A : Type 0} → Option (Part A) → List PartStep
steps_of_part None = []
steps_of_part (Some p) = kept p.steps

abbrev pub spelling_of_part : {A : Type 0} → Option (Part A) → List ℕ
spelling_of_part None = []
spelling_of_part (Some p) = p.spelling.items

-- the bytes of the part of this number
abbrev pub spelling_at : {A : Type 0} → List (Part A) → ℕ → List ℕ
spelling_at parts n = spelling_of_part (slice_get parts n)

abbrev pub size_of_part : {A : Type 0} → Option (Part A) → ℕ
size_of_part None = 0
size_of_part (Some p) = p.size

-- its size
abbrev pub size_at : {A : Type 0} → List (Part A) → ℕ → ℕ
size_at parts n = size_of_part (slice_get parts n)

abbrev pub depth_of_part : {A : Type 0} → Option (Part A) → ℕ
depth_of_part None = 0
depth_of_part (Some p) = p.depth

-- its depth
abbrev pub depth_at : {A : Type 0} → List (Part A) → ℕ → ℕ
depth_at parts n = depth_of_part (slice_get parts n)

-- ---- the part in a hole

abbrev pub size_of_number : {A : Type 0} → List (Part A) → Option PartId → ℕ
size_of_number parts None = 0
size_of_number parts (Some n) = size_at parts n.0

-- its size
abbrev pub size_in : {A : Type 0} → List (Part A) → List PartId → ℕ → ℕ
size_in parts row hole = size_of_number parts (slice_get row hole)

abbrev pub steps_of_number : {A : Type 0} → List (Part A) → Option PartId → List PartStep
steps_of_number parts None = []
steps_of_number parts (Some n) = steps_of_part (slice_get parts n.0)

-- the steps that are kept of it
abbrev pub steps_at : {A : Type 0} → List (Part A) → List PartId → ℕ → List PartStep
steps_at parts row hole = steps_of_number parts (slice_get row hole)

abbrev pub is_first : Option PartId → Bool
is_first None = false
is_first (Some n) = nat_eq n.0 0

-- whether it has ended
abbrev pub ended_at : List PartId → ℕ → Bool
ended_at row hole = is_first (slice_get row hole)

-- ---- a row

abbrev pub row_parts : Numbering → List PartId → List Process
row_parts z row = map (λ n. z.part n.0) row

-- the steps that are kept of each of its parts
abbrev pub row_steps : {A : Type 0} → Numbering → List (Part A) → List PartId → List Steps
row_steps z parts row = map (λ n. part_steps_of z (steps_of_part (slice_get parts n.0))) row

-- ---- numbers

abbrev pub AreStepsNumbered : ℕ → List PartStep → Type 0
AreStepsNumbered events ss = AllByRecursion (λ s. IsNumbered events s.action) ss

-- the actions of all steps that are kept have their numbers
abbrev pub ArePartsNumbered : {A : Type 0} → ℕ → List (Part A) → Type 0
ArePartsNumbered events parts = AllByRecursion (λ p. AreStepsNumbered events (kept p.steps)) parts

abbrev pub AreTargetsAmong : ℕ → List PartStep → Type 0
AreTargetsAmong n ss = AllByRecursion (λ s. s.target.0 < n) ss

-- the parts that they lead to are among so many
abbrev pub ArePartsAmong : {A : Type 0} → ℕ → List (Part A) → Type 0
ArePartsAmong n parts = AllByRecursion (λ p. AreTargetsAmong n (kept p.steps)) parts
