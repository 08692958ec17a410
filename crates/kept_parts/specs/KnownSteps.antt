-- Parts that are known, by their numbers.
use Rattle.std.specs.Prelude.{◌≡◌, ◌<◌, ◌^◌, ℕ, Bool, false, List, get_or, length, map, slice_get, Option, Some, None}
use Rattle.std.specs.declared.cmp.Ordering.{Ordering}
use Rattle.std.specs.declared.cmp.Ordering.TheVariants.{Less, Equal, Greater}
use Rattle.theory_syntax.specs.Process.{Process, Omega, Script}
use Rattle.theory_syntax.specs.Order.{process_cmp}
use Rattle.theory_search.specs.Growth.{AreDistinct}
use Rattle.theory_shapes.specs.Alphabet.{alphabet}
use Rattle.csp_packed.specs.Packed.{packed_process}
use Rattle.csp_term.specs.Script.{script_of}
use Rattle.csp_term.specs.Term.{process_of}
use Rattle.csp_rows.specs.declared.part.Part.{Part}
use Rattle.kept_parts.specs.declared.parts.Parts.{Parts}
use Rattle.kept_parts.specs.Kept.{IsKeptOf, IsPartOf, IsShown}

-- the parts, by their numbers
abbrev pub processes_of : {A : Type 0} → Parts A → List Process
processes_of k = map process_of k.terms.items

-- those of the spellings
abbrev pub spelled_of : {A : Type 0} → Parts A → List Process
spelled_of k = map packed_process k.spellings.keys

-- the script that they are of
abbrev pub script_in : {A : Type 0} → Parts A → Script
script_in k = script_of k.script.now

abbrev pub found_cmp : Option Process → Option Process → Ordering
found_cmp None None = Equal
found_cmp None (Some q) = Less
found_cmp (Some p) None = Greater
found_cmp (Some p) (Some q) = process_cmp p q

-- the order of the parts of two numbers; a number that stands for none comes before all others
abbrev pub part_cmp : List Process → ℕ → ℕ → Ordering
part_cmp ps n m = found_cmp (slice_get ps n) (slice_get ps m)

-- What is kept of each of these terms, and whether it was fired. The first is the one that has ended, none stands twice,
-- and each has a number.
pub record AreKeptOf {A : Type 0} (script : Script) (ps : List Process) (parts : List (Part A)) (fired : List Bool) : Type 0 where
  pub first : slice_get ps 0 ≡ Some Omega
  pub distinct : AreDistinct ps
  pub of_script : (n : ℕ) (p : Process) → slice_get ps n ≡ Some p → IsPartOf script p
  pub few : length ps < 2 ^ 32
  pub all_kept : length parts ≡ length ps
  pub all_marked : length fired ≡ length ps
  pub kept : (n : ℕ) (p : Process) (part : Part A) → slice_get ps n ≡ Some p → slice_get parts n ≡ Some part → IsKeptOf p part
  pub shown : (n : ℕ) (p : Process) (part : Part A) → slice_get ps n ≡ Some p → slice_get parts n ≡ Some part
      → IsShown script (alphabet script) ps p (get_or fired n false) part.steps

-- each is found by its spelling
pub record AreKnown {A : Type 0} (k : Parts A) : Type 0 where
  pub spelled : spelled_of k ≡ processes_of k
  pub kept : AreKeptOf (script_in k) (processes_of k) k.parts.items k.fired.items
