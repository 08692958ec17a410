-- Scripts: declarations are read one behind another, and the heights of each are counted from its first token on.
use Rattle.std.specs.Prelude.{◌≡◌, ◌++◌, List, [], ◌∷◌, Some, option_map, Ok, Err}
use Rattle.theory_text.specs.Place.{Place}
use Rattle.theory_text.specs.Token.{PlacedToken}
use Rattle.theory_text.specs.Raw.{RawDeclaration, RawScript}
use Rattle.theory_text.specs.Grammar.{IsScript}
use Rattle.theory_text.specs.Height.{token_fault, UnexpectedEnd, Nested, HasNoneTooHigh, IsGrammarRefusal}
use Rattle.theory_reader.specs.Forms.{OfDeclaration}
use Rattle.theory_reader.specs.Programs.{Seen, seen_of, first, start, Standing, Halt, Here, High, Outcome, count}
use Rattle.theory_reader.specs.Reader.{reads}

-- what is read behind these declarations: more of them to the end, or to where a declaration stops
pub data ReadsScript : RawScript → Standing → Outcome RawScript → Type 0 where
  ended : {before : RawScript} {s : Standing} → s.left ≡ [] → ReadsScript before s (Ok (before, s))
  too_high : {before : RawScript} {s : Standing} {e : Halt × List PlacedToken} → count start s.left ≡ Err e → ReadsScript before s (Err e)
  stopped : {before : RawScript} {s : Standing} {e : Halt × List PlacedToken} (p : Standing) (k : Seen) → option_map seen_of (first s.left) ≡ Some k → count start s.left ≡ Ok (tt {0}, p) → reads OfDeclaration p ≡ Err e → ReadsScript before s (Err e)
  continued : {before : RawScript} {s : Standing} {o : Outcome RawScript} (p q : Standing) (k : Seen) (d : RawDeclaration) → option_map seen_of (first s.left) ≡ Some k → count start s.left ≡ Ok (tt {0}, p) → reads OfDeclaration p ≡ Ok (d, q) →
      ReadsScript (before ++ d ∷ []) q o → ReadsScript before s o

-- the refusal of tokens where a reader stopped before these, with this place behind them all
abbrev pub IsRefusedAt : List PlacedToken → Place → Halt → List PlacedToken → Type 0
IsRefusedAt tokens end Here [] = IsGrammarRefusal tokens end UnexpectedEnd end
IsRefusedAt tokens end Here (t ∷ ts) = IsGrammarRefusal tokens end (token_fault t.token) t.place
IsRefusedAt tokens end High [] = ⊥
IsRefusedAt tokens end High (t ∷ ts) = IsGrammarRefusal tokens end Nested t.place

-- what is read of these as a script is one, and no token of it is too high
abbrev pub ReadsLowScript : Standing → Type 0
ReadsLowScript s = (q : Standing) (ds : RawScript) → ReadsScript [] s (Ok (ds, q)) → IsScript s.left ds × HasNoneTooHigh s.left

-- where reading these as a script stops, the refusal is theirs
abbrev pub RefusesScript : Standing → Type 0
RefusesScript s = (h : Halt) (left : List PlacedToken) → ReadsScript [] s (Err (h, left)) → (end : Place) → IsRefusedAt s.left end h left
