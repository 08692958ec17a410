-- Scripts: declarations are read one behind another, as the definitions read them.
use Rattle.std.proofs.Common.{◌≡◌, ◌∙◌, List, [], ◌∷◌, ◌++◌, map, refl, sym, ap, subst, Some, None, Result, Ok, Err}
use Rattle.std.proofs.lemmas.List.{map-append}
use Rattle.std.proofs.lemmas.Result.{err_from_is_err_and}
use Rattle.std.specs.Prelude.{option_map}
use Rattle.std.specs.Result.{IsErr, IsErrAnd}
use Rattle.theory_text.specs.Place.{Place}
use Rattle.theory_text.specs.Token.{PlacedToken}
use Rattle.theory_text.specs.Raw.{RawDeclaration, RawScript}
use Rattle.theory_text.specs.Height.{GrammarFault, IsGrammarRefusal}
use Rattle.theory_reader.specs.Forms.{OfDeclaration}
use Rattle.theory_reader.specs.Programs.{Seen, seen_of, first, start, Standing, Halt, Here, High, Outcome, count}
use Rattle.theory_reader.specs.Reader.{reads}
use Rattle.theory_reader.proofs.Scripts.{script_refused}
use Rattle.theory_reader.specs.Scripts.{ReadsScript, ended, too_high, stopped, continued, IsRefusedAt}
use Rattle.csp_parse.specs.declared.declarations.Raw.{Raw}
use Rattle.csp_parse.specs.declared.parsers.Parser.{Parser}
use Rattle.csp_parse.specs.declared.refusals.Refused.{Refused}
use Rattle.csp_parse.specs.declared.stops.Stopped.{Stopped}
use Rattle.csp_parse.specs.declared.stops.Stopped.TheVariants as stop
use Rattle.csp_parse.specs.Reading.{left_of, standing_of, Halts}
use Rattle.csp_parse.specs.Refusals.{IsRefusalAt}
use Rattle.csp_parse.specs.Stopping.{GivesScript, IsRefusalOf}

-- what is read from here is read from the beginning
abbrev pub Leads : Standing → RawScript → Standing → Type 0
Leads from before s = (o : Outcome RawScript) → ReadsScript before s o → ReadsScript [] from o

pub script_begins : {Y : Type 0} (f : Y → RawDeclaration) (xs : List Y) (s : Standing) → xs ≡ [] → Leads s (map f xs) s
script_begins f xs s none o h = subst (λ zs. ReadsScript (map f zs) s o) none h

pub script_goes : {Y : Type 0} (f : Y → RawDeclaration) (x : Y) (xs ys : List Y) (k : Seen) (from s p q : Standing) → Leads from (map f xs) s → Some k ≡ option_map seen_of (first s.left) → count start s.left ≡ Ok (tt {0}, p) → reads OfDeclaration p ≡ Ok (f x, q) →
    ys ≡ xs ++ x ∷ [] → Leads from (map f ys) q
script_goes f x xs ys k from s p q leads at counted read is o h =
    leads o (continued p q k (f x) (sym at) counted read (subst (λ zs. ReadsScript zs q o) (ap (map f) is ∙ map-append f xs (x ∷ [])) h))

none_left : (ts : List PlacedToken) → None ≡ option_map seen_of (first ts) → ts ≡ []
none_left [] e = refl
none_left (t ∷ ts) e = absurd (cc e)

pub script_ends : (before : RawScript) (from s : Standing) → Leads from before s → None ≡ option_map seen_of (first s.left) → ReadsScript [] from (Ok (before, s))
script_ends before from s leads e = leads (Ok (before, s)) (ended (none_left s.left e))

module _ {A : Type 0} (old new : Parser A) where
  halted : {Y : Type 0} (o : Outcome Y) (e : Stopped) → ((x : Halt) → o ≡ Err (x, left_of new) → ReadsScript [] (standing_of old) (Err (x, left_of new))) → Halts o e new → GivesScript old (Err e) new
  halted o stop.Here on h = on Here h
  halted o stop.High on h = on High h
  halted o stop.Memory on h = tt

  handed : (r : Result (Raw A) Stopped) (e : Stopped) → IsErr r × IsErrAnd r (λ x. x ≡ e) → GivesScript old (Err e) new → GivesScript old r new
  handed r e same h = let p = err_from_is_err_and r same.1 in rw (p.1, p.2) h

  pub begin_stops : (before : RawScript) (s : Standing) (r : Result (Raw A) Stopped) (e : Stopped) → Leads (standing_of old) before s → IsErr r × IsErrAnd r (λ x. x ≡ e) → Halts (count start s.left) e new → GivesScript old r new
  begin_stops before s r e leads same h = handed r e same (halted (count start s.left) e (λ x is. leads (Err (x, left_of new)) (too_high is)) h)

  pub declaration_stops : (before : RawScript) (k : Seen) (s p : Standing) (r : Result (Raw A) Stopped) (e : Stopped) → Leads (standing_of old) before s → Some k ≡ option_map seen_of (first s.left) → count start s.left ≡ Ok (tt {0}, p) →
      IsErr r × IsErrAnd r (λ x. x ≡ e) → Halts (reads OfDeclaration p) e new → GivesScript old r new
  declaration_stops before k s p r e leads at counted same h = handed r e same (halted (reads OfDeclaration p) e (λ x is. leads (Err (x, left_of new)) (stopped p k (sym at) counted is)) h)

-- where the reader of a script stopped, its refusal is that of the tokens
same_refusal : (tokens : List PlacedToken) (end : Place) (f g : GrammarFault) (p q : Place) → g ≡ f → q ≡ p → IsGrammarRefusal tokens end f p → IsGrammarRefusal tokens end g q
same_refusal tokens end f g p q fault place h = subst (λ x. IsGrammarRefusal tokens end x q) (sym fault) (subst (λ x. IsGrammarRefusal tokens end f x) (sym place) h)

pub refusal_of : (tokens : List PlacedToken) (end : Place) (left : List PlacedToken) (e : Stopped) (r : Refused) → IsRefusalAt end left e r → (e ≡ stop.Here → IsRefusedAt tokens end Here left) → (e ≡ stop.High → IsRefusedAt tokens end High left) → IsRefusalOf tokens end r
refusal_of tokens end _ _ _ (IsRefusalAt.unexpected t ts f p faulty placed) here high = same_refusal tokens end _ _ _ _ faulty placed (here refl)
refusal_of tokens end _ _ _ (IsRefusalAt.too_high t ts f p faulty placed) here high = same_refusal tokens end _ _ _ _ faulty placed (high refl)
refusal_of tokens end _ stop.Here _ (IsRefusalAt.at_end e f p not faulty placed) here high = same_refusal tokens end _ _ _ _ faulty placed (here refl)
refusal_of tokens end _ stop.High _ (IsRefusalAt.at_end e f p not faulty placed) here high = absurd (high refl)
refusal_of tokens end _ stop.Memory _ (IsRefusalAt.at_end e f p not faulty placed) here high = absurd (not refl)
refusal_of tokens end _ _ _ (IsRefusalAt.memory ts) here high = tt

-- where the reader of a script stops, its tokens are refused there
pub stops_refuse : {A : Type 0} (old new : Parser A) (e : Stopped) (tokens : List PlacedToken) (end : Place) → left_of old ≡ tokens → GivesScript old (Err e) new →
    (e ≡ stop.Here → IsRefusedAt tokens end Here (left_of new)) × (e ≡ stop.High → IsRefusedAt tokens end High (left_of new))
stops_refuse old new stop.Here tokens end same h = (λ is. subst (λ ts. IsRefusedAt ts end Here (left_of new)) same (script_refused (standing_of old) Here (left_of new) h end), λ is. absurd (cc is))
stops_refuse old new stop.High tokens end same h = (λ is. absurd (cc is), λ is. subst (λ ts. IsRefusedAt ts end High (left_of new)) same (script_refused (standing_of old) High (left_of new) h end))
stops_refuse old new stop.Memory tokens end same h = (λ is. absurd (cc is), λ is. absurd (cc is))
