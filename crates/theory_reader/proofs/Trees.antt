-- Tokens have at most one tree, and those that are not refused have one within the limit of heights.
use Rattle.theory_reader.specs.Reader.{takes_token, reads}
use Rattle.theory_reader.proofs.Laws.{reads_shrinks}
use Rattle.theory_reader.proofs.Latest.{declaration_opens, no_end, same_declaration}
use Rattle.theory_reader.proofs.Scripts.{begun_at, count_first, end_stops, script_read, script_refused}
use Rattle.theory_reader.proofs.Guards.{Shrinks}
use Rattle.theory_reader.specs.Forms.{OfDeclaration}
use Rattle.theory_reader.specs.Scripts.{IsRefusedAt, ReadsScript, ended, continued, stopped}
use Rattle.std.proofs.Common.{◌≡◌, ◌∙◌, ℕ, zero, suc, ◌<◌, List, [], ◌∷◌, ◌++◌, length, refl, sym, ap, subst, arith, Ok, Err, inl, inr, true}
use Rattle.theory_text.specs.Place.{Place}
use Rattle.theory_text.specs.Token.{PlacedToken}
use Rattle.theory_text.specs.Raw.{RawScript, RawDeclaration}
use Rattle.theory_text.specs.Grammar.{IsDeclaration, IsScript}
use Rattle.theory_text.specs.Height.{Nested, UnexpectedEnd, token_fault, IsParsed, Nest}
use Rattle.theory_text.specs.Reading.{OfText, OfGrammar, IsRead, IsReadingRefusal, IsUnrefusedText, AreUnrefused}
use Rattle.theory_text.proofs.Division.{tokens_same}
use Rattle.theory_text.proofs.Deciding.{text_decided}
use Rattle.theory_reader.specs.Programs.{start, Halt, Outcome, Here, High, Standing, seen_of}
use Rattle.theory_reader.proofs.CompleteExpressions.{Tokens}
use Rattle.theory_reader.proofs.Local.{at}

no_declaration : (a b : Tokens) (d : RawDeclaration) → IsDeclaration a d → [] ≡ a ++ b → ⊥
no_declaration a b d h e = let w = declaration_opens h in no_end [] w.first (w.others ++ b) (e ∙ ap (λ z. z ++ b) w.is)

scripts_same : (ts us : Tokens) (s u : RawScript) → IsScript ts s → IsScript us u → ts ≡ us → s ≡ u
scripts_same _ _ _ _ IsScript.no_declarations IsScript.no_declarations e = refl
scripts_same _ _ _ _ IsScript.no_declarations (IsScript.declarations {a = a} {b = b} {d = d} h hs) e = absurd (no_declaration a b d h e)
scripts_same _ _ _ _ (IsScript.declarations {a = a} {b = b} {d = d} h hs) IsScript.no_declarations e = absurd (no_declaration a b d h (sym e))
scripts_same _ _ _ _ (IsScript.declarations {a = a} {b = b} {d = d} {ds = ds} h hs) (IsScript.declarations {a = c} {b = v} {d = x} {ds = xs} k ks) e =
    let (rest, fronts, tree) = same_declaration a c b v d x h k (end_stops hs) (end_stops ks) e in
    ap (λ z. z ∷ ds) tree ∙ ap (λ zs. x ∷ zs) (scripts_same b v ds xs hs ks rest)

pub tree_same : (ts : Tokens) (s u : RawScript) → IsScript ts s → IsScript ts u → s ≡ u
tree_same ts s u h k = scripts_same ts ts s u h k refl

pub read_same : (bytes : List ℕ) (s u : RawScript) → IsRead bytes s → IsRead bytes u → s ≡ u
read_same bytes s u (IsRead.read {tokens = ts} {end = p} are h) (IsRead.read {tokens = us} {end = q} were k) =
    tree_same ts s u h.0 (subst (λ x. IsParsed x u) (sym (tokens_same bytes ts us p q are were).0) k).0

-- behind what is read of a declaration there are fewer tokens
fewer_left : (p q : Standing) (d : RawDeclaration) → reads OfDeclaration p ≡ Ok (d, q) → length q.left < length p.left
unfolding takes_token
fewer_left p q d e = subst (Shrinks true (length p.left)) e (reads_shrinks true OfDeclaration p)

-- a script is read or refused
declaration_then : (before : RawScript) (t : PlacedToken) (us : Tokens) (n : Nest) (o : Outcome RawDeclaration) → reads OfDeclaration (begun_at t us) ≡ o →
    ((d : RawDeclaration) (q : Standing) → length q.left < length (t ∷ us) → (r : Outcome RawScript) × ReadsScript (before ++ d ∷ []) q r) → (r : Outcome RawScript) × ReadsScript before (at (t ∷ us) n) r
declaration_then before t us n (Ok r) e go =
    let (o, more) = go r.0 r.1 (fewer_left (begun_at t us) r.1 r.0 e) in
    (o, continued (begun_at t us) r.1 (seen_of t) r.0 refl (count_first t us) e more)
declaration_then before t us n (Err x) e go = (Err x, stopped (begun_at t us) (seen_of t) refl (count_first t us) e)

script_ends : (k : ℕ) (before : RawScript) (ts : Tokens) (n : Nest) → length ts < k → (o : Outcome RawScript) × ReadsScript before (at ts n) o
script_ends zero before ts n small = absurd (omega (arith, small))
script_ends (suc k) before [] n small = (Ok (before, at [] n), ended refl)
script_ends (suc k) before (t ∷ us) n small =
    declaration_then before t us n (reads OfDeclaration (begun_at t us)) refl (λ d q less. script_ends k (before ++ d ∷ []) q.left q.nest (omega (arith, small, less)))

-- the tokens are refused where reading stops
refused : (ts : Tokens) (end : Place) (h : Halt) (left : Tokens) → AreUnrefused ts end → IsRefusedAt ts end h left → ⊥
refused ts end Here [] un r = un UnexpectedEnd end r
refused ts end Here (t ∷ us) un r = un (token_fault t.token) t.place r
refused ts end High [] un r = r
refused ts end High (t ∷ us) un r = un Nested t.place r

decided : (ts : Tokens) (end : Place) → AreUnrefused ts end → (o : Outcome RawScript) → ReadsScript [] (at ts start) o → (s : RawScript) × IsParsed ts s
decided ts end un (Ok p) h = (p.0, script_read (at ts start) p.1 p.0 h)
decided ts end un (Err e) h = absurd (refused ts end e.0 e.1 un (script_refused (at ts start) e.0 e.1 h end))

pub unrefused_has_tree : (ts : Tokens) (end : Place) → AreUnrefused ts end → (s : RawScript) × IsParsed ts s
unrefused_has_tree ts end un = let (o, h) = script_ends (suc (length ts)) [] ts start (omega arith) in decided ts end un o h

-- a text that is not refused has a tree
pub unrefused_read : (bytes : List ℕ) → IsUnrefusedText bytes → (s : RawScript) × IsRead bytes s
unrefused_read bytes un = elim (text_decided bytes) [
  | inl (ts, end, are) ↦ let found = unrefused_has_tree ts end (λ f p h. un (OfGrammar f) p (IsReadingRefusal.of_grammar are h)) in (found.0, IsRead.read are found.1)
  | inr (f, p, h) ↦ absurd (un (OfText f) p (IsReadingRefusal.of_text h))
]
