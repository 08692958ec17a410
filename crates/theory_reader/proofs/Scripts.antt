-- A script that is read is one, with no token too high, and where reading stops its refusal is that of the tokens.
use Rattle.theory_reader.specs.Reader.{reads_to, reads}
use Rattle.theory_reader.proofs.Sound.{reads_say}
use Rattle.theory_reader.proofs.CompleteStarts.{not_ok, ok_parts, same_ok}
use Rattle.theory_reader.proofs.Refusals.{free_stop}
use Rattle.theory_reader.proofs.CompleteDeclarations.{declaration_read}
use Rattle.theory_reader.proofs.Heights.{after_both, low_both, reads_count}
use Rattle.theory_reader.proofs.SoundExpressions.{Says}
use Rattle.theory_text.specs.Raw.{RawDeclaration, RawScript}
use Rattle.theory_text.specs.Token.{PlacedToken}
use Rattle.theory_reader.specs.Forms.{OfDeclaration}
use Rattle.theory_reader.proofs.Latest.{LowScript, Unfinished, declaration_opens, is_low, is_script, last_declaration, no_end, none_too_high, one_latest, script_stops, begun, nothing_more}
use Rattle.theory_reader.specs.Scripts.{continued, IsRefusedAt, ReadsScript, ended, too_high, stopped}
use Rattle.theory_reader.specs.Refused.{GoesOn}
use Rattle.theory_reader.proofs.Limits.{Bounds, reads_bounds}
use Rattle.theory_reader.specs.Counted.{AreLow, Counts, CountsFirst, StopsAt}
use Rattle.std.proofs.Common.{◌≡◌, ◌∙◌, ◌<◌, ◌≤◌, true, false, [], ◌∷◌, ◌++◌, refl, sym, ap, subst, append_assoc, append-nil, arith, Some, inl, inr}
use Rattle.std.proofs.lemmas.Bool.{cases_Bool}
use Rattle.std.proofs.lemmas.List.{append_cancel_right}
use Rattle.std.specs.Prelude.{nat_lt, option_map, Ok, Err}
use Rattle.theory_text.specs.Place.{Place}
use Rattle.theory_text.specs.Grammar.{IsDeclaration, IsScript, BeginsScript, declarations, no_declarations}
use Rattle.theory_text.specs.Height.{Nest, Nesting, nesting, after_token, after_tokens, nest_height, tokens_height, greatest_height, BeginsDeclaration, latest, nothing, HasNoneTooHigh, IsGrammarRefusal}
use Rattle.theory_text.proofs.Heights.{joined}
use Rattle.theory_reader.proofs.Tightness.{Stops}
use Rattle.theory_reader.specs.Programs.{start, Halt, Standing, first, Seen, Outcome, Here, High, seen_of, count}
use Rattle.theory_reader.proofs.CompleteExpressions.{Tokens, free}
use Rattle.theory_reader.proofs.Local.{at, Local, reads_local}

-- the first of these tokens alone
abbrev next_only : Tokens → Tokens
next_only [] = []
next_only (t ∷ ts) = t ∷ []

short_next : (left x : Tokens) (t : PlacedToken) (y : Tokens) → next_only left ≡ x ++ t ∷ y → x ≡ []
short_next [] [] t y e = refl
short_next [] (u ∷ us) t y e = absurd (cc e)
short_next (v ∷ vs) [] t y e = refl
short_next (v ∷ vs) (u ∷ []) t y e = let rest : [] ≡ t ∷ y = cc e in absurd (cc rest)
short_next (v ∷ vs) (u ∷ w ∷ ws) t y e = let rest : [] ≡ w ∷ (ws ++ t ∷ y) = cc e in absurd (cc rest)

-- THE FIRST TOKEN

one_height : (k : Nesting) → nest_height (after_token k start) ≤ greatest_height
one_height Nesting.Opens = omega arith
one_height Nesting.OpensSquare = omega arith
one_height Nesting.Closes = omega arith
one_height Nesting.ClosesDouble = omega arith
one_height Nesting.Counts = omega arith
one_height Nesting.Plain = omega arith

abbrev pub begun_at : PlacedToken → Tokens → Standing
begun_at t ts = at (t ∷ ts) (after_token (nesting t.token) start)

pub count_first : (t : PlacedToken) (ts : Tokens) → count start (t ∷ ts) ≡ Ok (tt {0}, begun_at t ts)
count_first t ts = elim (cases_Bool (nat_lt greatest_height (nest_height (after_token (nesting t.token) start)))) [
  | inl e ↦ let high : greatest_height < nest_height (after_token (nesting t.token) start) = grind (arith, e) in absurd (omega (arith, high, one_height (nesting t.token)))
  | inr e ↦ rw e refl
]

never_high : (ts : Tokens) (e : Halt × Tokens) → count start ts ≡ Err e → ⊥
never_high [] e h = absurd (cc h)
never_high (t ∷ ts) e h = let both = sym (count_first t ts) ∙ h in absurd (cc both)

-- what is counted stands where it stood, and is low
record Begun (ts : Tokens) (p : Standing) : Type 0 where
  same : p.left ≡ ts
  counted : CountsFirst start p.left p.nest
  low : AreLow start (next_only ts)

begun_is : (ts : Tokens) (p : Standing) → count start ts ≡ Ok (tt {0}, p) → Begun ts p
begun_is [] p h = let pair = ok_parts (tt {0}) (tt {0}) (at [] start) p h in subst (Begun []) pair.1 (record { same = refl; counted = refl; low = tt })
begun_is (t ∷ ts) p h =
    let pair = ok_parts (tt {0}) (tt {0}) (begun_at t ts) p (sym (count_first t ts) ∙ h) in
    subst (Begun (t ∷ ts)) pair.1 (record { same = refl; counted = (refl, one_height (nesting t.token)); low = (one_height (nesting t.token), tt) })

-- ONE DECLARATION

record ReadOne (p : Standing) (left : Tokens) (d : RawDeclaration) : Type 0 where
  front : Tokens
  is : p.left ≡ front ++ left
  one : IsDeclaration front d
  low : AreLow start (front ++ next_only left)
  follows : (later : Tokens) → first later ≡ first left → (m : Nest) × (free OfDeclaration (at (front ++ later) p.nest) ≡ Ok (d, at later m))

low_next : (n m : Nest) (left : Tokens) → CountsFirst n left m → AreLow n (next_only left)
low_next n m [] h = tt
low_next n m (t ∷ ts) h = (subst (λ x. nest_height x ≤ greatest_height) h.0 h.1, tt)

read_one : (p q : Standing) (d : RawDeclaration) → CountsFirst start p.left p.nest → reads OfDeclaration p ≡ Ok (d, q) → ReadOne p q.left d
read_one p q d counted e =
    let whole : free OfDeclaration p ≡ Ok (d, q) = subst (λ o. Bounds o (reads_to false OfDeclaration p)) e (reads_bounds OfDeclaration p) in
    let (g, split, follows) : Local (reads_to false OfDeclaration) p (Ok (d, q)) = subst (Local (reads_to false OfDeclaration) p) whole (reads_local false OfDeclaration p) in
    let (a, same, is) : Says IsDeclaration p.left (Ok (d, q)) = subst (Says IsDeclaration p.left) e (reads_say true OfDeclaration p) in
    let (b, other, behind, low) : Counts {A = RawDeclaration} start p.left (Ok (d, q)) = subst (Counts {A = RawDeclaration} start p.left) e (reads_count OfDeclaration p start counted) in
    let first_same : a ≡ g = append_cancel_right a g q.left (sym same ∙ split) in
    let counted_same : b ≡ g = append_cancel_right b g q.left (sym other ∙ split) in
    record {
      front = g;
      is = split;
      one = subst (λ z. IsDeclaration z d) first_same is;
      low = subst (λ z. AreLow start (z ++ next_only q.left)) counted_same (low_both start b (next_only q.left) low (low_next (after_tokens start b) q.nest q.left behind));
      follows = λ later alike. (q.nest, follows later alike);
    }

record StopsOne (p : Standing) (h : Halt) (left : Tokens) : Type 0 where
  front : Tokens
  is : p.left ≡ front ++ left
  begins : GoesOn IsDeclaration front
  low : AreLow start front
  stops : StopsAt h (after_tokens start front) left

stops_one : (p : Standing) (h : Halt) (left : Tokens) → CountsFirst start p.left p.nest → reads OfDeclaration p ≡ Err (h, left) → StopsOne p h left
stops_one p h left counted e =
    let (a, same, begins) : Says IsDeclaration p.left (Err (h, left)) = subst (Says IsDeclaration p.left) e (reads_say true OfDeclaration p) in
    let (b, other, behind, low) : Counts {A = RawDeclaration} start p.left (Err (h, left)) = subst (Counts {A = RawDeclaration} start p.left) e (reads_count OfDeclaration p start counted) in
    let counted_same : a ≡ b = append_cancel_right a b left (sym same ∙ other) in
    record { front = b; is = other; begins = subst (GoesOn IsDeclaration) counted_same begins; low = low; stops = behind }

-- where the next token does not go on, whatever stands behind it
never_read : (p : Standing) (left g : Tokens) → reads OfDeclaration p ≡ Err (Here, left) → p.left ≡ g ++ left → (later : Tokens) → first later ≡ first left → free OfDeclaration (at (g ++ later) p.nest) ≡ Err (Here, later)
never_read p left g e split later alike =
    let whole = free_stop OfDeclaration p left e in
    let (a, same, follows) : Local (reads_to false OfDeclaration) p (Err (Here, left)) = subst (Local (reads_to false OfDeclaration) p) whole (reads_local false OfDeclaration p) in
    let fronts : a ≡ g = append_cancel_right a g left (sym same ∙ split) in
    ap (λ z. free OfDeclaration (at (z ++ later) p.nest)) (sym fronts) ∙ follows later alike

-- SCRIPTS SO FAR

-- the last declaration is low, with the next token behind it
data LastLow (left : Tokens) : Tokens → Type 0 where
  none_yet : LastLow left []
  last : (w a : Tokens) (s : RawScript) (d : RawDeclaration) → LowScript w s → IsDeclaration a d → AreLow start (a ++ next_only left) → LastLow left (w ++ a)

record SoFar (tokens : Tokens) (before : RawScript) (left : Tokens) : Type 0 where
  front : Tokens
  is : tokens ≡ front ++ left
  script : LowScript front before
  next_low : LastLow left front
  rest : (later a : Tokens) (s : RawScript) → first later ≡ first left → front ++ later ≡ a → IsScript a s → (u : RawScript) × IsScript later u

low_prefix : (n : Nest) (a b : Tokens) → AreLow n (a ++ b) → AreLow n a
low_prefix n [] b h = tt
low_prefix n (t ∷ ts) b h = (h.0, low_prefix (after_token (nesting t.token) n) ts b h.1)

first_both : (g a b : Tokens) → first a ≡ first b → first (g ++ a) ≡ first (g ++ b)
first_both [] a b e = e
first_both (t ∷ ts) a b e = refl

pub end_stops : {b : Tokens} {s : RawScript} → IsScript b s → Stops 1 b
end_stops {b = b} h = subst (Stops 1) (append-nil b) (script_stops h [] (omega arith))

-- behind the first declaration of a script there is a script
behind_first : (z : Tokens) (u : RawScript) (g later : Tokens) (d : RawDeclaration) (n m : Nest) → IsScript z u → z ≡ g ++ later → IsDeclaration g d → free OfDeclaration (at (g ++ later) n) ≡ Ok (d, at later m) → (v : RawScript) × IsScript later v
behind_first _ _ g later d n m IsScript.no_declarations e one read = let w = declaration_opens one in absurd (no_end [] w.first (w.others ++ later) (e ∙ ap (λ x. x ++ later) w.is))
behind_first _ _ g later d n m (IsScript.declarations {a = x} {b = y} {ds = ds} h hs) e one read =
    let (k, other) = declaration_read h y (end_stops hs) n in
    let (_, left) = same_ok other (ap (λ z. free OfDeclaration (at z n)) e ∙ read) in
    (ds, subst (λ z. IsScript z ds) (ap (λ z. z.left) left) hs)

more_so_far : {tokens : Tokens} {before : RawScript} {left : Tokens} (p q : Standing) (d : RawDeclaration) → SoFar tokens before left → Begun left p → ReadOne p q.left d → SoFar tokens (before ++ d ∷ []) q.left
more_so_far {left = left} p q d far b read =
    let split : left ≡ read.front ++ q.left = sym b.same ∙ read.is in
    let low = is_low read.front (low_prefix start read.front (next_only q.left) read.low) in
    record {
      front = far.front ++ read.front;
      is = far.is ∙ ap (λ z. far.front ++ z) split ∙ sym (append_assoc far.front read.front q.left);
      script = last_declaration far.front read.front _ d far.script read.one low;
      next_low = last far.front read.front _ d far.script read.one read.low;
      rest = λ later a s alike e h.
          let (u, k) = far.rest (read.front ++ later) a s (first_both read.front later q.left alike ∙ ap first (sym split)) (sym (append_assoc far.front read.front later) ∙ e) h in
          let (m, f) = read.follows later alike in
          behind_first (read.front ++ later) u read.front later d p.nest m k refl read.one f;
    }

-- WHERE READING STOPS

no_script_here : (z : Tokens) (u : RawScript) (n : Nest) (e : Halt × Tokens) → IsScript z u → (z ≡ [] → ⊥) → free OfDeclaration (at z n) ≡ Err e → ⊥
no_script_here _ _ n e IsScript.no_declarations some h = some refl
no_script_here _ _ n e (IsScript.declarations {a = x} {b = y} k ks) some h = let (m, read) = declaration_read k y (end_stops ks) n in not_ok read h

some_next : (ts : Tokens) (k : Seen) → option_map seen_of (first ts) ≡ Some k → ts ≡ [] → ⊥
some_next [] k e is = cc e
some_next (t ∷ ts) k e is = cc is

begins_script : (w g : Tokens) (s : RawScript) → LowScript w s → GoesOn IsDeclaration g → BeginsScript (w ++ g)
begins_script w g s low (more, d, h) =
    (more, s ++ d ∷ [], subst (λ z. IsScript z (s ++ d ∷ [])) (sym (append_assoc w g more)) (joined w (g ++ more) s (d ∷ []) (is_script w s low) (subst (λ z. IsScript z (d ∷ [])) (append-nil (g ++ more)) (declarations h no_declarations))))

unfinished : (a left : Tokens) (t : PlacedToken) (ts : Tokens) → a ≡ t ∷ ts → BeginsDeclaration (t ∷ ts) → AreLow start (a ++ next_only left) → Unfinished (a ++ next_only left)
unfinished a left t ts is g low = record { first = t; others = ts; behind = next_only left; is = ap (λ w. w ++ next_only left) is; begins = g; short = short_next left; low = is_low (a ++ next_only left) low }

whole_begins : (a : Tokens) (d : RawDeclaration) → IsDeclaration a d → (t : PlacedToken) (ts : Tokens) → a ≡ t ∷ ts → BeginsDeclaration (t ∷ ts)
whole_begins a d h t ts is = ([], d, subst (λ x. IsDeclaration x d) (is ∙ sym (append-nil (t ∷ ts))) h)

one_token : (t : PlacedToken) → HasNoneTooHigh (t ∷ [])
one_token t [] after u e (l, is, over) =
    let same : t ≡ u = cc e in
    let none = one_latest [] l [] is nothing in
    let limit : tokens_height (u ∷ []) ≤ greatest_height = one_height (nesting u.token) in
    let higher = subst (λ x. greatest_height < tokens_height (x ++ u ∷ [])) none over in
    omega (arith, limit, higher)
one_token t (v ∷ vs) after u e high = let rest : [] ≡ vs ++ u ∷ after = cc e in absurd (no_end vs u after rest)

no_token : HasNoneTooHigh []
no_token before after t e high = no_end before t after e

low_alone : (left : Tokens) → HasNoneTooHigh (next_only left)
low_alone [] = no_token
low_alone (t ∷ ts) = one_token t

-- where the reader of a declaration stops at once, the declarations before are low with the next token
low_at_once : {front : Tokens} (left : Tokens) → LastLow left front → HasNoneTooHigh (front ++ next_only left)
low_at_once left none_yet = low_alone left
low_at_once left (last w a s d script h low) =
    let whole = declaration_opens h in
    subst HasNoneTooHigh (sym (append_assoc w a (next_only left))) (none_too_high w (a ++ next_only left) s script (begun (unfinished a left whole.first whole.others whole.is (whole_begins a d h whole.first whole.others whole.is) low)))

low_behind : (w : Tokens) (s : RawScript) → LowScript w s → (g left before : Tokens) → before ≡ g ++ left → LastLow before w → GoesOn IsDeclaration g → AreLow start (g ++ next_only left) → HasNoneTooHigh ((w ++ g) ++ next_only left)
low_behind w s script [] left before e lowest begins low = subst (λ z. HasNoneTooHigh (z ++ next_only left)) (sym (append-nil w)) (low_at_once left (subst (λ l. LastLow l w) e lowest))
low_behind w s script (u ∷ us) left before e lowest (more, d, h) low =
    subst HasNoneTooHigh (sym (append_assoc w (u ∷ us) (next_only left))) (none_too_high w (u ∷ us ++ next_only left) s script (begun (unfinished (u ∷ us) left u us refl (more, d, h) low)))

low_here : (n : Nest) (left : Tokens) → StopsAt Here n left → AreLow n (next_only left)
low_here n [] h = tt
low_here n (t ∷ ts) h = (h, tt)

refused_here : (tokens : Tokens) (end : Place) (before : RawScript) (s p : Standing) (k : Seen) (left : Tokens) → SoFar tokens before s.left → option_map seen_of (first s.left) ≡ Some k → Begun s.left p → reads OfDeclaration p ≡ Err (Here, left) →
    StopsOne p Here left → IsRefusedAt tokens end Here left
refused_here tokens end before s p k [] far some b e one =
    let g = one.front in
    let split : s.left ≡ g ++ [] = sym b.same ∙ one.is in
    let low = low_behind far.front before far.script g [] s.left split far.next_low one.begins (low_both start g [] one.low tt) in
    let whole : far.front ++ g ≡ tokens = sym (far.is ∙ ap (λ z. far.front ++ z) (split ∙ append-nil g)) in
    IsGrammarRefusal.at_end (subst BeginsScript whole (begins_script far.front g before far.script one.begins)) (subst HasNoneTooHigh (append-nil (far.front ++ g) ∙ whole) low)
    (λ sc h. let (u, i) = far.rest s.left tokens sc refl (sym far.is) h in
    no_script_here s.left u p.nest (Here, []) i (some_next s.left k some) (ap (λ z. free OfDeclaration (at z p.nest)) split ∙ never_read p [] g e one.is [] refl))
refused_here tokens end before s p k (t ∷ ts) far some b e one =
    let g = one.front in
    let split : s.left ≡ g ++ t ∷ ts = sym b.same ∙ one.is in
    let low = low_behind far.front before far.script g (t ∷ ts) s.left split far.next_low one.begins (low_both start g (t ∷ []) one.low (low_here (after_tokens start g) (t ∷ ts) one.stops)) in
    IsGrammarRefusal.at_token (far.front ++ g) ts t (far.is ∙ ap (λ z. far.front ++ z) split ∙ sym (append_assoc far.front g (t ∷ ts))) (begins_script far.front g before far.script one.begins)
    (λ starts. let (more, sc, h) = starts in
    let shape : far.front ++ (g ++ t ∷ more) ≡ ((far.front ++ g) ++ t ∷ []) ++ more = sym (append_assoc far.front g (t ∷ more)) ∙ sym (append_assoc (far.front ++ g) (t ∷ []) more) in
    let (u, i) = far.rest (g ++ t ∷ more) (((far.front ++ g) ++ t ∷ []) ++ more) sc (first_both g (t ∷ more) (t ∷ ts) refl ∙ ap first (sym split)) shape h in
    no_script_here (g ++ t ∷ more) u p.nest (Here, t ∷ more) i (λ z. no_end g t more (sym z)) (never_read p (t ∷ ts) g e one.is (t ∷ more) refl))
    low

short_none : (x : Tokens) (t : PlacedToken) (y : Tokens) → [] ≡ x ++ t ∷ y → x ≡ []
short_none x t y e = absurd (no_end x t y e)

refused_high : (tokens : Tokens) (end : Place) (before : RawScript) (s p : Standing) (left : Tokens) → SoFar tokens before s.left → Begun s.left p → (g : Tokens) → s.left ≡ g ++ left → GoesOn IsDeclaration g → AreLow start g → StopsAt High (after_tokens start g) left →
    IsRefusedAt tokens end High left
refused_high tokens end before s p [] far b g split begins low over = over
refused_high tokens end before s p (t ∷ ts) far b [] split begins low over = absurd (omega (arith, one_height (nesting t.token), over))
refused_high tokens end before s p (t ∷ ts) far b (u ∷ us) split (more, d, h) low over =
    IsGrammarRefusal.nested (far.front ++ u ∷ us) ts t (far.is ∙ ap (λ z. far.front ++ z) split ∙ sym (append_assoc far.front (u ∷ us) (t ∷ ts)))
    (u ∷ us, latest far.front before u us (is_script far.front before far.script) (more, d, h), subst (λ n. greatest_height < nest_height n) (sym (after_both start (u ∷ us) (t ∷ []))) over)
    (none_too_high far.front (u ∷ us) before far.script
    (begun (record { first = u; others = us; behind = []; is = sym (append-nil (u ∷ us)); begins = (more, d, h); short = short_none; low = is_low (u ∷ us) low })))

abbrev Told : Tokens → Outcome RawScript → Type 0
Told tokens (Ok r) = IsScript tokens r.0 × HasNoneTooHigh tokens
Told tokens (Err e) = (end : Place) → IsRefusedAt tokens end e.0 e.1

refused_at : (tokens : Tokens) (end : Place) (before : RawScript) (s p : Standing) (k : Seen) (h : Halt) (left : Tokens) → SoFar tokens before s.left → option_map seen_of (first s.left) ≡ Some k → Begun s.left p → reads OfDeclaration p ≡ Err (h, left) → IsRefusedAt tokens end h left
refused_at tokens end before s p k Here left far some b e = refused_here tokens end before s p k left far some b e (stops_one p Here left b.counted e)
refused_at tokens end before s p k High left far some b e =
    let one = stops_one p High left b.counted e in refused_high tokens end before s p left far b one.front (sym b.same ∙ one.is) one.begins one.low one.stops

told : {before : RawScript} {s : Standing} {o : Outcome RawScript} → ReadsScript before s o → (tokens : Tokens) → SoFar tokens before s.left → Told tokens o
told (ended {before = before} {s = s} e) tokens far =
    let whole : far.front ≡ tokens = sym (far.is ∙ ap (λ z. far.front ++ z) e ∙ append-nil far.front) in
    (subst (λ z. IsScript z before) whole (is_script far.front before far.script), subst HasNoneTooHigh (append-nil far.front ∙ whole) (none_too_high far.front [] before far.script nothing_more))
told (too_high {s = s} {e = e} h) tokens far = absurd (never_high s.left e h)
told (stopped {before = before} {s = s} {e = e} p k some counted h) tokens far = λ end. refused_at tokens end before s p k e.0 e.1 far some (begun_is s.left p counted) h
told (continued {s = s} p q k d some counted read more) tokens far =
    let b = begun_is s.left p counted in
    told more tokens (more_so_far p q d far b (read_one p q d b.counted read))

so_far_nothing : (tokens : Tokens) → SoFar tokens [] tokens
so_far_nothing tokens = record { front = []; is = refl; script = LowScript.none; next_low = none_yet; rest = λ later a s alike e h. (s, subst (λ z. IsScript z s) (sym e) h) }

-- a script that is read is one, within the limit of heights
pub script_read : (s q : Standing) (ds : RawScript) → ReadsScript [] s (Ok (ds, q)) → IsScript s.left ds × HasNoneTooHigh s.left
script_read s q ds h = told h s.left (so_far_nothing s.left)

-- where reading a script stops, its refusal is that of the tokens
pub script_refused : (s : Standing) (h : Halt) (left : Tokens) → ReadsScript [] s (Err (h, left)) → (end : Place) → IsRefusedAt s.left end h left
script_refused s h left e = told e s.left (so_far_nothing s.left)
