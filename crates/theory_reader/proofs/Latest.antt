-- Declarations within the limit of heights, and the beginning of one more: no token of them is too high.
use Rattle.theory_reader.proofs.CompleteStarts.{same_ok}
use Rattle.theory_reader.proofs.CompleteDeclarations.{declaration_read}
use Rattle.theory_reader.proofs.Heights.{after_both}
use Rattle.theory_text.specs.Raw.{RawDeclaration, RawName, RawScript}
use Rattle.theory_text.specs.Token.{PlacedToken, Keyword, KeywordToken}
use Rattle.theory_reader.specs.Forms.{OfDeclaration}
use Rattle.theory_reader.specs.Counted.{AreLow}
use Rattle.std.proofs.Common.{◌≡◌, ◌∙◌, ◌≤◌, ◌⊎◌, inl, inr, [], ◌∷◌, ◌++◌, refl, sym, ap, subst, append_assoc, append-nil, arith}
use Rattle.std.proofs.lemmas.List.{append_cancel_right}
use Rattle.theory_text.specs.Grammar.{IsName, name, IsWord, word, IsDeclaration, IsScript, declarations, no_declarations}
use Rattle.theory_text.specs.Height.{Nest, Plain, nesting, after_token, after_tokens, nest_height, tokens_height, greatest_height, BeginsDeclaration, IsLatest, latest, nothing, HasNoneTooHigh}
use Rattle.theory_text.proofs.Heights.{joined}
use Rattle.theory_reader.proofs.Tightness.{tightness, Stops}
use Rattle.theory_reader.proofs.CompleteExpressions.{Tokens, free}
use Rattle.theory_reader.proofs.Local.{at}
use Rattle.theory_reader.specs.Programs.{start}

-- what begins a declaration counts nothing, and goes on with no form
pub record Opens (t : PlacedToken) : Type 0 where
  pub tight : tightness t.token ≡ 0
  pub plain : nesting t.token ≡ Plain

pub record OpensWith (a : Tokens) : Type 0 where
  pub first : PlacedToken
  pub others : Tokens
  pub is : a ≡ first ∷ others
  pub opens : Opens first

opened : {a : Tokens} (b : Tokens) → OpensWith a → OpensWith (a ++ b)
opened b w = record { first = w.first; others = w.others ++ b; is = ap (λ z. z ++ b) w.is; opens = w.opens }

word_opens : {k : Keyword} {a : Tokens} → tightness (KeywordToken k) ≡ 0 → nesting (KeywordToken k) ≡ Plain → IsWord k a → OpensWith a
word_opens p q (word t e) = record { first = t; others = []; is = refl; opens = record { tight = ap tightness e ∙ p; plain = ap nesting e ∙ q } }

name_opens : {a : Tokens} {n : RawName} → IsName a n → OpensWith a
name_opens (name t cs e) = record { first = t; others = []; is = refl; opens = record { tight = ap tightness e; plain = ap nesting e } }

pub declaration_opens : {a : Tokens} {d : RawDeclaration} → IsDeclaration a d → OpensWith a
declaration_opens (IsDeclaration.datatype k h l hs) = opened _ (opened _ (opened _ (word_opens refl refl k)))
declaration_opens (IsDeclaration.nametype v vs k h l i) = opened (v ∷ vs) (opened _ (opened _ (word_opens refl refl k)))
declaration_opens (IsDeclaration.bare_channels k hs) = opened _ (word_opens refl refl k)
declaration_opens (IsDeclaration.channels k hs l i) = opened _ (opened _ (opened _ (word_opens refl refl k)))
declaration_opens (IsDeclaration.equation h k i) = opened _ (opened _ (name_opens h))
declaration_opens (IsDeclaration.equation_with h k hs l i j) = opened _ (opened _ (opened _ (opened _ (opened _ (name_opens h)))))
declaration_opens (IsDeclaration.assertion t (word v e) h i j) = record { first = t; others = _; is = refl; opens = record { tight = ap tightness e; plain = ap nesting e } }
declaration_opens (IsDeclaration.freedom t (word v e) h i j) = record { first = t; others = _; is = refl; opens = record { tight = ap tightness e; plain = ap nesting e } }

open_stops : (t : PlacedToken) (ts : Tokens) → Opens t → Stops 1 (t ∷ ts)
open_stops t ts o = omega (arith, o.tight)

with_stops : (a b : Tokens) → OpensWith a → Stops 1 (a ++ b)
with_stops a b w = subst (λ z. Stops 1 (z ++ b)) (sym w.is) (open_stops w.first (w.others ++ b) w.opens)

pub script_stops : {b : Tokens} {s : RawScript} → IsScript b s → (r : Tokens) → Stops 1 r → Stops 1 (b ++ r)
script_stops IsScript.no_declarations r k = k
script_stops (IsScript.declarations {a = a} {b = b} h hs) r k = subst (Stops 1) (sym (append_assoc a b r)) (with_stops a (b ++ r) (declaration_opens h))

pub no_end : (a : Tokens) (t : PlacedToken) (b : Tokens) → [] ≡ a ++ t ∷ b → ⊥
no_end [] t b e = cc e
no_end (u ∷ us) t b e = cc e

-- two declarations in front of tokens that go on with none are one
pub same_declaration : (a b r q : Tokens) (d x : RawDeclaration) → IsDeclaration a d → IsDeclaration b x → Stops 1 r → Stops 1 q → a ++ r ≡ b ++ q → (r ≡ q) × (a ≡ b) × (d ≡ x)
same_declaration a b r q d x h k s u e =
    let (m, read) = declaration_read h r s start in
    let (n, other) = declaration_read k q u start in
    let (tree, left) = same_ok read (ap (λ z. free OfDeclaration (at z start)) e ∙ other) in
    let rest : r ≡ q = ap (λ z. z.left) left in
    (rest, append_cancel_right a b q (ap (λ z. a ++ z) (sym rest) ∙ e), tree)

begun_opens : (t : PlacedToken) (ts : Tokens) → BeginsDeclaration (t ∷ ts) → Opens t
begun_opens t ts (more, d, h) = let w = declaration_opens h in let same : w.first ≡ t = cc (sym w.is) in subst Opens same w.opens

same_latest : (b c : Tokens) (s u : RawScript) (t v : PlacedToken) (ts vs : Tokens) → IsScript b s → IsScript c u → BeginsDeclaration (t ∷ ts) → BeginsDeclaration (v ∷ vs) → b ++ t ∷ ts ≡ c ++ v ∷ vs → t ∷ ts ≡ v ∷ vs
same_latest _ _ _ _ t v ts vs IsScript.no_declarations IsScript.no_declarations g k e = e
same_latest _ _ _ _ t v ts vs IsScript.no_declarations (IsScript.declarations {a = a} {b = b} {d = d} h hs) (more, x, i) k e =
    let behind : Stops 1 (b ++ v ∷ (vs ++ more)) = script_stops hs (v ∷ (vs ++ more)) (open_stops v (vs ++ more) (begun_opens v vs k)) in
    let both = same_declaration (t ∷ ts ++ more) a [] (b ++ v ∷ (vs ++ more)) x d i h (omega arith) behind
    (append-nil (t ∷ ts ++ more) ∙ ap (λ z. z ++ more) e ∙ append_assoc (a ++ b) (v ∷ vs) more ∙ append_assoc a b (v ∷ (vs ++ more))) in
    absurd (no_end b v (vs ++ more) both.0)
same_latest _ _ _ _ t v ts vs (IsScript.declarations {a = a} {b = b} {d = d} h hs) IsScript.no_declarations k (more, x, i) e =
    let behind : Stops 1 (b ++ t ∷ (ts ++ more)) = script_stops hs (t ∷ (ts ++ more)) (open_stops t (ts ++ more) (begun_opens t ts k)) in
    let both = same_declaration (v ∷ vs ++ more) a [] (b ++ t ∷ (ts ++ more)) x d i h (omega arith) behind
    (append-nil (v ∷ vs ++ more) ∙ ap (λ z. z ++ more) (sym e) ∙ append_assoc (a ++ b) (t ∷ ts) more ∙ append_assoc a b (t ∷ (ts ++ more))) in
    absurd (no_end b t (ts ++ more) both.0)
same_latest _ _ _ _ t v ts vs (IsScript.declarations {a = a} {b = b} {d = d} {ds = s} h hs) (IsScript.declarations {a = p} {b = q} {d = x} {ds = u} i is) g k e =
    let both = same_declaration a p (b ++ t ∷ ts) (q ++ v ∷ vs) d x h i (script_stops hs (t ∷ ts) (open_stops t ts (begun_opens t ts g))) (script_stops is (v ∷ vs) (open_stops v vs (begun_opens v vs k)))
    (sym (append_assoc a b (t ∷ ts)) ∙ e ∙ append_assoc p q (v ∷ vs)) in
    same_latest b q s u t v ts vs hs is g k both.0

none_latest : (w l : Tokens) → IsLatest w l → w ≡ [] → l ≡ []
none_latest _ _ IsLatest.nothing e = refl
none_latest _ _ (IsLatest.latest b s t ts script g) e = absurd (no_end b t ts (sym e))

other_latest : (b : Tokens) (s : RawScript) (t : PlacedToken) (ts w m : Tokens) → IsScript b s → BeginsDeclaration (t ∷ ts) → IsLatest w m → b ++ t ∷ ts ≡ w → t ∷ ts ≡ m
other_latest b s t ts _ _ script g IsLatest.nothing e = absurd (no_end b t ts (sym e))
other_latest b s t ts _ _ script g (IsLatest.latest c u v vs other k) e = same_latest b c s u t v ts vs script other g k e

-- tokens have at most one latest declaration
pub one_latest : (w l m : Tokens) → IsLatest w l → IsLatest w m → l ≡ m
one_latest _ _ m IsLatest.nothing k = sym (none_latest [] m k refl)
one_latest _ _ m (IsLatest.latest b s t ts script g) k = other_latest b s t ts (b ++ t ∷ ts) m script g k refl

-- HEIGHTS

-- no beginning of the tokens is higher than the limit
abbrev pub IsLow : Tokens → Type 0
IsLow ts = (front rest : Tokens) → ts ≡ front ++ rest → tokens_height front ≤ greatest_height

low_front : (n : Nest) (front rest : Tokens) → AreLow n (front ++ rest) → nest_height n ≤ greatest_height → nest_height (after_tokens n front) ≤ greatest_height
low_front n [] rest h low = low
low_front n (t ∷ ts) rest h low = low_front (after_token (nesting t.token) n) ts rest h.1 h.0

pub is_low : (a : Tokens) → AreLow start a → IsLow a
is_low a h front rest e = low_front start front rest (subst (AreLow start) e h) (omega arith)

-- a script whose declarations are all within the limit
pub data LowScript : Tokens → RawScript → Type 0 where
  none : LowScript [] []
  and_one : {a b : Tokens} {d : RawDeclaration} {ds : RawScript} → IsDeclaration a d → IsLow a → LowScript b ds → LowScript (a ++ b) (d ∷ ds)

pub is_script : (a : Tokens) (s : RawScript) → LowScript a s → IsScript a s
is_script a s none = no_declarations
is_script a s (and_one {b = b} {ds = ds} h low rest) = declarations h (is_script b ds rest)

pub last_declaration : (a b : Tokens) (ds : RawScript) (d : RawDeclaration) → LowScript a ds → IsDeclaration b d → IsLow b → LowScript (a ++ b) (ds ++ d ∷ [])
last_declaration a b ds d none h low = subst (λ ts. LowScript ts (d ∷ [])) (append-nil ([] ++ b)) (and_one h low none)
last_declaration a b ds d (and_one {a = a1} {b = b1} {d = e} {ds = es} k l ks) h low =
    subst (λ ts. LowScript ts (e ∷ es ++ d ∷ [])) (sym (append_assoc a1 b1 b)) (and_one k l (last_declaration b1 b es d ks h low))

-- The tokens begin a declaration, with no more than one token behind them, and no beginning of all these is too high.
pub record Unfinished (ts : Tokens) : Type 0 where
  pub first : PlacedToken
  pub others : Tokens
  pub behind : Tokens
  pub is : ts ≡ first ∷ others ++ behind
  pub begins : BeginsDeclaration (first ∷ others)
  pub short : (x : Tokens) (t : PlacedToken) (y : Tokens) → behind ≡ x ++ t ∷ y → x ≡ []
  pub low : IsLow ts

-- nothing, or the beginning of a declaration
pub data Ending : Tokens → Type 0 where
  nothing_more : Ending []
  begun : {ts : Tokens} → Unfinished ts → Ending ts

-- the tokens, and t behind them, with their height
abbrev Fine : Tokens → PlacedToken → Type 0
Fine before t = (l : Tokens) × IsLatest before l × (tokens_height (l ++ t ∷ []) ≤ greatest_height)

-- two ways to divide a list
abbrev Divided : Tokens → Tokens → Tokens → PlacedToken → Tokens → Type 0
Divided a b x t y = ((z : Tokens) × (x ≡ a ++ z) × (b ≡ z ++ t ∷ y)) ⊎ ((z : Tokens) × (a ≡ x ++ t ∷ z))

divided : (a b x : Tokens) (t : PlacedToken) (y : Tokens) → a ++ b ≡ x ++ t ∷ y → Divided a b x t y
divided [] b x t y e = inl (x, refl, e)
divided (u ∷ us) b [] t y e = let same : u ≡ t = cc e in inr (us, ap (λ v. v ∷ us) same)
divided (u ∷ us) b (v ∷ vs) t y e =
    let same : u ≡ v = cc e in
    let rest : us ++ b ≡ vs ++ t ∷ y = cc e in
    elim (divided us b vs t y rest) [
      | inl (z, p, q) ↦ inl (z, ap (λ w. v ∷ w) p ∙ ap (λ w. w ∷ (us ++ z)) (sym same), q)
      | inr (z, p) ↦ inr (z, ap (λ w. u ∷ w) p ∙ ap (λ w. w ∷ (vs ++ t ∷ z)) same)
    ]

-- a token that begins a declaration makes nothing higher
not_higher : (a : Tokens) (t : PlacedToken) → Opens t → tokens_height (a ++ t ∷ []) ≡ tokens_height a
not_higher a t o = ap nest_height (after_both start a (t ∷ []) ∙ ap (λ x. after_token x (after_tokens start a)) o.plain)

whole_latest : (w a : Tokens) (s : RawScript) (d : RawDeclaration) → IsScript w s → IsDeclaration a d → IsLatest (w ++ a) a
whole_latest w a s d script h =
    let whole = declaration_opens h in
    let made : IsDeclaration (whole.first ∷ whole.others ++ []) d = subst (λ x. IsDeclaration x d) (whole.is ∙ sym (append-nil (whole.first ∷ whole.others))) h in
    subst (λ x. IsLatest (w ++ x) x) (sym whole.is) (latest w s whole.first whole.others script ([], d, made))

fine_at_end : (w : Tokens) (s : RawScript) (a : Tokens) (d : RawDeclaration) (t : PlacedToken) → IsScript w s → IsDeclaration a d → IsLow a → Opens t → Fine (w ++ a) t
fine_at_end w s a d t script h low o =
    let height : tokens_height a ≤ greatest_height = low a [] (sym (append-nil a)) in
    (a, whole_latest w a s d script h, subst (λ n. n ≤ greatest_height) (sym (not_higher a t o)) height)

fine_within : (w : Tokens) (s : RawScript) (a : Tokens) (d : RawDeclaration) (u : PlacedToken) (us : Tokens) (t : PlacedToken) (z : Tokens) → IsScript w s → IsDeclaration a d → IsLow a → a ≡ u ∷ us ++ t ∷ z → Fine (w ++ u ∷ us) t
fine_within w s a d u us t z script h low e =
    let cut : a ≡ (u ∷ us ++ t ∷ []) ++ z = e ∙ sym (append_assoc (u ∷ us) (t ∷ []) z) in
    (u ∷ us, latest w s u us script (t ∷ z, d, subst (λ x. IsDeclaration x d) e h), low (u ∷ us ++ t ∷ []) z cut)

begins_front : (u : PlacedToken) (us more : Tokens) (ts : Tokens) → ts ≡ u ∷ us ++ more → BeginsDeclaration ts → BeginsDeclaration (u ∷ us)
begins_front u us more ts e (rest, d, h) = (more ++ rest, d, subst (λ x. IsDeclaration x d) (ap (λ x. x ++ rest) e ∙ append_assoc (u ∷ us) more rest) h)

-- the tokens before one of these begin the declaration
begins_before : (a b : Tokens) (u : PlacedToken) (us : Tokens) (t : PlacedToken) (after : Tokens) → BeginsDeclaration a → ((x : Tokens) (v : PlacedToken) (y : Tokens) → b ≡ x ++ v ∷ y → x ≡ []) → a ++ b ≡ u ∷ us ++ t ∷ after → BeginsDeclaration (u ∷ us)
begins_before a b u us t after g short e =
    elim (divided a b (u ∷ us) t after e) [
      | inl (z, p, q) ↦
          let none : z ≡ [] = short z t after q in
          let all : a ≡ u ∷ us = sym (p ∙ ap (λ x. a ++ x) none ∙ append-nil a) in
          subst BeginsDeclaration all g
      | inr (z, p) ↦ begins_front u us (t ∷ z) a p g
    ]

fine_begun : (w : Tokens) (s : RawScript) (ts : Tokens) → IsScript w s → Ending ts → (u : PlacedToken) (us : Tokens) (t : PlacedToken) (after : Tokens) → ts ≡ u ∷ us ++ t ∷ after → Fine (w ++ u ∷ us) t
fine_begun w s _ script nothing_more u us t after e = absurd (cc e)
fine_begun w s ts script (begun n) u us t after e =
    let cut : ts ≡ (u ∷ us ++ t ∷ []) ++ after = e ∙ sym (append_assoc (u ∷ us) (t ∷ []) after) in
    (u ∷ us, latest w s u us script (begins_before (n.first ∷ n.others) n.behind u us t after n.begins n.short (sym n.is ∙ e)), n.low (u ∷ us ++ t ∷ []) after cut)

ending_opens : (t : PlacedToken) (after ts : Tokens) → Ending ts → ts ≡ t ∷ after → Opens t
ending_opens t after _ nothing_more e = absurd (cc e)
ending_opens t after ts (begun n) e =
    let same : n.first ≡ t = cc (sym n.is ∙ e) in
    subst Opens same (begun_opens n.first n.others n.begins)

first_of_both : (t : PlacedToken) (after b ts : Tokens) (r : RawScript) → LowScript b r → Ending ts → b ++ ts ≡ t ∷ after → Opens t
first_of_both t after b ts r none n e = ending_opens t after ts n e
first_of_both t after b ts r (and_one {a = x} {b = y} {d = d} h low rest) n e =
    let whole = declaration_opens h in
    let both : whole.first ∷ (whole.others ++ y ++ ts) ≡ t ∷ after = ap (λ z. z ++ y ++ ts) (sym whole.is) ∙ e in
    let same : whole.first ≡ t = cc both in
    subst Opens same whole.opens

fine_so_far : (w : Tokens) (s : RawScript) (b : Tokens) (r : RawScript) (ts : Tokens) → IsScript w s → LowScript b r → Ending ts → (u : PlacedToken) (us : Tokens) (t : PlacedToken) (after : Tokens) → b ++ ts ≡ u ∷ us ++ t ∷ after → Fine (w ++ u ∷ us) t
fine_so_far w s b r ts script none n u us t after e = fine_begun w s ts script n u us t after e
fine_so_far w s b r ts script (and_one {a = a} {b = y} {d = d} {ds = ds} h low rest) n u us t after e =
    elim (divided a (y ++ ts) (u ∷ us) t after (sym (append_assoc a y ts) ∙ e)) [
      | inl ([], p, q) ↦ subst (λ x. Fine (w ++ x) t) (sym (p ∙ append-nil a)) (fine_at_end w s a d t script h low (first_of_both t after y ts ds rest n q))
      | inl (v ∷ vs, p, q) ↦
          let whole : IsScript (w ++ a) (s ++ d ∷ []) = joined w a s (d ∷ []) script (subst (λ x. IsScript x (d ∷ [])) (append-nil a) (declarations h no_declarations)) in
          subst (λ x. Fine x t) (append_assoc w a (v ∷ vs) ∙ ap (λ x. w ++ x) (sym p)) (fine_so_far (w ++ a) (s ++ d ∷ []) y ds ts whole rest n v vs t after q)
      | inr (z, p) ↦ fine_within w s a d u us t z script h low p
    ]

-- a token alone that begins a declaration is low
open_low : (t : PlacedToken) → Opens t → tokens_height (t ∷ []) ≤ greatest_height
open_low t o = subst (λ n. n ≤ greatest_height) (sym (not_higher [] t o)) (omega arith)

fine_all : (before : Tokens) (t : PlacedToken) (after b ts : Tokens) (r : RawScript) → LowScript b r → Ending ts → b ++ ts ≡ before ++ t ∷ after → Fine before t
fine_all [] t after b ts r low n e = ([], nothing, open_low t (first_of_both t after b ts r low n e))
fine_all (u ∷ us) t after b ts r low n e = fine_so_far [] [] b r ts no_declarations low n u us t after e

pub none_too_high : (b ts : Tokens) (r : RawScript) → LowScript b r → Ending ts → HasNoneTooHigh (b ++ ts)
none_too_high b ts r low n before after t e (l, is, high) =
    let f = fine_all before t after b ts r low n e in
    let same : l ≡ f.0 = one_latest before l f.0 is f.1 in
    let limit : tokens_height (l ++ t ∷ []) ≤ greatest_height = subst (λ x. tokens_height (x ++ t ∷ []) ≤ greatest_height) (sym same) f.2 in
    omega (arith, high, limit)
