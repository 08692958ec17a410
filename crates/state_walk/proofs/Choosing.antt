-- The moves that a text names.
use Rattle.std.proofs.Common.{◌≡◌, ◌<◌, ◌+◌, ℕ, zero, suc, Bool, true, false, List, [], ◌∷◌, ◌++◌, Result, Ok, Err, IfOk, length, drop, take, get_or, map, slice_get, Option, Some, None, refl, sym, ◌∙◌, ap, subst, arith, append-nil, decimal}
use Rattle.std.proofs.lemmas.List.{map-append, take_more}
use Rattle.std.specs.Prelude.{if◌then◌else◌}
use Rattle.std.specs.List.{filter}
use Rattle.theory_notation.specs.Names.{Names}
use Rattle.theory_explanation.specs.Actions.{action_text}
use Rattle.theory_walk.specs.Answers.{doing, first_of, numbered}
use Rattle.theory_walk.specs.Commands.{same}
use Rattle.theory_walk.specs.Moves as pure
use Rattle.csp_value.specs.Action.{action_of}
use Rattle.state_walk.specs.Naming.{IsNamed, IsPlaceOf, one_more}
use Rattle.state_walk.specs.Walks.{move_of, moves_listed}
use Rattle.state_walk.specs.declared.menu.Move.{Move}
use Rattle.state_walk.specs.declared.naming.Meant.{Meant}
use Rattle.state_walk.specs.declared.naming.Meant.TheVariants as meant

-- ---- a move at a place

-- it stands there, in front of those behind it
pub at_place : {X : Type 0} (xs : List X) (i : ℕ) → i < length xs → (x : X) × (slice_get xs i ≡ Some x) × (drop i xs ≡ x ∷ drop (i + 1) xs)
at_place [] i low = absurd (omega (arith, low))
at_place (x ∷ xs) zero low = (x, refl, refl)
at_place (x ∷ xs) (suc i) low =
    let there = at_place xs i (omega (arith, low)) in
    let e : suc i + 1 ≡ suc (i + 1) = omega arith in
    (there.0, there.1, there.2 ∙ ap (λ k. there.0 ∷ drop k (x ∷ xs)) (sym e))

pub mapped_at : {X Y : Type 0} (f : X → Y) (xs : List X) (i : ℕ) (x : X) → slice_get xs i ≡ Some x → slice_get (map f xs) i ≡ Some (f x)
mapped_at f [] i x at = absurd (cc at)
mapped_at f (y ∷ xs) zero x at = let e : Some y ≡ Some x = at in ap (λ z. Some (f z)) (cc e)
mapped_at f (y ∷ xs) (suc i) x at = mapped_at f xs i x at

-- ---- by number

module _ {A : Type 0} (moves : List (Move A)) (i : ℕ) (text : List ℕ) (low : i < length moves) where
  pub standing : (x : Move A) × (slice_get moves i ≡ Some x) × (drop i moves ≡ x ∷ drop (i + 1) moves)
  standing = at_place moves i low

  -- the number of the move at the place is compared with the text
  pub compared : (b : Bool) → same text (decimal (i + 1)) ≡ b → numbered (i + 1) (moves_listed (drop i moves)) text ≡ (if b then Some (move_of standing.0) else numbered (suc (i + 1)) (moves_listed (drop (i + 1) moves)) text)
  compared b is =
      ap (λ (ms : List (Move A)). numbered (i + 1) (moves_listed ms) text) standing.2
      ∙ ap (λ c. if c then Some (move_of standing.0) else numbered (suc (i + 1)) (moves_listed (drop (i + 1) moves)) text) is

  pub place_found : (all : Option pure.Move) → same text (decimal (i + 1)) ≡ true → numbered (i + 1) (moves_listed (drop i moves)) text ≡ all → IsPlaceOf (moves_listed moves) (Some i) all
  place_found all is left = subst (IsPlaceOf (moves_listed moves) (Some i)) (sym (compared true is) ∙ left) (mapped_at move_of moves i standing.0 standing.1)

  pub place_passed : (all : Option pure.Move) → same text (decimal (i + 1)) ≡ false → numbered (i + 1) (moves_listed (drop i moves)) text ≡ all → numbered (i + 1 + 1) (moves_listed (drop (i + 1) moves)) text ≡ all
  place_passed all is left =
      let e : i + 1 + 1 ≡ suc (i + 1) = omega arith in
      ap (λ n. numbered n (moves_listed (drop (i + 1) moves)) text) e ∙ sym (compared false is) ∙ left

-- none has the number
pub no_place : {A : Type 0} (moves left : List (Move A)) (n : ℕ) (text : List ℕ) → left ≡ [] → numbered n (moves_listed left) text ≡ numbered 1 (moves_listed moves) text → IsPlaceOf (moves_listed moves) None (numbered 1 (moves_listed moves) text)
no_place {A} moves left n text none same_number =
    subst (IsPlaceOf (moves_listed moves) None) (sym (ap (λ (ms : List (Move A)). numbered n (moves_listed ms) text) none) ∙ same_number) tt

pub by_number : (moves : List pure.Move) (place : ℕ) (found : Option pure.Move) (others : List pure.Move) → IsPlaceOf moves (Some place) found → IsNamed moves (meant.One place) (first_of found others)
by_number moves place (Some m) others is = (m, is, refl)
by_number moves place None others is = absurd is

pub by_doing : (moves : List pure.Move) (found : Option pure.Move) (n : Meant) (others : List pure.Move) → IsPlaceOf moves None found → IsNamed moves n others → IsNamed moves n (first_of found others)
by_doing moves None n others is named = named
by_doing moves (Some m) n others is named = absurd is

-- ---- by what is done

kept_in_front : {X : Type 0} (b : Bool) (x : X) (xs ys : List X) → (if b then x ∷ (xs ++ ys) else xs ++ ys) ≡ (if b then x ∷ xs else xs) ++ ys
kept_in_front true x xs ys = refl
kept_in_front false x xs ys = refl

filter_more : {X : Type 0} (test : X → Bool) (xs : List X) (x : X) → filter test (xs ++ x ∷ []) ≡ filter test xs ++ (if test x then x ∷ [] else [])
filter_more test [] x = refl
filter_more test (y ∷ xs) x =
    ap (λ zs. if test y then y ∷ zs else zs) (filter_more test xs x) ∙ kept_in_front (test y) y (filter test xs) (if test x then x ∷ [] else [])

pub doing_more : (names : Names) (moves : List pure.Move) (text : List ℕ) (m : pure.Move) (b : Bool) → same text (action_text names m.action) ≡ b →
    doing names (moves ++ m ∷ []) text ≡ doing names moves text ++ (if b then m ∷ [] else [])
doing_more names moves text m b is =
    filter_more (λ (k : pure.Move). same text (action_text names k.action)) moves m ∙ ap (λ c. doing names moves text ++ (if c then m ∷ [] else [])) is

-- with one more that is named
pub one_named : (moves : List pure.Move) (found : Meant) (place : ℕ) (m : pure.Move) (xs : List pure.Move) → slice_get moves place ≡ Some m → IsNamed moves found xs → IsNamed moves (one_more found place) (xs ++ m ∷ [])
one_named moves meant.Nothing place m xs at is = (m, at, ap (λ ys. ys ++ m ∷ []) is)
one_named moves (meant.One other) place m xs at (k, there, is) = (k, m, [], ap (λ ys. ys ++ m ∷ []) is)
one_named moves meant.Several place m xs at (k, other, others, is) = (k, other, others ++ m ∷ [], ap (λ ys. ys ++ m ∷ []) is)

pub same_named : (moves : List pure.Move) (found : Meant) (xs : List pure.Move) → IsNamed moves found xs → IsNamed moves found (xs ++ [])
same_named moves found xs is = subst (IsNamed moves found) (sym (append-nil xs)) is

-- one more move is looked at
pub doing_next : {A : Type 0} (names : Names) (moves : List (Move A)) (i : ℕ) (text : List ℕ) (m : Move A) (b : Bool) → i < length moves → m ≡ get_or moves i m →
    same text (action_text names (action_of m.action)) ≡ b → doing names (moves_listed (take (i + 1) moves)) text ≡ doing names (moves_listed (take i moves)) text ++ (if b then move_of m ∷ [] else [])
doing_next names moves i text m b low read is =
    ap (λ ms. doing names (moves_listed ms) text) (take_more moves i m low ∙ ap (λ k. take i moves ++ k ∷ []) (sym read))
    ∙ ap (λ (ms : List pure.Move). doing names ms text) (map-append move_of (take i moves) (m ∷ []))
    ∙ doing_more names (moves_listed (take i moves)) text (move_of m) b is

-- what is so of an answer, in other words
pub if_ok : {X E : Type 0} (P Q : X → Type 0) (r : Result X E) → ((x : X) → P x → Q x) → IfOk r P → IfOk r Q
if_ok P Q (Ok x) f h = f x h
if_ok P Q (Err e) f h = tt
