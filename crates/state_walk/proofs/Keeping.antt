-- Walks stay walks, to and fro.
use Rattle.std.proofs.Common.{◌≡◌, ◌<◌, ◌-◌, ℕ, List, [], ◌∷◌, ◌++◌, length, take, get_or, map, slice_get, Some, refl, sym, ◌∙◌, ap, subst, arith}
use Rattle.std.proofs.lemmas.List.{map-append}
use Rattle.std.proofs.lemmas.Option.{slice_get-get_or}
use Rattle.std.specs.Borrow.{Bor}
use Rattle.std.specs.Prelude.{codes}
use Rattle.theory_syntax.specs.Process.{Process, Script}
use Rattle.theory_semantics.specs.Kinds.Scripts.{IsTermOf}
use Rattle.theory_walk.specs.Answers.{Shows, answer_by, going_back}
use Rattle.theory_walk.specs.Moves as pure
use Rattle.theory_walk.specs.Moves.{IsMenu}
use Rattle.theory_walk.specs.Trails.{AreTaken, Trail, back, behind, further}
use Rattle.theory_walk.specs.Walks.{Place}
use Rattle.theory_walk.proofs.Along.{all_before, behind_more, taken_front}
use Rattle.theory_walk.proofs.Closing.{closed_behind, move_closed, move_taken}
use Rattle.state_walk.specs.Answers.{Follows}
use Rattle.state_walk.specs.Naming.{IsNamed}
use Rattle.state_walk.specs.Walks.{move_of, moves_listed}
use Rattle.state_walk.specs.declared.answer.Answer.TheVariants as answer
use Rattle.state_walk.specs.declared.menu.Move.{Move}
use Rattle.state_walk.specs.declared.naming.Meant.TheVariants as meant
use Rattle.state_walk.proofs.Choosing.{mapped_at}
use Rattle.state_walk.proofs.Listing.{none_left}

-- ---- the last move

module _ {A : Type 0} (items before : List (Move A)) (last : Move A) (is : items ≡ before ++ last ∷ []) where
  pub listed_before : moves_listed items ≡ moves_listed before ++ move_of last ∷ []
  listed_before = ap moves_listed is ∙ map-append move_of before (last ∷ [])

  -- it leads to its target
  pub leads_last : (start : Process) → behind start (moves_listed items) ≡ (move_of last).target
  leads_last start = ap (behind start) listed_before ∙ behind_more start (moves_listed before) (move_of last)

  -- the moves before it are taken, and lead to a term of the script
  pub taken_before : (script : Script) (start : Process) → AreTaken script start (moves_listed items) → AreTaken script start (moves_listed before)
  taken_before script start taken = taken_front script start (moves_listed before) (move_of last ∷ []) (subst (AreTaken script start) listed_before taken)

  pub closed_before : (script : Script) (start : Process) → IsTermOf script start → AreTaken script start (moves_listed items) → IsTermOf script (behind start (moves_listed before))
  closed_before script start h taken = closed_behind script start (moves_listed before) h (taken_before script start taken)

  -- all but it are left
  pub left_before : (after : List (Move A)) (n : ℕ) → n ≡ length items → after ≡ take (n - 1) items → after ≡ before
  left_before after n long cut = cut ∙ ap (λ k. take (k - 1) items) long ∙ ap (λ xs. take (length xs - 1) xs) is ∙ all_before before last

  pub back_before : moves_listed before ≡ take (length (moves_listed items) - 1) (moves_listed items)
  back_before = sym (all_before (moves_listed before) (move_of last)) ∙ ap (λ (ms : List pure.Move). take (length ms - 1) ms) (sym listed_before)

shows_back : (trail : Trail) (moves : List pure.Move) (m : pure.Move) → going_back trail (moves ++ m ∷ []) ≡ Shows (back trail)
shows_back trail [] m = refl
shows_back trail (k ∷ moves) m = refl

-- one goes back, where a move was taken
pub follows_back : (trail : Trail) (moves : List pure.Move) (m : pure.Move) (p q : Place) → trail.taken ≡ moves ++ m ∷ [] → q.trail ≡ back trail → Follows (going_back trail trail.taken) p answer.Shown q
follows_back trail moves m p q is there = subst (λ a. Follows a p answer.Shown q) (sym (ap (going_back trail) is ∙ shows_back trail moves m)) there

pub follows_start : {A : Type 0} (items : List (Move A)) (trail : Trail) (p : Place) (words : Bor (List ℕ)) → length items ≡ 0 → trail.taken ≡ moves_listed items → words.now ≡ codes "this is the start\n" →
    Follows (going_back trail trail.taken) p (answer.Said words) p
follows_start items trail p words none is said = subst (λ a. Follows a p (answer.Said words) p) (sym (ap (going_back trail) (is ∙ ap moves_listed (none_left items none)))) (said, refl)

-- ---- a move of the menu

pub item_at : {A : Type 0} (moves : List (Move A)) (all : List pure.Move) (i : ℕ) (m : Move A) → moves_listed moves ≡ all → i < length moves → m ≡ get_or moves i m → slice_get all i ≡ Some (move_of m)
item_at moves all i m same low read = subst (λ ms. slice_get ms i ≡ Some (move_of m)) same (mapped_at move_of moves i m (slice_get-get_or moves i m low ∙ ap Some (sym read)))

-- the one that is named alone is taken
pub follows_named : (moves : List pure.Move) (trail : Trail) (place : ℕ) (found : List pure.Move) (p q : Place) (m : pure.Move) → IsNamed moves (meant.One place) found → slice_get moves place ≡ Some m →
    q.trail ≡ further trail m → Follows (answer_by trail found) p answer.Shown q
follows_named moves trail place found p q m (k, there, is) at leads =
    let e : Some m ≡ Some k = sym at ∙ there in
    subst (λ f. Follows (answer_by trail f) p answer.Shown q) (sym is) (leads ∙ ap (further trail) (cc e))

pub follows_nothing : (trail : Trail) (found : List pure.Move) (p : Place) (words : Bor (List ℕ)) → found ≡ [] → words.now ≡ codes "no such step: a number, the text of an event, u or q\n" →
    Follows (answer_by trail found) p (answer.Said words) p
follows_nothing trail found p words is said = subst (λ f. Follows (answer_by trail f) p (answer.Said words) p) (sym is) (said, refl)

pub follows_several : (moves : List pure.Move) (trail : Trail) (found : List pure.Move) (p : Place) (words : Bor (List ℕ)) → IsNamed moves meant.Several found →
    words.now ≡ codes "several steps do that: take one by its number\n" → Follows (answer_by trail found) p (answer.Said words) p
follows_several moves trail found p words (m, other, others, is) said = subst (λ f. Follows (answer_by trail f) p (answer.Said words) p) (sym is) (said, refl)

-- ---- walks

module _ {A : Type 0} (script : Script) (start : Process) (menu : pure.Menu) where
  -- what is so of a list of moves is so of the moves that were kept
  pub menu_behind : (taken others : List (Move A)) (t : Process) → taken ≡ others → t ≡ behind start (moves_listed others) → IsMenu script t menu → IsMenu script (behind start (moves_listed taken)) menu
  menu_behind taken others t same is offered = subst (λ (ms : List (Move A)). IsMenu script (behind start (moves_listed ms)) menu) (sym same) (subst (λ u. IsMenu script u menu) is offered)

  pub menu_begun : (taken : List (Move A)) → taken ≡ [] → IsMenu script start menu → IsMenu script (behind start (moves_listed taken)) menu
  menu_begun taken none offered = menu_behind taken [] start none refl offered

pub taken_same : {A : Type 0} (script : Script) (start : Process) (taken others : List (Move A)) → taken ≡ others → AreTaken script start (moves_listed others) → AreTaken script start (moves_listed taken)
taken_same {A} script start taken others same are = subst (λ (ms : List (Move A)). AreTaken script start (moves_listed ms)) (sym same) are

-- the trail of a walk
abbrev pub trail : {A : Type 0} → Process → List (Move A) → Trail
trail start items = record { start = start; taken = moves_listed items }

abbrev pub with_moves : Process → List pure.Move → Trail
with_moves start moves = record { start = start; taken = moves }

pub trail_back : {A : Type 0} (start : Process) (items before after : List (Move A)) (last : Move A) → items ≡ before ++ last ∷ [] → after ≡ before →
    trail start after ≡ back (trail start items)
trail_back start items before after last is left =
    ap (λ (ms : List pure.Move). with_moves start ms) (ap moves_listed left ∙ back_before items before last is)

-- ---- the move that is taken

module _ {A : Type 0} (script : Script) (start : Process) (taken after : List (Move A)) (menu : pure.Menu) (place : ℕ) (m : Move A) (are : AreTaken script start (moves_listed taken))
    (is : IsMenu script (behind start (moves_listed taken)) menu) (at : slice_get (pure.moves_in menu) place ≡ Some (move_of m)) where
  -- it leads to a term of the script
  pub leads_closed : IsTermOf script start → IsTermOf script (move_of m).target
  leads_closed h = move_closed script start (moves_listed taken) menu place (move_of m) h are is at

  pub taken_longer : after ≡ taken ++ m ∷ [] → AreTaken script start (moves_listed after)
  taken_longer more = subst (AreTaken script start) (sym (listed_before after taken m more)) (move_taken script start (moves_listed taken) menu place (move_of m) are is at)

  -- what is offered there
  pub menu_longer : (other : Move A) (next : pure.Menu) → after ≡ taken ++ m ∷ [] → slice_get (pure.moves_in menu) place ≡ Some (move_of other) → IsMenu script (move_of other).target next →
      IsMenu script (behind start (moves_listed after)) next
  menu_longer other next more there offered =
      let e : Some (move_of other) ≡ Some (move_of m) = sym there ∙ at in
      let same : move_of other ≡ move_of m = cc e in
      subst (λ t. IsMenu script t next) (ap (λ (k : pure.Move). k.target) same ∙ sym (leads_last after taken m more start)) offered

  pub trail_longer : after ≡ taken ++ m ∷ [] → trail start after ≡ further (trail start taken) (move_of m)
  trail_longer more = ap (λ (ms : List pure.Move). with_moves start ms) (listed_before after taken m more)
