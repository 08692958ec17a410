-- A walk on its way, from one line to the next.
use Rattle.std.proofs.Common.{◌≡◌, ◌∙◌, ℕ, Bool, true, false, List, [], ◌++◌, Some, None, take, refl, sym, ap, subst, append-nil, inl, inr}
use Rattle.std.specs.Prelude.{◌⊎◌, Option}
use Rattle.std.specs.Borrow.{Bor}
use Rattle.std.specs.Io.KnownBytes.{Consumes}
use Rattle.std.proofs.KnownBytes.{Consumes-nil, Consumes-trans}
use Rattle.theory_syntax.specs.Process.{Process, Script}
use Rattle.theory_notation.specs.Names.{Names}
use Rattle.theory_explanation.specs.Cutting.{Width}
use Rattle.theory_walk.specs.Answers as pure
use Rattle.theory_walk.specs.Moves.{IsMenu}
use Rattle.theory_walk.specs.Trails.{begun, here}
use Rattle.theory_walk.specs.Walks.{IsGiven, IsWalk, Place, answer_to, shown}
use Rattle.theory_walk.proofs.Going.{walk_more}
use Rattle.report.specs.Sending.{Sends}
use Rattle.report.proofs.Sending.{both, later}
use Rattle.state_walk.specs.Answers.{Follows}
use Rattle.state_walk.specs.declared.answer.Answer.TheVariants as answer
use Rattle.program.specs.Given.{Sent, sent}
use Rattle.program.specs.declared.refusal.Refusal.TheVariants as refusal
use Rattle.walk_program.specs.Asking.{IsStart, Request}
use Rattle.walk_program.specs.Lines.{IsLineRead, IsSomeRead, IsWithin, as_command, commands_of, with_end}
use Rattle.walk_program.specs.Stops.{LeavesText, StopsReading}
use Rattle.walk_program.specs.Walking.{IsAnswered, IsBegun, IsUnwalked, IsWalkText, IsWalked}
use Rattle.walk_program.specs.declared.stop.Stop.{Stop}
use Rattle.walk_program.specs.declared.stop.Stop.TheVariants as stop
use Rattle.walk_program.proofs.ReadLines.{AreWhole, command_more, command_of_kept, more_are_whole, none_are_whole, nothing_kept}

-- ---- what the code answers to a line

-- where it shows the state, that is what is asked for
pub given_shown : (script : Script) (names : Names) (width : Width) (a : pure.Answer) (p q : Place) → Follows a p answer.Shown q → IsMenu script (here q.trail) q.menu → IsGiven script names width p a (shown names width q) (Some q)
given_shown script names width (pure.Shows trail) p q is menu = (q, record { there = is; menu = subst (λ t. IsMenu script (here t) q.menu) is menu }, refl, refl)
given_shown script names width (pure.Says text) p q is menu = absurd is
given_shown script names width pure.Ends p q is menu = absurd is

-- so are the words that it says
pub given_said : (script : Script) (names : Names) (width : Width) (a : pure.Answer) (p q : Place) (words : Bor (List ℕ)) → Follows a p (answer.Said words) q → IsGiven script names width p a words.now (Some q)
given_said script names width (pure.Shows trail) p q words is = absurd is
given_said script names width (pure.Says text) p q words is = (is.0, ap (λ r. Some r) is.1)
given_said script names width pure.Ends p q words is = absurd is

-- what is left of an answer that does not go out
pub answered_by : (why : Stop) (script : Script) (names : Names) (width : Width) (p : Place) (command text : List ℕ) (next : Option Place) (out : Sent) → IsGiven script names width p (answer_to names p command) text next →
    LeavesText why (λ WentOut. WentOut text) out → LeavesText why (λ WentOut. (x : Option Place) × IsAnswered script names width p command x WentOut) out
answered_by (stop.Refused (refusal.File f)) script names width p command text next out given left = absurd left
answered_by (stop.Refused (refusal.Text f l)) script names width p command text next out given left = absurd left
answered_by (stop.Refused (refusal.Grammar f l)) script names width p command text next out given left = absurd left
answered_by (stop.Refused (refusal.Kinds f l)) script names width p command text next out given left = absurd left
answered_by (stop.Refused refusal.Memory) script names width p command text next out given left = left
answered_by (stop.Refused refusal.Thread) script names width p command text next out given left = absurd left
answered_by (stop.Refused refusal.Output) script names width p command text next out given left = (next, record { text = text; given = given; sent = left })
answered_by stop.NoAssertion script names width p command text next out given left = absurd left
answered_by stop.NoSpecification script names width p command text next out given left = absurd left
answered_by stop.Input script names width p command text next out given left = absurd left

-- ---- on the way

-- What went out is the text of a walk by what was read, in whole lines, and it goes on at the place.
pub record GoesOn (request : Request) (script : Script) (names : Names) (start : Process) (first now old new : Option (List ℕ)) (failed : Bool) (p : Place) : Type 0 where
  pub bytes : List ℕ
  pub text : List ℕ
  pub whole : AreWhole bytes
  pub read : Consumes first now bytes
  pub walk : IsWalk script names request.width start (commands_of bytes) text (Some p)
  pub sent : Sends old new failed text

-- there is something in a line without an end
abbrev pub IsSome : Bool → List ℕ → Type 0
IsSome has_end kept = has_end ≡ false → kept ≡ [] → ⊥

module _ (request : Request) (script : Script) (names : Names) (start : Process) where
  -- the start alone is a walk
  alone : (p : Place) → p.trail ≡ begun start → IsMenu script (here p.trail) p.menu → IsWalk script names request.width start [] (shown names request.width p) (Some p)
  alone p at menu = record {
    first = p;
    begins = record { there = at; menu = subst (λ t. IsMenu script (here t) p.menu) at menu };
    rest = [];
    goes = (refl, refl);
    told = sym (append-nil (shown names request.width p));
  }

  pub begins : (first old new : Option (List ℕ)) (failed : Bool) (p : Place) → p.trail ≡ begun start → IsMenu script (here p.trail) p.menu → Sends old new failed (shown names request.width p) →
      GoesOn request script names start first first old new failed p
  begins first old new failed p at menu sends = record {
    bytes = [];
    text = shown names request.width p;
    whole = none_are_whole;
    read = Consumes-nil first;
    walk = alone p at menu;
    sent = sends;
  }

  -- with one command more
  with_command : (bytes text line kept more : List ℕ) (has_end : Bool) (p : Place) (next : Option Place) → AreWhole bytes → IsWithin line → kept ≡ take 4097 line → IsSome has_end kept →
      IsWalk script names request.width start (commands_of bytes) text (Some p) → IsGiven script names request.width p (answer_to names p (as_command kept)) more next →
      IsWalk script names request.width start (commands_of (bytes ++ with_end has_end line)) (text ++ more) next
  with_command bytes text line kept more has_end p next whole within is some walk given =
      let W : List (List ℕ) → Type 0 = λ ls. IsWalk script names request.width start ls (text ++ more) next in
      let G : List ℕ → Type 0 = λ k. IsGiven script names request.width p (answer_to names p k) more next in
      subst W (sym (command_more bytes line has_end whole within (λ last none. some last (is ∙ ap (take 4097) none))))
      (walk_more script names request.width start (commands_of bytes) text p (as_command line) more next walk (subst G (command_of_kept line kept is) given))

  -- a line with an end was answered, and the walk goes on
  pub goes_further : (first now later_on old mid new : Option (List ℕ)) (works failed : Bool) (kept : List ℕ) (p q : Place) → GoesOn request script names start first now old mid works p →
      IsLineRead (record { old = now; new = later_on }) kept true → IsAnswered script names request.width p (as_command kept) (Some q) (Sends mid new failed) → GoesOn request script names start first later_on old new failed q
  goes_further first now later_on old mid new works failed kept p q g line answered = record {
    bytes = g.bytes ++ with_end true line.line;
    text = g.text ++ answered.text;
    whole = more_are_whole g.bytes line.line g.whole line.within;
    read = Consumes-trans first now later_on g.bytes (with_end true line.line) g.read line.read;
    walk = with_command g.bytes g.text line.line kept answered.text true p (Some q) g.whole line.within line.beginning (λ last none. absurd (cc last)) g.walk answered.given;
    sent = both g.sent answered.sent;
  }

  module _ (asked : IsStart request script start) where
    walk_text : (bytes text : List ℕ) (next : Option Place) → IsWalk script names request.width start (commands_of bytes) text next → IsWalkText request script names bytes text next
    walk_text bytes text next walk = record { start = start; asked = asked; walk = walk }

    -- nothing was left of the input
    pub comes_to_the_end : (first now later_on : Option (List ℕ)) (out : Sent) (kept : List ℕ) (p : Place) → GoesOn request script names start first now out.old out.new out.failed p →
        IsLineRead (record { old = now; new = later_on }) kept false → kept ≡ [] → IsWalked request script names (record { old = first; new = later_on }) out
    comes_to_the_end first now later_on out kept p g line none =
        let nothing : line.line ≡ [] = nothing_kept line.line kept line.beginning none in
        let all : g.bytes ++ line.line ≡ g.bytes = ap (λ bs. g.bytes ++ bs) nothing ∙ append-nil g.bytes in
        record {
          bytes = g.bytes;
          text = g.text;
          next = Some p;
          is_walk = walk_text g.bytes g.text (Some p) g.walk;
          read = subst (Consumes first later_on) all (Consumes-trans first now later_on g.bytes line.line g.read line.read);
          to_the_end = inr (line.last refl);
          sent = g.sent;
        }

    -- a line was answered, which ends the walk or is the last one
    pub is_over : (first now later_on mid : Option (List ℕ)) (works : Bool) (out : Sent) (kept : List ℕ) (has_end : Bool) (p : Place) (next : Option Place) → GoesOn request script names start first now out.old mid works p →
        IsLineRead (record { old = now; new = later_on }) kept has_end → IsSome has_end kept → IsAnswered script names request.width p (as_command kept) next (Sends mid out.new out.failed) →
        (next ≡ None) ⊎ (has_end ≡ false) → IsWalked request script names (record { old = first; new = later_on }) out
    is_over first now later_on mid works out kept has_end p next g line some answered over = record {
      bytes = g.bytes ++ with_end has_end line.line;
      text = g.text ++ answered.text;
      next = next;
      is_walk = walk_text _ _ next (with_command g.bytes g.text line.line kept answered.text has_end p next g.whole line.within line.beginning some g.walk answered.given);
      read = Consumes-trans first now later_on g.bytes (with_end has_end line.line) g.read line.read;
      to_the_end = elim over [
        | inl ended ↦ inl ended
        | inr last ↦ inr (line.last last)
      ];
      sent = both g.sent answered.sent;
    }

    -- ---- where it is stopped

    so_far : (first now later_on old new : Option (List ℕ)) (failed : Bool) (p : Place) (unused : List ℕ) → GoesOn request script names start first now old new failed p → Consumes now later_on unused →
        IsBegun request script names (record { old = first; new = later_on }) (Sends old new failed)
    so_far first now later_on old new failed p unused g more = record {
      bytes = g.bytes;
      unused = unused;
      text = g.text;
      next = Some p;
      is_walk = walk_text g.bytes g.text (Some p) g.walk;
      read = Consumes-trans first now later_on g.bytes unused g.read more;
      sent = g.sent;
    }

    -- at the start
    pub unshown : {S : Type 0} (why : Stop) (taken : S → Option (List ℕ)) (has_failed : S → Bool) (old new : S) (first : Option (List ℕ)) (p : Place) → p.trail ≡ begun start → IsMenu script (here p.trail) p.menu →
        LeavesText why (λ WentOut. WentOut (shown names request.width p)) (sent taken has_failed old new) → IsUnwalked request script names (record { old = first; new = first }) why (sent taken has_failed old new)
    unshown (stop.Refused (refusal.File f)) taken has_failed old new first p at menu left = absurd left
    unshown (stop.Refused (refusal.Text f l)) taken has_failed old new first p at menu left = absurd left
    unshown (stop.Refused (refusal.Grammar f l)) taken has_failed old new first p at menu left = absurd left
    unshown (stop.Refused (refusal.Kinds f l)) taken has_failed old new first p at menu left = absurd left
    unshown (stop.Refused refusal.Memory) taken has_failed old new first p at menu left = inl left
    unshown (stop.Refused refusal.Thread) taken has_failed old new first p at menu left = absurd left
    unshown (stop.Refused refusal.Output) taken has_failed old new first p at menu left = record {
      bytes = [];
      unused = [];
      text = shown names request.width p;
      next = Some p;
      is_walk = walk_text [] _ (Some p) (alone p at menu);
      read = Consumes-nil first;
      sent = left;
    }
    unshown stop.NoAssertion taken has_failed old new first p at menu left = absurd left
    unshown stop.NoSpecification taken has_failed old new first p at menu left = absurd left
    unshown stop.Input taken has_failed old new first p at menu left = absurd left

    -- where no line could be read
    pub unread : (why : Stop) (first now later_on : Option (List ℕ)) (out : Sent) (p : Place) → StopsReading why → GoesOn request script names start first now out.old out.new out.failed p →
        IsSomeRead (record { old = now; new = later_on }) → IsUnwalked request script names (record { old = first; new = later_on }) why out
    unread (stop.Refused (refusal.File f)) first now later_on out p is g more = absurd is
    unread (stop.Refused (refusal.Text f l)) first now later_on out p is g more = absurd is
    unread (stop.Refused (refusal.Grammar f l)) first now later_on out p is g more = absurd is
    unread (stop.Refused (refusal.Kinds f l)) first now later_on out p is g more = absurd is
    unread (stop.Refused refusal.Memory) first now later_on out p is g more = inr (so_far first now later_on out.old out.new out.failed p more.0 g more.1)
    unread (stop.Refused refusal.Thread) first now later_on out p is g more = absurd is
    unread (stop.Refused refusal.Output) first now later_on out p is g more = absurd is
    unread stop.NoAssertion first now later_on out p is g more = absurd is
    unread stop.NoSpecification first now later_on out p is g more = absurd is
    unread stop.Input first now later_on out p is g more = so_far first now later_on out.old out.new out.failed p more.0 g more.1

    -- where a line was not answered
    pub unanswered : {S : Type 0} (why : Stop) (taken : S → Option (List ℕ)) (has_failed : S → Bool) (old mid new : S) (first now later_on : Option (List ℕ)) (kept : List ℕ) (has_end : Bool) (p : Place) →
        GoesOn request script names start first now (taken old) (taken mid) (has_failed mid) p → IsLineRead (record { old = now; new = later_on }) kept has_end → IsSome has_end kept →
        LeavesText why (λ WentOut. (next : Option Place) × IsAnswered script names request.width p (as_command kept) next WentOut) (sent taken has_failed mid new) →
        IsUnwalked request script names (record { old = first; new = later_on }) why (sent taken has_failed old new)
    unanswered {S = S} (stop.Refused (refusal.File f)) taken has_failed old mid new first now later_on kept has_end p g line some left = absurd left
    unanswered {S = S} (stop.Refused (refusal.Text f l)) taken has_failed old mid new first now later_on kept has_end p g line some left = absurd left
    unanswered {S = S} (stop.Refused (refusal.Grammar f l)) taken has_failed old mid new first now later_on kept has_end p g line some left = absurd left
    unanswered {S = S} (stop.Refused (refusal.Kinds f l)) taken has_failed old mid new first now later_on kept has_end p g line some left = absurd left
    unanswered {S = S} (stop.Refused refusal.Memory) taken has_failed old mid new first now later_on kept has_end p g line some left =
        let G : S → Type 0 = λ s. GoesOn request script names start first now (taken old) (taken s) (has_failed s) p in
        inr (so_far first now later_on (taken old) (taken new) (has_failed new) p (with_end has_end line.line) (subst G (sym left) g) line.read)
    unanswered {S = S} (stop.Refused refusal.Thread) taken has_failed old mid new first now later_on kept has_end p g line some left = absurd left
    unanswered {S = S} (stop.Refused refusal.Output) taken has_failed old mid new first now later_on kept has_end p g line some left =
        let bytes : List ℕ = g.bytes ++ with_end has_end line.line in
        record {
          bytes = bytes;
          unused = [];
          text = g.text ++ left.1.text;
          next = left.0;
          is_walk = walk_text bytes _ left.0 (with_command g.bytes g.text line.line kept left.1.text has_end p left.0 g.whole line.within line.beginning some g.walk left.1.given);
          read = subst (Consumes first later_on) (sym (append-nil bytes)) (Consumes-trans first now later_on g.bytes (with_end has_end line.line) g.read line.read);
          sent = later g.sent left.1.sent;
        }
    unanswered {S = S} stop.NoAssertion taken has_failed old mid new first now later_on kept has_end p g line some left = absurd left
    unanswered {S = S} stop.NoSpecification taken has_failed old mid new first now later_on kept has_end p g line some left = absurd left
    unanswered {S = S} stop.Input taken has_failed old mid new first now later_on kept has_end p g line some left = absurd left
