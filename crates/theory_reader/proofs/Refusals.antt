-- Where a reader stops: no tokens of the form go on with the next token.
use Rattle.std.proofs.Common.{◌≡◌, ◌∙◌, false, List, [], ◌∷◌, ◌++◌, refl, sym, subst, append_assoc}
use Rattle.std.specs.Prelude.{Ok, Err}
use Rattle.theory_text.specs.Token.{PlacedToken}
use Rattle.theory_text.specs.Height.{Nest}
use Rattle.theory_reader.specs.Forms.{Form, Tree}
use Rattle.theory_reader.specs.Programs.{first, Standing, Outcome, Halt, Here}
use Rattle.theory_reader.specs.Reader.{reads, reads_to}
use Rattle.theory_reader.specs.Refused.{ReadsWhole, IsRefusedBehind}
use Rattle.theory_reader.proofs.Limits.{Bounds, reads_bounds}
use Rattle.theory_reader.proofs.Local.{at, Local, reads_local}

pub free_stop : (f : Form) (s : Standing) (left : List PlacedToken) → reads f s ≡ Err (Here, left) → reads_to false f s ≡ Err (Here, left)
free_stop f s left e = subst (λ o. Bounds o (reads_to false f s)) e (reads_bounds f s)

no_more : {A : Type 0} {x : A} {s : Standing} {e : Halt × List PlacedToken} {o : Outcome A} → o ≡ Ok (x, s) → o ≡ Err e → ⊥
no_more h k = let both = sym h ∙ k in absurd (cc both)

stops_whole : (f : Form) (Is : List PlacedToken → Tree f → Type 0) → ReadsWhole f Is → (ts : List PlacedToken) (n : Nest) (e : Halt × List PlacedToken) → reads_to false f (at ts n) ≡ Err e → (x : Tree f) → ¬ (Is ts x)
stops_whole f Is whole ts n e h x is = let m = whole ts x is n in no_more m.1 h

none_behind : (f : Form) (Is : List PlacedToken → Tree f → Type 0) → ReadsWhole f Is → (front left : List PlacedToken) (n : Nest) → ((later : List PlacedToken) → first later ≡ first left → reads_to false f (at (front ++ later) n) ≡ Err (Here, later)) →
    IsRefusedBehind Is front left
none_behind f Is whole front [] n follows = λ x is. stops_whole f Is whole (front ++ []) n (Here, []) (follows [] refl) x is
none_behind f Is whole front (t ∷ ts) n follows = λ more.
    stops_whole f Is whole (front ++ t ∷ more.0) n (Here, t ∷ more.0) (follows (t ∷ more.0) refl) more.1 (subst (λ us. Is us more.1) (append_assoc front (t ∷ []) more.0) more.2)

pub refused_here : (f : Form) (Is : List PlacedToken → Tree f → Type 0) → ReadsWhole f Is → (s : Standing) (left : List PlacedToken) → reads f s ≡ Err (Here, left) → (front : List PlacedToken) × (s.left ≡ front ++ left) × IsRefusedBehind Is front left
refused_here f Is whole s left e =
    let free = free_stop f s left e in
    let local : Local (reads_to false f) s (Err (Here, left)) = subst (Local (reads_to false f) s) free (reads_local false f s) in
    (local.0, local.1, none_behind f Is whole local.0 left s.nest local.2)
