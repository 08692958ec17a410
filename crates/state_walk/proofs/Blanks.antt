-- Texts without the blanks around them.
use Rattle.std.proofs.Common.{◌≡◌, ℕ, Bool, true, false, List, [], ◌∷◌, ◌++◌, length, reverse, refl, sym, ◌∙◌, ap, arith}
use Rattle.std.proofs.lemmas.List.{reverse-append, reverse-reverse}
use Rattle.std.specs.Prelude.{if◌then◌else◌}
use Rattle.theory_walk.specs.Commands.{is_blank, without_blanks}

-- without those at the end
abbrev pub without_last : List ℕ → List ℕ
without_last text = reverse (without_blanks (reverse text))

-- ---- the first

first_if : (b : Bool) (byte : ℕ) (others kept : List ℕ) → is_blank byte ≡ b → without_blanks (byte ∷ others) ≡ (if b then without_blanks others else byte ∷ others)
first_if b byte others kept is = ap (λ t. if t then without_blanks others else byte ∷ others) is

pub first_gone : (text rest others : List ℕ) (byte : ℕ) → rest ≡ byte ∷ others → is_blank byte ≡ true → without_blanks rest ≡ without_blanks text → without_blanks others ≡ without_blanks text
first_gone text rest others byte is blank same = sym (first_if true byte others [] blank) ∙ ap without_blanks (sym is) ∙ same

pub first_kept : (text rest others : List ℕ) (byte : ℕ) → rest ≡ byte ∷ others → is_blank byte ≡ false → without_blanks rest ≡ without_blanks text → rest ≡ without_blanks text
first_kept text rest others byte is blank same = is ∙ sym (first_if false byte others [] blank) ∙ ap without_blanks (sym is) ∙ same

pub none_first : (text rest : List ℕ) → length rest ≡ 0 → without_blanks rest ≡ without_blanks text → rest ≡ without_blanks text
none_first text [] none same = same
none_first text (byte ∷ rest) none same = absurd (omega (arith, none))

-- ---- the last

turned : (others : List ℕ) (byte : ℕ) (rest : List ℕ) → rest ≡ others ++ byte ∷ [] → reverse rest ≡ byte ∷ reverse others
turned others byte rest is = ap reverse is ∙ reverse-append others (byte ∷ [])

pub last_gone : (text rest others : List ℕ) (byte : ℕ) → rest ≡ others ++ byte ∷ [] → is_blank byte ≡ true → without_last rest ≡ without_last text → without_last others ≡ without_last text
last_gone text rest others byte is blank same =
    ap reverse (sym (first_if true byte (reverse others) [] blank) ∙ ap without_blanks (sym (turned others byte rest is))) ∙ same

pub last_kept : (text rest others : List ℕ) (byte : ℕ) → rest ≡ others ++ byte ∷ [] → is_blank byte ≡ false → without_last rest ≡ without_last text → rest ≡ without_last text
last_kept text rest others byte is blank same =
    let turn = turned others byte rest is in
    sym (reverse-reverse rest) ∙ ap reverse (turn ∙ sym (first_if false byte (reverse others) [] blank) ∙ ap without_blanks (sym turn)) ∙ same

pub none_last : (text rest : List ℕ) → length rest ≡ 0 → without_last rest ≡ without_last text → rest ≡ without_last text
none_last text [] none same = same
none_last text (byte ∷ rest) none same = absurd (omega (arith, none))
