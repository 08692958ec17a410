-- Lines that are read one after the other are those of all that was read.
use Rattle.std.proofs.Common.{◌≡◌, ◌∙◌, ◌≤◌, ℕ, zero, suc, Bool, true, false, nat_lt, List, [], ◌∷◌, ◌++◌, length, map, take, refl, sym, ap, append_assoc, arith, length-append, min}
use Rattle.std.specs.Prelude.{if◌then◌else◌, codes}
use Rattle.std.proofs.lemmas.Bool.{le-ltb, lt-ltb, ltb-false, ltb-true, ne_eqb}
use Rattle.std.proofs.lemmas.List.{length-take, take_all, take_at}
use Rattle.walk_program.specs.Lines.{IsWithin, as_command, before_first, commands_of, lines_of, with_end}

-- ---- bytes that are no end of a line

pub within_more : (line : List ℕ) (byte : ℕ) → IsWithin line → (byte ≡ 10 → ⊥) → IsWithin (line ++ byte ∷ [])
within_more [] byte is other = (other, tt)
within_more (b ∷ line) byte is other = (is.0, within_more line byte is.1 other)

-- ---- a line

-- a line with its end is the first of all
pub first_line : (line rest : List ℕ) → IsWithin line → lines_of (line ++ 10 ∷ rest) ≡ line ∷ lines_of rest
first_line [] rest is = refl
first_line (b ∷ line) rest is =
    rw (ne_eqb b 10 is.0) (ap (before_first b) (first_line line rest is.1))

-- one without an end is all that there is
last_line : (line : List ℕ) (byte : ℕ) → (byte ≡ 10 → ⊥) → IsWithin line → lines_of (byte ∷ line) ≡ (byte ∷ line) ∷ []
last_line [] byte other is = rw (ne_eqb byte 10 other) refl
last_line (b ∷ line) byte other is = rw (ne_eqb byte 10 other) (ap (before_first byte) (last_line line b is.0 is.1))

-- ---- whole lines

-- lines behind the bytes stand behind their lines
abbrev pub AreWhole : List ℕ → Type 0
AreWhole bytes = (rest : List ℕ) → lines_of (bytes ++ rest) ≡ lines_of bytes ++ lines_of rest

pub none_are_whole : AreWhole []
none_are_whole rest = refl

-- a line with its end, behind whole ones
with_line : (line rest : List ℕ) → IsWithin line → lines_of ((line ++ 10 ∷ []) ++ rest) ≡ line ∷ lines_of rest
with_line line rest is = ap lines_of (append_assoc line (10 ∷ []) rest) ∙ first_line line rest is

pub one_more : (bytes line : List ℕ) → AreWhole bytes → IsWithin line → lines_of (bytes ++ (line ++ 10 ∷ [])) ≡ lines_of bytes ++ line ∷ []
one_more bytes line whole is = whole (line ++ 10 ∷ []) ∙ ap (λ ls. lines_of bytes ++ ls) (first_line line [] is)

pub more_are_whole : (bytes line : List ℕ) → AreWhole bytes → IsWithin line → AreWhole (bytes ++ (line ++ 10 ∷ []))
more_are_whole bytes line whole is rest =
    let end : List ℕ = line ++ 10 ∷ [] in
    ap lines_of (append_assoc bytes end rest) ∙ whole (end ++ rest) ∙ ap (λ ls. lines_of bytes ++ ls) (with_line line rest is)
    ∙ sym (append_assoc (lines_of bytes) (line ∷ []) (lines_of rest)) ∙ ap (λ ls. ls ++ lines_of rest) (sym (one_more bytes line whole is))

-- ---- commands

map_more : (lines : List (List ℕ)) (line : List ℕ) → map as_command (lines ++ line ∷ []) ≡ map as_command lines ++ as_command line ∷ []
map_more [] line = refl
map_more (l ∷ lines) line = ap (λ ls. as_command l ∷ ls) (map_more lines line)

-- the command of a line that was read behind whole ones, whether it has an end, or is the last, and something
pub command_more : (bytes line : List ℕ) (has_end : Bool) → AreWhole bytes → IsWithin line → (has_end ≡ false → line ≡ [] → ⊥) →
    commands_of (bytes ++ with_end has_end line) ≡ commands_of bytes ++ as_command line ∷ []
command_more bytes line true whole is some = ap (map as_command) (one_more bytes line whole is) ∙ map_more (lines_of bytes) line
command_more bytes [] false whole is some = absurd (some refl refl)
command_more bytes (b ∷ line) false whole is some =
    ap (map as_command) (whole (b ∷ line) ∙ ap (λ ls. lines_of bytes ++ ls) (last_line line b is.0 is.1)) ∙ map_more (lines_of bytes) (b ∷ line)

-- ---- what is kept of a line

take_twice : (n : ℕ) (line : List ℕ) (byte : ℕ) → take n (take n line ++ byte ∷ []) ≡ take n (line ++ byte ∷ [])
take_twice zero line byte = refl
take_twice (suc n) [] byte = refl
take_twice (suc n) (b ∷ line) byte = ap (λ bs. b ∷ bs) (take_twice n line byte)

-- no more is kept
pub kept_few : (line kept : List ℕ) → kept ≡ take 4097 line → length kept ≤ 4097
kept_few line kept is = let size = ap length is ∙ length-take 4097 line in omega (arith, size)

-- where so much is kept, nothing more is
pub kept_full : (kept : List ℕ) (byte : ℕ) → length kept ≡ 4097 → kept ≡ take 4097 (kept ++ byte ∷ [])
kept_full kept byte full = sym (take_at kept (byte ∷ []) 4097 full)

-- else all is
pub kept_whole : (kept now : List ℕ) (byte : ℕ) → length kept ≤ 4096 → now ≡ kept ++ byte ∷ [] → now ≡ take 4097 (kept ++ byte ∷ [])
kept_whole kept now byte few is = let size = length-append kept (byte ∷ []) in is ∙ sym (take_all 4097 (kept ++ byte ∷ []) (omega (arith, few, size)))

pub kept_more : (line kept now : List ℕ) (byte : ℕ) → kept ≡ take 4097 line → now ≡ take 4097 (kept ++ byte ∷ []) → now ≡ take 4097 (line ++ byte ∷ [])
kept_more line kept now byte is more = more ∙ ap (λ bs. take 4097 (bs ++ byte ∷ [])) is ∙ take_twice 4097 line byte

-- whether a line is too long is seen of what is kept of it
seen_of_size : (n : ℕ) (long : Bool) → nat_lt 4096 n ≡ long → nat_lt 4096 (min 4097 n) ≡ long
seen_of_size n true long = let more = ltb-true 4096 n long in lt-ltb 4096 (min 4097 n) (omega (arith, more))
seen_of_size n false short = let few = ltb-false 4096 n short in le-ltb 4096 (min 4097 n) (omega (arith, few))

chosen : (seen long : Bool) (kept line : List ℕ) → seen ≡ long → (long ≡ false → kept ≡ line) → (if seen then codes "?" else kept) ≡ (if long then codes "?" else line)
chosen seen true kept line same whole = ap (λ b. if b then codes "?" else kept) same
chosen seen false kept line same whole = ap (λ b. if b then codes "?" else kept) same ∙ whole refl

pub command_of_kept : (line kept : List ℕ) → kept ≡ take 4097 line → as_command kept ≡ as_command line
command_of_kept line kept is =
    let long = nat_lt 4096 (length line) in
    let seen : nat_lt 4096 (length kept) ≡ long = ap (λ bs. nat_lt 4096 (length bs)) is ∙ ap (nat_lt 4096) (length-take 4097 line) ∙ seen_of_size (length line) long refl in
    chosen (nat_lt 4096 (length kept)) long kept line seen (λ short. is ∙ take_all 4097 line (let few = ltb-false 4096 (length line) short in omega (arith, few)))

-- where nothing is kept there is nothing
pub nothing_kept : (line kept : List ℕ) → kept ≡ take 4097 line → kept ≡ [] → line ≡ []
nothing_kept [] kept is none = refl
nothing_kept (b ∷ line) kept is none =
    let size = ap length is ∙ length-take 4097 (b ∷ line) in
    let nothing = ap length none in
    absurd (omega (arith, size, nothing))
