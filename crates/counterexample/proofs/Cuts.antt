-- Texts that are told whole, and those of which a beginning is told.
use Rattle.std.proofs.Common.{◌≡◌, ℕ, ◌-◌, ◌<◌, ◌≤◌, List, [], ◌++◌, length, take, if◌then◌else◌, sym, ap}
use Rattle.std.proofs.lemmas.Bool.{le-leb, lt-leb}
use Rattle.std.specs.Prelude.{codes, decimal}
use Rattle.std.specs.Str.{chars, encode_utf8_all}
use Rattle.theory_explanation.specs.Counterparts.{more_line}
use Rattle.theory_explanation.specs.Cutting.{cut_after}

pub cut_of_short : (n : ℕ) (text : List ℕ) → length (chars text) ≤ n → text ≡ cut_after n text
cut_of_short n text short =
    sym (ap (λ b. if b then text else encode_utf8_all (take n (chars text)) ++ (codes " .. " ++ (decimal (length (chars text) - n) ++ codes " more characters"))) (le-leb (length (chars text)) n short))

pub cut_of_long : (n : ℕ) (text : List ℕ) → n < length (chars text) → encode_utf8_all (take n (chars text)) ++ (codes " .. " ++ (decimal (length (chars text) - n) ++ codes " more characters")) ≡ cut_after n text
cut_of_long n text long =
    sym (ap (λ b. if b then text else encode_utf8_all (take n (chars text)) ++ (codes " .. " ++ (decimal (length (chars text) - n) ++ codes " more characters"))) (lt-leb (length (chars text)) n long))

pub no_more : (few all : ℕ) → all ≤ few → [] ≡ more_line few all
no_more few all enough = sym (ap (λ b. if b then [] else codes "      specification: and " ++ (decimal (all - few) ++ codes " more\n")) (le-leb all few enough))

pub some_more : (few all : ℕ) → few < all → codes "      specification: and " ++ (decimal (all - few) ++ codes " more\n") ≡ more_line few all
some_more few all more = sym (ap (λ b. if b then [] else codes "      specification: and " ++ (decimal (all - few) ++ codes " more\n")) (lt-leb all few more))
