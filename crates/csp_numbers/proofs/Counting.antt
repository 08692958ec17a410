-- Numbers as digits, and products that are cut off at a greatest number.
use Rattle.std.proofs.Common.{◌≡◌, ℕ, zero, suc, ◌+◌, ◌*◌, ◌/◌, ◌%◌, ◌<◌, ◌≤◌, min, ⊎_elim, sym, ◌∙◌, ap, subst, arith}
use Rattle.std.proofs.lemmas.Bool.{cases_lt}
use Rattle.std.proofs.Math.Nat.{div-lt_iff_lt-mul, le-mul_of_pos_right, mod-lt, mul_assoc, mul-div_cancel_left, mul-zero, zero-mul}
use Rattle.std.proofs.lemmas.Nat.{div-add-mod'}

-- ---- a number below a product

module _ (number count k c : ℕ) (counted : count ≡ k * c) (within : number < count) where
  under : number < k * c
  under = subst (λ n. number < n) counted within

  pub some_values : 0 < k
  some_values = by_size k under
    where
      by_size : (n : ℕ) → number < n * c → 0 < n
      by_size zero h = absurd (omega (arith, subst (λ m. number < m) (zero-mul c) h))
      by_size (suc n) h = omega arith

  pub some_lists : 0 < c
  some_lists = by_size c under
    where
      by_size : (n : ℕ) → number < k * n → 0 < n
      by_size zero h = absurd (omega (arith, h))
      by_size (suc n) h = omega arith

  pub lists_left : count / k ≡ c
  lists_left = ap (λ n. n / k) counted ∙ mul-div_cancel_left c some_values

  pub value_within : number / c < k
  value_within = (div-lt_iff_lt-mul some_lists).1 under

  pub list_within : number % c < c
  list_within = mod-lt number some_lists

pub digits : (number c : ℕ) → number / c * c + number % c ≡ number
digits = div-add-mod'

-- ---- products that are cut off

least_below : (x m : ℕ) → x ≤ m → min x m ≡ x
least_below x m h = omega (arith, h)

least_beyond : (x m : ℕ) → m ≤ x → min x m ≡ m
least_beyond x m h = omega (arith, h)

pub cut_fits : (n x m : ℕ) → n ≡ min x m → n ≤ m
cut_fits n x m is = omega (arith, is)

-- what is cut off at each factor is what is cut off at last
pub cut_off : (m a b : ℕ) → min (min a m * b) m ≡ min (a * b) m
cut_off m a b = ⊎_elim (λ beyond. by_factor b beyond) (λ below. ap (λ n. min (n * b) m) (least_below a m below)) (cases_lt m a)
  where
    by_factor : (n : ℕ) → m < a → min (min a m * n) m ≡ min (a * n) m
    by_factor zero beyond = ap (λ k. min k m) (mul-zero (min a m) ∙ sym (mul-zero a))
    by_factor (suc n) beyond =
        let least : min a m ≡ m = least_beyond a m (omega (arith, beyond)) in
        let left : m ≤ m * suc n = le-mul_of_pos_right m (omega arith) in
        let right : a ≤ a * suc n = le-mul_of_pos_right a (omega arith) in
        ap (λ k. min (k * suc n) m) least ∙ least_beyond (m * suc n) m left ∙ sym (least_beyond (a * suc n) m (omega (arith, right, beyond)))

-- one factor more
pub cut_off_more : (m count k rest total : ℕ) → min (count * (k * rest)) m ≡ min total m → min (min (count * k) m * rest) m ≡ min total m
cut_off_more m count k rest total so_far = cut_off m (count * k) rest ∙ ap (λ n. min n m) (mul_assoc count k rest) ∙ so_far
