-- The first read that doesn't agree.
use Rattle.std.proofs.Common.{◌≡◌, ℕ, zero, suc, ◌+◌, ◌<◌, List, [], ◌∷◌, Option, Some, None, refl, sym, ap, ◌∙◌, subst, length, slice_get, arith, below_more}
use Rattle.std.specs.List.{AllByRecursion}
use Rattle.ps_memory.specs.Memory.{Memory, value_at}
use Rattle.access_log.specs.declared.log.Read.{Read}
use Rattle.access_log.specs.Agreement.{Agrees, AgreeBefore, Disagrees, IsFirst}

each : (M : Memory) (rs : List Read) → AgreeBefore M rs (length rs) → AllByRecursion (Agrees M) rs
each M [] h = tt
each M (r ∷ rs) h = (h zero (omega arith) r refl, each M rs (λ k l q i. h (suc k) (omega (arith, l)) q i))

pub all_agree : (M : Memory) (rs : List Read) (n : ℕ) → AgreeBefore M rs n → (n < length rs → ⊥) → AllByRecursion (Agrees M) rs
all_agree M rs n h e = each M rs (λ k l q i. h k (omega (arith, l, e)) q i)

pub one_other : (M : Memory) (rs : List Read) (n : ℕ) (r : Read) → AgreeBefore M rs n → slice_get rs n ≡ Some r → (value_at M r.at ≡ r.value → ⊥) → IsFirst M rs n
one_other M rs n r h e d = record { before = h; here = subst (Disagrees M) (sym e) d }

same_read : (x y : Read) → Some x ≡ Some y → x ≡ y
same_read x y e = cc

pub one_more : (M : Memory) (rs : List Read) (n : ℕ) (r : Read) → AgreeBefore M rs n → slice_get rs n ≡ Some r → value_at M r.at ≡ r.value → AgreeBefore M rs (n + 1)
one_more M rs n r h e a = below_more (λ k. (q : Read) → slice_get rs k ≡ Some q → Agrees M q) n h (λ q i. subst (Agrees M) (same_read r q (sym e ∙ i)) a)
