-- The steps of the bisection.
use Rattle.std.proofs.Common.{◌≡◌, ℕ, zero, suc, ◌+◌, ◌-◌, ◌/◌, ◌<◌, ◌≤◌, refl, ap, ap₂, sym, ◌∙◌, Bool, true, false, cond, nat_lt, arith}
use Rattle.std.proofs.lemmas.Bool.Decides.{nat_tests}
use Rattle.ps_fixed.specs.ArcTangents.{is_no_steeper, bisection_by, bisection}

below_true : (a b : ℕ) → a < b → nat_lt a b ≡ true
below_true a b h = grind (arith, nat_tests)

below_false : (a b : ℕ) → b ≤ a → nat_lt a b ≡ false
below_false a b h = grind (arith, nat_tests)

ends : (g lo hi num den : ℕ) → hi - lo ≤ 1 → bisection_by (suc g) lo hi num den ≡ lo
unfolding bisection_by
ends g lo hi num den h =
    ap (λ (b : Bool). cond b (cond (is_no_steeper ((lo + hi) / 2) num den) (bisection_by g ((lo + hi) / 2) hi num den) (bisection_by g lo ((lo + hi) / 2) num den)) lo)
    (below_false 1 (hi - lo) h)

goes : (g lo hi num den : ℕ) → 1 < hi - lo → bisection_by (suc g) lo hi num den ≡ cond (is_no_steeper ((lo + hi) / 2) num den) (bisection_by g ((lo + hi) / 2) hi num den) (bisection_by g lo ((lo + hi) / 2) num den)
unfolding bisection_by
goes g lo hi num den h =
    ap (λ (b : Bool). cond b (cond (is_no_steeper ((lo + hi) / 2) num den) (bisection_by g ((lo + hi) / 2) hi num den) (bisection_by g lo ((lo + hi) / 2) num den)) lo)
    (below_true 1 (hi - lo) h)

-- steps that are enough give the same place
both : (f g lo hi num den : ℕ) → hi - lo ≤ suc f → hi - lo ≤ suc g
    → (hi - (lo + hi) / 2 ≤ f → hi - (lo + hi) / 2 ≤ g → bisection_by f ((lo + hi) / 2) hi num den ≡ bisection_by g ((lo + hi) / 2) hi num den)
    → ((lo + hi) / 2 - lo ≤ f → (lo + hi) / 2 - lo ≤ g → bisection_by f lo ((lo + hi) / 2) num den ≡ bisection_by g lo ((lo + hi) / 2) num den)
    → (t : Bool) → nat_lt 1 (hi - lo) ≡ t → bisection_by (suc f) lo hi num den ≡ bisection_by (suc g) lo hi num den
both f g lo hi num den h k upper lower true e =
    let far : 1 < hi - lo = grind (arith, nat_tests) in
    goes f lo hi num den far ∙ ap₂ (λ (x y : ℕ). cond (is_no_steeper ((lo + hi) / 2) num den) x y) (upper (omega arith) (omega arith)) (lower (omega arith) (omega arith)) ∙ sym (goes g lo hi num den far)
both f g lo hi num den h k upper lower false e =
    let near : hi - lo ≤ 1 = grind (arith, nat_tests) in
    ends f lo hi num den near ∙ sym (ends g lo hi num den near)

first : (g lo hi num den : ℕ) → hi - lo ≤ 0 → bisection_by zero lo hi num den ≡ bisection_by (suc g) lo hi num den
unfolding bisection_by
first g lo hi num den h = sym (ends g lo hi num den (omega arith))

enough : (f g lo hi num den : ℕ) → hi - lo ≤ f → hi - lo ≤ g → bisection_by f lo hi num den ≡ bisection_by g lo hi num den
enough zero zero lo hi num den h k = refl
enough zero (suc g) lo hi num den h k = first g lo hi num den h
enough (suc f) zero lo hi num den h k = sym (first f lo hi num den k)
enough (suc f) (suc g) lo hi num den h k = both f g lo hi num den h k (enough f g ((lo + hi) / 2) hi num den) (enough f g lo ((lo + hi) / 2) num den) (nat_lt 1 (hi - lo)) refl

stepped : (lo hi num den : ℕ) → 1 < hi - lo → bisection lo hi num den ≡ cond (is_no_steeper ((lo + hi) / 2) num den) (bisection ((lo + hi) / 2) hi num den) (bisection lo ((lo + hi) / 2) num den)
unfolding bisection
stepped lo hi num den h =
    enough (hi - lo) (suc (hi - lo)) lo hi num den (omega arith) (omega arith) ∙ goes (hi - lo) lo hi num den h
    ∙ ap₂ (λ (x y : ℕ). cond (is_no_steeper ((lo + hi) / 2) num den) x y)
    (enough (hi - lo) (hi - (lo + hi) / 2) ((lo + hi) / 2) hi num den (omega arith) (omega arith))
    (enough (hi - lo) ((lo + hi) / 2 - lo) lo ((lo + hi) / 2) num den (omega arith) (omega arith))

pub step_low : (lo hi num den : ℕ) → 1 < hi - lo → is_no_steeper ((lo + hi) / 2) num den ≡ true → bisection ((lo + hi) / 2) hi num den ≡ bisection lo hi num den
step_low lo hi num den h e = sym (stepped lo hi num den h ∙ ap (λ (b : Bool). cond b (bisection ((lo + hi) / 2) hi num den) (bisection lo ((lo + hi) / 2) num den)) e)

pub step_high : (lo hi num den : ℕ) → 1 < hi - lo → is_no_steeper ((lo + hi) / 2) num den ≡ false → bisection lo ((lo + hi) / 2) num den ≡ bisection lo hi num den
step_high lo hi num den h e = sym (stepped lo hi num den h ∙ ap (λ (b : Bool). cond b (bisection ((lo + hi) / 2) hi num den) (bisection lo ((lo + hi) / 2) num den)) e)

pub at_end : (lo hi num den : ℕ) → hi - lo ≤ 1 → bisection lo hi num den ≡ lo
unfolding bisection
at_end lo hi num den h = enough (hi - lo) 1 lo hi num den (omega arith) h ∙ ends 0 lo hi num den h

pub below_high : (f low high num den : ℕ) → low < high → bisection_by f low high num den < high
unfolding bisection_by
below_high zero low high num den h = h
below_high (suc f) low high num den h =
    by (below_high f ((low + high) / 2) high num den) (below_high f low ((low + high) / 2) num den) (nat_lt 1 (high - low)) refl (is_no_steeper ((low + high) / 2) num den)
  where
    by : ((low + high) / 2 < high → bisection_by f ((low + high) / 2) high num den < high)
        → (low < (low + high) / 2 → bisection_by f low ((low + high) / 2) num den < (low + high) / 2)
        → (t : Bool) → nat_lt 1 (high - low) ≡ t → (b : Bool) → cond t (cond b (bisection_by f ((low + high) / 2) high num den) (bisection_by f low ((low + high) / 2) num den)) low < high
    by upper lower true e true = upper (omega arith)
    by upper lower true e false =
        let far : 1 < high - low = grind (arith, nat_tests) in
        let below = lower (omega arith) in
        omega arith
    by upper lower false e b = h
