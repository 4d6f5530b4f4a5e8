-- Tests of a range of numbers.
use Rattle.std.proofs.Common.{◌≡◌, ℕ, ◌<◌, ◌≤◌, ◌&&◌, ◌||◌, Bool, true, false, nat_le, nat_lt, refl, sym, ◌∙◌, inl, inr, arith}
use Rattle.std.proofs.lemmas.Bool.{le-leb, lt-leb, lt-ltb, le-ltb, and_from, and_left, and_right, and_parts, leb-true, ltb-true, cases_lt}

pub in_range : (first past k : ℕ) → first ≤ k → k < past → (nat_le first k && nat_lt k past) ≡ true
in_range first past k p q = and_from _ _ (le-leb first k p) (lt-ltb k past q)

pub below_range : (first past k : ℕ) → k < first → (nat_le first k && nat_lt k past) ≡ false
below_range first past k p = and_left _ _ (lt-leb first k p)

pub above_range : (first past k : ℕ) → past ≤ k → (nat_le first k && nat_lt k past) ≡ false
above_range first past k p = and_right (nat_le first k) _ (le-ltb k past p)

pub bool_same : (b c : Bool) → (b ≡ true → c ≡ true) → (c ≡ true → b ≡ true) → b ≡ c
bool_same true c p q = sym (p refl)
bool_same false true p q = q refl
bool_same false false p q = refl

pub range_true : (first past k : ℕ) → (nat_le first k && nat_lt k past) ≡ true → (first ≤ k) × (k < past)
range_true first past k h = let p = and_parts (nat_le first k) (nat_lt k past) h in (leb-true first k p.0, ltb-true k past p.1)

pub same_range : (f p n g q m : ℕ) → (f ≤ n → n < p → (g ≤ m) × (m < q)) → (g ≤ m → m < q → (f ≤ n) × (n < p)) → (nat_le f n && nat_lt n p) ≡ (nat_le g m && nat_lt m q)
same_range f p n g q m there back =
    bool_same _ _
    (λ h. let i = range_true f p n h in let j : (g ≤ m) × (m < q) = there i.0 i.1 in in_range g q m j.0 j.1)
    (λ h. let i = range_true g q m h in let j : (f ≤ n) × (n < p) = back i.0 i.1 in in_range f p n j.0 j.1)

or_false : (b : Bool) → (b || false) ≡ b
or_false true = refl
or_false false = refl

-- one range after another
pub joined_range : (f m p n : ℕ) → f ≤ m → m ≤ p → ((nat_le f n && nat_lt n m) || (nat_le m n && nat_lt n p)) ≡ (nat_le f n && nat_lt n p)
joined_range f m p n h i =
    elim (cases_lt n m) [
      | inl k ↦ rw (below_range m p n k) (or_false _ ∙ same_range f m n f p n (λ a b. (a, omega arith)) (λ a b. (a, k)))
      | inr k ↦ rw (above_range f m n k) (same_range m p n f p n (λ a b. (omega arith, b)) (λ a b. (k, b)))
    ]

pub out_range : (first past k : ℕ) → (first ≤ k → k < past → ⊥) → (nat_le first k && nat_lt k past) ≡ false
out_range first past k h =
    elim (cases_lt k first) [
      | inl i ↦ below_range first past k i
      | inr i ↦ elim (cases_lt k past) [ inl j ↦ absurd (h i j) | inr j ↦ above_range first past k j ]
    ]
