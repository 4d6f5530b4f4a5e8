-- The points of a path, and the limit.
use Rattle.std.proofs.Common.{◌≡◌, ℕ, ◌+◌, ◌-◌, ◌*◌, ◌/◌, ◌<◌, ◌≤◌, ◌&&◌, Bool, true, false, cond, nat_le, nat_lt, List, [], ◌∷◌, length, drop, Some, slice_get, Result, Ok, Err, refl, sym, ap, ◌∙◌, subst, arith}
use Rattle.ps_names.specs.declared.error_name.ErrorName.{ErrorName}
use Rattle.ps_names.specs.declared.error_name.ErrorName.TheVariants.{LimitCheck}
use Rattle.ps_shapes.specs.declared.path.Segment.{Segment}
use Rattle.ps_shapes.specs.declared.path.Segment.TheVariants.{Move, Line, Curve, Close}
use Rattle.ps_operator.proofs.LookSteps.{drop_at_get}
use Rattle.path_build.specs.Paths.{points_of, point_count, has_few, point_room}
use Rattle.path_build.specs.declared.paths.TheConstants.{POINT_LIMIT}

three : (x : Segment) → points_of x ≤ 3
three (Move p) = omega arith
three (Line p) = omega arith
three (Curve p q r) = omega arith
three Close = omega arith

few_points : (xs : List Segment) → point_count xs ≤ 3 * length xs
few_points [] = omega arith
few_points (x ∷ xs) = omega (arith, three x, few_points xs)

few_is : (xs : List Segment) (most : ℕ) → has_few most xs ≡ nat_le (point_count xs) most
few_is [] most = sym (none most)
  where
    none : (n : ℕ) → nat_le 0 n ≡ true
    none n = grind arith
few_is (x ∷ xs) most = ap (λ b. nat_le (points_of x) most && b) (few_is xs (most - points_of x)) ∙ go (points_of x) (point_count xs) (nat_le (points_of x) most) refl
  where
    go : (a n : ℕ) (b : Bool) → nat_le a most ≡ b → (b && nat_le n (most - a)) ≡ nat_le (a + n) most
    go a n true h = less a n (nat_le n (most - a)) (nat_le (a + n) most) refl refl h
      where
        less : (a n : ℕ) (t u : Bool) → nat_le n (most - a) ≡ t → nat_le (a + n) most ≡ u → nat_le a most ≡ true → t ≡ u
        less a n true true p q h = refl
        less a n false false p q h = refl
        less a n true false p q h = absurd (grind arith)
        less a n false true p q h = absurd (grind arith)
    go a n false h = sym (more a n (nat_le (a + n) most) refl h)
      where
        more : (a n : ℕ) (u : Bool) → nat_le (a + n) most ≡ u → nat_le a most ≡ false → u ≡ false
        more a n false q h = refl
        more a n true q h = absurd (grind arith)

room_is : (c n : ℕ) (b : Bool) → n ≤ 1000 → nat_le c (100000 - n) ≡ b → cond {A = Result (Unit {0}) ErrorName} (nat_lt 100000 (c + n)) (Err LimitCheck) (Ok tt) ≡ cond b (Ok tt) (Err LimitCheck)
room_is c n true l h = ap (λ t. cond {A = Result (Unit {0}) ErrorName} t (Err LimitCheck) (Ok tt)) (within c n l h)
  where
    within : (c n : ℕ) → n ≤ 1000 → nat_le c (100000 - n) ≡ true → nat_lt 100000 (c + n) ≡ false
    within c n l h = grind arith
room_is c n false l h = ap (λ t. cond {A = Result (Unit {0}) ErrorName} t (Err LimitCheck) (Ok tt)) (beyond c n l h)
  where
    beyond : (c n : ℕ) → n ≤ 1000 → nat_le c (100000 - n) ≡ false → nat_lt 100000 (c + n) ≡ true
    beyond c n l h = grind arith

-- they were counted
pub few_room : (xs : List Segment) (n : ℕ) (b : Bool) → n ≤ 1000 → b ≡ has_few (100000 - n) xs → point_room n xs ≡ cond b (Ok tt) (Err LimitCheck)
few_room xs n b l h = room_is (point_count xs) n b l (sym (h ∙ few_is xs (100000 - n)))

-- there are so few segments that they need not be counted
pub few_enough : (xs : List Segment) (n : ℕ) → n ≤ 1000 → length xs ≤ (100000 - n) / 3 → point_room n xs ≡ Ok tt
few_enough xs n l h = room_is (point_count xs) n true l (small (point_count xs) (length xs) n (few_points xs) h)
  where
    small : (c k n : ℕ) → c ≤ 3 * k → k ≤ (100000 - n) / 3 → nat_le c (100000 - n) ≡ true
    small c k n p q = grind arith

module _ (xs : List Segment) (i : ℕ) (x : Segment) (most : ℕ) (here : slice_get xs i ≡ Some x) where
  first : has_few most (drop i xs) ≡ (nat_le (points_of x) most && has_few (most - points_of x) (drop (i + 1) xs))
  first = ap (has_few most) (drop_at_get xs i x here)

  both : (b : Bool) → nat_le (points_of x) most ≡ b → has_few most (drop i xs) ≡ (b && has_few (most - points_of x) (drop (i + 1) xs))
  both b h = first ∙ ap (λ c. c && has_few (most - points_of x) (drop (i + 1) xs)) h

  -- one more that is within what is left
  pub one_counted : points_of x ≤ most → has_few most (drop i xs) ≡ has_few (most - points_of x) (drop (i + 1) xs)
  one_counted h = both true (grind arith)

  -- one that isn't
  pub one_too_many : most < points_of x → has_few most (drop i xs) ≡ false
  one_too_many h = both false (grind arith)
