-- Products along two segments.
use Rattle.std.proofs.Common.{◌≡◌, ℕ, ◌*◌, refl, ap, ap₂, sym, ◌∙◌, Bool, true, false, not, ◌&&◌, List, [], ◌∷◌, arith}
use Rattle.std.proofs.lemmas.Int.{ints}
use Rattle.std.proofs.lemmas.Bool.Decides.{Decides-int_eq, Decides-eqb, Decides-like, same_from_decides}
use Rattle.std.specs.Ordering.{int_eq}
use Rattle.std.specs.Prelude.{ℤ, pos, ◌+ℤ◌, ◌-ℤ◌, ◌*ℤ◌, ◌<ℤ◌, neg_ℤ, unsigned_abs, int_le, int_lt, nat_eq, if◌then◌else◌}
use Rattle.ps_shapes.specs.declared.polygon.Point.{Point}
use Rattle.ps_fixed.specs.Rounding.{nearest_quotient}
use Rattle.stroke_build.specs.declared.corner.Corner.{Corner}
use Rattle.stroke_build.specs.declared.side.Side.{Side}
use Rattle.stroke_build.specs.Corners.{moved}
use Rattle.stroke_build.specs.declared.pen.Pen.{Pen}
use Rattle.stroke_build.specs.declared.vector.Vector.{Vector}
use Rattle.stroke_build.specs.Outlines.{run, fall, cross, dot, opening, tip, is_within, has_miter, turns, is_against, outer, outward, joint, bevel, bevel_polygon, miter_polygon, square}

pub moved_is : (p : Point) (a b c d : ℤ) (k : Corner) → k ≡ moved p a b → a ≡ c → b ≡ d → k ≡ moved p c d
moved_is p a b c d k e f g = e ∙ ap₂ (λ (x y : ℤ). moved p x y) f g

pub cross_is : (a b : Side) (all p q r f g s : ℤ) → all ≡ p -ℤ q → p ≡ r *ℤ f → q ≡ g *ℤ s → r ≡ run a → f ≡ fall b → g ≡ fall a → s ≡ run b → all ≡ cross a b
unfolding cross
cross_is a b all p q r f g s e h k l m n o = e ∙ ap₂ ◌-ℤ◌ (h ∙ ap₂ ◌*ℤ◌ l m) (k ∙ ap₂ ◌*ℤ◌ n o)

pub dot_is : (a b : Side) (all p q r s f g : ℤ) → all ≡ p +ℤ q → p ≡ r *ℤ s → q ≡ f *ℤ g → r ≡ run a → s ≡ run b → f ≡ fall a → g ≡ fall b → all ≡ dot a b
unfolding dot
dot_is a b all p q r s f g e h k l m n o = e ∙ ap₂ ◌+ℤ◌ (h ∙ ap₂ ◌*ℤ◌ l m) (k ∙ ap₂ ◌*ℤ◌ n o)

pub opening_is : (r : ℕ) (a b : Side) (all s d x y u v z w : ℤ) → all ≡ s +ℤ d → s ≡ pos (r * r) → d ≡ x +ℤ y → x ≡ u *ℤ v → y ≡ z *ℤ w → u ≡ a.normal.x → v ≡ b.normal.x → z ≡ a.normal.y → w ≡ b.normal.y → all ≡ opening r a b
unfolding opening
opening_is r a b all s d x y u v z w e f g h k l m n o =
    e ∙ ap₂ ◌+ℤ◌ f (g ∙ ap₂ ◌+ℤ◌ (h ∙ ap₂ ◌*ℤ◌ l m) (k ∙ ap₂ ◌*ℤ◌ n o))

pub tip_is : (r : ℕ) (u v q t p s m : ℤ) (n : ℕ) → t ≡ nearest_quotient p n → p ≡ s *ℤ m → s ≡ u +ℤ v → m ≡ pos (r * r) → n ≡ unsigned_abs q → t ≡ tip r u v q
unfolding tip
tip_is r u v q t p s m n e f g h k = e ∙ ap₂ nearest_quotient (f ∙ ap₂ ◌*ℤ◌ g h) k

pub within_is : (m : ℕ) (a b : Side) (s l n k n2 d : ℤ) → s ≡ pos 131072 *ℤ n → n ≡ pos (a.length * b.length) → l ≡ k *ℤ (n2 +ℤ d) → k ≡ pos (m * m) → n2 ≡ pos (a.length * b.length) → d ≡ dot a b → int_le s l ≡ is_within m a b
unfolding is_within
within_is m a b s l n k n2 d e f g h i j = ap₂ int_le (e ∙ ap (λ (z : ℤ). pos 131072 *ℤ z) f) (g ∙ ap₂ ◌*ℤ◌ h (ap₂ ◌+ℤ◌ i j))

pub outward_is : (a b : Side) (x y u v z w : ℤ) (t : Bool) (k : Corner) → k ≡ moved a.to u v → u ≡ outer t z → v ≡ outer t w → t ≡ is_against a b → z ≡ x → w ≡ y → k ≡ outward a b x y
outward_is a b x y u v z w t k e f g h i j = e ∙ ap₂ (λ (c d : ℤ). moved a.to c d) (f ∙ ap₂ outer h i) (g ∙ ap₂ outer h j)

pub bevel_none : (a b : Side) (x : ℤ) → x ≡ cross a b → x ≡ pos 0 → bevel a b ≡ []
bevel_none a b x e f = by (int_eq (cross a b) (pos 0)) ((Decides-int_eq (cross a b) (pos 0)).1 (sym e ∙ f))
  where
    by : (t : Bool) → t ≡ true → (if t then [] else (bevel_polygon a b ∷ [])) ≡ []
    by true g = refl
    by false g = absurd (cc)

pub bevel_some : (a b : Side) (x : ℤ) (p q r : Corner) → x ≡ cross a b → (x ≡ pos 0 → ⊥) → p ≡ joint a → q ≡ outward a b a.normal.x a.normal.y → r ≡ outward a b b.normal.x b.normal.y → (p ∷ q ∷ r ∷ []) ∷ [] ≡ bevel a b
bevel_some a b x p q r e f g h i = by (int_eq (cross a b) (pos 0)) refl
  where
    by : (t : Bool) → int_eq (cross a b) (pos 0) ≡ t → (p ∷ q ∷ r ∷ []) ∷ [] ≡ (if t then [] else (bevel_polygon a b ∷ []))
    by true is = absurd (f (e ∙ (Decides-int_eq (cross a b) (pos 0)).0 is))
    by false is = ap₂ (λ (c : Corner) (l : List Corner). (c ∷ l) ∷ []) g (ap₂ (λ (c d : Corner). c ∷ d ∷ []) h i)

pub miter_is : (n : ℕ) (a b : Side) (p q r s : Corner) (x y o o2 : ℤ) → p ≡ joint a → q ≡ outward a b a.normal.x a.normal.y → r ≡ outward a b x y → x ≡ tip n a.normal.x b.normal.x o → y ≡ tip n a.normal.y b.normal.y o2 → o ≡ opening n a b → o2 ≡ opening n a b → s ≡ outward a b b.normal.x b.normal.y → (p ∷ q ∷ r ∷ s ∷ []) ∷ [] ≡ miter_polygon n a b ∷ []
miter_is n a b p q r s x y o o2 e f g h i j k l =
    ap₂ (λ (c d : Corner). (c ∷ d ∷ r ∷ s ∷ []) ∷ []) e f
    ∙ ap₂ (λ (c d : Corner). (joint a ∷ outward a b a.normal.x a.normal.y ∷ c ∷ d ∷ []) ∷ [])
    (g ∙ ap₂ (λ (z w : ℤ). outward a b z w) (h ∙ ap (λ (z : ℤ). tip n a.normal.x b.normal.x z) j) (i ∙ ap (λ (z : ℤ). tip n a.normal.y b.normal.y z) k)) l

and_second : (a b c : Bool) → (a && b && c) ≡ true → b ≡ true
and_second true true c e = refl
and_second true false c e = absurd (cc)
and_second false b c e = absurd (cc)

positive : (z : ℤ) → int_lt (pos 0) z ≡ true → pos 0 <ℤ z
positive z e = grind (arith, ints)

pub miter_open : (pen : Pen) (a b : Side) → has_miter pen a b ≡ true → pos 0 <ℤ opening pen.radius a b
unfolding has_miter
miter_open pen a b e = positive (opening pen.radius a b) (and_second _ _ _ e)

pub square_is : (p : Point) (n : Vector) (x y : ℤ) (a b c d : Corner) → a ≡ moved p n.x n.y → b ≡ moved p (n.x +ℤ x) (n.y +ℤ y) → c ≡ moved p (neg_ℤ n.x +ℤ x) (neg_ℤ n.y +ℤ y) → d ≡ moved p (neg_ℤ n.x) (neg_ℤ n.y) → (a ∷ b ∷ c ∷ d ∷ []) ∷ [] ≡ square p n x y ∷ []
square_is p n x y a b c d e f g h =
    ap₂ (λ (i j : Corner). (i ∷ j ∷ c ∷ d ∷ []) ∷ []) e f
    ∙ ap₂ (λ (i j : Corner). (moved p n.x n.y ∷ moved p (n.x +ℤ x) (n.y +ℤ y) ∷ i ∷ j ∷ []) ∷ []) g h

pub tip_at : (r : ℕ) (u v q x y z : ℤ) → u ≡ x → v ≡ y → q ≡ z → tip r u v q ≡ tip r x y z
tip_at r u v q x y z e f g = ap₂ (λ (i j : ℤ). tip r i j q) e f ∙ ap (λ (i : ℤ). tip r x y i) g

pub turns_is : (a b : Side) (z : ℤ) (n : ℕ) → z ≡ cross a b → (n ≡ 0 → z ≡ pos 0) → (z ≡ pos 0 → n ≡ 0) → not (nat_eq n 0) ≡ turns a b
turns_is a b z n is f g =
    ap not (same_from_decides (nat_eq n 0) (int_eq (cross a b) (pos 0))
    (Decides-like (nat_eq n 0) (λ (e : n ≡ 0). sym is ∙ f e) (λ (e : cross a b ≡ pos 0). g (is ∙ e)) (Decides-eqb n 0))
    (Decides-int_eq (cross a b) (pos 0)))
