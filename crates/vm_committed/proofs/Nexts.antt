-- The next cell of a map.
use Rattle.std.proofs.Common.{◌≡◌, ◌≢◌, Bool, true, false, not, cond, Option, Some, None, refl, ap, sym, ◌∙◌, true≢false, IsTrue}
use Rattle.std.specs.declared.cmp.Ordering.{Ordering}
use Rattle.std.specs.declared.cmp.Ordering.TheVariants.{Less, Equal, Greater}
use Rattle.std.specs.Ordering.{nat_cmp, is_lt, is_le, ordering_then, ordering_reverse}
use Rattle.std.specs.Cmp.{IsTotalOrder}
use Rattle.std.proofs.lemmas.Cmp.{then_total, on_total, nat_cmp_total}
use Rattle.std.specs.BTreeMap.Comparable.{le_lt_trans}
use Rattle.std.specs.FinMap.{get}
use Rattle.ps_objects.specs.declared.cell.Cell.{Cell}
use Rattle.ps_objects.specs.declared.cell.Space.TheVariants.{Local, Global}
use Rattle.ps_objects.specs.declared.place.Shape.{Shape}
use Rattle.ps_memory.specs.Memory.{is_global, Content, Memory, whole, in_content, shape_in, shape_at}
use Rattle.vm_content.specs.Next.{is_in, IsNextIn}
use Rattle.ps_memory.specs.Next.{comes_before, IsNext}
use Rattle.vm_committed.specs.Next.{earlier}

-- ---- the next of two

abbrev name_cmp : Cell → Cell → Ordering
name_cmp c d = ordering_then (nat_cmp c.section d.section) (nat_cmp c.count d.count)

names_total : IsTotalOrder name_cmp
names_total = then_total (on_total (λ c. c.section) nat_cmp_total) (on_total (λ c. c.count) nat_cmp_total)

less : (r : Ordering) → is_lt r ≡ true → r ≡ Less
less Less h = refl
less Equal h = absurd (true≢false (sym h))
less Greater h = absurd (true≢false (sym h))

up_to : (d e : Cell) → comes_before e d ≡ false → IsTrue (is_le (name_cmp d e))
up_to d e h = go (name_cmp e d) h (names_total.antisymm d e)
  where
    go : (r : Ordering) → is_lt r ≡ false → name_cmp d e ≡ ordering_reverse r → IsTrue (is_le (name_cmp d e))
    go Less i n = absurd (true≢false i)
    go Equal i n = ap is_le n
    go Greater i n = ap is_le n

-- what doesn't come before the later of two doesn't come before the earlier
before_earlier : (d c e : Cell) → comes_before d c ≡ true → comes_before e c ≡ false → comes_before e d ≡ false
before_earlier d c e h k = go (comes_before e d) refl
  where
    go : (b : Bool) → comes_before e d ≡ b → b ≡ false
    go true i = absurd (true≢false (sym (ap is_lt (names_total.trans e d c (less (name_cmp e d) i) (less (name_cmp d c) h))) ∙ k))
    go false i = refl

before_other : (d c e : Cell) → comes_before d c ≡ false → comes_before e d ≡ false → comes_before e c ≡ false
before_other d c e h k = go (comes_before e c) refl
  where
    go : (b : Bool) → comes_before e c ≡ b → b ≡ false
    go true i = absurd (true≢false (sym (ap is_lt (le_lt_trans names_total d e c (up_to d e k) (less (name_cmp e c) i))) ∙ h))
    go false i = refl

module _ (M : Memory) where
  shape_of_content : Bool → Cell → Option Shape
  shape_of_content b c = shape_in (in_content (get (cond b M.globals M.locals) c) whole)

  by_space : {P : Type 0} (e : Cell) → shape_at M e ≢ None → (is_in Local e ≡ true → get M.locals e ≢ None → P) → (is_in Global e ≡ true → get M.globals e ≢ None → P) → P
  unfolding shape_of_content
  by_space {P} e n f g = go (is_global e) refl
    where
      empty : (o : Option Content) → o ≡ None → shape_in (in_content o whole) ≡ None
      empty o h = ap (λ o. shape_in (in_content o whole)) h

      go : (b : Bool) → is_global e ≡ b → P
      go false i = f (ap not i) (λ m. n (ap (λ b. shape_of_content b e) i ∙ empty (get M.locals e) m))
      go true i = g i (λ m. n (ap (λ b. shape_of_content b e) i ∙ empty (get M.globals e) m))

  local_shape : (c : Cell) (sh : Shape) → is_in Local c ≡ true → shape_in (in_content (get M.locals c) whole) ≡ Some sh → shape_at M c ≡ Some sh
  unfolding shape_of_content
  local_shape c sh i h = go (is_global c) refl i
    where
      go : (b : Bool) → is_global c ≡ b → not b ≡ true → shape_at M c ≡ Some sh
      go true j k = absurd (true≢false (sym k))
      go false j k = ap (λ b. shape_of_content b c) j ∙ h

  global_shape : (c : Cell) (sh : Shape) → is_in Global c ≡ true → shape_in (in_content (get M.globals c) whole) ≡ Some sh → shape_at M c ≡ Some sh
  unfolding shape_of_content
  global_shape c sh i h = ap (λ b. shape_of_content b c) i ∙ h

  pub both_parts : (after : Option Cell) (a b : Option (Cell × Shape)) → IsNextIn Local M.locals after a → IsNextIn Global M.globals after b → IsNext M after (earlier a b)
  both_parts after None None f g = λ e n. by_space e n (f e) (g e)
  both_parts after (Some c) None f g = (local_shape c.0 c.1 f.1 f.0, f.2, λ e n a. by_space e n (λ i m. f.3 e i m a) (λ i m. absurd (true≢false (sym a ∙ g e i m))))
  both_parts after None (Some d) f g = (global_shape d.0 d.1 g.1 g.0, g.2, λ e n a. by_space e n (λ i m. absurd (true≢false (sym a ∙ f e i m))) (λ i m. g.3 e i m a))
  both_parts after (Some c) (Some d) f g = go (comes_before d.0 c.0) refl
    where
      go : (b : Bool) → comes_before d.0 c.0 ≡ b → IsNext M after (cond b (Some d) (Some c))
      go true h = (global_shape d.0 d.1 g.1 g.0, g.2, λ e n a. by_space e n (λ i m. before_earlier d.0 c.0 e h (f.3 e i m a)) (λ i m. g.3 e i m a))
      go false h = (local_shape c.0 c.1 f.1 f.0, f.2, λ e n a. by_space e n (λ i m. f.3 e i m a) (λ i m. before_other d.0 c.0 e h (g.3 e i m a)))
