-- To look at all items of an array is lawful.
use Rattle.std.proofs.Common.{◌≡◌, ℕ, zero, suc, ◌+◌, ◌<◌, true, List, [], ◌∷◌, ◌++◌, Some, arith}
use Rattle.ps_objects.specs.declared.object.Object.{Object}
use Rattle.ps_objects.specs.declared.objects.Interval.{Interval}
use Rattle.ps_objects.specs.declared.place.Shape.TheVariants as shape
use Rattle.ps_objects.specs.declared.place.Value.{Value}
use Rattle.ps_objects.specs.declared.place.Value.TheVariants as value
use Rattle.ps_memory.specs.Tree.{Application}
use Rattle.ps_meaning.specs.Fits.{lies_within}
use Rattle.ps_meaning.specs.Sound.{World, IsAnswer}
use Rattle.ps_operator.specs.Arrays.{items_from, items_of}
use Rattle.ps_operator.specs.Lawful.{HasItems, Looks}
use Rattle.ps_operator.specs.Looks.{object_then, item_place}
use Rattle.ps_operator.proofs.Seeking.{Any, Seeks}

module _ (W : World) (a : Interval) where
  item_goes : {A : Type 0} (i : ℕ) (k : Object → Application A) (P : A → Type 0) → ((x : Object) → Looks (k x) W P) → (v : Value) → IsAnswer W (item_place a i) v → Looks (object_then k v) W P
  item_goes i k P h (value.Object x) q = h x
  item_goes i k P h value.Absent q = absurd q
  item_goes i k P h (value.Byte b) q = absurd q
  item_goes i k P h (value.Access a) q = absurd q
  item_goes i k P h (value.Keys ks) q = absurd q
  item_goes i k P h (value.Rand n) q = absurd q
  item_goes i k P h (value.Paper p) q = absurd q

  inside : (start len n at k : ℕ) → lies_within start len n ≡ true → at + suc k ≡ len → start + at < n
  inside start len n at k h l = grind arith

  next : (at k len : ℕ) → at + suc k ≡ len → at + 1 + k ≡ len
  next at k len l = omega arith

  items_look : (n : ℕ) → W.shapes a.cell ≡ Some (shape.Array n) → lies_within a.start a.len n ≡ true → (at k : ℕ) (seen : List Object) → at + k ≡ a.len → Looks (items_from a at k seen) W Any
  items_look n e h at zero seen l = tt
  items_look n e h at (suc k) seen l = (
    (n, e, inside a.start a.len n at k h l),
    item_goes at (λ x. items_from a (at + 1) k (seen ++ x ∷ [])) Any (λ x. items_look n e h (at + 1) k (seen ++ x ∷ []) (next at k a.len l)),
  )

pub items_seek : {W : World} {a : Interval} → HasItems W.shapes a → Seeks W Any (items_of a)
items_seek {W = W} {a = a} h = record { looks = items_look W a h.size h.stands h.within 0 a.len [] (omega arith) }
