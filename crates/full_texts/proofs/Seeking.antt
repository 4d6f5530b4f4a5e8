-- Full texts look lawfully, and find what the section may still say.
use Rattle.std.proofs.Common.{◌≡◌, ℕ, zero, suc, ◌+◌, ◌<◌, ◌≤◌, Bool, true, List, [], ◌∷◌, ◌++◌, codes, length, Result, Ok, Err, refl, subst, arith}
use Rattle.ps_names.specs.declared.error_name.ErrorName.{ErrorName}
use Rattle.ps_objects.specs.Access.{read_right}
use Rattle.ps_objects.specs.Object.{cell_named}
use Rattle.ps_objects.specs.declared.access.Access.{Access}
use Rattle.ps_objects.specs.declared.object.Kind.{Kind}
use Rattle.ps_objects.specs.declared.object.Kind.TheVariants as kind
use Rattle.ps_objects.specs.declared.object.Object.{Object}
use Rattle.ps_objects.specs.declared.objects.Interval.{Interval}
use Rattle.ps_objects.specs.declared.place.Loc.TheVariants as loc
use Rattle.ps_objects.specs.declared.place.Value.{Value}
use Rattle.ps_objects.specs.declared.place.Value.TheVariants as value
use Rattle.ps_kinds.specs.declared.state.State.{State}
use Rattle.ps_memory.specs.Tree.{Application}
use Rattle.ps_meaning.specs.Budgets.{message_budget}
use Rattle.ps_meaning.specs.Fits.{lies_within, takes, FitsCell, FitsObject}
use Rattle.ps_meaning.specs.Sound.{World, IsAnswer}
use Rattle.ps_operator.specs.Budgets.{message_room}
use Rattle.ps_operator.specs.Lawful.{HasItems, HasBytes, Looks}
use Rattle.ps_operator.specs.Looks.{byte_then, object_then, look_byte, look_item}
use Rattle.ps_operator.specs.Registers.{literal}
use Rattle.ps_operator.proofs.Fitting.{array_fits, string_kind}
use Rattle.ps_operator.proofs.Seeking.{Seeks, found_seeks, read_seeks, then_seeks}
use Rattle.full_texts.specs.Growing.{if_room, allowed, Growth, whole}
use Rattle.full_texts.specs.Bytes.{escaped, bytes_shown, string_shown}
use Rattle.full_texts.proofs.Room.{room_kept}
use Rattle.full_texts.specs.Full.{simple_text, gap, opening, closing, items_shown, array_if, kind_shown, object_shown, levels_shown, full_text}

-- ---- looks

inside : (start len n i : ℕ) → lies_within start len n ≡ true → i < len → start + i < n
inside start len n i h l = grind arith

byte_looks : {A : Type 0} {W : World} {P : A → Type 0} {a : Interval} {k : ℕ → Application A} (i : ℕ) → HasBytes W.shapes a → i < a.len → ((b : ℕ) → Seeks W P (k b)) → Seeks W P (look_byte a i k)
byte_looks {W = W} {P = P} {a = a} {k = k} i h l g = record { looks = ((h.size, h.stands, inside a.start a.len h.size i h.within l), go) }
  where
    go : (v : Value) → IsAnswer W (loc.Byte a.cell (a.start + i)) v → Looks (byte_then k v) W P
    go (value.Byte b) e = (g b).looks
    go value.Absent e = absurd e
    go (value.Object x) e = absurd e
    go (value.Access x) e = absurd e
    go (value.Keys ks) e = absurd e
    go (value.Rand n) e = absurd e
    go (value.Paper p) e = absurd e

item_looks : {A : Type 0} {W : World} {P : A → Type 0} {a : Interval} {k : Object → Application A} (i : ℕ) → HasItems W.shapes a → i < a.len → ((x : Object) → FitsObject W.shapes x → Seeks W P (k x)) → Seeks W P (look_item a i k)
item_looks {W = W} {P = P} {a = a} {k = k} i h l g = record { looks = ((h.size, h.stands, inside a.start a.len h.size i h.within l), go) }
  where
    go : (v : Value) → IsAnswer W (loc.Item a.cell (a.start + i)) v → Looks (object_then k v) W P
    go (value.Object x) e = (g x e).looks
    go value.Absent e = absurd e
    go (value.Byte b) e = absurd e
    go (value.Access x) e = absurd e
    go (value.Keys ks) e = absurd e
    go (value.Rand n) e = absurd e
    go (value.Paper p) e = absurd e

-- ---- what may be said

-- the section may still say the text
pub record MaySay (s : State) (text : List ℕ) : Type 0 where
  pub within : s.said + length text ≤ message_budget s.kind

by_room : (text t : List ℕ) (r : Result (Unit {0}) ErrorName) → if_room r text ≡ Ok t → (r ≡ Ok tt) × (text ≡ t)
by_room text t (Ok x) e = (refl, cc)
by_room text t (Err x) e = cc

pub allowed_is : (s : State) (text t : List ℕ) → allowed s text ≡ Ok t → text ≡ t
allowed_is s text t e = (by_room text t (message_room s.kind s.said (length text)) e).1

pub allowed_says : (s : State) (text t : List ℕ) → allowed s text ≡ Ok t → MaySay s t
allowed_says s text t e =
    let (r, p) = by_room text t (message_room s.kind s.said (length text)) e in
    subst (MaySay s) p (record { within = room_kept s.kind s.said (length text) r })

-- ---- full texts

from_start : (n : ℕ) → 0 + n ≡ n
from_start n = omega arith

one_on : (at n len : ℕ) → at + suc n ≡ len → at + 1 + n ≡ len
one_on at n len e = omega (arith, e)

before_end : (at n len : ℕ) → at + suc n ≡ len → at < len
before_end at n len e = omega (arith, e)

module _ (s : State) (W : World) where
  pub whole_seeks : (text : List ℕ) → Seeks W (MaySay s) (whole s text)
  whole_seeks text = read_seeks (allowed s text) (λ t e. found_seeks (MaySay s) t (allowed_says s text t e))

  bytes_seek : (part : Interval) → HasBytes W.shapes part → (at n : ℕ) (text : List ℕ) → at + n ≡ part.len → MaySay s text → Seeks W (MaySay s) (bytes_shown s part at n text)
  bytes_seek part h at zero text l m = found_seeks (MaySay s) text m
  bytes_seek part h at (suc n) text l m =
      byte_looks at h (before_end at n part.len l) (λ b.
      read_seeks (allowed s (text ++ escaped b)) (λ t e.
      bytes_seek part h (at + 1) n t (one_on at n part.len l) (allowed_says s (text ++ escaped b) t e)))

  string_seeks : (right : Access) (part : Interval) (text : List ℕ) → HasBytes W.shapes part → Seeks W (MaySay s) (string_shown s right part text)
  string_seeks right part text h =
      read_seeks (read_right right) (λ _ _.
      read_seeks (allowed s (text ++ codes "(")) (λ t e.
      then_seeks (MaySay s) (bytes_shown s part 0 part.len t) (bytes_seek part h 0 part.len t (from_start part.len) (allowed_says s (text ++ codes "(") t e)) (λ u _.
      whole_seeks (u ++ codes ")"))))

  items_seek : (item : Object → Growth) → ((x : Object) (t : List ℕ) → FitsObject W.shapes x → Seeks W (MaySay s) (item x t)) → (a : Interval) → HasItems W.shapes a
      → (at n : ℕ) (text : List ℕ) → at + n ≡ a.len → MaySay s text → Seeks W (MaySay s) (items_shown s item a at n text)
  items_seek item f a h at zero text l m = found_seeks (MaySay s) text m
  items_seek item f a h at (suc n) text l m =
      read_seeks (allowed s (text ++ gap at)) (λ t _.
      item_looks at h (before_end at n a.len l) (λ x g.
      then_seeks (MaySay s) (item x t) (f x t g) (λ u q.
      items_seek item f a h (at + 1) n u (one_on at n a.len l) q)))

  array_seeks : (item : Object → Growth) → ((x : Object) (t : List ℕ) → FitsObject W.shapes x → Seeks W (MaySay s) (item x t)) → (exec : Bool) (a : Interval) → HasItems W.shapes a
      → (r : Result (Unit {0}) ErrorName) (text : List ℕ) → Seeks W (MaySay s) (array_if s item exec a r text)
  array_seeks item f exec a h (Err e) text = whole_seeks (text ++ codes "-array-")
  array_seeks item f exec a h (Ok u) text =
      read_seeks (allowed s (text ++ opening exec)) (λ t e.
      then_seeks (MaySay s) (items_shown s item a 0 a.len t) (items_seek item f a h 0 a.len t (from_start a.len) (allowed_says s (text ++ opening exec) t e)) (λ u _.
      whole_seeks (u ++ closing exec)))

  kind_seeks : (array : Bool → Access → Interval → Growth) → ((exec : Bool) (right : Access) (a : Interval) (text : List ℕ) → HasItems W.shapes a → Seeks W (MaySay s) (array exec right a text))
      → (exec : Bool) (right : Access) (k : Kind) (text : List ℕ) → FitsCell W.shapes (cell_named k) (takes k) → Seeks W (MaySay s) (kind_shown s array exec right k text)
  kind_seeks array f exec right (kind.Str part) text h = string_seeks right part text (string_kind W.shapes (kind.Str part) part h refl)
  kind_seeks array f exec right (kind.Array a packed) text h = f exec right a text (array_fits W.shapes (literal (kind.Array a packed) ∷ []) 0 a (h, tt) refl)
  kind_seeks array f exec right k text h = whole_seeks (text ++ simple_text exec k)

  levels_seek : (n : ℕ) (exec : Bool) (right : Access) (a : Interval) (text : List ℕ) → HasItems W.shapes a → Seeks W (MaySay s) (levels_shown n s exec right a text)
  unfolding levels_shown
  levels_seek zero exec right a text h = whole_seeks (text ++ codes "...")
  levels_seek (suc n) exec right a text h =
      array_seeks (object_shown s (levels_shown n s)) (λ x t g. kind_seeks (levels_shown n s) (levels_seek n) x.exec x.access x.kind t g) exec a h (read_right right) text

  -- where the object fits
  pub full_text_seeks : (x : Object) (text : List ℕ) → FitsObject W.shapes x → Seeks W (MaySay s) (full_text s x text)
  full_text_seeks x text h = kind_seeks (levels_shown 16 s) (levels_seek 16) x.exec x.access x.kind text h
